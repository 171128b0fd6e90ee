use Rattle.std.proofs.Common.{◌∙◌}
use Rattle.registry_uaddr.proofs.Octets.{narrowed}
use Rattle.registry_uaddr.proofs.from_text.any_octet.Goals as goal

pub returns : goal.returns
returns c = c.ok.ensures.value ∙ narrowed c.try_from.result c.args.text.now c.in_ok-decimal_number.field-0
    c.try_from.ensures c.in_ok-decimal_number.ensures.found c.in_ok-decimal_number.ensures.only
