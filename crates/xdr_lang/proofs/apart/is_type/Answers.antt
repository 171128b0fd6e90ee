use Rattle.std.proofs.Common.{is_some, sym, ap, ◌∙◌}
use Rattle.xdr_units.proofs.Found.{is_some-map}
use Rattle.xdr_grammar.specs.View.{part_of}
use Rattle.xdr_lang.specs.Views.{types_of}
use Rattle.xdr_lang.proofs.Sharing.{type_any}
use Rattle.xdr_lang.proofs.apart.is_type.Goals as goal

pub returns : goal.returns
returns c = c.is_some.ensures ∙ sym (is_some-map part_of c.named.result) ∙ ap is_some c.named.ensures
    ∙ type_any c.args.name.now (types_of c.args.types.now.list.items)
