use Rattle.std.proofs.Common.{refl, arith}
use Rattle.xdr_stream.proofs.Reported.{reports_leaf}
use Rattle.xdr_stream.proofs.builder.values.Values.item.Goals as goal

pub returns : goal.returns
returns c = λ t reported space.
    reports_leaf c.args.self.now _ c.value_of.result c.args.leaf t c.value_of.ensures c.in_ok-add_item.ensures.added
    refl refl (λ few. omega (arith, c.saturating_add-self.ensures, few)) refl reported space
