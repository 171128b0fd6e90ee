-- That each block has items is so in one way.
use Rattle.std.specs.Coded.{×_prop, Unit-prop, le_prop}
use Rattle.xdr_stack.specs.Chains.{AreFilled}
use Rattle.xdr_stack.specs.declared.chain.Chain.{Chain}
use Rattle.xdr_stack.specs.declared.chain.Chain.TheVariants.{End, More'}

pub one_filled : {T : Type 0} → (c : Chain T) → IsProp (AreFilled c)
one_filled End = Unit-prop
one_filled (More' p items below) = ×_prop le_prop (one_filled below)
