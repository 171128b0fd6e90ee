-- The items of blocks.
use Rattle.std.specs.Prelude.{◌<◌, List, [], ◌++◌, length}
use Rattle.xdr_stack.specs.declared.chain.Chain.{Chain}
use Rattle.xdr_stack.specs.declared.chain.Chain.TheVariants.{End, More'}

-- the items of the blocks, the lowest first
abbrev pub chain_items : {T : Type 0} → Chain T → List T
chain_items End = []
chain_items (More' p items below) = chain_items below ++ items.items

-- each block has items
abbrev pub AreFilled : {T : Type 0} → Chain T → Type 0
AreFilled End = Unit {0}
AreFilled (More' p items below) = (0 < length items.items) × AreFilled below
