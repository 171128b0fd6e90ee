use Rattle.std.proofs.Common.{◌≡◌, ◌-◌, ◌≤◌, ◌++◌, List, length}
use Rattle.std.specs.Option.{option_map}
use Rattle.oncrpc_encode.specs.declared.item.Item.{Item}
use Rattle.oncrpc_encode.specs.Private.Scanned.{items_from}
use Rattle.oncrpc_encode.proofs.items.items_from.Given as goal

abbrev pub invariant-loop-number : goal.invariant-loop-number
invariant-loop-number l =
    (l.at ≤ length l.text)
    × (option_map (λ (is : List Item). l.items.items ++ is) (items_from (l.more - l.number) l.text l.at)
    ≡ items_from l.more l.text l.begin)
