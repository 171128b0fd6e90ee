use Rattle.std.proofs.Common.{◌≡◌, ℕ, ◌<◌, Bool, length, map, get_or}
use Rattle.xdr_types.specs.Kinds.{kind_at}
use Rattle.xdr_types.specs.KindViews.{kind_view}
use Rattle.xdr_types.specs.Private.Sets.{AreNumbers, IsReached}
use Rattle.xdr_types.proofs.reach.reached_defaults.Given as goal

abbrev pub invariant-loop-kind : goal.invariant-loop-kind
invariant-loop-kind l =
    let views = map kind_view l.kinds.items in
    record {
      all : length l.numbers.items ≡ length l.kinds.items;
      numbers : AreNumbers views l.numbers.items;
      lengths : length l.reached.items ≡ l.kind-index;
      each : (place : ℕ) (r : Bool) → place < length l.reached.items → r ≡ get_or l.reached.items place r
          → IsReached views (kind_at views place) r;
    }
