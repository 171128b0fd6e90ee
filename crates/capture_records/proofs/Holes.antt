-- What is held behind a hole.
use Rattle.std.proofs.Common.{◌≡◌, ℕ, ◌<◌, ◌≤◌, Some, None, sym, ap, ◌∙◌, subst, arith}
use Rattle.capture_streams.specs.declared.direction.Direction.{Direction}
use Rattle.capture_streams.specs.Represents.{Stands}
use Rattle.capture_streams.specs.Segments.{given}
use Rattle.capture_streams.specs.Taking.{Skips}
use Rattle.capture_records.specs.declared.side.Side.{Side}
use Rattle.capture_records.specs.Holes.{GoesBehind, HoldsNone}
use Rattle.capture_records.specs.Private.Steps.{Drops}
use Rattle.capture_records.proofs.Telling.{direction_same}

-- no segment came
pub none_begun : (side : Side) → side.direction ≡ None → HoldsNone side
none_begun side none = record {
  none = λ direction is arrivals base handed stands place behind.
      let some : None ≡ Some direction = sym none ∙ is in
      absurd cc;
}

-- the direction holds nothing
pub none_held : (side : Side) (d d' : Direction) → side.direction ≡ Some d → Skips d d' None → HoldsNone side
none_held side d d' was skips = record {
  none = λ direction is arrivals base handed stands place behind.
      let one : direction ≡ d = direction_same direction d (sym is ∙ was) in
      subst (λ (k : Direction). given k.first arrivals place ≡ None) (sym one)
      (skips.1 arrivals base handed (subst (λ (k : Direction). Stands k arrivals base handed) one stands) place
      (subst (λ (k : Direction). k.due ≤ place) one behind));
}

-- it goes on with a byte that it holds
pub goes_behind : (old new : Side) (d d' : Direction) (count : ℕ) → old.direction ≡ Some d → Skips d d' (Some count)
    → (0 < count → new.missing ≡ count) → GoesBehind old new
goes_behind old new d d' count was skips told = record {
  direction = d;
  was = was;
  count = count;
  missing = λ arrivals base handed stands place behind before.
      (skips.1 arrivals base handed stands).missing place behind (omega (arith, before, skips.0));
  next = λ arrivals base handed stands.
      let it = (skips.1 arrivals base handed stands).next in
      (it.0, sym (ap (λ (k : ℕ). given d.first arrivals k) skips.0) ∙ it.1);
  told = told;
}

-- the same as of a side whose other bytes were dropped before
pub none_after : (old mid : Side) → Drops old mid → HoldsNone mid → HoldsNone old
none_after old mid drops h = record {
  none = λ direction is arrivals base handed stands place behind.
      h.none direction (drops.direction ∙ is) arrivals base handed stands place behind;
}

pub behind_after : (old mid last new : Side) → Drops old mid → new.missing ≡ last.missing → GoesBehind mid last
    → GoesBehind old new
behind_after old mid last new drops same h = record {
  direction = h.direction;
  was = sym drops.direction ∙ h.was;
  count = h.count;
  missing = h.missing;
  next = h.next;
  told = λ some. same ∙ h.told some;
}
