-- What the definitions come to.
use Rattle.std.specs.Prelude.{◌≡◌, ℕ, List, ◌++◌}
use Rattle.capture_streams.specs.Segments.{Arrival}
use Rattle.capture_records.specs.declared.side.Side.{Side}
use Rattle.capture_records.specs.Carried.{AreAll}
use Rattle.capture_records.specs.Exact.{HasTold}

-- The records that were told are a beginning of all that the pieces give from the first byte on.
abbrev pub ToldBeginsAll : Type 0
ToldBeginsAll = (side : Side) (first : ℕ) (arrivals : List Arrival) (rs all : List (List ℕ))
    → HasTold side first arrivals rs → AreAll first arrivals all → (more : List (List ℕ)) × (all ≡ rs ++ more)

-- Pieces give one list of records.
abbrev pub OneAll : Type 0
OneAll = (first : ℕ) (arrivals : List Arrival) (rs others : List (List ℕ)) → AreAll first arrivals rs
    → AreAll first arrivals others → rs ≡ others
