-- What the segments of the examples give, up to their first hole, where the first byte has the number 0.
use Rattle.std.proofs.Common.{List, [], ◌∷◌, refl}
use Rattle.capture_streams.specs.Segments.{Arrival, IsRun, given}
use Rattle.capture_records.specs.Exact.{arrival_of}
use Rattle.example_records.specs.Bytes.{marked, long_header}

pub run_none : IsRun (given 0 []) 0 []
run_none = record { front = tt; ends = refl }

pub run_none_behind : IsRun (given 1001 []) 0 []
run_none_behind = record { front = tt; ends = refl }

-- ---- the record in one segment

abbrev pub whole : List Arrival
whole = arrival_of 0 0 marked ∷ []

pub run_whole : IsRun (given 0 whole) 0 marked
run_whole = record { front = (refl, (refl, (refl, (refl, (refl, (refl, (refl, (refl, tt)))))))); ends = refl }

-- ---- its second half, and then its first

abbrev pub second : List Arrival
second = arrival_of 0 4 (1 ∷ 2 ∷ 3 ∷ 4 ∷ []) ∷ []

abbrev pub both : List Arrival
both = arrival_of 0 4 (1 ∷ 2 ∷ 3 ∷ 4 ∷ []) ∷ arrival_of 0 0 (128 ∷ 0 ∷ 0 ∷ 4 ∷ []) ∷ []

pub run_second : IsRun (given 0 second) 0 []
run_second = record { front = tt; ends = refl }

pub run_both : IsRun (given 0 both) 0 marked
run_both = record { front = (refl, (refl, (refl, (refl, (refl, (refl, (refl, (refl, tt)))))))); ends = refl }

-- ---- its first six bytes, and then four from the fifth on, of which two are others

abbrev pub six : List Arrival
six = arrival_of 0 0 (128 ∷ 0 ∷ 0 ∷ 4 ∷ 1 ∷ 2 ∷ []) ∷ []

abbrev pub over : List Arrival
over = arrival_of 0 0 (128 ∷ 0 ∷ 0 ∷ 4 ∷ 1 ∷ 2 ∷ []) ∷ arrival_of 6 4 (9 ∷ 9 ∷ 3 ∷ 4 ∷ []) ∷ []

pub run_six : IsRun (given 0 six) 0 (128 ∷ 0 ∷ 0 ∷ 4 ∷ 1 ∷ 2 ∷ [])
run_six = record { front = (refl, (refl, (refl, (refl, (refl, (refl, tt)))))); ends = refl }

pub run_over : IsRun (given 0 over) 0 marked
run_over = record { front = (refl, (refl, (refl, (refl, (refl, (refl, (refl, (refl, tt)))))))); ends = refl }

-- ---- a header above the limit

abbrev pub long : List Arrival
long = arrival_of 0 0 long_header ∷ []

pub run_long : IsRun (given 0 long) 0 long_header
run_long = record { front = (refl, (refl, (refl, (refl, tt)))); ends = refl }
