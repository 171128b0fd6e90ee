-- Bytes gathered in an array on their way to a sink.
use Rattle.std.specs.Prelude.{◌≡◌, ℕ, ◌+◌, ◌<◌, ◌^◌, List, ◌++◌, length, take, drop, Option}
use Rattle.std.specs.Io.KnownBytes.{Appends}
use Rattle.xdr_io.specs.Reported.{Counts}

-- where a gathering is: what its sink tells of bytes and of failures, the array and how many bytes of it wait, and how
-- many went out
pub record Gathering : Type 0 where
  pub taken : Option (List ℕ)
  pub failures : Option ℕ
  pub array : List ℕ
  pub filled : ℕ
  pub written : ℕ

-- of the bytes so far the first went out to a sink that had reported t, and the others wait in the array
pub record Holds (t : Option (List ℕ)) (g : Gathering) (done : List ℕ) : Type 0 where
  pub sent : Appends t g.taken (take g.written done)
  pub pending : drop g.written done ≡ take g.filled g.array
  pub count : g.written + g.filled ≡ length done

-- the first of the bytes went out, and not all
pub record IsCut (t : Option (List ℕ)) (g : Gathering) (done : List ℕ) : Type 0 where
  pub sent : Appends t g.taken (take g.written done)
  pub short : g.written < length done

-- the gathering goes on by these bytes, and no write failed
pub record Gathers (a b : Gathering) (x : List ℕ) : Type 0 where
  pub holds : (t : Option (List ℕ)) (done : List ℕ) → length (done ++ x) < 2 ^ 32 → Holds t a done
      → Holds t b (done ++ x)
  pub none_failed : Counts 0 a.failures b.failures

-- a write failed before these bytes were out
pub record Breaks (a b : Gathering) (x : List ℕ) : Type 0 where
  pub cut : (t : Option (List ℕ)) (done : List ℕ) → length (done ++ x) < 2 ^ 32 → Holds t a done → IsCut t b (done ++ x)
  pub one_failed : Counts 1 a.failures b.failures

abbrev pub gathering : Option (List ℕ) → Option ℕ → List ℕ → (filled written : ℕ) → Gathering
gathering taken failures array filled written = record
    { taken = taken; failures = failures; array = array; filled = filled; written = written }
