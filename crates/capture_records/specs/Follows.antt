-- What a direction stands for: the pieces of segments that came, and how far their bytes are read.
use Rattle.std.specs.Prelude.{◌≡◌, ℕ, List, [], ◌∷◌, ◌++◌, take, drop, Option, Some, None}
use Rattle.std.specs.List.{AllByRecursion}
use Rattle.capture_streams.specs.declared.direction.Direction.{Direction}
use Rattle.capture_streams.specs.Represents.{Stands}
use Rattle.capture_streams.specs.Segments.{Arrival}
use Rattle.rpc_record.specs.declared.reader.RecordReader.{RecordReader}
use Rattle.rpc_record.specs.Represents.{Represents}
use Rattle.capture_records.specs.declared.side.Next.{Next}
use Rattle.capture_records.specs.declared.side.Next.TheVariants.{Here}
use Rattle.capture_records.specs.declared.side.Side.{Side}
use Rattle.capture_records.specs.declared.step.Step.{Step}
use Rattle.capture_records.specs.declared.step.Step.TheVariants.{Record}
use Rattle.capture_records.specs.Carried.{Carries}

-- what was handed on and not taken
abbrev pub untaken_of : Side → List ℕ
untaken_of side = drop side.at side.due.items

-- Of the bytes that were handed on some were passed over or are of records, the reader has taken some of a record that
-- is not whole, and these wait.
pub record Reads (reader : RecordReader) (next : Next) (waiting handed : List ℕ) : Type 0 where
  pub passed : List ℕ
  pub begun : List ℕ
  pub joined : handed ≡ passed ++ (begun ++ waiting)
  pub represents : Represents reader begun []
  pub lost : (next ≡ Here → ⊥) → begun ≡ []

-- These pieces came. Before the first nothing is read.
abbrev pub HasAt : Option Direction → RecordReader → Next → (waiting : List ℕ) → List Arrival → Type 0
HasAt None reader next waiting arrivals = (arrivals ≡ []) × Reads reader next waiting []
HasAt (Some d) reader next waiting arrivals =
    (base : ℕ) × (handed : List ℕ) × Stands d arrivals base handed × Reads reader next waiting handed

-- these pieces of segments came to the direction
abbrev pub Has : Side → List Arrival → Type 0
Has side arrivals = HasAt side.direction side.reader side.next (untaken_of side) arrivals

-- whatever pieces came to it, the same came to the new one
pub record Keeps (old new : Side) : Type 0 where
  pub keeps : (arrivals : List Arrival) → Has old arrivals → Has new arrivals

-- some first bytes of these arrived, with this sequence number
abbrev pub IsPart : (sequence : ℕ) → (bytes : List ℕ) → Arrival → Type 0
IsPart sequence bytes a = (a.segment.sequence ≡ sequence) × ((count : ℕ) × (a.segment.bytes ≡ take count bytes))

-- whatever pieces came before, some first bytes of these did too
pub record Comes (old new : Side) (sequence : ℕ) (bytes : List ℕ) : Type 0 where
  pub comes : (arrivals : List Arrival) → Has old arrivals
      → (more : List Arrival) × AllByRecursion (IsPart sequence bytes) more × Has new (arrivals ++ more)

-- whatever pieces came before, the first so many of these bytes did too, and no others
pub record ComesFirst (old new : Side) (sequence : ℕ) (bytes : List ℕ) (count : ℕ) : Type 0 where
  pub comes : (arrivals : List Arrival) → Has old arrivals
      → (a : Arrival) × (a.segment.sequence ≡ sequence) × (a.segment.bytes ≡ take count bytes)
      × Has new (arrivals ++ a ∷ [])

-- a record that came stands in what the pieces give
abbrev pub Finds : Step → List Arrival → (r : List ℕ) → Type 0
Finds Record arrivals r = Carries arrivals r
Finds _ arrivals r = Unit {0}

-- whatever pieces came, the same came to the new one, and what came of them stands in them
pub record Steps (old new : Side) (step : Step) (r : List ℕ) : Type 0 where
  pub steps : (arrivals : List Arrival) → Has old arrivals → Has new arrivals × Finds step arrivals r
