-- What a reader of records holds, and the bytes and records that it stands for.
use Rattle.std.specs.Prelude.{◌≡◌, ℕ, Bool, true, false, List, [], ◌∷◌, ◌++◌, Option, Some, None}
use Rattle.rpc_record.specs.Represents as reads
use Rattle.rpc_record.specs.declared.fault.RecordFault.{RecordFault}
use Rattle.rpc_record.specs.declared.reader.RecordReader.{RecordReader}
use Rattle.c_records.specs.declared.state.State.{State}

-- the reader, and the record that waits to be taken
pub record Held : Type 0 where
  pub reader : RecordReader
  pub waits : Option (List ℕ)

-- this record, where it waits
abbrev pub waiting_of : (waits : Bool) → (last : List ℕ) → Option (List ℕ)
waiting_of true last = Some last
waiting_of false last = None

abbrev pub held_of : State → Held
held_of s = record { reader = s.reader; waits = waiting_of s.waits s.last.items }

-- no record has more bytes
abbrev pub limit_of : Held → ℕ
limit_of h = reads.limit_of h.reader

-- it is between two records or inside one, and none waits
abbrev pub IsTaking : Held → Type 0
IsTaking h = (h.waits ≡ None) × reads.IsTaking h.reader

-- this record waits, and the next may follow
abbrev pub Waits : Held → List ℕ → Type 0
Waits h r = (h.waits ≡ Some r) × reads.IsTaking h.reader

-- this fault was answered
abbrev pub IsBroken : Held → RecordFault → Type 0
IsBroken h f = (h.waits ≡ None) × reads.IsBroken h.reader f

-- a record that waits was read, and was not handed out
abbrev pub RepresentsAs : (waits : Option (List ℕ)) → RecordReader → List ℕ → List (List ℕ) → Type 0
RepresentsAs None reader bytes rs = reads.Represents reader bytes rs
RepresentsAs (Some r) reader bytes rs = reads.Represents reader bytes (rs ++ r ∷ [])

-- It has taken these bytes and has handed out these records.
abbrev pub Represents : Held → List ℕ → List (List ℕ) → Type 0
Represents h bytes rs = RepresentsAs h.waits h.reader bytes rs

-- Whatever it stood for, what is left stands for with these bytes taken.
abbrev pub Takes : (h left : Held) → (more : List ℕ) → Type 0
Takes h left more = (bytes : List ℕ) (rs : List (List ℕ)) → Represents h bytes rs → Represents left (bytes ++ more) rs

-- Whatever bytes it had taken and whatever records it had handed out, this holds of those records and of those bytes
-- with these behind.
abbrev pub After : Held → (more : List ℕ) → (List (List ℕ) → List ℕ → Type 0) → Type 0
After h more P = (bytes : List ℕ) (rs : List (List ℕ)) → Represents h bytes rs → P rs (bytes ++ more)

-- the same with none behind
abbrev pub Always : Held → (List (List ℕ) → List ℕ → Type 0) → Type 0
Always h P = (bytes : List ℕ) (rs : List (List ℕ)) → Represents h bytes rs → P rs bytes
