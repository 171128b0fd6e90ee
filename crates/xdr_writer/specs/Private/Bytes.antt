-- What is said of the bytes behind others, before it is said of items.
use Rattle.std.specs.Prelude.{◌≡◌, ℕ, pos, ◌+◌, ◌<◌, ◌≤◌, ◌%◌, List, [], ◌++◌, length, Result, Ok, Err, ⊤}
use Rattle.xdr_units.specs.Numbers.{num4, num8, padded}
use Rattle.xdr_types.specs.Kinds.{KindView}
use Rattle.xdr_types.specs.Tree.{Tree}
use Rattle.xdr_types.specs.Within.{Bounds}
use Rattle.xdr_types.specs.Outcome as outcome
use Rattle.xdr_types.specs.Outcome.{Outcome}
use Rattle.xdr_stream.specs.Represents as reported
use Rattle.xdr_writer.specs.Answers.{IsOfBytes}
use Rattle.xdr_writer.specs.declared.refusal.Why.{Why}
use Rattle.xdr_writer.specs.declared.refusal.Why.TheVariants as why
use Rattle.xdr_writer.specs.declared.item.Step.{Step}
use Rattle.xdr_writer.specs.declared.item.Step.TheVariants as step
use Rattle.xdr_writer.specs.declared.units.Coded.{Coded}
use Rattle.xdr_writer.specs.declared.units.Coded.TheVariants as coded
use Rattle.xdr_writer.specs.declared.units.Head.{Head}
use Rattle.xdr_writer.specs.declared.units.Head.TheVariants as head
use Rattle.xdr_writer.specs.declared.units.Pieces.{Pieces}

-- the bytes of an item whose form is known (RFC 4506 sections 3 and 4)
abbrev pub coded_bytes : Coded → List ℕ
coded_bytes (coded.Signed z) = num4 z
coded_bytes (coded.Unsigned n) = num4 (pos n)
coded_bytes (coded.Hyper z) = num8 z
coded_bytes (coded.UnsignedHyper n) = num8 (pos n)
coded_bytes (coded.Fixed s) = padded s.now
coded_bytes (coded.Counted s) = num4 (pos (length s.now)) ++ padded s.now

-- the bytes before the content: a number, a length or none
abbrev pub head_bytes : Head → List ℕ
head_bytes head.Nothing = []
head_bytes (head.Unit bytes) = bytes
head_bytes (head.Wide bytes) = bytes

-- the bytes of all pieces: the head, the content, and the zeros that fill its last unit (RFC 4506 section 3)
abbrev pub pieces_bytes : Pieces → List ℕ
pieces_bytes p = head_bytes p.head ++ padded p.content.now

-- some whole units (RFC 4506 section 3)
abbrev pub IsUnits : List ℕ → Type 0
IsUnits u = (length u % 4 ≡ 0) × (4 ≤ length u)

-- why decoding refuses the bytes b and the next u: for a fault of theirs, or since a value is whole before their end
abbrev pub RefusesBytes : List KindView → (kind : ℕ) → Bounds → (b u : List ℕ) → Why → Type 0
RefusesBytes kinds kind limits b u (why.Refused f) = IsOfBytes f × reported.Fails kinds kind limits f (b ++ u)
RefusesBytes kinds kind limits b u why.PastEnd =
    (n : ℕ) × (n < length u) × (v : Tree) × Outcome kinds kind limits (b ++ u) (outcome.Whole v (length b + n))
RefusesBytes kinds kind limits b u why.NoMemory = ⊤
RefusesBytes kinds kind limits b u _ = ⊥

-- what an answer says of the bytes b and the next u: the outcome of decoding them
abbrev pub SaysOf : List KindView → (kind : ℕ) → Bounds → (b u : List ℕ) → Result Step Why → Type 0
SaysOf kinds kind limits b u (Ok step.More) = Outcome kinds kind limits (b ++ u) outcome.Pending
SaysOf kinds kind limits b u (Ok step.Done) =
    (v : Tree) × Outcome kinds kind limits (b ++ u) (outcome.Whole v (length (b ++ u)))
SaysOf kinds kind limits b u (Err w) = RefusesBytes kinds kind limits b u w

-- the same, where there is so much space for the next, and they are some
abbrev pub SaysWithin : List KindView → (kind : ℕ) → Bounds → (space : ℕ) → (b u : List ℕ) → Result Step Why → Type 0
SaysWithin kinds kind limits space b u (Ok s) = SaysOf kinds kind limits b u (Ok s)
SaysWithin kinds kind limits space b u (Err why.PastLimit) = space < length u
SaysWithin kinds kind limits space b u (Err why.WrongItem) = length u ≡ 0
SaysWithin kinds kind limits space b u (Err w) = (length u ≤ space) × RefusesBytes kinds kind limits b u w
