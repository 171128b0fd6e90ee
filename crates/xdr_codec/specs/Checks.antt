-- Which bytes a checker has been given, and what its answers say of them: the outcome of decoding (RFC 4506).
use Rattle.std.specs.Prelude.{◌≡◌, ◌≤◌, ℕ, List, length, Result, Ok, Err, IfOk, IfErr}
use Rattle.xdr_types.specs.Kinds.{KindView, Lists}
use Rattle.xdr_types.specs.Within.{Bounds}
use Rattle.xdr_types.specs.declared.kind.KindId.{KindId}
use Rattle.xdr_stream.specs.Finish as stream
use Rattle.xdr_stream.specs.Represents as reported
use Rattle.xdr_stream.specs.Represents.{used_of}
use Rattle.xdr_stream.specs.Checked.{Counts}
use Rattle.xdr_stream.specs.Held as held
use Rattle.xdr_stream.specs.declared.holding.Held.{Held}
use Rattle.xdr_due.specs.Due.{IsDue}
use Rattle.xdr_due.specs.declared.due.Due.{Due}
use Rattle.xdr_stream.specs.declared.fault.DecodeFault.{DecodeFault}
use Rattle.xdr_stream.specs.declared.reader.State.TheVariants.{Finished, Failed}
use Rattle.xdr_stream.specs.declared.reader.Progress.{Progress}
use Rattle.xdr_stream.specs.declared.reader.Progress.TheVariants.{More, Done}
use Rattle.xdr_codec.specs.declared.checker.Checker.{Checker}

-- the lists of its schema
abbrev pub schema_of : Checker → Lists
schema_of c = c.reader.schema.now

-- the kinds of its schema
abbrev pub kinds_of : Checker → List KindView
kinds_of c = c.reader.schema.now.kinds

-- the kind of the value that it judges
abbrev pub kind_of : Checker → KindId
kind_of c = c.reader.kind

-- its limits
abbrev pub limits_of : Checker → Bounds
limits_of c = c.reader.limits

-- the checker's fields stand for these bytes, all that it was given up to the value's end
abbrev pub RepresentsBytes : Checker → (b : List ℕ) → Type 0
RepresentsBytes c b = stream.Checks c.reader b

-- the answer to a piece is the outcome of the bytes b before it and all of its own, unless memory was refused. It is
-- more to come where that is pending, done where a value is whole, a fault where it is one of this reason at this place
abbrev pub HasOutcome : Checker → (b piece : List ℕ) → Result Progress DecodeFault → Type 0
HasOutcome c b piece r = reported.Answers (kinds_of c) (kind_of c).place (limits_of c) b piece r

-- the answer to the end of the bytes b is their outcome: the count of the value that is whole, or a fault of this
-- reason at this place. It is cut short at their count where it is pending
abbrev pub CountsIn : Checker → (b : List ℕ) → Result ℕ DecodeFault → Type 0
CountsIn c b r = Counts (kinds_of c) (kind_of c).place (limits_of c) b r

-- the settings of a new checker
abbrev pub IsStarted : Checker → Lists → KindId → Bounds → Type 0
IsStarted c schema kind limits = stream.IsStarted c.reader schema kind limits

-- the settings stay
abbrev pub IsSame : (a b : Checker) → Type 0
IsSame a b = reported.IsSame a.reader b.reader

-- the value is whole
abbrev pub IsDone : Checker → Type 0
IsDone c = c.reader.state ≡ Finished

-- this fault was answered
abbrev pub HasFailed : Checker → DecodeFault → Type 0
HasFailed c f = c.reader.state ≡ Failed f

-- no fault came, and the value is not whole
abbrev pub GoesOn : Checker → Type 0
GoesOn c = held.GoesOn c.reader.state

-- a unit is needed
abbrev pub IsWaiting : Checker → Type 0
IsWaiting c = reported.IsWaiting c.reader.state

-- what an answer to a piece leaves: no more of the piece was used than it has, and the checker's state is what was
-- answered
pub record Leaves (c : Checker) (piece : List ℕ) (answer : Result Progress DecodeFault) : Type 0 where
  pub used : IfOk answer (λ p. used_of p ≤ length piece)
  pub more : IfOk answer (λ p. p ≡ More → IsWaiting c)
  pub goes_on : IfOk answer (λ p. p ≡ More → GoesOn c)
  pub done : IfOk answer (λ p. (used : ℕ) → p ≡ Done used → IsDone c)
  pub failed : IfErr answer (λ f. HasFailed c f)

-- an answer that was the last one comes again: nothing of a later piece is used after the value, a fault stays
pub record Stays (c : Checker) (answer : Result Progress DecodeFault) : Type 0 where
  pub again : IsDone c → answer ≡ Ok (Done 0)
  pub for_ever : (f : DecodeFault) → HasFailed c f → answer ≡ Err f

-- the counts are those of the checker's own fields, which have no node and no content
abbrev pub CountsFields : Checker → Held → Type 0
CountsFields c h = held.IsCount c.reader 0 0 h

-- after the bytes b: a frame more than the limit on depth at most, and less than a unit
abbrev pub IsHeldWithin : Checker → (b : List ℕ) → Held → Type 0
IsHeldWithin c b h = held.IsWithin (kinds_of c) (limits_of c) b h

-- what comes next after the bytes b
abbrev pub HasDue : Checker → (b : List ℕ) → Due → Type 0
HasDue c b d = IsDue (kinds_of c) (kind_of c).place (limits_of c) b d
