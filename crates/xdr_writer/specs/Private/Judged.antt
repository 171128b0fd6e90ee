-- What a checker's answers to the bytes of an item bring, and what they leave of it.
use Rattle.std.specs.Prelude.{◌≡◌, ℕ, ◌+◌, ◌<◌, ◌≤◌, List, ◌++◌, length, Result, Ok, Err, OnOk}
use Rattle.xdr_types.specs.Kinds.{kind_at}
use Rattle.xdr_stream.specs.Spared.{HasNoParts}
use Rattle.xdr_stream.specs.declared.fault.DecodeFault.{DecodeFault}
use Rattle.xdr_stream.specs.declared.fault.Reason.TheVariants as reason
use Rattle.xdr_stream.specs.declared.reader.Progress.{Progress}
use Rattle.xdr_stream.specs.declared.reader.Progress.TheVariants.{More, Done}
use Rattle.xdr_codec.specs.Checks as checks
use Rattle.xdr_codec.specs.declared.checker.Checker.{Checker}
use Rattle.xdr_writer.specs.Answers.{IsOfBytes}
use Rattle.xdr_writer.specs.Private.Bytes.{SaysOf, SaysWithin}
use Rattle.xdr_writer.specs.declared.refusal.Why.{Why}
use Rattle.xdr_writer.specs.declared.refusal.Why.TheVariants as why
use Rattle.xdr_writer.specs.declared.item.Step.{Step}
use Rattle.xdr_writer.specs.declared.item.Step.TheVariants as step

-- why an item is refused whose bytes have this fault
abbrev pub IsWhy : DecodeFault → Why → Type 0
IsWhy f why.NoMemory = f.why ≡ reason.NoMemory
IsWhy f (why.Refused g) = (g ≡ f) × IsOfBytes f
IsWhy f _ = ⊥

-- why the end is refused, where it has this fault
abbrev pub IsEnd : DecodeFault → Why → Type 0
IsEnd f why.Unfinished = f.why ≡ reason.Truncated
IsEnd f why.NoMemory = f.why ≡ reason.NoMemory
IsEnd f (why.Refused g) = (g ≡ f) × IsOfBytes f × (f.why ≡ reason.Truncated → ⊥)
IsEnd f _ = ⊥

-- what an answer to so many bytes brings: the value is whole where all of them were used
abbrev pub IsStep : Result Progress DecodeFault → (size : ℕ) → Result Step Why → Type 0
IsStep (Ok More) n (Ok s) = s ≡ step.More
IsStep (Ok More) n (Err w) = ⊥
IsStep (Ok (Done used)) n (Ok s) = (s ≡ step.Done) × (used ≡ n)
IsStep (Ok (Done used)) n (Err w) = (w ≡ why.PastEnd) × (used ≡ n → ⊥)
IsStep (Err f) n (Ok s) = ⊥
IsStep (Err f) n (Err w) = IsWhy f w

-- no fault was answered
abbrev pub IsSound : Checker → Type 0
IsSound c = (f : DecodeFault) → checks.HasFailed c f → ⊥

-- what judging the bytes u behind the bytes b says; the checker was given them, unless they are refused
pub record IsJudged (c d : Checker) (b u : List ℕ) (r : Result Step Why) : Type 0 where
  pub represents : OnOk r (checks.RepresentsBytes d (b ++ u))
  pub says : SaysOf (checks.kinds_of c) (checks.kind_of c).place (checks.limits_of c) b u r

-- what a call that judges the bytes u says and leaves
pub record Judges (c d : Checker) (u : List ℕ) (r : Result Step Why) : Type 0 where
  pub judged : (b : List ℕ) → checks.RepresentsBytes c b → IsJudged c d b u r
  pub same : checks.IsSame c d
  pub sound : IsSound c → OnOk r (IsSound d)
  pub waits : r ≡ Ok step.More → checks.IsWaiting d

-- an allocation failure is no reason where the kind has no parts
abbrev pub Grants : {A : Type 0} → Checker → Result A Why → Type 0
Grants c r = HasNoParts (kind_at (checks.kinds_of c) (checks.kind_of c).place) → r ≡ Err why.NoMemory → ⊥

-- what judging the bytes u says, where there is so much space for them
pub record IsJudgedWithin (c d : Checker) (space : ℕ) (b u : List ℕ) (r : Result Step Why) : Type 0 where
  pub represents : OnOk r (checks.RepresentsBytes d (b ++ u))
  pub says : SaysWithin (checks.kinds_of c) (checks.kind_of c).place (checks.limits_of c) space b u r

-- what a call that writes an item leaves: the settings; no fault where it answers none. Then there are some bytes more,
-- for which there is space; and a unit is needed where it answers that more is to come
pub record Kept (c d : Checker) (space : ℕ) (before after : List ℕ) (r : Result Step Why) : Type 0 where
  pub same : checks.IsSame c d
  pub sound : IsSound c → OnOk r (IsSound d)
  pub grows : OnOk r ((length before < length after) × (length after ≤ length before + space))
  pub waits : r ≡ Ok step.More → checks.IsWaiting d
