-- What a call of version 3 of RPC is answered.
use Rattle.std.proofs.Common.{◌≡◌, ℕ, ◌<◌, ◌≤◌, ◌⊎◌, inl, inr, Bool, true, false, List, [], ◌∷◌, ◌++◌, length, take}
use Rattle.std.proofs.Common.{drop, refl, ap, sym, ◌∙◌, subst, arith, Option, None, Some, option_map}
use Rattle.std.proofs.Math.Seq.{take-append_seam}
use Rattle.xdr_units.specs.Numbers.{AreBytes}
use Rattle.rpc_message.specs.Cases.{IsCase, NoTwoCases}
use Rattle.rpc_message.specs.Heads.{accepted}
use Rattle.rpc_message.specs.Message.{OtherVersion, ReplyView, Denied, RpcMismatch, SystemErr}
use Rattle.rpc_message.specs.Spelling.{reply}
use Rattle.registry_rows.specs.Rows.{Row}
use Rattle.registry_rows.specs.Ports.{tcp, own_rows}
use Rattle.registry_answer.specs.Answer.{Answer as Answered, Sends}
use Rattle.registry_answer.proofs.Cases.{Decided, sends_is, decided_by}
use Rattle.c_registry.specs.declared.answer.Answer.{Answer}
use Rattle.c_registry.specs.declared.answer.Answer.TheVariants as answer
use Rattle.c_registry.specs.Answered.{IsGiven, IsAnswered, IsAnsweredBy}
use Rattle.c_registry.specs.Held.{Held}
use Rattle.c_registry.specs.Rows.{IsStarted}
use Rattle.c_answers.specs.Outcomes.{only_at}
use Rattle.c_registry.specs.Statuses.{status_of, outcome_of}

-- a call of version 3, with xid 2
abbrev pub asked : List ℕ
asked = 0 ∷ 0 ∷ 0 ∷ 2 ∷ 0 ∷ 0 ∷ 0 ∷ 0 ∷ 0 ∷ 0 ∷ 0 ∷ 3 ∷ []

abbrev mismatch : ReplyView
mismatch = Denied 2 (RpcMismatch 2 2)

-- what is sent is one of the two replies
abbrev IsSent : Option (List ℕ) → Type 0
IsSent None = ⊥
IsSent (Some bytes) = (bytes ≡ reply mismatch) ⊎ (bytes ≡ reply (accepted 2 SystemErr))

sent_said : (rows new : List Row) (y : Bool) (said : Option ReplyView) (sent : Option (List ℕ))
    → Decided rows tcp (OtherVersion 2 3) y new said → Sends said sent → IsSent sent
sent_said rows new true said sent d s =
    subst IsSent (sym (sends_is said sent s ∙ ap (λ (o : Option ReplyView). option_map reply o) d.1)) (inr refl)
sent_said rows new false said sent d s =
    subst IsSent (sym (sends_is said sent s ∙ ap (λ (o : Option ReplyView). option_map reply o) d.1)) (inl refl)

abbrev Represents : List ℕ → Type 0
Represents buffer = (take 24 buffer ≡ reply mismatch) ⊎ (take 24 buffer ≡ reply (accepted 2 SystemErr))

long : (bytes : List ℕ) → IsSent (Some bytes) → length bytes ≡ 24
long bytes (inl e) = ap length e
long bytes (inr e) = ap length e

module _ (old new : List ℕ) (buffer : 24 ≤ length old) where
  represents : (bytes : List ℕ) → IsSent (Some bytes) → new ≡ bytes ++ drop (length bytes) old → Represents new
  represents bytes s e = by_case s
    where
      front : take 24 new ≡ bytes
      front = rw (e, ← long bytes s) (take-append_seam bytes (drop (length bytes) old))

      by_case : IsSent (Some bytes) → Represents new
      by_case (inl is) = inl (front ∙ is)
      by_case (inr is) = inr (front ∙ is)

  given : (sent waits : Option (List ℕ)) (a : Answer) → IsSent sent → IsGiven sent waits old new a
      → (status_of a ≡ 0) × (outcome_of a ≡ only_at 24) × Represents new
  given None waits a s g = absurd s
  given (Some bytes) waits (answer.Whole count) s g =
      (refl, ap only_at (g.0.0 ∙ long bytes s), represents bytes s g.0.1)
  given (Some bytes) waits (answer.NoRoom needed) s g = absurd (omega (arith, g.0.1, long bytes s, buffer))
  given (Some bytes) waits answer.NoMemory s g = absurd g.0
  given (Some bytes) waits answer.NoRegistry s g = absurd g.0
  given (Some bytes) waits answer.Silence s g = absurd g.0
  given (Some bytes) waits answer.NoTransport s g = absurd g.0
  given (Some bytes) waits answer.Unchanged s g = absurd g.0
  given (Some bytes) waits answer.NoCaller s g = absurd g.0

-- ---- the call is one of another version

number : (n : ℕ) (xs : List ℕ) → n < 256 → AreBytes xs → AreBytes (0 ∷ 0 ∷ 0 ∷ n ∷ xs)
number n xs low h = (omega arith, (omega arith, (omega arith, (low, h))))

bytes : AreBytes asked
bytes =
    number 2 (0 ∷ 0 ∷ 0 ∷ 0 ∷ 0 ∷ 0 ∷ 0 ∷ 3 ∷ []) (omega arith)
    (number 0 (0 ∷ 0 ∷ 0 ∷ 3 ∷ []) (omega arith) (number 3 [] (omega arith) tt))

read : IsCase asked (OtherVersion 2 3)
read = record {
  xid_fits = omega arith;
  version_fits = omega arith;
  other = λ e. omega (arith, e);
  rest = [];
  parts = refl;
}

module _ (cases : NoTwoCases) (old new : List ℕ) (buffer : 24 ≤ length old) where
  sent : (rows mid : List Row) (y : Bool) (s : Option (List ℕ)) → Answered rows tcp asked y mid s → IsSent s
  sent rows mid y s h =
      sent_said rows mid y h.said s (decided_by rows tcp cases asked bytes y mid s h (OtherVersion 2 3) read) h.sends

  answered : (h l : Held) (a : Answer) → IsAnswered h tcp asked l old new a
      → (status_of a ≡ 0) × (outcome_of a ≡ only_at 24) × Represents new
  answered h l a i = given old new buffer i.sent l.waits a (sent h.rows l.rows i.refused i.sent i.answer) i.given

  pub denied : (h : Held) (left : Option Held) (a : Answer) → IsAnsweredBy (Some h) tcp asked left old new a
      → (status_of a ≡ 0) × (outcome_of a ≡ only_at 24) × Represents new
  denied h left answer.NoTransport i = absurd (i.0 (inl refl))
  denied h left (answer.Whole count) i = answered h i.1 (answer.Whole count) i.3
  denied h left (answer.NoRoom needed) i = answered h i.1 (answer.NoRoom needed) i.3
  denied h left answer.NoMemory i = answered h i.1 answer.NoMemory i.3
  denied h left answer.NoRegistry i = answered h i.1 answer.NoRegistry i.3
  denied h left answer.Silence i = answered h i.1 answer.Silence i.3
  denied h left answer.Unchanged i = answered h i.1 answer.Unchanged i.3
  denied h left answer.NoCaller i = answered h i.1 answer.NoCaller i.3

-- a registry that was started holds its own rows
pub started : (port : ℕ) (left : Option Held) (a : Answer) → IsStarted port left a → 0 ≡ status_of a
    → left ≡ Some (record { rows = own_rows port; waits = None })
started port left (answer.Whole count) s e = s.1
started port left answer.NoMemory s e = absurd (omega (arith, e))
started port left (answer.NoRoom needed) s e = absurd s
started port left answer.NoRegistry s e = absurd s
started port left answer.Silence s e = absurd s
started port left answer.NoTransport s e = absurd s
started port left answer.Unchanged s e = absurd s
started port left answer.NoCaller s e = absurd s
