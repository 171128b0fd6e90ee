-- Output that was put whole, and told to be written, waits no longer.
use Rattle.std.proofs.Common.{◌≡◌, ℕ, List, [], ◌++◌, length, drop, refl, ap, ◌∙◌, subst, arith, Option, Some, None}
use Rattle.std.proofs.Math.Seq.{drop-length}
use Rattle.registry_sessions.specs.declared.session.Session.{Session}
use Rattle.registry_sessions.specs.Represents.{output_of}
use Rattle.c_answers.specs.Outcomes.{only_at}
use Rattle.c_registry.specs.declared.session_answer.SessionAnswer.{SessionAnswer}
use Rattle.c_registry.specs.declared.session_answer.SessionAnswer.TheVariants as answer
use Rattle.c_registry.specs.Sessions.{IsShown, IsShownBy, IsTook, IsTookBy}
use Rattle.c_registry.specs.SessionStatuses.{status_of, outcome_of}

-- at status 0 all of it was put
whole : (s : Session) (old new : List ℕ) (a : SessionAnswer) → IsShown s old new a → 0 ≡ status_of a
    → (outcome_of a).at ≡ length (output_of s)
whole s old new (answer.Whole count) h e = h.0
whole s old new (answer.Follows count) h e = absurd (omega (arith, e))
whole s old new answer.More h e = absurd h
whole s old new answer.Full h e = absurd h
whole s old new (answer.Broken f) h e = absurd h
whole s old new answer.NoMemory h e = absurd h
whole s old new answer.TooMany h e = absurd h
whole s old new answer.NoSession h e = absurd h
whole s old new answer.NoRegistry h e = absurd h
whole s old new answer.NoTransport h e = absurd h
whole s old new answer.NoCaller h e = absurd h

-- where none waits, none is put
none : (s : Session) (old new : List ℕ) → output_of s ≡ [] → (a : SessionAnswer) → IsShown s old new a
    → (status_of a ≡ 0) × (outcome_of a ≡ only_at 0) × (new ≡ old)
none s old new o (answer.Whole count) h =
    (refl, ap only_at (h.0 ∙ ap length o), subst (λ (xs : List ℕ). new ≡ xs ++ drop (length xs) old) o h.2)
none s old new o (answer.Follows count) h = absurd (omega (arith, h.1, ap length o))
none s old new o answer.More h = absurd h
none s old new o answer.Full h = absurd h
none s old new o (answer.Broken f) h = absurd h
none s old new o answer.NoMemory h = absurd h
none s old new o answer.TooMany h = absurd h
none s old new o answer.NoSession h = absurd h
none s old new o answer.NoRegistry h = absurd h
none s old new o answer.NoTransport h = absurd h
none s old new o answer.NoCaller h = absurd h

-- where all was written, none waits
emptied : (s : Session) (n : ℕ) (t : Session) (a : SessionAnswer) → IsTook s n t a → n ≡ length (output_of s)
    → (status_of a ≡ 0) × (output_of t ≡ [])
emptied s n t (answer.Whole count) h e =
    (refl, h.output ∙ ap (λ (k : ℕ). drop k (output_of s)) e ∙ drop-length (output_of s))
emptied s n t (answer.Follows count) h e = absurd h
emptied s n t answer.More h e = absurd h
emptied s n t answer.Full h e = absurd h
emptied s n t (answer.Broken f) h e = absurd h
emptied s n t answer.NoMemory h e = absurd h
emptied s n t answer.TooMany h e = absurd (omega (arith, h.0, e))
emptied s n t answer.NoSession h e = absurd h
emptied s n t answer.NoRegistry h e = absurd h
emptied s n t answer.NoTransport h e = absurd h
emptied s n t answer.NoCaller h e = absurd h

pub once : (held left : Option Session) (before after more again : List ℕ) (n : ℕ) (a t z : SessionAnswer)
    → IsShownBy held before after a → IsTookBy held n left t → IsShownBy left more again z → 0 ≡ status_of a
    → n ≡ (outcome_of a).at
    → (status_of t ≡ 0) × (status_of z ≡ 0) × (outcome_of z ≡ only_at 0) × (again ≡ more)
once None left before after more again n a t z h k l e f = absurd (omega (arith, e ∙ ap status_of h.0))
once (Some s) left before after more again n a t z h k l e f =
    let d = emptied s n k.0 t k.2 (f ∙ whole s before after a h e) in
    let y = none k.0 more again d.1 z (subst (λ (o : Option Session). IsShownBy o more again z) k.1 l) in
    (d.0, y.0, y.1, y.2)
