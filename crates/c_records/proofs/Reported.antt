-- What a status says of the answer and of what the handle holds then.
use Rattle.std.proofs.Common.{◌≡◌, ℕ, ◌⊎◌, inl, inr, List, [], refl, sym, ap, ◌∙◌, subst, arith}
use Rattle.std.proofs.Common.{Option, None, Some}
use Rattle.rpc_record.specs.declared.fault.RecordFault.{RecordFault}
use Rattle.rpc_record.specs.declared.reader.RecordReader.{RecordReader}
use Rattle.c_records.specs.declared.answer.Answer.{Answer}
use Rattle.c_records.specs.declared.answer.Answer.TheVariants as answer
use Rattle.c_records.specs.Ended.{IsEndedBy}
use Rattle.c_records.specs.Fed.{IsFedAs, IsFedTo, IsFedBy}
use Rattle.c_records.specs.Held.{Held, IsTaking, IsBroken, Represents, Waits, limit_of}
use Rattle.c_records.specs.Started.{IsStarted, IsFresh}
use Rattle.c_records.specs.Statuses.{status_of}
use Rattle.c_records.specs.Taken.{IsTakenBy, IsGiven}

-- a fresh reader is held
pub record Holds (limit : ℕ) (left : Option Held) : Type 0 where
  pub held : Held
  pub is : left ≡ Some held
  pub fresh : IsFresh limit held

pub started : (limit : ℕ) (left : Option Held) (a : Answer) → IsStarted limit left a → 0 ≡ status_of a
    → Holds limit left
started limit left (answer.Whole count) s e = record { held = s.2; is = s.3; fresh = s.4 }
started limit left (answer.Refused f) s e = absurd s
started limit left answer.BadLimit s e = absurd (omega (arith, e))
started limit left answer.NoMemory s e = absurd (omega (arith, e))
started limit left (answer.NoRoom needed) s e = absurd s
started limit left answer.NoReader s e = absurd s
started limit left answer.More s e = absurd s
started limit left answer.NoRecord s e = absurd s

-- a reader with this limit is held, which has taken these bytes, has handed out these records, and takes more
pub record IsAt (limit : ℕ) (bytes : List ℕ) (rs : List (List ℕ)) (held : Option Held) : Type 0 where
  pub reader : Held
  pub is : held ≡ Some reader
  pub limit_is : limit_of reader ≡ limit
  pub taking : IsTaking reader
  pub represents : Represents reader bytes rs

pub at_first : {limit : ℕ} {left : Option Held} → Holds limit left → IsAt limit [] [] left
at_first h = record {
  reader = h.held;
  is = h.is;
  limit_is = h.fresh.limit;
  taking = h.fresh.taking;
  represents = h.fresh.represents;
}

-- the same, with this record waiting behind them
pub record Waiting (limit : ℕ) (bytes : List ℕ) (rs : List (List ℕ)) (r : List ℕ) (held : Option Held) : Type 0 where
  pub reader : Held
  pub is : held ≡ Some reader
  pub limit_is : limit_of reader ≡ limit
  pub waits : Waits reader r
  pub represents : Represents reader bytes rs

pub same_held : (h l : Held) → l.reader ≡ h.reader → l.waits ≡ h.waits → l ≡ h
same_held h l e d =
    let with_reader : RecordReader → Held = λ r. record { reader = r; waits = l.waits } in
    let with_waits : Option (List ℕ) → Held = λ w. record { reader = h.reader; waits = w } in
    ap with_reader e ∙ ap with_waits d

-- no record waits, so none is handed out, and the reader stays
pub record IsRetained (left : Option Held) (h : Held) (old new : List ℕ) (a : Answer) : Type 0 where
  pub answer : a ≡ answer.NoRecord
  pub held : left ≡ Some h
  pub buffer : new ≡ old

pub none_taken : (held left : Option Held) (h : Held) (old new : List ℕ) (a : Answer) → held ≡ Some h → h.waits ≡ None
    → IsTakenBy held left old new a → IsRetained left h old new a
none_taken held left h old new a is none t =
    let by = subst (λ (o : Option Held). IsTakenBy o left old new a) is t in
    let given = subst (λ (w : Option (List ℕ)). IsGiven w by.0.waits old new a) none by.2.given in
    record {
      answer = given.0;
      held = by.1 ∙ ap (λ (l : Held). Some l) (same_held h by.0 by.2.reader (given.1 ∙ sym none));
      buffer = given.2;
    }

-- ---- a refusal is answered from then on

pub record IsStuck (held : Option Held) (f : RecordFault) : Type 0 where
  pub reader : Held
  pub is : held ≡ Some reader
  pub broken : IsBroken reader f

pub record Refuses (left : Option Held) (a : Answer) : Type 0 where
  pub fault : RecordFault
  pub answer : a ≡ answer.Refused fault
  pub stuck : IsStuck left fault

fed_as : (w : Option (List ℕ)) (h l : Held) (piece : List ℕ) (left : Option Held) (a : Answer) → left ≡ Some l
    → IsFedAs w h piece l a → (status_of a ≡ 2) ⊎ (status_of a ≡ 6) → Refuses left a
fed_as (Some r) h l piece left a is f e = absurd (waiting a f.0 e)
  where
    waiting : (a : Answer) → a ≡ answer.Whole 0 → (status_of a ≡ 2) ⊎ (status_of a ≡ 6) → ⊥
    waiting a is (inl e) = omega (arith, sym (ap status_of is) ∙ e)
    waiting a is (inr e) = omega (arith, sym (ap status_of is) ∙ e)
fed_as None h l piece left (answer.Refused f) is b e =
    record { fault = f; answer = refl; stuck = record { reader = l; is = is; broken = b.broken } }
fed_as None h l piece left (answer.Whole count) is b (inl e) = absurd (omega (arith, e))
fed_as None h l piece left (answer.Whole count) is b (inr e) = absurd (omega (arith, e))
fed_as None h l piece left answer.More is b (inl e) = absurd (omega (arith, e))
fed_as None h l piece left answer.More is b (inr e) = absurd (omega (arith, e))
fed_as None h l piece left answer.BadLimit is b e = absurd b
fed_as None h l piece left answer.NoMemory is b e = absurd b
fed_as None h l piece left (answer.NoRoom needed) is b e = absurd b
fed_as None h l piece left answer.NoReader is b e = absurd b
fed_as None h l piece left answer.NoRecord is b e = absurd b

pub refuses : (held left : Option Held) (piece : List ℕ) (a : Answer) → IsFedBy held piece left a
    → (status_of a ≡ 2) ⊎ (status_of a ≡ 6) → Refuses left a
refuses None left piece a f (inl e) = absurd (omega (arith, sym (ap status_of f.0) ∙ e))
refuses None left piece a f (inr e) = absurd (omega (arith, sym (ap status_of f.0) ∙ e))
refuses (Some h) left piece a f e = fed_as h.waits h f.0 piece left a f.1 f.2.fed e

stuck_as : (h l : Held) (piece : List ℕ) (f : RecordFault) → IsFedTo h piece l (answer.Refused f) → IsBroken l f
stuck_as h l piece f b = b.broken

pub fed_again : (held left : Option Held) (piece : List ℕ) (f : RecordFault) (a : Answer) → IsStuck held f
    → IsFedBy held piece left a → (a ≡ answer.Refused f) × IsStuck left f
fed_again held left piece f a s fed =
    let by = subst (λ (o : Option Held). IsFedBy o piece left a) s.is fed in
    let same = by.2.again f s.broken in
    let to : IsFedTo s.reader piece by.0 a = subst (λ (w : Option (List ℕ)). IsFedAs w s.reader piece by.0 a)
    s.broken.0 by.2.fed in (
      same,
      record {
        reader = by.0;
        is = by.1;
        broken = stuck_as s.reader by.0 piece f (subst (λ (b : Answer). IsFedTo s.reader piece by.0 b) same to);
      },
    )

pub ended_again : (held left : Option Held) (f : RecordFault) (a : Answer) → IsStuck held f → IsEndedBy held left a
    → a ≡ answer.Refused f
ended_again held left f a s e = (subst (λ (o : Option Held). IsEndedBy o left a) s.is e).2.again f s.broken
