-- What a stream's end is reported behind known bytes, and which pieces lead there.
use Rattle.std.proofs.Common.{◌≡◌, ℕ, ◌<◌, ◌⊎◌, inl, inr, List, [], ◌∷◌, length, take, refl}
use Rattle.std.proofs.Common.{ap, ◌∙◌, subst, length-append, arith, Option, Some}
use Rattle.std.proofs.lemmas.List.{length-take}
use Rattle.rpc_record.specs.declared.fault.RecordFault.{RecordFault}
use Rattle.rpc_record.specs.declared.fault.RecordFault.TheVariants as fault
use Rattle.rpc_record.specs.Marked.{Marked, NoneBeginsAnother}
use Rattle.rpc_record.specs.Reading.{IsWhole, IsInside, capped}
use Rattle.rpc_record.proofs.Long.{Marked-length, TooLongAt-length, only_memory}
use Rattle.rpc_record.proofs.Reported.{not_broken}
use Rattle.c_records.specs.declared.answer.Answer.{Answer}
use Rattle.c_records.specs.declared.answer.Answer.TheVariants as answer
use Rattle.c_records.specs.Ended.{IsEndedAs, IsEndedTo, IsEndedBy, IsCut}
use Rattle.c_records.specs.Fed.{IsFedAs, IsFedTo, IsFedBy, IsRefused}
use Rattle.c_records.specs.Held.{Held, IsTaking, IsBroken, Represents, limit_of}
use Rattle.c_records.specs.Statuses.{status_of}
use Rattle.c_records.proofs.Followed.{one_marked}
use Rattle.c_records.proofs.Reported.{IsAt, Waiting}

-- ---- the end of a reader that takes bytes

module _ (limit : ℕ) (bytes : List ℕ) (rs : List (List ℕ)) (h : Held) (e : limit_of h ≡ limit) (i : IsTaking h)
    (s : Represents h bytes rs) where
  place : (f : RecordFault) → IsCut h f → (f ≡ fault.Truncated (capped (length bytes))) × IsInside limit rs bytes
  place (fault.Truncated at) c =
      let t = c bytes rs s in (ap fault.Truncated t.0, subst (λ n. IsInside n rs bytes) e t.1)
  place (fault.TooLong at) c = absurd c
  place fault.NoMemory c = absurd c
  place fault.Read c = absurd c
  place (fault.Write written) c = absurd c
  place fault.TooManyReads c = absurd c

  why : (f : RecordFault) → IsBroken h f ⊎ (IsTaking h × IsCut h f)
      → (f ≡ fault.Truncated (capped (length bytes))) × IsInside limit rs bytes
  why f (inl b) = absurd (not_broken h.reader.place f i.1 b.1)
  why f (inr t) = place f t.1

  well : (left : Held) (a : Answer) → (IsInside limit rs bytes → ⊥) → IsEndedTo h left a → a ≡ answer.Whole 0
  well left (answer.Whole count) n b = ap answer.Whole b.0
  well left (answer.Refused f) n b = absurd (n (why f b.why).1)
  well left answer.BadLimit n b = absurd b
  well left answer.NoMemory n b = absurd b
  well left (answer.NoRoom needed) n b = absurd b
  well left answer.NoReader n b = absurd b
  well left answer.More n b = absurd b
  well left answer.NoRecord n b = absurd b

  cut : (left : Held) (a : Answer) → (IsWhole limit rs bytes → ⊥) → IsEndedTo h left a
      → a ≡ answer.Refused (fault.Truncated (capped (length bytes)))
  cut left (answer.Whole count) n b = absurd (n (subst (λ m. IsWhole m rs bytes) e (b.2 i bytes rs s)))
  cut left (answer.Refused f) n b = ap answer.Refused (why f b.why).0
  cut left answer.BadLimit n b = absurd b
  cut left answer.NoMemory n b = absurd b
  cut left (answer.NoRoom needed) n b = absurd b
  cut left answer.NoReader n b = absurd b
  cut left answer.More n b = absurd b
  cut left answer.NoRecord n b = absurd b

pub ends_well : (limit : ℕ) (bytes : List ℕ) (rs : List (List ℕ)) (held left : Option Held) (a : Answer)
    → IsAt limit bytes rs held
    → (IsInside limit rs bytes → ⊥) → IsEndedBy held left a → a ≡ answer.Whole 0
ends_well limit bytes rs held left a at n e =
    let by = subst (λ (o : Option Held). IsEndedBy o left a) at.is e in
    well limit bytes rs at.reader at.limit_is at.taking at.represents by.0 a n
    (subst (λ (w : Option (List ℕ)). IsEndedAs w at.reader by.0 a) at.taking.0 by.2.ended)

pub ends_cut : (limit : ℕ) (bytes : List ℕ) (rs : List (List ℕ)) (held left : Option Held) (a : Answer)
    → IsAt limit bytes rs held
    → (IsWhole limit rs bytes → ⊥) → IsEndedBy held left a
    → a ≡ answer.Refused (fault.Truncated (capped (length bytes)))
ends_cut limit bytes rs held left a at n e =
    let by = subst (λ (o : Option Held). IsEndedBy o left a) at.is e in
    cut limit bytes rs at.reader at.limit_is at.taking at.represents by.0 a n
    (subst (λ (w : Option (List ℕ)). IsEndedAs w at.reader by.0 a) at.taking.0 by.2.ended)

pub not_inside : (limit : ℕ) → IsInside limit [] [] → ⊥
not_inside limit i = omega (arith, i.some, ap length i.spelled, length-append i.whole i.part)

pub not_whole : (limit : ℕ) (bytes : List ℕ) → 0 < length bytes → IsWhole limit [] bytes → ⊥
not_whole limit bytes some w = omega (arith, some, ap length w.stream)

-- nothing follows a record in its own bytes
pub none_behind : NoneBeginsAnother → (limit : ℕ) (r bytes : List ℕ) → IsWhole limit (r ∷ []) bytes
    → IsInside limit (r ∷ []) bytes
    → ⊥
none_behind apart limit r bytes w i =
    let front = one_marked limit r i.whole (record { stream = i.stream; within = i.within }) in
    let t = apart r r i.whole i.part front (subst (λ k. Marked r k) i.spelled (one_marked limit r bytes w)) in
    omega (arith, i.some, ap length t.1)

-- ---- less than a header

module _ (limit : ℕ) (piece : List ℕ) (short : length piece < 4) (h l : Held) (e : limit_of h ≡ limit) (i : IsTaking h)
    (s : Represents h [] []) where
  refused : (f : RecordFault) → IsRefused h piece l f → f ≡ fault.NoMemory
  refused f b =
      only_memory (limit_of h) (length piece) [] f piece
      (λ at t. omega (arith, short, TooLongAt-length (limit_of h) at [] piece t)) (b.kind i) (b.here i [] [] s)

  fed_to : (left : Option Held) (a : Answer) → left ≡ Some l → limit_of l ≡ limit_of h → IsFedTo h piece l a
      → (status_of a ≡ 6) ⊎ ((a ≡ answer.More) × IsAt limit piece [] left)
  fed_to left (answer.Whole count) is m b =
      let long = Marked-length b.content (take count piece)
      (one_marked (limit_of h) b.content (take count piece) (b.whole [] [] s)) in
      absurd (omega (arith, short, long, length-take count piece))
  fed_to left answer.More is m b =
      inr (refl, record { reader = l; is = is; limit_is = m ∙ e; taking = b.taking; represents = b.takes [] [] s })
  fed_to left (answer.Refused f) is m b = inl (ap (λ g. status_of (answer.Refused g)) (refused f b))
  fed_to left answer.BadLimit is m b = absurd b
  fed_to left answer.NoMemory is m b = absurd b
  fed_to left (answer.NoRoom needed) is m b = absurd b
  fed_to left answer.NoReader is m b = absurd b
  fed_to left answer.NoRecord is m b = absurd b

pub fed_short : (limit : ℕ) (piece : List ℕ) (held left : Option Held) (a : Answer) → length piece < 4
    → IsAt limit [] [] held
    → IsFedBy held piece left a → (status_of a ≡ 6) ⊎ ((a ≡ answer.More) × IsAt limit piece [] left)
fed_short limit piece held left a short at f =
    let by = subst (λ (o : Option Held). IsFedBy o piece left a) at.is f in
    fed_to limit piece short at.reader by.0 at.limit_is at.taking at.represents left a by.1 by.2.limit
    (subst (λ (w : Option (List ℕ)). IsFedAs w at.reader piece by.0 a) at.taking.0 by.2.fed)

-- ---- a first record

-- the bytes taken are one record, which waits
pub record HasRead (limit : ℕ) (held : Option Held) : Type 0 where
  pub content : List ℕ
  pub bytes : List ℕ
  pub waiting : Waiting limit bytes [] content held
  pub whole : IsWhole limit (content ∷ []) bytes

read_to : (limit : ℕ) (piece : List ℕ) (h l : Held) (left : Option Held) (a : Answer) → limit_of h ≡ limit
    → Represents h [] []
    → left ≡ Some l → limit_of l ≡ limit_of h → IsFedTo h piece l a → 0 ≡ status_of a → HasRead limit left
read_to limit piece h l left (answer.Whole count) e s is m b z = record {
  content = b.content;
  bytes = take count piece;
  waiting = record { reader = l; is = is; limit_is = m ∙ e; waits = b.waits; represents = b.takes [] [] s };
  whole = subst (λ n. IsWhole n (b.content ∷ []) (take count piece)) e (b.whole [] [] s);
}
read_to limit piece h l left (answer.Refused fault.NoMemory) e s is m b z = absurd (omega (arith, z))
read_to limit piece h l left (answer.Refused (fault.TooLong at)) e s is m b z = absurd (omega (arith, z))
read_to limit piece h l left (answer.Refused (fault.Truncated at)) e s is m b z = absurd (omega (arith, z))
read_to limit piece h l left (answer.Refused fault.Read) e s is m b z = absurd (omega (arith, z))
read_to limit piece h l left (answer.Refused (fault.Write written)) e s is m b z = absurd (omega (arith, z))
read_to limit piece h l left (answer.Refused fault.TooManyReads) e s is m b z = absurd (omega (arith, z))
read_to limit piece h l left answer.More e s is m b z = absurd (omega (arith, z))
read_to limit piece h l left answer.BadLimit e s is m b z = absurd b
read_to limit piece h l left answer.NoMemory e s is m b z = absurd b
read_to limit piece h l left (answer.NoRoom needed) e s is m b z = absurd b
read_to limit piece h l left answer.NoReader e s is m b z = absurd b
read_to limit piece h l left answer.NoRecord e s is m b z = absurd b

pub has_read : (limit : ℕ) (piece : List ℕ) (held left : Option Held) (a : Answer) → IsAt limit [] [] held
    → IsFedBy held piece left a
    → 0 ≡ status_of a → HasRead limit left
has_read limit piece held left a at f z =
    let by = subst (λ (o : Option Held). IsFedBy o piece left a) at.is f in
    read_to limit piece at.reader by.0 left a at.limit_is at.represents by.1 by.2.limit
    (subst (λ (w : Option (List ℕ)). IsFedAs w at.reader piece by.0 a) at.taking.0 by.2.fed) z
