-- A stream of one record, followed over its pieces.
use Rattle.std.proofs.Common.{◌≡◌, ◌≢◌, ℕ, ◌<◌, ◌≤◌, List, [], ◌∷◌, ◌++◌, length, take, drop, refl, sym, ap, ◌∙◌}
use Rattle.std.proofs.Common.{subst, append_assoc, length-append, length-drop, arith, Option, Some}
use Rattle.std.proofs.lemmas.List.{append-nil, take_all, take-append-drop}
use Rattle.rpc_record.specs.declared.fault.RecordFault.{RecordFault}
use Rattle.rpc_record.specs.declared.fault.RecordFault.TheVariants as fault
use Rattle.rpc_record.specs.Marked.{header, Marked, Longest, NoneBeginsAnother, OneLongest}
use Rattle.rpc_record.specs.Reading.{IsWhole, FaultyIn, TooLongEnds, WholeHasNoLong, WholeIsLongest}
use Rattle.rpc_record.proofs.Long.{only_memory}
use Rattle.rpc_record.proofs.Streams.{Upto-none, Upto-first, Upto-last}
use Rattle.c_records.specs.declared.answer.Answer.{Answer}
use Rattle.c_records.specs.declared.answer.Answer.TheVariants as answer
use Rattle.c_records.specs.Fed.{IsRead, IsRefused, IsFedAs, IsFedTo, IsFedBy}
use Rattle.c_records.specs.Held.{Held, limit_of, IsTaking, Waits, Represents}
use Rattle.c_records.specs.Statuses.{status_of}
use Rattle.c_records.proofs.Reported.{IsAt, Waiting}

pub one_marked : (limit : ℕ) (r bytes : List ℕ) → IsWhole limit (r ∷ []) bytes → Marked r bytes
one_marked limit r bytes w =
    let s = w.stream in
    subst (λ b. Marked r b) (sym (s.1.1.2 ∙ ap (λ k. s.0 ++ k) s.1.1.1 ∙ append-nil s.0)) s.1.1.0

split : (before piece after : List ℕ) (n : ℕ)
    → (before ++ piece) ++ after ≡ (before ++ take n piece) ++ (drop n piece ++ after)
split before piece after n =
    ap (λ k. (before ++ k) ++ after) (sym (take-append-drop n piece))
    ∙ ap (λ k. k ++ after) (sym (append_assoc before (take n piece) (drop n piece)))
    ∙ append_assoc (before ++ take n piece) (drop n piece) after

empty-is : {r : List ℕ} {rs : List (List ℕ)} → ◌≡◌ {A = List (List ℕ)} [] (r ∷ rs) → ⊥
empty-is e = cc

module _ (apart : NoneBeginsAnother) (one : OneLongest) (longest : WholeIsLongest) (ends : TooLongEnds)
    (none : WholeHasNoLong) (limit : ℕ) (r before piece after : List ℕ)
    (all : IsWhole limit (r ∷ []) ((before ++ piece) ++ after)) where
  refused : (h l : Held) (f : RecordFault) → limit_of h ≡ limit → IsTaking h → Represents h before []
      → IsRefused h piece l f → f ≡ fault.NoMemory
  refused h l f e i s b =
      only_memory limit (length piece) [] f (before ++ piece)
      (λ at t. none limit (r ∷ []) ((before ++ piece) ++ after) all [] at
      (ends limit at [] (before ++ piece) after t).0)
      (b.kind i) (subst (λ n. FaultyIn n [] f (length piece) (before ++ piece)) e (b.here i before [] s))

  -- what is read whole is the record, and nothing is left behind it
  read : (h l : Held) (count : ℕ) → Represents h before [] → (b : IsRead h piece l count)
      → (r ≡ b.content) × (drop count piece ++ after ≡ [])
  read h l count s b =
      apart b.content r (before ++ take count piece) (drop count piece ++ after)
      (one_marked (limit_of h) b.content (before ++ take count piece) (b.whole before [] s))
      (subst (λ k. Marked r k) (split before piece after count)
      (one_marked limit r ((before ++ piece) ++ after) all))

  module _ (h l : Held) (e : limit_of h ≡ limit) (i : IsTaking h) (s : Represents h before []) where
    first_to : (left : Option Held) (a : Answer) → 0 < length after → status_of a ≢ 6 → left ≡ Some l
        → limit_of l ≡ limit_of h → IsFedTo h piece l a
        → (a ≡ answer.More) × IsAt limit (before ++ piece) [] left
    first_to left (answer.Whole count) some known is m b =
        absurd (omega (arith, some, ap length (read h l count s b).1, length-append (drop count piece) after))
    first_to left answer.More some known is m b = (
      refl,
      record { reader = l; is = is; limit_is = m ∙ e; taking = b.taking; represents = b.takes before [] s },
    )
    first_to left (answer.Refused f) some known is m b =
        absurd (known (ap (λ g. status_of (answer.Refused g)) (refused h l f e i s b)))
    first_to left answer.BadLimit some known is m b = absurd b
    first_to left answer.NoMemory some known is m b = absurd b
    first_to left (answer.NoRoom needed) some known is m b = absurd b
    first_to left answer.NoReader some known is m b = absurd b
    first_to left answer.NoRecord some known is m b = absurd b

    last_to : (left : Option Held) (a : Answer) → after ≡ [] → status_of a ≢ 6 → left ≡ Some l
        → limit_of l ≡ limit_of h → IsFedTo h piece l a
        → (a ≡ answer.Whole (length piece)) × Waiting limit (before ++ piece) [] r left
    last_to left (answer.Whole count) ended known is m b =
        let t = read h l count s b in
        let count_is : count ≡ length piece = omega
        (arith, b.within, ap length t.1, length-append (drop count piece) after, length-drop count piece) in
        let most : length piece ≤ count = omega (arith, count_is) in (
          ap answer.Whole count_is,
          record {
            reader = l;
            is = is;
            limit_is = m ∙ e;
            waits = subst (λ k. Waits l k) (sym t.0) b.waits;
            represents = subst (λ k. Represents l (before ++ k) []) (take_all count piece most) (b.takes before [] s);
          },
        )
    last_to left answer.More ended known is m b =
        let bytes = before ++ piece in
        let whole : IsWhole limit (r ∷ []) bytes = subst (λ k. IsWhole limit (r ∷ []) k)
        (ap (λ k. (before ++ piece) ++ k) ended ∙ append-nil bytes) all in
        absurd (empty-is (one limit [] (r ∷ []) bytes (subst (λ n. Longest n [] bytes) e (b.longest before [] s))
        (longest limit (r ∷ []) bytes whole)))
    last_to left (answer.Refused f) ended known is m b =
        absurd (known (ap (λ g. status_of (answer.Refused g)) (refused h l f e i s b)))
    last_to left answer.BadLimit ended known is m b = absurd b
    last_to left answer.NoMemory ended known is m b = absurd b
    last_to left (answer.NoRoom needed) ended known is m b = absurd b
    last_to left answer.NoReader ended known is m b = absurd b
    last_to left answer.NoRecord ended known is m b = absurd b

  pub fed_first : (held left : Option Held) (a : Answer) → 0 < length after → status_of a ≢ 6
      → IsAt limit before [] held
      → IsFedBy held piece left a
      → (a ≡ answer.More) × IsAt limit (before ++ piece) [] left
  fed_first held left a some known at f =
      let by = subst (λ (o : Option Held). IsFedBy o piece left a) at.is f in
      first_to at.reader by.0 at.limit_is at.taking at.represents left a some known by.1 by.2.limit
      (subst (λ (w : Option (List ℕ)). IsFedAs w at.reader piece by.0 a) at.taking.0 by.2.fed)

  pub fed_last : (held left : Option Held) (a : Answer) → after ≡ [] → status_of a ≢ 6 → IsAt limit before [] held
      → IsFedBy held piece left a
      → (a ≡ answer.Whole (length piece)) × Waiting limit (before ++ piece) [] r left
  fed_last held left a ended known at f =
      let by = subst (λ (o : Option Held). IsFedBy o piece left a) at.is f in
      last_to at.reader by.0 at.limit_is at.taking at.represents left a ended known by.1 by.2.limit
      (subst (λ (w : Option (List ℕ)). IsFedAs w at.reader piece by.0 a) at.taking.0 by.2.fed)

abbrev pub abc : List ℕ
abc = 97 ∷ 98 ∷ 99 ∷ []

-- 00000002 6162 80000001 63
abbrev pub bytes : List ℕ
bytes = 0 ∷ 0 ∷ 0 ∷ 2 ∷ 97 ∷ 98 ∷ 128 ∷ 0 ∷ 0 ∷ 1 ∷ 99 ∷ []

pub abc_is_whole : IsWhole 3 (abc ∷ []) bytes
unfolding header
abc_is_whole =
    let begun = Upto-first 3 [] [] [] (97 ∷ 98 ∷ []) (Upto-none 3) (omega arith) (omega arith) in
    Upto-last 3 [] (97 ∷ 98 ∷ []) (0 ∷ 0 ∷ 0 ∷ 2 ∷ 97 ∷ 98 ∷ []) (99 ∷ []) begun (omega arith) (omega arith)
