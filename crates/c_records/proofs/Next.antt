-- The next record of a stream, which begins a piece.
use Rattle.std.proofs.Common.{◌≡◌, ◌≢◌, ℕ, ◌≤◌, List, [], ◌∷◌, ◌++◌, length, take, drop, sym, ap, ◌∙◌, subst}
use Rattle.std.proofs.Common.{append_assoc, length-append, length-drop, arith, Option, Some}
use Rattle.std.proofs.lemmas.List.{append-nil, take-append-drop}
use Rattle.std.proofs.lemmas.List.Elements.{All-push}
use Rattle.std.proofs.Math.Seq.{take-append_seam}
use Rattle.rpc_record.specs.declared.fault.RecordFault.{RecordFault}
use Rattle.rpc_record.specs.declared.fault.RecordFault.TheVariants as fault
use Rattle.rpc_record.specs.Marked.{header, Marked, Stream, Longest}
use Rattle.rpc_record.specs.Reading.{IsWhole, HasNoLong, FaultyIn}
use Rattle.rpc_record.proofs.Long.{only_memory}
use Rattle.rpc_record.proofs.Longest.{Marked-same}
use Rattle.rpc_record.proofs.Streams.{Stream-push, Marked-one, whole_none, whole_push}
use Rattle.c_records.specs.declared.answer.Answer.{Answer}
use Rattle.c_records.specs.declared.answer.Answer.TheVariants as answer
use Rattle.c_records.specs.Fed.{IsRead, IsRefused, IsFedAs, IsFedTo, IsFedBy}
use Rattle.c_records.specs.Held.{Held, limit_of, IsTaking, Waits, Represents}
use Rattle.c_records.specs.Statuses.{status_of}
use Rattle.c_records.proofs.Reported.{IsAt, Waiting}

-- what follows whole records and makes one more is that one
strip : (rs : List (List ℕ)) (c before more : List ℕ) → Stream rs before → Stream (rs ++ c ∷ []) (before ++ more)
    → Marked c more
strip [] c before more s t =
    subst (λ k. Marked c k)
    (sym (ap (λ k. k ++ more) (sym s) ∙ t.1.1.2 ∙ ap (λ k. t.0 ++ k) t.1.1.1 ∙ append-nil t.0)) t.1.1.0
strip (q ∷ rs) c before more s t =
    let m = Marked-same q q s.0 t.0 (s.1.0 ++ more) t.1.0 s.1.1.0 t.1.1.0
    (sym (append_assoc s.0 s.1.0 more) ∙ sym (ap (λ k. k ++ more) s.1.1.2) ∙ t.1.1.2) in
    strip rs c s.1.0 more s.1.1.1 (subst (λ k. Stream (rs ++ c ∷ []) k) (sym m.1) t.1.1.1)

module _ (limit : ℕ) (rs : List (List ℕ)) (r before front back : List ℕ) (begun : IsWhole limit rs before)
    (marked : Marked r front) (fits : length r ≤ limit) (short : HasNoLong limit (before ++ (front ++ back))) where
  abbrev piece : List ℕ
  piece = front ++ back

  refused : (h l : Held) (f : RecordFault) → limit_of h ≡ limit → IsTaking h → Represents h before rs
      → IsRefused h piece l f → f ≡ fault.NoMemory
  refused h l f e i s b =
      only_memory limit (length piece) rs f (before ++ piece) (short rs) (b.kind i)
      (subst (λ n. FaultyIn n rs f (length piece) (before ++ piece)) e (b.here i before rs s))

  read : (h l : Held) (count : ℕ) → Represents h before rs → (b : IsRead h piece l count)
      → (b.content ≡ r) × (count ≡ length front)
  read h l count s b =
      let w = b.whole before rs s in
      let one = strip rs b.content before (take count piece) begun.stream w.stream in
      let t = Marked-same b.content r (take count piece) front (drop count piece) back one marked
      (take-append-drop count piece) in
      (t.0, omega (arith, b.within, ap length t.1, length-drop count piece, length-append front back))

  -- the records before it are not all that are whole
  not_all : Longest limit rs (before ++ piece) → ⊥
  not_all l =
      let t = l.only (rs ++ r ∷ []) (before ++ front) back (All-push (λ x. length x ≤ limit) rs r begun.within fits)
      (Stream-push rs before front r begun.stream marked) (sym (append_assoc before front back)) in
      omega (arith, ap length t.1, length-append (rs ++ r ∷ []) t.0, length-append rs (r ∷ []))

  module _ (h l : Held) (e : limit_of h ≡ limit) (i : IsTaking h) (s : Represents h before rs) where
    fed_to : (left : Option Held) (a : Answer) → status_of a ≢ 6 → left ≡ Some l → limit_of l ≡ limit_of h
        → IsFedTo h piece l a
        → (a ≡ answer.Whole (length front)) × Waiting limit (before ++ front) rs r left
    fed_to left (answer.Whole count) known is m b =
        let t = read h l count s b in
        let front_is : take count piece ≡ front = ap (λ n. take n piece) t.1 ∙ take-append_seam front back in (
          ap answer.Whole t.1,
          record {
            reader = l;
            is = is;
            limit_is = m ∙ e;
            waits = subst (λ k. Waits l k) t.0 b.waits;
            represents = subst (λ k. Represents l (before ++ k) rs) front_is (b.takes before rs s);
          },
        )
    fed_to left answer.More known is m b =
        absurd (not_all (subst (λ n. Longest n rs (before ++ piece)) e (b.longest before rs s)))
    fed_to left (answer.Refused f) known is m b =
        absurd (known (ap (λ g. status_of (answer.Refused g)) (refused h l f e i s b)))
    fed_to left answer.BadLimit known is m b = absurd b
    fed_to left answer.NoMemory known is m b = absurd b
    fed_to left (answer.NoRoom needed) known is m b = absurd b
    fed_to left answer.NoReader known is m b = absurd b
    fed_to left answer.NoRecord known is m b = absurd b

  pub fed_next : (held left : Option Held) (a : Answer) → status_of a ≢ 6 → IsAt limit before rs held
      → IsFedBy held piece left a
      → (a ≡ answer.Whole (length front)) × Waiting limit (before ++ front) rs r left
  fed_next held left a known at f =
      let by = subst (λ (o : Option Held). IsFedBy o piece left a) at.is f in
      fed_to at.reader by.0 at.limit_is at.taking at.represents left a known by.1 by.2.limit
      (subst (λ (w : Option (List ℕ)). IsFedAs w at.reader piece by.0 a) at.taking.0 by.2.fed)

-- 80000001 61, and 80000000
abbrev pub one : List ℕ
one = 128 ∷ 0 ∷ 0 ∷ 1 ∷ 97 ∷ []

abbrev pub empty : List ℕ
empty = 128 ∷ 0 ∷ 0 ∷ 0 ∷ []

pub one_marked : Marked (97 ∷ []) one
unfolding header
one_marked = Marked-one (97 ∷ []) (omega arith)

pub empty_marked : Marked [] empty
unfolding header
empty_marked = Marked-one [] (omega arith)

pub one_whole : IsWhole 1 ((97 ∷ []) ∷ []) one
unfolding header
one_whole = whole_push 1 [] [] (97 ∷ []) (whole_none 1) (omega arith) (omega arith)

pub both_whole : IsWhole 1 ((97 ∷ []) ∷ [] ∷ []) (one ++ empty)
unfolding header
both_whole = whole_push 1 ((97 ∷ []) ∷ []) one [] one_whole (omega arith) (omega arith)
