-- How far the bytes of a direction are read.
use Rattle.std.proofs.Common.{◌≡◌, ℕ, ◌+◌, suc, List, [], ◌∷◌, ◌++◌, length, take, drop}
use Rattle.std.proofs.Common.{Option, Some, None, Result, Ok, Err}
use Rattle.std.proofs.Common.{refl, sym, ap, ◌∙◌, subst, arith, append_assoc, length-append}
use Rattle.std.proofs.lemmas.List.{append-nil, drop_all, nil_from_length, take-append-drop, take_all}
use Rattle.std.specs.List.{AllByRecursion}
use Rattle.capture_streams.specs.declared.direction.Direction.{Direction}
use Rattle.capture_streams.specs.Represents.{IsOfSame, Stands}
use Rattle.capture_streams.specs.Segments.{Arrival, IsFront, given}
use Rattle.capture_streams.specs.declared.refusal.Refusal.{Refusal}
use Rattle.capture_streams.specs.Taking.{HandsOn, Skips, Takes, arrival_at, taken_of, taken_part}
use Rattle.rpc_record.specs.declared.reader.RecordReader.{RecordReader}
use Rattle.rpc_record.specs.Marked.{Marked}
use Rattle.rpc_record.specs.Reading.{IsWhole}
use Rattle.rpc_record.specs.Represents as record_of
use Rattle.rpc_record.specs.declared.fault.RecordStep.{RecordStep}
use Rattle.rpc_record.specs.declared.fault.RecordStep.TheVariants.{More, Whole}
use Rattle.rpc_record.specs.Represents.{After, Fills, IsFilled, Represents}
use Rattle.capture_records.specs.declared.side.Next.{Next}
use Rattle.capture_records.specs.declared.side.Next.TheVariants.{Here}
use Rattle.capture_records.specs.declared.side.Side.{Side}
use Rattle.capture_records.specs.declared.step.Step.{Step}
use Rattle.capture_records.specs.declared.step.Step.TheVariants.{Record, Tells, TooLong, Waits}
use Rattle.capture_records.specs.declared.told.Told.{Told}
use Rattle.capture_records.specs.Carried.{Carries}
use Rattle.capture_records.specs.Follows.{Comes, ComesFirst, Finds, Has, HasAt, IsPart, Keeps, Reads, Steps, untaken_of}
use Rattle.capture_records.specs.Private.Steps.{BeginsAnew, Drops, GivesUp, Passes}

-- ---- lists

-- nothing is put together of nothing alone
middle_nil : (xs ys zs : List ℕ) → [] ≡ xs ++ (ys ++ zs) → ys ≡ []
middle_nil xs ys zs e =
    let sum : 0 ≡ length (xs ++ (ys ++ zs)) = ap (λ (k : List ℕ). length k) e in
    nil_from_length ys (omega (arith, sum, length-append xs (ys ++ zs), length-append ys zs))

pub drop_whole : (count : ℕ) (xs : List ℕ) → count ≡ length xs → drop count xs ≡ []
drop_whole count xs e = drop_all count xs (omega (arith, e))

-- ---- where the next record is

abbrev pub IsOther : Next → Type 0
IsOther Here = ⊥
IsOther _ = Unit {0}

pub not_here : (n m : Next) → n ≡ m → IsOther m → n ≡ Here → ⊥
not_here n m e other here = subst IsOther (sym e ∙ here) other

-- a step that is no record has none
pub finds_none : (s : Step) (arrivals : List Arrival) (r : List ℕ) → (s ≡ Record → ⊥) → Finds s arrivals r
finds_none Record arrivals r other = absurd (other refl)
finds_none (Tells told count) arrivals r other = tt
finds_none TooLong arrivals r other = tt
finds_none Waits arrivals r other = tt

-- ---- fronts

front_first : (g : ℕ → Option ℕ) (from : ℕ) (xs ys : List ℕ) → IsFront g from (xs ++ ys) → IsFront g from xs
front_first g from [] ys f = tt
front_first g from (x ∷ xs) ys f = (f.0, front_first g (from + 1) xs ys f.1)

front_rest : (g : ℕ → Option ℕ) (from : ℕ) (xs ys : List ℕ) → IsFront g from (xs ++ ys)
    → IsFront g (from + length xs) ys
front_rest g from [] ys f =
    let e : from ≡ from + 0 = omega arith in
    subst (λ (n : ℕ). IsFront g n ys) e f
front_rest g from (x ∷ xs) ys f =
    let e : (from + 1) + length xs ≡ from + suc (length xs) = omega arith in
    subst (λ (n : ℕ). IsFront g n ys) e (front_rest g (from + 1) xs ys f.1)

-- ---- what is read

module _ (reader : RecordReader) (next : Next) (waiting handed : List ℕ) (h : Reads reader next waiting handed) where
  -- more was handed on
  pub reads_more : (more : List ℕ) → Reads reader next (waiting ++ more) (handed ++ more)
  reads_more more = record {
    passed = h.passed;
    begun = h.begun;
    joined = ap (λ (k : List ℕ). k ++ more) h.joined
        ∙ append_assoc h.passed (h.begun ++ waiting) more
        ∙ ap (λ (k : List ℕ). h.passed ++ k) (append_assoc h.begun waiting more);
    represents = h.represents;
    lost = h.lost;
  }

  -- bytes are passed over
  pub reads_pass : (next' : Next) (count : ℕ) → (next ≡ Here → ⊥) → Reads reader next' (drop count waiting) handed
  reads_pass next' count other =
      let none : h.begun ≡ [] = h.lost other in
      record {
        passed = h.passed ++ take count waiting;
        begun = [];
        joined = h.joined ∙ ap (λ (k : List ℕ). h.passed ++ (k ++ waiting)) none
            ∙ ap (λ (k : List ℕ). h.passed ++ k) (sym (take-append-drop count waiting))
            ∙ sym (append_assoc h.passed (take count waiting) (drop count waiting));
        represents = subst (λ (k : List ℕ). Represents reader k []) none h.represents;
        lost = λ o. refl;
      }

  -- nothing is begun, and the next record is to be found or not
  pub reads_as : (next' : Next) → (next ≡ Here → ⊥) → Reads reader next' waiting handed
  reads_as next' other = record {
    passed = h.passed;
    begun = h.begun;
    joined = h.joined;
    represents = h.represents;
    lost = λ o. h.lost other;
  }

  -- what is begun is given up
  pub reads_anew : (reader' : RecordReader) (next' : Next) → Represents reader' [] []
      → Reads reader' next' waiting handed
  reads_anew reader' next' fresh = record {
    passed = h.passed ++ h.begun;
    begun = [];
    joined = h.joined ∙ sym (append_assoc h.passed h.begun waiting);
    represents = fresh;
    lost = λ o. refl;
  }

  -- all that waits is taken
  pub reads_on : (reader' : RecordReader) → next ≡ Here → record_of.Takes reader reader' waiting
      → Reads reader' next [] handed
  reads_on reader' here takes = record {
    passed = h.passed;
    begun = h.begun ++ waiting;
    joined = h.joined ∙ ap (λ (k : List ℕ). h.passed ++ k) (sym (append-nil (h.begun ++ waiting)));
    represents = takes h.begun [] h.represents;
    lost = λ o. absurd (o here);
  }

  -- a record is whole
  module _ (used limit : ℕ) (r : List ℕ)
      (filled : After reader (take used waiting) (λ rs bytes. IsWhole limit (rs ++ r ∷ []) bytes)) where
    abbrev spelled : List ℕ
    spelled = h.begun ++ take used waiting

    apart : handed ≡ h.passed ++ (spelled ++ drop used waiting)
    apart = h.joined
        ∙ ap (λ (k : List ℕ). h.passed ++ (h.begun ++ k)) (sym (take-append-drop used waiting))
        ∙ ap (λ (k : List ℕ). h.passed ++ k) (sym (append_assoc h.begun (take used waiting) (drop used waiting)))

    pub reads_record : (reader' : RecordReader) (next' : Next) → Represents reader' [] []
        → Reads reader' next' (drop used waiting) handed
    reads_record reader' next' fresh = record {
      passed = h.passed ++ spelled;
      begun = [];
      joined = apart ∙ sym (append_assoc h.passed spelled (drop used waiting));
      represents = fresh;
      lost = λ o. refl;
    }

    is_marked : Marked r spelled
    is_marked =
        let whole = (filled h.begun [] h.represents).stream in
        let all : spelled ≡ whole.0 =
        whole.1.1.2 ∙ ap (λ (k : List ℕ). whole.0 ++ k) whole.1.1.1 ∙ append-nil whole.0 in
        subst (λ (k : List ℕ). Marked r k) (sym all) whole.1.1.0

    pub carries : (first base : ℕ) (arrivals : List Arrival) → IsFront (given first arrivals) base handed
        → Carries arrivals r
    carries first base arrivals front = record {
      first = first;
      place = base + length h.passed;
      marked = spelled;
      marks = is_marked;
      stands = front_first (given first arrivals) (base + length h.passed) spelled (drop used waiting)
          (front_rest (given first arrivals) base h.passed (spelled ++ drop used waiting)
          (subst (λ (k : List ℕ). IsFront (given first arrivals) base k) apart front));
    }

-- nothing is begun, and nothing waits
pub reads_none : (reader : RecordReader) (next : Next) (handed : List ℕ) → Represents reader [] []
    → Reads reader next [] handed
reads_none reader next handed fresh = record {
  passed = handed;
  begun = [];
  joined = sym (append-nil handed);
  represents = fresh;
  lost = λ o. refl;
}

-- ---- a direction, or none

-- what is read of whatever was handed on is read otherwise
pub has_so : (d : Option Direction) (reader reader' : RecordReader) (next next' : Next) (waiting waiting' : List ℕ)
    (arrivals : List Arrival)
    → ((handed : List ℕ) → Reads reader next waiting handed → Reads reader' next' waiting' handed)
    → HasAt d reader next waiting arrivals → HasAt d reader' next' waiting' arrivals
has_so None reader reader' next next' waiting waiting' arrivals f h = (h.0, f [] h.1)
has_so (Some d) reader reader' next next' waiting waiting' arrivals f h = (h.0, h.1, h.2, f h.1 h.3)

-- the same where a direction is equal
pub has_same : (d d' : Option Direction) (reader reader' : RecordReader) (next next' : Next) (waiting waiting' : List ℕ)
    (arrivals : List Arrival) → d' ≡ d → reader' ≡ reader → next' ≡ next → waiting' ≡ waiting
    → HasAt d reader next waiting arrivals → HasAt d' reader' next' waiting' arrivals
has_same d d' reader reader' next next' waiting waiting' arrivals a b c e h =
    subst (λ k. HasAt k reader' next' waiting' arrivals) (sym a)
    (subst (λ k. HasAt d k next' waiting' arrivals) (sym b)
    (subst (λ k. HasAt d reader k waiting' arrivals) (sym c)
    (subst (λ (k : List ℕ). HasAt d reader next k arrivals) (sym e) h)))

-- all is given up
pub has_none : (d : Option Direction) (reader reader' : RecordReader) (next next' : Next) (waiting : List ℕ)
    (arrivals : List Arrival) → Represents reader' [] [] → HasAt d reader next waiting arrivals
    → HasAt d reader' next' [] arrivals
has_none d reader reader' next next' waiting arrivals fresh =
    has_so d reader reader' next next' waiting [] arrivals (λ handed h. reads_none reader' next' handed fresh)

-- a direction begins
pub has_begun : (d : Direction) (reader : RecordReader) (next next' : Next) (waiting : List ℕ) (arrivals : List Arrival)
    → Stands d [] 0 [] → HasAt None reader next waiting arrivals → HasAt (Some d) reader next' waiting arrivals
has_begun d reader next next' waiting arrivals stands h = (
  0,
  [],
  subst (λ (k : List Arrival). Stands d k 0 []) (sym h.0) stands,
  record {
    passed = h.1.passed;
    begun = h.1.begun;
    joined = h.1.joined;
    represents = h.1.represents;
    lost = λ o. middle_nil h.1.passed h.1.begun waiting h.1.joined;
  },
)

-- a record is whole
pub has_record : (d : Option Direction) (reader reader' : RecordReader) (next next' : Next) (waiting : List ℕ)
    (arrivals : List Arrival) (used limit : ℕ) (r : List ℕ) → Represents reader' [] []
    → After reader (take used waiting) (λ rs bytes. IsWhole limit (rs ++ r ∷ []) bytes)
    → HasAt d reader next waiting arrivals
    → HasAt d reader' next' (drop used waiting) arrivals × Carries arrivals r
has_record None reader reader' next next' waiting arrivals used limit r fresh filled h = (
  (h.0, reads_record reader next waiting [] h.1 used limit r filled reader' next' fresh),
  carries reader next waiting [] h.1 used limit r filled 0 0 arrivals tt,
)
has_record (Some d) reader reader' next next' waiting arrivals used limit r fresh filled h = (
  (h.0, h.1, h.2, reads_record reader next waiting h.1 h.3 used limit r filled reader' next' fresh),
  carries reader next waiting h.1 h.3 used limit r filled d.first h.0 arrivals h.2.front,
)

-- ---- a segment comes, and holes are skipped

module _ (d d' : Direction) (reader : RecordReader) (next : Next) (waiting : List ℕ) (arrivals : List Arrival)
    (h : HasAt (Some d) reader next waiting arrivals) where
  pub has_come : (sequence : ℕ) (bytes out out' : List ℕ) → Takes d d' sequence bytes out out' → out ≡ waiting
      → HasAt (Some d') reader next out' (arrivals ++ arrival_at d sequence bytes ∷ [])
  has_come sequence bytes out out' t e = (
    h.0,
    h.1 ++ t.handed,
    t.stands arrivals h.0 h.1 h.2,
    subst (λ (k : List ℕ). Reads reader next k (h.1 ++ t.handed))
        (ap (λ (k : List ℕ). k ++ t.handed) (sym e) ∙ sym t.appended)
        (reads_more reader next waiting h.1 h.3 t.handed),
  )

  pub has_more : (out out' : List ℕ) → HandsOn d d' out out' → out ≡ waiting
      → HasAt (Some d') reader next out' arrivals
  has_more out out' t e = (
    h.0,
    h.1 ++ t.handed,
    t.stands arrivals h.0 h.1 h.2,
    subst (λ (k : List ℕ). Reads reader next k (h.1 ++ t.handed))
        (ap (λ (k : List ℕ). k ++ t.handed) (sym e) ∙ sym t.appended)
        (reads_more reader next waiting h.1 h.3 t.handed),
  )

  -- no byte is missing
  pub has_next : IsOfSame d d' → Skips d d' (Some 0) → HasAt (Some d') reader next waiting arrivals
  has_next same skips = (
    h.0,
    h.1,
    record {
      due = omega (arith, skips.0, h.2.due);
      front = subst (λ (k : ℕ). IsFront (given k arrivals) h.0 h.1) (sym same.first) h.2.front;
      held = (skips.1 arrivals h.0 h.1 h.2).stands.held;
    },
    h.3,
  )

  -- some are, and what was handed on is given up
  pub has_skipped : (missing : ℕ) (reader' : RecordReader) (next' : Next) → Skips d d' (Some missing)
      → Represents reader' [] [] → HasAt (Some d') reader' next' [] arrivals
  has_skipped missing reader' next' skips fresh = (
    d'.due,
    [],
    (skips.1 arrivals h.0 h.1 h.2).stands,
    reads_none reader' next' [] fresh,
  )

-- what is taken of bytes are some first of them
part_of : {T : Type 0} (result : Result T Refusal) (bytes : List ℕ)
    → (count : ℕ) × (taken_part result bytes ≡ take count bytes)
part_of (Ok done) bytes = (length bytes, sym (take_all (length bytes) bytes (omega arith)))
part_of (Err refused) bytes = (taken_of refused, refl)

pub has_taken : {T : Type 0} (d d' : Direction) (reader : RecordReader) (next : Next) (waiting : List ℕ)
    (arrivals : List Arrival) (sequence : ℕ) (bytes out out' : List ℕ) (result : Result T Refusal)
    → HasAt (Some d) reader next waiting arrivals → Takes d d' sequence (taken_part result bytes) out out'
    → out ≡ waiting
    → (more : List Arrival) × AllByRecursion (IsPart sequence bytes) more
    × HasAt (Some d') reader next out' (arrivals ++ more)
has_taken d d' reader next waiting arrivals sequence bytes out out' result h takes e = (
  arrival_at d sequence (taken_part result bytes) ∷ [],
  ((refl, part_of result bytes), tt),
  has_come d d' reader next waiting arrivals h sequence (taken_part result bytes) out out' takes e,
)

-- ---- the direction and what is read of it

-- only what was taken is dropped
pub drops_keeps : (old new : Side) → Drops old new → Keeps old new
drops_keeps old new d = record {
  keeps = λ arrivals h. has_same old.direction new.direction old.reader new.reader old.next new.next
      (untaken_of old) (untaken_of new) arrivals d.direction d.reader d.next
      (ap (λ (k : ℕ). drop k new.due.items) d.at ∙ d.due) h;
}

-- bytes are passed over where no record has begun
pub passes_keeps : (old new : Side) (count : ℕ) → (old.next ≡ Here → ⊥) → Passes old new count → Keeps old new
passes_keeps old new count other p = record {
  keeps = λ arrivals h.
      has_same old.direction new.direction old.reader new.reader old.next new.next (drop count (untaken_of old))
      (untaken_of new) arrivals p.direction p.reader p.next p.untaken
      (has_so old.direction old.reader old.reader old.next old.next (untaken_of old) (drop count (untaken_of old))
      arrivals (λ handed k. reads_pass old.reader old.next (untaken_of old) handed k old.next count other) h);
}

-- all is given up
pub gives_keeps : (old new : Side) → GivesUp old new → Keeps old new
gives_keeps old new g = record {
  keeps = λ arrivals h.
      let none : untaken_of new ≡ [] = ap (λ (k : ℕ). drop k new.due.items) g.at ∙ g.due in
      subst (λ (k : List ℕ). HasAt new.direction new.reader new.next k arrivals) (sym none)
      (subst (λ k. HasAt k new.reader new.next [] arrivals) (sym g.direction)
      (has_none old.direction old.reader new.reader old.next new.next (untaken_of old) arrivals g.reader h));
}

-- a segment comes
pub side_took : {T : Type 0} (old new : Side) (d d' : Direction) (sequence : ℕ) (bytes : List ℕ)
    (result : Result T Refusal) → old.direction ≡ Some d → new.direction ≡ Some d' → new.reader ≡ old.reader
    → new.next ≡ old.next → old.at ≡ 0 → new.at ≡ 0
    → Takes d d' sequence (taken_part result bytes) old.due.items new.due.items → Comes old new sequence bytes
side_took old new d d' sequence bytes result was is same_reader same_next at at' takes = record {
  comes = λ arrivals h.
      let whole : old.due.items ≡ untaken_of old = ap (λ (k : ℕ). drop k old.due.items) (sym at) in
      let k = has_taken d d' old.reader old.next (untaken_of old) arrivals sequence bytes old.due.items new.due.items
      result (subst (λ x. HasAt x old.reader old.next (untaken_of old) arrivals) was h) takes whole in (
        k.0,
        k.1,
        has_same (Some d') new.direction old.reader new.reader old.next new.next new.due.items (untaken_of new)
            (arrivals ++ k.0) is same_reader same_next (ap (λ (x : ℕ). drop x new.due.items) at') k.2,
      );
}

-- a part of a segment comes, and no more of it
pub side_came : {T : Type 0} (old new : Side) (d d' : Direction) (sequence : ℕ) (bytes : List ℕ) (count : ℕ)
    (result : Result T Refusal) → old.direction ≡ Some d → new.direction ≡ Some d' → new.reader ≡ old.reader
    → new.next ≡ old.next → old.at ≡ 0 → new.at ≡ 0 → taken_part result bytes ≡ take count bytes
    → Takes d d' sequence (taken_part result bytes) old.due.items new.due.items
    → ComesFirst old new sequence bytes count
side_came old new d d' sequence bytes count result was is same_reader same_next at at' part takes = record {
  comes = λ arrivals h.
      let whole : old.due.items ≡ untaken_of old = ap (λ (k : ℕ). drop k old.due.items) (sym at) in
      let a = arrival_at d sequence (taken_part result bytes) in
      let k = has_come d d' old.reader old.next (untaken_of old) arrivals
      (subst (λ x. HasAt x old.reader old.next (untaken_of old) arrivals) was h) sequence (taken_part result bytes)
      old.due.items new.due.items takes whole in (
        a,
        refl,
        part,
        has_same (Some d') new.direction old.reader new.reader old.next new.next new.due.items (untaken_of new)
            (arrivals ++ a ∷ []) is same_reader same_next (ap (λ (x : ℕ). drop x new.due.items) at') k,
      );
}

-- the same as of a side whose other bytes were dropped before
pub first_after : (old mid new : Side) (sequence : ℕ) (bytes : List ℕ) (count : ℕ) → Keeps old mid
    → ComesFirst mid new sequence bytes count → ComesFirst old new sequence bytes count
first_after old mid new sequence bytes count keeps comes =
    record { comes = λ arrivals h. comes.comes arrivals (keeps.keeps arrivals h) }

-- the same as of a side whose other bytes were dropped before
pub comes_after : (old mid new : Side) (sequence : ℕ) (bytes : List ℕ) → Keeps old mid → Comes mid new sequence bytes
    → Comes old new sequence bytes
comes_after old mid new sequence bytes keeps comes =
    record { comes = λ arrivals h. comes.comes arrivals (keeps.keeps arrivals h) }

-- no segment comes
pub comes_none : (old new : Side) (sequence : ℕ) (bytes : List ℕ) → Keeps old new → Comes old new sequence bytes
comes_none old new sequence bytes keeps = record {
  comes = λ arrivals h. (
    [],
    tt,
    subst (λ (k : List Arrival). Has new k) (sym (append-nil arrivals)) (keeps.keeps arrivals h),
  );
}

-- what is due is handed on
pub side_handed : (old new : Side) (d d' : Direction) → old.direction ≡ Some d → new.direction ≡ Some d'
    → new.reader ≡ old.reader → new.next ≡ old.next → old.at ≡ 0 → new.at ≡ 0
    → HandsOn d d' old.due.items new.due.items → Keeps old new
side_handed old new d d' was is same_reader same_next at at' hands = record {
  keeps = λ arrivals h.
      let whole : old.due.items ≡ untaken_of old = ap (λ (k : ℕ). drop k old.due.items) (sym at) in
      has_same (Some d') new.direction old.reader new.reader old.next new.next new.due.items (untaken_of new) arrivals
      is same_reader same_next (ap (λ (x : ℕ). drop x new.due.items) at')
      (has_more d d' old.reader old.next (untaken_of old) arrivals
      (subst (λ x. HasAt x old.reader old.next (untaken_of old) arrivals) was h) old.due.items new.due.items hands
      whole);
}

-- no byte is missing before the next that is held
pub side_next : (old new : Side) (d d' : Direction) → old.direction ≡ Some d → new.direction ≡ Some d'
    → new.reader ≡ old.reader → new.next ≡ old.next → untaken_of new ≡ untaken_of old → IsOfSame d d'
    → Skips d d' (Some 0) → Keeps old new
side_next old new d d' was is same_reader same_next same of_same skips = record {
  keeps = λ arrivals h.
      has_same (Some d') new.direction old.reader new.reader old.next new.next (untaken_of old) (untaken_of new)
      arrivals is same_reader same_next same
      (has_next d d' old.reader old.next (untaken_of old) arrivals
      (subst (λ x. HasAt x old.reader old.next (untaken_of old) arrivals) was h) of_same skips);
}

-- some are, and what was handed on is given up
pub side_skipped : (old new : Side) (d d' : Direction) (missing : ℕ) → old.direction ≡ Some d
    → new.direction ≡ Some d' → Skips d d' (Some missing) → Represents new.reader [] [] → new.at ≡ 0
    → new.due.items ≡ [] → Keeps old new
side_skipped old new d d' missing was is skips fresh at due = record {
  keeps = λ arrivals h.
      let none : untaken_of new ≡ [] = ap (λ (k : ℕ). drop k new.due.items) at ∙ due in
      subst (λ (k : List ℕ). HasAt new.direction new.reader new.next k arrivals) (sym none)
      (subst (λ x. HasAt x new.reader new.next [] arrivals) (sym is)
      (has_skipped d d' old.reader old.next (untaken_of old) arrivals
      (subst (λ x. HasAt x old.reader old.next (untaken_of old) arrivals) was h) missing new.reader new.next skips
      fresh));
}

-- all is let go
pub lets_go : (mid new : Side) → mid.direction ≡ None → GivesUp mid new → Has new []
lets_go mid new none g =
    let empty : untaken_of new ≡ [] = ap (λ (k : ℕ). drop k new.due.items) g.at ∙ g.due in
    subst (λ (k : List ℕ). HasAt new.direction new.reader new.next k []) (sym empty)
    (subst (λ k. HasAt k new.reader new.next [] []) (sym (g.direction ∙ none))
    (refl, reads_none new.reader new.next [] g.reader))

-- a record is whole
pub side_record : (old new : Side) (used : ℕ) (piece r : List ℕ) (step : RecordStep) → new.direction ≡ old.direction
    → Represents new.reader [] [] → untaken_of new ≡ drop used (untaken_of old) → piece ≡ untaken_of old
    → step ≡ Whole used → IsFilled old.reader piece r (Ok step) → Steps old new Record r
side_record old new used piece r step same fresh rest all whole filled = record {
  steps = λ arrivals h.
      let is : IsFilled old.reader piece r (Ok (Whole used)) =
      subst (λ x. IsFilled old.reader piece r (Ok x)) whole filled in
      let k = has_record old.direction old.reader new.reader old.next new.next (untaken_of old) arrivals used
      old.reader.limit r fresh
      (subst (λ (x : List ℕ). After old.reader (take used x)
      (λ rs bytes. IsWhole old.reader.limit (rs ++ r ∷ []) bytes)) all is) h in (
        subst (λ (x : List ℕ). HasAt new.direction new.reader new.next x arrivals) (sym rest)
            (subst (λ x. HasAt x new.reader new.next (drop used (untaken_of old)) arrivals) (sym same) k.0),
        k.1,
      );
}

-- all that waits is taken
pub side_more : (old new : Side) (reader : RecordReader) (piece r : List ℕ) (step : RecordStep)
    → new.direction ≡ old.direction → old.next ≡ Here → new.next ≡ old.next → new.reader ≡ reader
    → piece ≡ untaken_of old → step ≡ More → Fills old.reader reader piece r (Ok step)
    → untaken_of new ≡ drop (length piece) (untaken_of old) → Steps old new Waits r
side_more old new reader piece r step same here same_next same_reader all more fills rest = record {
  steps = λ arrivals h.
      let is : Fills old.reader reader piece r (Ok More) =
      subst (λ x. Fills old.reader reader piece r (Ok x)) more fills in
      let takes : record_of.Takes old.reader reader (untaken_of old) =
      subst (λ (x : List ℕ). record_of.Takes old.reader reader x) all is.1 in
      let none : untaken_of new ≡ [] =
      rest ∙ drop_whole (length piece) (untaken_of old) (ap (λ (x : List ℕ). length x) all) in (
        has_same old.direction new.direction reader new.reader old.next new.next [] (untaken_of new) arrivals same
            same_reader same_next none
            (has_so old.direction old.reader reader old.next old.next (untaken_of old) [] arrivals
            (λ handed k. reads_on old.reader old.next (untaken_of old) handed k reader here takes) h),
        tt,
      );
}

-- what comes is no record
pub steps_other : (old new : Side) (s : Step) (r : List ℕ) → Keeps old new → (s ≡ Record → ⊥) → Steps old new s r
steps_other old new s r keeps other =
    record { steps = λ arrivals h. (keeps.keeps arrivals h, finds_none s arrivals r other) }

pub steps_told : (old new : Side) (told : Told) (count : ℕ) (r : List ℕ) → Keeps old new
    → Steps old new (Tells told count) r
steps_told old new told count r keeps = record { steps = λ arrivals h. (keeps.keeps arrivals h, tt) }

pub steps_long : (old new : Side) (r : List ℕ) → Keeps old new → Steps old new TooLong r
steps_long old new r keeps = record { steps = λ arrivals h. (keeps.keeps arrivals h, tt) }

pub steps_waits : (old new : Side) (r : List ℕ) → Keeps old new → Steps old new Waits r
steps_waits old new r keeps = record { steps = λ arrivals h. (keeps.keeps arrivals h, tt) }

pub steps_after : (old mid new : Side) (s : Step) (r : List ℕ) → Keeps old mid → Steps mid new s r → Steps old new s r
steps_after old mid new s r keeps steps = record { steps = λ arrivals h. steps.steps arrivals (keeps.keeps arrivals h) }

-- nothing of it changes
pub side_same : (old new : Side) → new.direction ≡ old.direction → new.reader ≡ old.reader → new.next ≡ old.next
    → untaken_of new ≡ untaken_of old → Keeps old new
side_same old new a b c e = record {
  keeps = λ arrivals h. has_same old.direction new.direction old.reader new.reader old.next new.next (untaken_of old)
      (untaken_of new) arrivals a b c e h;
}

-- what is begun is given up
pub side_anew : (old new : Side) → BeginsAnew old new → Keeps old new
side_anew old new b = record {
  keeps = λ arrivals h.
      has_same old.direction new.direction new.reader new.reader new.next new.next (untaken_of old) (untaken_of new)
      arrivals b.direction refl refl b.untaken
      (has_so old.direction old.reader new.reader old.next new.next (untaken_of old) (untaken_of old) arrivals
      (λ handed k. reads_anew old.reader old.next (untaken_of old) handed k new.reader new.next b.reader) h);
}

-- nothing is begun, and the next record is to be found or not
pub side_as : (old new : Side) → (old.next ≡ Here → ⊥) → new.direction ≡ old.direction → new.reader ≡ old.reader
    → untaken_of new ≡ untaken_of old → Keeps old new
side_as old new other same same_reader rest = record {
  keeps = λ arrivals h.
      has_same old.direction new.direction old.reader new.reader new.next new.next (untaken_of old) (untaken_of new)
      arrivals same same_reader refl rest
      (has_so old.direction old.reader old.reader old.next new.next (untaken_of old) (untaken_of old) arrivals
      (λ handed k. reads_as old.reader old.next (untaken_of old) handed k new.next other) h);
}

pub keeps_join : (a b c : Side) → Keeps a b → Keeps b c → Keeps a c
keeps_join a b c x y = record { keeps = λ arrivals h. y.keeps arrivals (x.keeps arrivals h) }

-- ---- what begins

pub keeps_all : (a : Side) → Keeps a a
keeps_all a = record { keeps = λ arrivals h. h }

-- before the first segment
pub has_new : (reader : RecordReader) (next : Next) (due : List ℕ) → Represents reader [] [] → due ≡ []
    → HasAt None reader next (drop 0 due) []
has_new reader next due fresh e =
    subst (λ (k : List ℕ). HasAt None reader next (drop 0 k) []) (sym e) (refl, reads_none reader next [] fresh)

-- with a segment
pub side_begun : (old new : Side) (d : Direction) → old.direction ≡ None → new.direction ≡ Some d → Stands d [] 0 []
    → new.reader ≡ old.reader → untaken_of new ≡ untaken_of old → Keeps old new
side_begun old new d none some stands same_reader rest = record {
  keeps = λ arrivals h.
      has_same (Some d) new.direction old.reader new.reader new.next new.next (untaken_of old) (untaken_of new) arrivals
      some same_reader refl rest
      (has_begun d old.reader old.next new.next (untaken_of old) arrivals stands
      (subst (λ x. HasAt x old.reader old.next (untaken_of old) arrivals) none h));
}

-- ---- what comes

pub ruleset coming = (side_same, steps_told, steps_waits, steps_after)
