-- What is told of a direction of which it is known what came.
use Rattle.std.proofs.Common.{◌≡◌, ℕ, ◌+◌, ◌≤◌, ◌^◌, List, [], ◌∷◌, ◌++◌, length}
use Rattle.std.proofs.Common.{refl, sym, ap, ◌∙◌, subst, arith, length-append, append_assoc, true}
use Rattle.std.proofs.lemmas.List.Elements.{All-nil}
use Rattle.capture_streams.specs.Laws.{OneRun, HandedIsTheRun}
use Rattle.capture_streams.specs.Segments.{Arrival, IsRun, given}
use Rattle.rpc_record.specs.Marked.{IsContent, Longest, OneLongest, header}
use Rattle.rpc_record.specs.Reading.{IsWhole, TooLongAt, TooLongEnds, WholeHasNoLong, WholeIsLongest}
use Rattle.rpc_record.proofs.Streams.{whole_none, whole_push}
use Rattle.capture_records.specs.declared.finding.TheConstants.{MOST_RECORD}
use Rattle.capture_records.specs.declared.side.Side.{Side}
use Rattle.capture_records.specs.declared.step.Step.{Step}
use Rattle.capture_records.specs.declared.step.Step.TheVariants as step
use Rattle.capture_records.specs.Carried.{AreAll, HasTooLong}
use Rattle.capture_records.specs.Exact.{HasTold, IsToldBy, TakesAll, arrival_of}
use Rattle.capture_records.specs.Follows.{untaken_of}
use Rattle.example_records.specs.Bytes.{content, marked, long_header}

-- What the laws promise: there is one stream, and what was handed on is it.
pub record OneStream : Type 0 where
  pub one : OneRun
  pub whole : HandedIsTheRun

-- Bytes have one longest front of whole records.
pub record OneFront : Type 0 where
  pub longest : OneLongest
  pub whole : WholeIsLongest
  pub no_long : WholeHasNoLong

-- ---- a direction to which these came, which give this stream up to its first hole

module _ (law : OneStream) (first : ℕ) (arrivals : List Arrival) (stream : List ℕ)
    (run : IsRun (given first arrivals) 0 stream) where
  pub handed : (side : Side) (rs : List (List ℕ)) (h : HasTold side first arrivals rs) → h.handed ≡ stream
  handed side rs h =
      law.one (given first arrivals) 0 h.handed stream
      (subst (λ (k : ℕ). IsRun (given k arrivals) 0 h.handed) h.first_is
      (law.whole h.direction arrivals 0 h.handed h.stands h.hole)) run

  -- all bytes of a segment come behind these
  pub came : (old new : Side) (rs : List (List ℕ)) (sequence : ℕ) (bytes : List ℕ) → length stream ≤ 2 ^ 62
      → TakesAll old new sequence bytes → HasTold old first arrivals rs
      → HasTold new first (arrivals ++ arrival_of (length stream) sequence bytes ∷ []) rs
  came old new rs sequence bytes few takes h =
      let size : length h.handed ≡ length stream = ap (λ (k : List ℕ). length k) (handed old rs h) in
      subst (λ (n : ℕ). HasTold new first (arrivals ++ arrival_of n sequence bytes ∷ []) rs) size
      (takes.takes first arrivals rs h (omega (arith, size, few)))

  -- no record is told of bytes that begin with a header above the limit
  pub none_told : TooLongEnds → (side : Side) (at : ℕ) (r : List ℕ) → TooLongAt MOST_RECORD [] at stream
      → HasTold side first arrivals (r ∷ []) → ⊥
  none_told ends side at r long h =
      let there : TooLongAt MOST_RECORD [] at h.handed =
      subst (λ (k : List ℕ). TooLongAt MOST_RECORD [] at k) (sym (handed side (r ∷ []) h)) long in
      let behind : Longest MOST_RECORD [] (h.handed ++ []) = (ends MOST_RECORD at [] h.handed [] there).1 in
      let more = behind.only (r ∷ []) h.whole ((h.begun ++ untaken_of side) ++ []) h.records.within h.records.stream
      (ap (λ (k : List ℕ). k ++ []) h.joined ∙ append_assoc h.whole (h.begun ++ untaken_of side) []) in
      let none : [] ≡ r ∷ more.0 = more.1 in
      absurd cc

  -- where these are all records of the stream
  module _ (front : OneFront) (all : List (List ℕ)) (is : IsWhole MOST_RECORD all stream) where
    told_first : (side : Side) (rs : List (List ℕ)) → HasTold side first arrivals rs
        → (more : List (List ℕ)) × (all ≡ rs ++ more)
    told_first side rs h =
        (front.whole MOST_RECORD all stream is).only rs h.whole (h.begun ++ untaken_of side) h.records.within
        h.records.stream (sym (handed side rs h) ∙ h.joined)

    are_all : (rs : List (List ℕ)) → AreAll first arrivals rs → rs ≡ all
    are_all rs a =
        let same : a.stream ≡ stream = law.one (given first arrivals) 0 a.stream stream a.run run in
        front.longest MOST_RECORD rs all stream
        (subst (λ (k : List ℕ). Longest MOST_RECORD rs k) same a.records) (front.whole MOST_RECORD all stream is)

    none_long : {A : Type 0} (rs : List (List ℕ)) → HasTooLong first arrivals rs → A
    none_long rs t =
        let same : t.stream ≡ stream = law.one (given first arrivals) 0 t.stream stream t.run run in
        absurd (front.no_long MOST_RECORD all stream is rs t.at
        (subst (λ (k : List ℕ). TooLongAt MOST_RECORD rs t.at k) same t.long))

    -- the records that were told, and one more, are not more than all
    too_many : {A : Type 0} (side : Side) (r : List ℕ) → HasTold side first arrivals (all ++ r ∷ []) → A
    too_many side r h =
        let more = told_first side (all ++ r ∷ []) h in
        let size : length all ≡ length ((all ++ r ∷ []) ++ more.0) = ap (λ (k : List (List ℕ)). length k) more.1 in
        let joined : length ((all ++ r ∷ []) ++ more.0) ≡ length (all ++ r ∷ []) + length more.0 =
        length-append (all ++ r ∷ []) more.0 in
        let pushed : length (all ++ r ∷ []) ≡ length all + 1 = length-append all (r ∷ []) in
        absurd (omega (arith, size, joined, pushed))

    -- where all were told, nothing more comes for now
    pub waits : (s : Step) (new : Side) (r : List ℕ) → IsToldBy s new first arrivals all r
        → (s ≡ step.Waits) × HasTold new first arrivals all
    waits step.Record new r h = too_many new r h
    waits step.Waits new r h = (refl, h.0)
    waits (step.Tells told count) new r h = none_long all h
    waits step.TooLong new r h = none_long all h

  -- the one record of the stream comes
  pub comes : OneFront → (one : List ℕ) → IsWhole MOST_RECORD (one ∷ []) stream → (s : Step) (new : Side) (r : List ℕ)
      → IsToldBy s new first arrivals [] r → (s ≡ step.Record) × (r ≡ one) × HasTold new first arrivals (one ∷ [])
  comes front one is step.Record new r h =
      let more = told_first front (one ∷ []) is new (r ∷ []) h in
      let other : one ∷ [] ≡ r ∷ more.0 = more.1 in
      let same : r ≡ one = cc in
      (refl, same, subst (λ (k : List ℕ). HasTold new first arrivals (k ∷ [])) same h)
  comes front one is step.Waits new r h =
      let none : [] ≡ one ∷ [] = are_all front (one ∷ []) is [] h.1 in
      absurd cc
  comes front one is (step.Tells told count) new r h = none_long front (one ∷ []) is [] h
  comes front one is step.TooLong new r h = none_long front (one ∷ []) is [] h

-- ---- the bytes of the examples

pub marked_whole : IsWhole MOST_RECORD (content ∷ []) marked
unfolding header
marked_whole = whole_push MOST_RECORD [] [] content (whole_none MOST_RECORD) (omega arith) (omega arith)

pub header_long : TooLongAt MOST_RECORD [] 0 long_header
unfolding header
header_long = record {
  before = [];
  content = [];
  last = true;
  count = 16781313;
  more = [];
  upto = record {
    whole = [];
    firsts = [];
    stream = refl;
    within = All-nil (λ (r : List ℕ). length r ≤ MOST_RECORD);
    each = All-nil IsContent;
    fits = omega arith;
    joined = refl;
    spelled = refl;
  };
  place = refl;
  counted = omega arith;
  passes = omega arith;
  spelled = refl;
}
