-- What an outcome says of the values that begin the bytes.
use Rattle.std.proofs.Common.{◌≡◌, ◌⊎◌, inl, inr, ℕ, ◌+◌, ◌%◌, ◌≤◌, List, [], ◌++◌, length, take, drop, refl, ap, sym}
use Rattle.std.proofs.Common.{◌∙◌, subst, arith, append-nil, Result, Ok, Err}
use Rattle.std.specs.Prelude.{⊤}
use Rattle.std.proofs.lemmas.List.{length-take, take_all, take-append-drop}
use Rattle.std.proofs.Math.Seq.{take-append-add}
use Rattle.xdr_types.specs.Kinds.{KindView, Lists}
use Rattle.xdr_types.specs.Tree.{Tree}
use Rattle.xdr_types.specs.Spelling.{bytes_of}
use Rattle.xdr_types.specs.View.{tree}
use Rattle.xdr_types.specs.Within.{Bounds, FitsWithin}
use Rattle.xdr_types.specs.Outcome as outcome
use Rattle.xdr_types.specs.Outcome.{Ending, Pending, Whole, IsEvent, Outcome}
use Rattle.xdr_types.specs.declared.kind.KindId.{KindId}
use Rattle.xdr_types.specs.declared.value.Value.{Value}
use Rattle.xdr_types.proofs.Unique.{one}
use Rattle.xdr_laws.specs.Laws.{IsRefusal}
use Rattle.xdr_laws.proofs.OneOutcome.{one_outcome}
use Rattle.xdr_laws.proofs.Longer.{stays}
use Rattle.xdr_laws.proofs.Refused.{refused_for_good}
use Rattle.xdr_laws.proofs.Whole.{whole_exactly}
use Rattle.xdr_stream.specs.Sees.{Ends}
use Rattle.xdr_stream.specs.Represents as reported
use Rattle.xdr_stream.specs.Represents.{taken}
use Rattle.xdr_stream.specs.Finish as stream
use Rattle.xdr_stream.specs.declared.fault.Reason.{Reason}
use Rattle.xdr_stream.specs.declared.fault.Reason.TheVariants as reason
use Rattle.xdr_stream.specs.declared.fault.DecodeFault.{DecodeFault}
use Rattle.xdr_stream.specs.declared.reader.Progress.{Progress}
use Rattle.xdr_stream.specs.declared.reader.Progress.TheVariants.{More, Done}
use Rattle.xdr_stream.proofs.Answering.{fails_on}
use Rattle.xdr_codec.specs.Refused.{MayFollow, IsRefused, HasNoneWithin}
use Rattle.xdr_codec.specs.Represents.{AnswersAs, FinishesAs, Fails, IsStarted, IsSame}
use Rattle.xdr_codec.specs.Outcomes.{HasOutcome, EndsIn}
use Rattle.xdr_codec.specs.declared.decoder.Decoder.{Decoder}

-- a reason is that the bytes are cut, or another
abbrev IsCut : Reason → Type 0
IsCut reason.Truncated = ⊤
IsCut _ = ⊥

abbrev IsOther : Reason → Type 0
IsOther why = why ≡ reason.Truncated → ⊥

not_cut : (why : Reason) → (IsCut why → ⊥) → IsOther why
not_cut why other e = other (subst (λ (w : Reason). IsCut w) (sym e) tt)

cut_or : (why : Reason) → (why ≡ reason.Truncated) ⊎ IsOther why
cut_or reason.BadBool = inr (not_cut reason.BadBool (λ x. x))
cut_or reason.BadNumbered = inr (not_cut reason.BadNumbered (λ x. x))
cut_or reason.BadCase = inr (not_cut reason.BadCase (λ x. x))
cut_or reason.TooLong = inr (not_cut reason.TooLong (λ x. x))
cut_or reason.BadPadding = inr (not_cut reason.BadPadding (λ x. x))
cut_or reason.TooDeep = inr (not_cut reason.TooDeep (λ x. x))
cut_or reason.TooLarge = inr (not_cut reason.TooLarge (λ x. x))
cut_or reason.Truncated = inl refl
cut_or reason.NoMemory = inr (not_cut reason.NoMemory (λ x. x))

module _ (s : List KindView) (t : ℕ) (l : Bounds) (units : l.bytes % 4 ≡ 0) where
  -- a whole value is within the limits, and the first bytes are its encoding
  pub whole : (b : List ℕ) (v : Tree) (p : ℕ) → Outcome s t l b (Whole v p)
      → FitsWithin s t l v × (p ≤ length b) × (bytes_of s t v ≡ take p b)
  whole b v p o = (((whole_exactly s t l b v p units).0 o).0, o.0.within, o.2.spelled)

  -- where nothing has happened, no value begins the bytes
  pub pending_none : (b : List ℕ) → Outcome s t l b Pending → HasNoneWithin s t l b
  pending_none b o v x within same =
      let n : ℕ = length (bytes_of s t v) in
      let full : Outcome s t l b (Whole v n) = (whole_exactly s t l b v n units).1 (within, x, sym same, refl) in
      let equal : Pending ≡ Whole v n = one_outcome s t l b Pending (Whole v n) o full in
      subst (λ (e : Ending). IsEvent e) (sym equal) tt

  refusal_none : (b : List ℕ) (e : Ending) → IsRefusal e → Outcome s t l b e → HasNoneWithin s t l b
  refusal_none b e r o v x within same =
      refused_for_good s t l b e units r o v [] x within (append-nil b ∙ sym same)

  ends_none : (why : Reason) (b : List ℕ) (p : ℕ) → (why ≡ reason.NoMemory → ⊥) → Ends s t l why b p
      → HasNoneWithin s t l b
  ends_none reason.BadBool b p known o = refusal_none b (outcome.Broken outcome.bad_bool p) tt o
  ends_none reason.BadNumbered b p known o = refusal_none b (outcome.Broken outcome.bad_numbered p) tt o
  ends_none reason.BadCase b p known o = refusal_none b (outcome.Broken outcome.bad_case p) tt o
  ends_none reason.TooLong b p known o = refusal_none b (outcome.Broken outcome.too_long p) tt o
  ends_none reason.BadPadding b p known o = refusal_none b (outcome.Broken outcome.bad_padding p) tt o
  ends_none reason.TooDeep b p known o = refusal_none b (outcome.TooDeep p) tt o
  ends_none reason.TooLarge b p known o = refusal_none b (outcome.TooLarge p) tt o
  ends_none reason.Truncated b p known o = absurd o
  ends_none reason.NoMemory b p known o = absurd (known refl)

  -- bytes that are refused begin with no value, however they go on
  pub fails : (f : DecodeFault) (b : List ℕ) → reported.Fails s t l f b → Fails s t l f b
  fails f b e = (
    (λ is. subst (λ (w : Reason). Ends s t l w (b ++ []) f.at) is (e.0 [])),
    (λ known y. ends_none f.why (b ++ y) f.at known (e.0 y)),
    e.1,
  )

  -- the answer to a piece
  pub answers : (b piece : List ℕ) (r : Result Progress DecodeFault) → reported.Answers s t l b piece r
      → AnswersAs s t l (b ++ taken piece r) r
  answers b piece (Ok More) o = pending_none (b ++ piece) o
  answers b piece (Ok (Done used)) o =
      let w = whole (b ++ piece) o.0 (length b + used) o.1 in (o.0, (w.0, w.2 ∙ take-append-add b piece used))
  answers b piece (Err f) e = fails f (b ++ piece) e

  cut_none : (why : Reason) (b : List ℕ) → why ≡ reason.Truncated → Outcome s t l b Pending
      → IsRefused (HasNoneWithin s t l) why b
  cut_none why b is o y follows =
      let nothing : y ≡ [] = subst (λ (w : Reason). MayFollow w y) is follows in
      subst (λ (x : List ℕ). HasNoneWithin s t l x) (sym (ap (λ (z : List ℕ). b ++ z) nothing ∙ append-nil b))
      (pending_none b o)

  -- a fault at the end of the bytes
  pub refused : (f : DecodeFault) (b : List ℕ) → stream.EndsWith s t l b f
      → IsRefused (HasNoneWithin s t l) f.why b × (f.at ≤ length b) × (f.why ≡ reason.Truncated → f.at ≡ length b)
  refused f b e = elim (cut_or f.why) [
    | inl cut ↦ (cut_none f.why b cut (e.0 cut).0, omega (arith, (e.0 cut).1), (λ is. (e.0 is).1))
    | inr other ↦ (
      (λ y follows. ends_none f.why (b ++ y) f.at
          (λ is. subst (λ (w : Reason). MayFollow w y) is follows) ((e.1 other).0 y)),
      (e.1 other).1,
      (λ is. (e.0 is).1),
    )
  ]

  -- the answer to the end
  pub finishes : (b : List ℕ) (r : Result Value DecodeFault) → stream.Finishes s t l b r → FinishesAs s t l b r
  finishes b (Ok v) o =
      let w = whole b (tree v) (length b) o in (w.0, w.2 ∙ take_all (length b) b (omega arith))
  finishes b (Err f) e = refused f b e

  -- at most one value begins the bytes
  pub alone : (b : List ℕ) (v w : Tree) (m n : ℕ) → FitsWithin s t l v → m ≤ length b → bytes_of s t v ≡ take m b
      → FitsWithin s t l w × (n ≤ length b) × (bytes_of s t w ≡ take n b) → (v ≡ w) × (m ≡ n)
  alone b v w m n fit low spelled ours =
      let mine : bytes_of s t v ++ drop m b ≡ b =
      ap (λ (z : List ℕ). z ++ drop m b) spelled ∙ take-append-drop m b in
      let other : bytes_of s t w ++ drop n b ≡ b =
      ap (λ (z : List ℕ). z ++ drop n b) ours.2 ∙ take-append-drop n b in
      let same = one s t v w (drop m b) (drop n b) fit.0 ours.0.0 (mine ∙ sym other) in
      let sizes : length (take m b) ≡ length (take n b) =
      sym (ap (λ (z : List ℕ). length z) spelled) ∙ ap (λ (x : Tree). length (bytes_of s t x)) same.0
      ∙ ap (λ (z : List ℕ). length z) ours.2 in
      (same.0, omega (arith, sizes, length-take m b, length-take n b, low, ours.1))

-- what is said of a decoder's settings after a piece is said of those that it was started with
settled : (Said : List KindView → ℕ → Bounds → Type 0) (s : Lists) (k : KindId) (l : Bounds) (d : Decoder)
    → IsStarted d s k l → Said d.reader.schema.now.kinds d.reader.kind.place d.reader.limits
    → Said s.kinds k.place l
settled Said s k l d set h =
    subst (λ (x : Bounds). Said s.kinds k.place x) set.limits_are
    (subst (λ (x : KindId). Said s.kinds x.place d.reader.limits) set.kind_is
    (subst (λ (x : Lists). Said x.kinds d.reader.kind.place d.reader.limits) set.schema_is h))

still : (s : Lists) (k : KindId) (l : Bounds) (d e : Decoder) → IsStarted d s k l → IsSame d e → IsStarted e s k l
still s k l d e set same = record {
  schema_is = same.schema_is ∙ set.schema_is;
  kind_is = same.kind_is ∙ set.kind_is;
  limits_are = same.limits_are ∙ set.limits_are;
}

module _ (s : Lists) (k : KindId) (l : Bounds) (d e : Decoder) (set : IsStarted d s k l) (same : IsSame d e)
    (b : List ℕ) (used : ℕ) (low : used ≤ length b) where
  -- the value that is given once all of its bytes came is the outcome of all bytes
  pub given : (v : Value) → EndsIn e (take used b) (Ok v) → Outcome s.kinds k.place l b (Whole (tree v) used)
  given v o =
      let first : Outcome s.kinds k.place l (take used b) (Whole (tree v) (length (take used b))) =
      settled (λ (ks : List KindView) (t : ℕ) (x : Bounds).
      Outcome ks t x (take used b) (Whole (tree v) (length (take used b)))) s k l e (still s k l d e set same) o in
      let count : length (take used b) ≡ used = omega (arith, length-take used b, low) in
      subst (λ (x : List ℕ). Outcome s.kinds k.place l x (Whole (tree v) used)) (take-append-drop used b)
      (stays s.kinds k.place l (take used b) (drop used b) (Whole (tree v) used) tt
      (subst (λ (n : ℕ). Outcome s.kinds k.place l (take used b) (Whole (tree v) n)) count first))

  -- a fault then is not that they are cut, and it stays for all bytes
  pub not_given : (f : DecodeFault) → l.bytes % 4 ≡ 0 → HasOutcome d [] b (Ok (Done used))
      → EndsIn e (take used b) (Err f) → stream.EndsWith s.kinds k.place l b f
  not_given f units done end =
      let whole_there = settled (λ (ks : List KindView) (t : ℕ) (x : Bounds).
      reported.Answers ks t x [] b (Ok (Done used))) s k l d set done in
      let at_end : stream.EndsWith s.kinds k.place l (take used b) f =
      settled (λ (ks : List KindView) (t : ℕ) (x : Bounds). stream.EndsWith ks t x (take used b) f) s k l e
      (still s k l d e set same) end in
      let count : length {A = ℕ} [] + used ≡ used = omega arith in
      let w = whole s.kinds k.place l units b whole_there.0 used
      (subst (λ (n : ℕ). Outcome s.kinds k.place l b (Whole whole_there.0 n)) count whole_there.1) in (
        (λ is. absurd (pending_none s.kinds k.place l units (take used b) (at_end.0 is).0 whole_there.0 [] w.0
            (append-nil (bytes_of s.kinds k.place whole_there.0) ∙ w.2))),
        (λ other. subst (λ (x : List ℕ). reported.Fails s.kinds k.place l f x) (take-append-drop used b)
            (fails_on s.kinds k.place l f (take used b) (drop used b) (at_end.1 other))),
      )
