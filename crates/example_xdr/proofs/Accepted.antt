-- Bytes that begin with a value: what `decode` and a decoder say of them.
use Rattle.std.proofs.Common.{◌≡◌, ℕ, ◌≤◌, List, [], ◌++◌, length, take, drop, refl, ap, sym, ◌∙◌, append_assoc, arith}
use Rattle.std.proofs.Common.{subst, Result, Ok, Err, IfOk, IfErr}
use Rattle.std.proofs.lemmas.List.{append-nil, take-append-drop, length-take}
use Rattle.xdr_types.specs.Kinds.{KindView}
use Rattle.xdr_types.specs.Tree.{Tree}
use Rattle.xdr_types.specs.Spelling.{bytes_of}
use Rattle.xdr_types.specs.View.{tree}
use Rattle.xdr_types.specs.Within.{Bounds, FitsWithin}
use Rattle.xdr_types.specs.declared.value.Value.{Value}
use Rattle.xdr_types.proofs.Unique.{one}
use Rattle.xdr_codec.specs.Refused.{IsRefused, HasNoneWithin}
use Rattle.xdr_stream.specs.Represents.{taken, used_of}
use Rattle.xdr_codec.specs.Represents.{AnswersAs, FinishesAs}
use Rattle.xdr_stream.specs.declared.fault.Reason.{Reason}
use Rattle.xdr_stream.specs.declared.fault.Reason.TheVariants as reason
use Rattle.xdr_stream.specs.declared.fault.DecodeFault.{DecodeFault}
use Rattle.xdr_stream.specs.declared.reader.Progress.{Progress}
use Rattle.xdr_stream.specs.declared.reader.Progress.TheVariants.{More, Done}

module _ (kinds : List KindView) (place : ℕ) (limits : Bounds) where
  -- no refusal but an allocation failure stands against bytes that begin with a value
  pub memory : (why : Reason) (b : List ℕ) (t : Tree) (x : List ℕ) → IsRefused (HasNoneWithin kinds place limits) why b
      → FitsWithin kinds place limits t → bytes_of kinds place t ++ x ≡ b → why ≡ reason.NoMemory
  memory reason.BadBool b t x none fit e = absurd (none [] tt t x fit (e ∙ sym (append-nil b)))
  memory reason.BadNumbered b t x none fit e = absurd (none [] tt t x fit (e ∙ sym (append-nil b)))
  memory reason.BadCase b t x none fit e = absurd (none [] tt t x fit (e ∙ sym (append-nil b)))
  memory reason.TooLong b t x none fit e = absurd (none [] tt t x fit (e ∙ sym (append-nil b)))
  memory reason.BadPadding b t x none fit e = absurd (none [] tt t x fit (e ∙ sym (append-nil b)))
  memory reason.TooDeep b t x none fit e = absurd (none [] tt t x fit (e ∙ sym (append-nil b)))
  memory reason.TooLarge b t x none fit e = absurd (none [] tt t x fit (e ∙ sym (append-nil b)))
  memory reason.Truncated b t x none fit e = absurd (none [] refl t x fit (e ∙ sym (append-nil b)))
  memory reason.NoMemory b t x none fit e = refl

  -- the same of an answer
  pub only_memory : {V : Type 0} → (r : Result V DecodeFault) (b : List ℕ) (t : Tree) (x : List ℕ)
      → IfErr r (λ f. IsRefused (HasNoneWithin kinds place limits) f.why b)
      → FitsWithin kinds place limits t → bytes_of kinds place t ++ x ≡ b → IfErr r (λ f. f.why ≡ reason.NoMemory)
  only_memory (Ok v) b t x none fit e = tt
  only_memory (Err f) b t x none fit e = memory f.why b t x none fit e

  -- and what is given is that value
  pub alone : (r : Result (Value × ℕ) DecodeFault) (b : List ℕ) (t : Tree) (n : ℕ)
      → IfOk r (λ p. (u : Tree) (m : ℕ) → FitsWithin kinds place limits u → m ≤ length b
      → bytes_of kinds place u ≡ take m b
      → (u ≡ tree p.0) × (m ≡ p.1))
      → FitsWithin kinds place limits t → n ≤ length b → bytes_of kinds place t ≡ take n b
      → IfOk r (λ p. (tree p.0 ≡ t) × (p.1 ≡ n))
  alone (Ok p) b t n only fit low e = let both = only t n fit low e in (sym both.0, sym both.1)
  alone (Err f) b t n only fit low e = tt

  -- a value of whatever two pieces were taken is that of both
  pub joined : (t v : Tree) (first second : List ℕ) (p q : Progress) → ((used : ℕ) → p ≡ Done used → q ≡ Done 0)
      → FitsWithin kinds place limits t → FitsWithin kinds place limits v
      → bytes_of kinds place v ≡ ([] ++ taken first (Ok p)) ++ taken second (Ok q)
      → bytes_of kinds place t ≡ first ++ second → v ≡ t
  joined t v first second More More again fit fits e whole =
      (one kinds place v t [] [] fits.0 fit.0 (ap (λ (z : List ℕ). z ++ []) (e ∙ sym whole))).0
  joined t v first second More (Done used) again fit fits e whole =
      (one kinds place v t (drop used second) [] fits.0 fit.0
      (ap (λ (z : List ℕ). z ++ drop used second) e ∙ append_assoc first (take used second) (drop used second)
      ∙ ap (λ (z : List ℕ). first ++ z) (take-append-drop used second) ∙ sym whole
      ∙ sym (append-nil (bytes_of kinds place t)))).0
  joined t v first second (Done used) q again fit fits e whole =
      let nothing : taken second (Ok q) ≡ [] = ap (λ (z : Progress). taken second (Ok z)) (again used refl) in
      (one kinds place v t (drop used first ++ second) [] fits.0 fit.0
      (ap (λ (z : List ℕ). z ++ (drop used first ++ second))
      (e ∙ ap (λ (z : List ℕ). take used first ++ z) nothing ∙ append-nil (take used first))
      ∙ sym (append_assoc (take used first) (drop used first) second)
      ∙ ap (λ (z : List ℕ). z ++ second) (take-append-drop used first)
      ∙ sym whole ∙ sym (append-nil (bytes_of kinds place t)))).0

  -- so what the end gives is that value
  pub ended : (t : Tree) (b : List ℕ) (r : Result Value DecodeFault) → FinishesAs kinds place limits b r
      → ((v : Tree) → FitsWithin kinds place limits v → bytes_of kinds place v ≡ b → v ≡ t) → IfOk r (λ v. tree v ≡ t)
  ended t b (Ok v) h only = only (tree v) h.0 h.1
  ended t b (Err f) h only = tt

  -- a first piece that begins with a value is done after that value's bytes
  pub done_at : (piece : List ℕ) (t : Tree) (x : List ℕ) → FitsWithin kinds place limits t
      → bytes_of kinds place t ++ x ≡ piece
      → (r : Result Progress DecodeFault) → AnswersAs kinds place limits ([] ++ taken piece r) r
      → IfOk r (λ p. used_of p ≤ length piece)
      → IfOk r (λ p. p ≡ Done (length (bytes_of kinds place t)))
  done_at piece t x fit e (Ok More) none low = absurd (none t x fit e)
  done_at piece t x fit e (Ok (Done n)) whole low =
      let same = one kinds place whole.0 t (drop n piece) x whole.1.0.0 fit.0
      (ap (λ (z : List ℕ). z ++ drop n piece) whole.1.1 ∙ take-append-drop n piece ∙ sym e) in
      let sizes : length (take n piece) ≡ length (bytes_of kinds place t) =
      ap length (sym whole.1.1) ∙ ap (λ (u : Tree). length (bytes_of kinds place u)) same.0 in
      let all : n ≡ length (bytes_of kinds place t) = omega (arith, sizes, length-take n piece, low) in
      ap Done all
  done_at piece t x fit e (Err f) none low = tt

  -- while some value begins with the bytes so far, no fault but an allocation failure stands against them
  no_reason : (why : Reason) (b y : List ℕ) (t : Tree) (x : List ℕ)
      → ((why ≡ reason.NoMemory → ⊥) → (z : List ℕ) → HasNoneWithin kinds place limits (b ++ z))
      → FitsWithin kinds place limits t → bytes_of kinds place t ++ x ≡ b ++ y → why ≡ reason.NoMemory
  no_reason reason.BadBool b y t x none fit e = absurd (none (λ i. cc) y t x fit e)
  no_reason reason.BadNumbered b y t x none fit e = absurd (none (λ i. cc) y t x fit e)
  no_reason reason.BadCase b y t x none fit e = absurd (none (λ i. cc) y t x fit e)
  no_reason reason.TooLong b y t x none fit e = absurd (none (λ i. cc) y t x fit e)
  no_reason reason.BadPadding b y t x none fit e = absurd (none (λ i. cc) y t x fit e)
  no_reason reason.TooDeep b y t x none fit e = absurd (none (λ i. cc) y t x fit e)
  no_reason reason.TooLarge b y t x none fit e = absurd (none (λ i. cc) y t x fit e)
  no_reason reason.Truncated b y t x none fit e = absurd (none (λ i. cc) y t x fit e)
  no_reason reason.NoMemory b y t x none fit e = refl

  pub waits : (piece y : List ℕ) (t : Tree) → FitsWithin kinds place limits t
      → bytes_of kinds place t ++ [] ≡ piece ++ y
      → (r : Result Progress DecodeFault) → AnswersAs kinds place limits ([] ++ taken piece r) r
      → IfErr r (λ f. f.why ≡ reason.NoMemory)
  waits piece y t fit e (Ok p) h = tt
  waits piece y t fit e (Err f) h = no_reason f.why piece y t [] h.1 fit e

  -- so a second piece that ends such a value is not refused but by an allocation failure
  pub waits_second : (first second : List ℕ) (t : Tree) (p : Progress) (r : Result Progress DecodeFault)
      → ((used : ℕ) → p ≡ Done used → r ≡ Ok (Done 0)) → FitsWithin kinds place limits t
      → bytes_of kinds place t ≡ first ++ second
      → AnswersAs kinds place limits (([] ++ taken first (Ok p)) ++ taken second r) r
      → IfErr r (λ f. f.why ≡ reason.NoMemory)
  waits_second first second t More (Ok q) again fit whole h = tt
  waits_second first second t More (Err f) again fit whole h =
      no_reason f.why (first ++ second) [] t [] h.1 fit (ap (λ (z : List ℕ). z ++ []) whole)
  waits_second first second t (Done used) r again fit whole h =
      subst (λ (x : Result Progress DecodeFault). IfErr x (λ f. f.why ≡ reason.NoMemory)) (sym (again used refl)) tt

  -- nor is its end
  pub ended_whole : (t : Tree) (first second : List ℕ) (p q : Progress) → ((used : ℕ) → p ≡ Done used → q ≡ Done 0)
      → FitsWithin kinds place limits t → bytes_of kinds place t ≡ first ++ second
      → AnswersAs kinds place limits (([] ++ taken first (Ok p)) ++ taken second (Ok q)) (Ok q)
      → (r : Result Value DecodeFault)
      → FinishesAs kinds place limits (([] ++ taken first (Ok p)) ++ taken second (Ok q)) r
      → IfErr r (λ f. f.why ≡ reason.NoMemory)
  ended_whole t first second p q again fit whole answer (Ok v) end = tt
  ended_whole t first second p (Done used) again fit whole answer (Err f) end =
      memory f.why (([] ++ taken first (Ok p)) ++ taken second (Ok (Done used))) answer.0 [] end.0 answer.1.0
      (append-nil (bytes_of kinds place answer.0) ∙ answer.1.1)
  ended_whole t first second More More again fit whole answer (Err f) end =
      memory f.why (first ++ second) t [] end.0 fit (append-nil (bytes_of kinds place t) ∙ whole)
  ended_whole t first second (Done used) More again fit whole answer (Err f) end =
      let other : More ≡ Done 0 = again used refl in absurd cc

  -- and a first piece that begins with a value is not refused but by an allocation failure
  pub begun : (piece : List ℕ) (t : Tree) (x : List ℕ) → FitsWithin kinds place limits t
      → bytes_of kinds place t ++ x ≡ piece
      → (r : Result Progress DecodeFault) → AnswersAs kinds place limits ([] ++ taken piece r) r
      → IfErr r (λ f. f.why ≡ reason.NoMemory)
  begun piece t x fit e (Ok p) h = tt
  begun piece t x fit e (Err f) h = no_reason f.why piece [] t x h.1 fit (e ∙ sym (append-nil piece))
