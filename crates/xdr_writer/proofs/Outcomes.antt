-- What the outcome of the bytes says of a part and of those before it.
use Rattle.std.proofs.Common.{◌≡◌, ℕ, ◌+◌, ◌-◌, ◌%◌, ◌<◌, ◌≤◌, List, [], ◌++◌, length, take, drop, ap, sym, ◌∙◌}
use Rattle.std.proofs.Common.{subst, arith, append-nil, append_assoc, length-append, length-drop}
use Rattle.std.specs.Prelude.{Ok}
use Rattle.std.proofs.lemmas.List.{take_all, take-append-drop}
use Rattle.std.proofs.Math.Seq.{take-append-add}
use Rattle.xdr_types.specs.Kinds.{KindView}
use Rattle.xdr_types.specs.Tree.{Tree}
use Rattle.xdr_types.specs.Fits.{Fits}
use Rattle.xdr_types.specs.Front.{Front}
use Rattle.xdr_types.specs.Spelling.{bytes_of}
use Rattle.xdr_types.specs.Within.{Bounds, FitsWithin}
use Rattle.xdr_types.specs.Outcome as outcome
use Rattle.xdr_types.specs.Outcome.{Pending, Whole, Outcome}
use Rattle.xdr_types.proofs.Unique.{one, apart}
use Rattle.xdr_stream.specs.Represents as reported
use Rattle.xdr_stream.specs.declared.fault.DecodeFault.{DecodeFault}
use Rattle.xdr_codec.proofs.Outcomes.{whole, fails, pending_none}
use Rattle.xdr_writer.specs.Private.Bytes.{IsUnits, SaysOf}
use Rattle.xdr_writer.specs.Answers.{IsEncoding, IsOfBytes}
use Rattle.xdr_writer.specs.declared.item.Step.{Step}
use Rattle.xdr_writer.specs.declared.item.Step.TheVariants as step

-- the bytes begin some value's encoding, and are no whole one; decoding them has not ended
pub record BegunBytes (kinds : List KindView) (kind : ℕ) (limits : Bounds) (b : List ℕ) : Type 0 where
  pub front : Front kinds kind b
  pub unfinished : (v : Tree) → Fits kinds kind v → bytes_of kinds kind v ≡ b → ⊥
  pub outcome : Outcome kinds kind limits b outcome.Pending

-- what an answer says of all bytes
abbrev pub TakesBytes : List KindView → (kind : ℕ) → Bounds → (b : List ℕ) → Step → Type 0
TakesBytes kinds kind limits b step.More = BegunBytes kinds kind limits b
TakesBytes kinds kind limits b step.Done = IsEncoding kinds kind limits b

-- no value of the kind within the limits goes on with these bytes
abbrev pub HasNone : List KindView → (kind : ℕ) → Bounds → (b : List ℕ) → Type 0
HasNone kinds kind limits b =
    (v : Tree) (more : List ℕ) → FitsWithin kinds kind limits v → bytes_of kinds kind v ≡ b ++ more → ⊥

module _ (s : List KindView) (t : ℕ) (l : Bounds) (units : l.bytes % 4 ≡ 0) where
  -- where the outcome of whole units is pending, they are a front
  pub begun : (b u : List ℕ) → length b % 4 ≡ 0 → IsUnits u → Outcome s t l (b ++ u) Pending → BegunBytes s t l (b ++ u)
  begun b u whole_units some o =
      let a : List ℕ = b ++ u in
      let n : ℕ = length a in
      let long : n ≡ length b + length u = length-append b u in
      let first : 4 ≤ n = omega (arith, some.1) in
      let aligned : n % 4 ≡ 0 = omega (arith, some.0) in
      record {
        front = subst (λ (x : List ℕ). Front s t x) (take_all (n - 4 + 4) a (omega arith))
            ((o (n - 4) (omega arith) (omega arith)).front (omega arith));
        unfinished = λ v fit same. (o n aligned (omega arith)).unfinished v
            (record { fits = fit; spelled = same ∙ sym (take_all n a (omega arith)) });
        outcome = o;
      }

  -- where the value is whole at the end, the bytes are its encoding
  pub ended : (b : List ℕ) → (v : Tree) × Outcome s t l b (Whole v (length b)) → IsEncoding s t l b
  ended b o =
      let w = whole s t l units b o.0 (length b) o.1 in
      (o.0, w.0, w.2 ∙ take_all (length b) b (omega arith))

  pub takes : (b u : List ℕ) → length b % 4 ≡ 0 → IsUnits u → (x : Step) → SaysOf s t l b u (Ok x)
      → TakesBytes s t l (b ++ u) x
  takes b u whole_units some step.More o = begun b u whole_units some o
  takes b u whole_units some step.Done o = ended (b ++ u) o

  -- where it is whole before, a part of them is
  pub past : (b u : List ℕ) (n : ℕ) (v : Tree) → Outcome s t l (b ++ u) (Whole v (length b + n))
      → IsEncoding s t l (b ++ take n u)
  past b u n v o =
      let w = whole s t l units (b ++ u) v (length b + n) o in (v, w.0, w.2 ∙ take-append-add b u n)

  -- ---- after a refusal no value goes on

  pub fault_none : (f : DecodeFault) (b : List ℕ) → IsOfBytes f → reported.Fails s t l f b → HasNone s t l b
  fault_none f b known r v more within same =
      (fails s t l units f b r).1 known more v [] within (append-nil (bytes_of s t v) ∙ same)

  pub past_none : (b u : List ℕ) (n : ℕ) → n < length u → IsEncoding s t l (b ++ take n u) → HasNone s t l (b ++ u)
  past_none b u n less w v more within same =
      let rest : List ℕ = drop n u ++ more in
      let mine : bytes_of s t w.0 ++ rest ≡ bytes_of s t v ++ [] =
      ap (λ (z : List ℕ). z ++ rest) w.2 ∙ append_assoc b (take n u) rest
      ∙ ap (λ (z : List ℕ). b ++ z) (sym (append_assoc (take n u) (drop n u) more))
      ∙ ap (λ (z : List ℕ). b ++ (z ++ more)) (take-append-drop n u) ∙ sym (append_assoc b u more) ∙ sym same
      ∙ sym (append-nil (bytes_of s t v)) in
      let empty : rest ≡ [] = (one s t w.0 v rest [] w.1.0 within.0 mine).1 in
      let count : length rest ≡ 0 = ap (λ (z : List ℕ). length z) empty in
      absurd (omega (arith, less, count, length-append (drop n u) more, length-drop n u))

  pub limit_none : (b : List ℕ) → l.bytes < length b → HasNone s t l b
  limit_none b far v more within same =
      let count : length (bytes_of s t v) ≡ length b + length more =
      ap (λ (z : List ℕ). length z) same ∙ length-append b more in
      absurd (omega (arith, far, count, within.1.1))

  -- behind a value no bytes come
  pub whole_none : (b : List ℕ) → IsEncoding s t l b → (v : Tree) (more : List ℕ) → FitsWithin s t l v
      → 0 < length more → bytes_of s t v ≡ b ++ more → ⊥
  whole_none b w v more within some same =
      let empty : more ≡ [] = apart s t w.0 v more w.1.0 within.0 (ap (λ (z : List ℕ). z ++ more) w.2 ∙ sym same) in
      let count : length more ≡ 0 = ap (λ (z : List ℕ). length z) empty in absurd (omega (arith, count, some))

  -- where the outcome is pending, they are no value's encoding
  pub unfinished : (b : List ℕ) → Outcome s t l b Pending → IsEncoding s t l b → ⊥
  unfinished b o w = pending_none s t l units b o w.0 [] w.1 (append-nil (bytes_of s t w.0) ∙ w.2)
