-- How content grows with what is read, and space for one more part.
use Rattle.std.proofs.Common.{◌≡◌, ℕ, ◌+◌, ◌%◌, ◌≤◌, true, Bool, List, [], ◌∷◌, ◌++◌, pos, length, refl, sym, ap, subst}
use Rattle.std.proofs.Common.{◌∙◌, append_assoc, append-nil, zero-add, arith, inl, inr}
use Rattle.std.specs.Prelude.{⊤}
use Rattle.std.proofs.lemmas.List.{length-append}
use Rattle.xdr_units.proofs.Bytes.{AreBytes-append}
use Rattle.xdr_types.specs.Kinds.{KindView, Part, kind_at}
use Rattle.xdr_types.specs.Tree as value
use Rattle.xdr_types.specs.Tree.{Head, Tree, from_list}
use Rattle.xdr_units.specs.Numbers.{num4, pad}
use Rattle.xdr_types.specs.Fits.{fit, fits, is_legal, parts, are_bytes}
use Rattle.xdr_types.specs.Spelling.{own, spelling, bytes_of}
use Rattle.xdr_laws.proofs.Legal.{and, legal_is, bytes_are, are_bytes_of}
use Rattle.xdr_stream.specs.Trace.{Level, Trace}
use Rattle.xdr_stream.specs.Private.Reported.{add, IsMany, HasSpaceIn, HasSpace, IsManyIn, TakesMany}
use Rattle.xdr_types.specs.Within.{Bounds}
use Rattle.xdr_stream.specs.Sees.{Sees, Opens, Built, BuiltAs, BuiltInto, Makes, make_wide}
use Rattle.xdr_stream.specs.declared.machine.Awaits.{Awaits}
use Rattle.xdr_stream.specs.declared.machine.Awaits.TheVariants.{Next, Content, Wide, Low}
use Rattle.xdr_stream.proofs.Filled.{as_many, many_or}
use Rattle.xdr_stream.proofs.Built.{space_opens, finish}

-- content begins: what stands before it is read
pub into_start : (s : List KindView) (t : ℕ) (ls : List Level) (fs : List (List Part)) (p : Part) (left : List Part)
    (q prefix : List ℕ) (n : ℕ) (make : List ℕ → Head)
    → Makes s (kind_at s p.kind) n prefix make → Built s t ls ((p ∷ left) ∷ fs) q
    → BuiltInto s t ls (left ∷ fs) [] make n (q ++ prefix)
into_start s t [] fs p left q prefix n make m b = absurd b
into_start s t (l ∷ ls) fs p left q prefix n make m b = (
  b.0,
  p,
  b.1,
  prefix,
  b.2,
  b.3,
  subst (λ (k : ℕ). Makes s (kind_at s p.kind) k prefix make) (sym (zero-add n)) m,
  ap (λ (x : List ℕ). x ++ prefix) b.4 ∙ ap (λ (x : List ℕ). (b.1 ++ spelling s b.0 (from_list l.done)) ++ x)
      (sym (append-nil prefix)),
  refl,
  refl,
)

-- more of it is read
pub into_more : (s : List KindView) (t : ℕ) (ls : List Level) (fs : List (List Part)) (content u : List ℕ)
    (make : List ℕ → Head) (n m : ℕ) (q : List ℕ)
    → length u % 4 ≡ 0 → are_bytes u ≡ true → n ≡ length u + m → BuiltInto s t ls fs content make n q
    → BuiltInto s t ls fs (content ++ u) make m (q ++ u)
into_more s t [] fs content u make n m q units are e b = absurd b
into_more s t (l ∷ ls) [] content u make n m q units are e b = absurd b
into_more s t (l ∷ ls) (left ∷ fs) content u make n m q units are e b =
    let o : List ℕ = b.2 ++ spelling s b.0 (from_list l.done) in
    let size : length content + n ≡ length (content ++ u) + m = omega (arith, length-append content u) in (
      b.0,
      b.1,
      b.2,
      b.3,
      b.4,
      b.5,
      subst (λ (k : ℕ). Makes s (kind_at s b.1.kind) k b.3 make) size b.6,
      ap (λ (x : List ℕ). x ++ u) b.7 ∙ append_assoc o (b.3 ++ content) u
          ∙ ap (λ (x : List ℕ). o ++ x) (append_assoc b.3 content u),
      omega (arith, length-append content u, b.8),
      are_bytes_of (content ++ u) (AreBytes-append content u (bytes_are content b.9) (bytes_are u are)),
    )

-- its last bytes and the zeros after them
pub into_end : (s : List KindView) (t : ℕ) (ls : List Level) (fs : List (List Part)) (content u : List ℕ)
    (make : List ℕ → Head) (q : List ℕ)
    → are_bytes (content ++ u) ≡ true → BuiltInto s t ls fs content make (length u) q
    → (size : ℕ) × (size ≡ length (content ++ u))
    × Built s t (add (make (content ++ u), value.none) ls) fs (q ++ (u ++ pad size))
into_end s t [] fs content u make q are b = absurd b
into_end s t (l ∷ ls) [] content u make q are b = absurd b
into_end s t (l ∷ ls) (left ∷ fs) content u make q are b =
    let p : Part = b.1 in
    let k : KindView = kind_at s p.kind in
    let bs : List ℕ = content ++ u in
    let size : ℕ = length content + length u in
    let made = b.6 bs (length-append content u) are in
    let h : Head = make bs in
    let v : Tree = (h, value.none) in
    let o : List ℕ = b.2 ++ spelling s b.0 (from_list l.done) in
    let fitting : fits s p.kind v ≡ true =
    and (is_legal s k h) (fit s (parts k h) value.none) made.0
    (subst (λ (ps : List Part). fit s ps value.none ≡ true) (sym made.2) refl) in
    let bytes : bytes_of s p.kind v ≡ b.3 ++ (bs ++ pad size) =
    ap (λ (ps : List Part). own k h ++ spelling s ps value.none) made.2 ∙ append-nil (own k h) ∙ made.1 in
    let far : o ++ bytes_of s p.kind v ≡ q ++ (u ++ pad size) =
    ap (λ (x : List ℕ). o ++ x) (bytes ∙ ap (λ (x : List ℕ). b.3 ++ x) (append_assoc content u (pad size))
    ∙ sym (append_assoc b.3 content (u ++ pad size)))
    ∙ sym (append_assoc o (b.3 ++ content) (u ++ pad size)) ∙ ap (λ (x : List ℕ). x ++ (u ++ pad size)) (sym b.7) in (
      size,
      sym (length-append content u),
      subst (λ (x : List ℕ). Built s t (add v (l ∷ ls)) (left ∷ fs) x) far
          (finish s t l ls fs b.0 left p b.2 v b.4 b.5 fitting),
    )

-- a part or content is to come
abbrev pub Gives : Awaits → List (List Part) → Type 0
Gives Next ((p ∷ ps) ∷ fs) = ⊤
Gives Next _ = ⊥
Gives _ fs = ⊤

built_space : (s : List KindView) (t : ℕ) (ls : List Level) (p : Part) (ps : List Part) (fs : List (List Part))
    (q : List ℕ) → Built s t ls ((p ∷ ps) ∷ fs) q → HasSpaceIn ls
built_space s t [] p ps fs q b = absurd b
built_space s t (l ∷ ls) p ps fs q b = space_opens s t ls fs l.head b.0 ps p b.1 l.done b.2 (as_many s b.0 l.done b.3)

into_space : (s : List KindView) (t : ℕ) (ls : List Level) (fs : List (List Part)) (content : List ℕ)
    (make : List ℕ → Head) (n : ℕ) (q : List ℕ) → BuiltInto s t ls fs content make n q → HasSpaceIn ls
into_space s t [] fs content make n q b = absurd b
into_space s t (l ∷ ls) [] content make n q b = absurd b
into_space s t (l ∷ ls) (left ∷ fs) content make n q b =
    space_opens s t ls fs l.head b.0 left b.1 b.2 l.done b.4 (as_many s b.0 l.done b.5)

-- a part that may be one of many
opens_many : (s : List KindView) (t : ℕ) (ls : List Level) (fs : List (List Part)) (h : Head) (qs : List Part)
    (r : List ℕ) → 2 ≤ length qs → Opens s t ls fs h qs r → IsMany h
opens_many s t [] [] h qs r two o = absurd (omega (arith, ap (λ (l : List Part). length l) o.1))
opens_many s t (m ∷ ls) (f ∷ fs) h qs r two o =
    elim (many_or s (kind_at s o.1.kind) h (legal_is s (kind_at s o.1.kind) h o.6)) [
      | inl many ↦ many
      | inr few ↦ absurd (omega (arith, few, ap (λ (x : List Part). length x) o.7))
    ]
opens_many s t [] (f ∷ fs) h qs r two o = absurd o
opens_many s t (m ∷ ls) [] h qs r two o = absurd o

built_many : (s : List KindView) (t : ℕ) (ls : List Level) (ps : List Part) (fs : List (List Part)) (q : List ℕ)
    → 2 ≤ length ps → Built s t ls (ps ∷ fs) q → IsManyIn ls
built_many s t [] ps fs q two b = absurd b
built_many s t (l ∷ ls) ps fs q two b =
    opens_many s t ls fs l.head (b.0 ++ ps) b.1 (omega (arith, two, length-append b.0 ps)) b.2

-- and so inside the content of one of its parts
into_many : (s : List KindView) (t : ℕ) (ls : List Level) (left : List Part) (fs : List (List Part)) (content : List ℕ)
    (make : List ℕ → Head) (n : ℕ) (q : List ℕ) → 1 ≤ length left → BuiltInto s t ls (left ∷ fs) content make n q
    → IsManyIn ls
into_many s t [] left fs content make n q some b = absurd b
into_many s t (l ∷ ls) left fs content make n q some b =
    opens_many s t ls fs l.head (b.0 ++ b.1 ∷ left) b.2 (omega (arith, some, length-append b.0 (b.1 ∷ left))) b.4

-- a builder was reported this, of which more is known
abbrev pub With : (H K : Trace → Type 0) → Trace → Type 0
With H K a = H a × K a

module _ (s : List KindView) (t : ℕ) (l : Bounds) (H : Trace → Type 0) where
  pub seen_with : (K : Trace → Type 0) (a : Awaits) (fs : List (List Part)) (q : List ℕ) (r : Sees s t l H a fs q)
      → K r.trace → Sees s t l (With H K) a fs q
  seen_with K a fs q r k = record {
    reading = r.reading;
    trace = r.trace;
    reported = (r.reported, k);
    built = r.built;
  }

  -- the innermost node has space for what is to come
  pub seen_space : (a : Awaits) (fs : List (List Part)) (q : List ℕ) → Gives a fs → Sees s t l H a fs q
      → Sees s t l (With H HasSpace) a fs q
  seen_space a fs q g r = seen_with HasSpace a fs q r (space a fs g r.trace r.built)
    where
      space : (a : Awaits) (fs : List (List Part)) → Gives a fs → (x : Trace) → BuiltAs s t a x fs q → HasSpace x
      space Next [] g x b = absurd g
      space Next ([] ∷ fs) g x b = absurd g
      space Next ((p ∷ ps) ∷ fs) g x b = built_space s t x.levels p ps fs q b.1
      space (Content n) fs g x b = into_space s t x.levels fs x.content value.bytes n q b
      space (Wide signed) fs g x b = into_space s t x.levels fs [] (make_wide signed) 8 q b.1
      space (Low signed y) fs g x b = into_space s t x.levels fs (num4 (pos y)) (make_wide signed) 4 q b.1

  -- and for many
  pub seen_many : (ps : List Part) (fs : List (List Part)) (q : List ℕ) → 2 ≤ length ps → Sees s t l H Next (ps ∷ fs) q
      → Sees s t l (With H TakesMany) Next (ps ∷ fs) q
  seen_many ps fs q two r = seen_with TakesMany Next (ps ∷ fs) q r (built_many s t r.trace.levels ps fs q two r.built.1)

  -- also where two units of one are to come
  pub seen_many_wide : (sg : Bool) (left : List Part) (fs : List (List Part)) (q : List ℕ) → 1 ≤ length left
      → Sees s t l H (Wide sg) (left ∷ fs) q → Sees s t l (With H TakesMany) (Wide sg) (left ∷ fs) q
  seen_many_wide sg left fs q some r = seen_with TakesMany (Wide sg) (left ∷ fs) q r
      (into_many s t r.trace.levels left fs [] (make_wide sg) 8 q some r.built.1)
