-- A length and its content.
use Rattle.std.proofs.Common.{◌≡◌, ℕ, ◌+◌, ◌^◌, ◌<◌, List, [], ◌∷◌, ◌++◌, length, drop, refl, sym, ap, subst, ◌∙◌}
use Rattle.std.proofs.Common.{append_assoc, arith}
use Rattle.std.proofs.lemmas.List.{length-append}
use Rattle.std.proofs.Math.Nat.{add-zero}
use Rattle.xdr_types.specs.Kinds as xdr
use Rattle.xdr_types.specs.Kinds.{KindView, Part, kind_at}
use Rattle.xdr_types.specs.Tree as value
use Rattle.xdr_types.specs.Tree.{Head}
use Rattle.xdr_units.specs.Numbers.{pad, AreBytes, word}
use Rattle.xdr_types.specs.Fits.{parts}
use Rattle.xdr_types.specs.Spelling.{own}
use Rattle.xdr_types.specs.Layout.{Entry, entry, shown, content, of_length}
use Rattle.xdr_laws.specs.Owed.{Due, Frame, Rest, Completes, Reads, lead_of, IsLengthFirst, Accepts}
use Rattle.xdr_laws.proofs.Legal.{IsLegal}
use Rattle.xdr_laws.proofs.Numbers.{unit4-length, from4, from4-unit4, drop4-unit4}
use Rattle.xdr_laws.proofs.Owed.{begin_into, begin_back, reads_end}

abbrev pub IsLeaf : List KindView → KindView → Head → (place d : ℕ) (t : Part) → List ℕ → List Entry → Type 0
IsLeaf s k h place d t b ps = IsLegal s k h × (own k h ≡ b) × (parts k h ≡ []) × (shown place d t k h ≡ ps)

pub leaf_back : (s : List KindView) (place d : ℕ) (t : Part) (ts : List Part) (ds : List Due) (h : Head) (b : List ℕ)
    (qs : List Entry) (y : List ℕ) (ps : List Entry)
    → IsLeaf s (kind_at s t.kind) h place d t b qs → Completes s (place + length b) (Frame d ts ∷ ds) y ps
    → Completes s place (Frame d (t ∷ ts) ∷ ds) (b ++ y) (qs ++ ps)
leaf_back s place d t ts ds h b qs y ps leaf r =
    let k : KindView = kind_at s t.kind in
    let at : Completes s (place + length (own k h) + 0) (Frame d ts ∷ ds) y ps = subst
    (λ (n : ℕ). Completes s n (Frame d ts ∷ ds) y ps)
    (ap (λ (o : List ℕ). place + length o) (sym leaf.1) ∙ sym (add-zero (place + length (own k h)))) r in
    let inner = (reads_end s (place + length (own k h)) (d + 1) (Frame d ts ∷ ds)).back y ps at in
    let whole = begin_back s place d t ts ds h y ps leaf.0
    (subst (λ (l : List Part). Completes s (place + length (own k h)) (Frame (d + 1) l ∷ Frame d ts ∷ ds) y ps)
    (sym leaf.2) inner) in
    subst (λ (o : List ℕ). Completes s place (Frame d (t ∷ ts) ∷ ds) (o ++ y) (qs ++ ps)) leaf.1
    (subst (λ (o : List Entry). Completes s place (Frame d (t ∷ ts) ∷ ds) (own k h ++ y) (o ++ ps)) leaf.3 whole)

pub leaf_into : (s : List KindView) (place d : ℕ) (ts kinds : List Part) (ds : List Due) (y : List ℕ) (ps : List Entry)
    → kinds ≡ [] → Completes s place (Frame (d + 1) kinds ∷ Frame d ts ∷ ds) y ps
    → Completes s place (Frame d ts ∷ ds) y ps
leaf_into s place d ts kinds ds y ps none r =
    let ended = (reads_end s place (d + 1) (Frame d ts ∷ ds)).into y ps
    (subst (λ (l : List Part). Completes s place (Frame (d + 1) l ∷ Frame d ts ∷ ds) y ps) none r) in
    subst (λ (n : ℕ). Completes s n (Frame d ts ∷ ds) y ps) (add-zero place)
    (subst (λ (l : List Entry). Completes s (place + 0) (Frame d ts ∷ ds) y l) (sym ended.1) ended.2)

abbrev pub counted : (place d : ℕ) (t : Part) (n : ℕ) → List Entry
counted place d t n = entry place 4 d t of_length ∷ content (place + 4) d t n

abbrev IsCountedBy : List KindView → KindView → Head → (place d : ℕ) (t : Part) → List ℕ → Type 0
IsCountedBy s k g place d t bs =
    AreBytes bs × Accepts s k (length bs) × IsLeaf s k g place d t (word (length bs) ++ (bs ++ pad (length bs)))
    (counted place d t (length bs))

counted_is : (s : List KindView) (k : KindView) (g : Head) (place d : ℕ) (t : Part) → IsLengthFirst (lead_of k)
    → IsLegal s k g
    → (bs : List ℕ) × IsCountedBy s k g place d t bs
counted_is s (xdr.opaque_up_to max) (value.bytes bs) place d t u l = (bs, (l.2, (l.0, l.1), (l, refl, refl, refl)))
counted_is s (xdr.text max) (value.bytes bs) place d t u l = (bs, (l.2, (l.0, l.1), (l, refl, refl, refl)))
counted_is s (xdr.opaque_up_to max) _ place d t u l = absurd l
counted_is s (xdr.text max) _ place d t u l = absurd l
counted_is s _ g place d t u l = absurd u

counted_legal : (s : List KindView) (k : KindView) (place d : ℕ) (t : Part) (bs : List ℕ) → IsLengthFirst (lead_of k)
    → Accepts s k (length bs) → AreBytes bs
    → IsLeaf s k (value.bytes bs) place d t (word (length bs) ++ (bs ++ pad (length bs)))
    (counted place d t (length bs))
counted_legal s (xdr.opaque_up_to max) place d t bs u a b = ((a.0, a.1, b), refl, refl, refl)
counted_legal s (xdr.text max) place d t bs u a b = ((a.0, a.1, b), refl, refl, refl)
counted_legal s _ place d t bs u a b = absurd u

length_small : (s : List KindView) (k : KindView) (x : ℕ) → IsLengthFirst (lead_of k) → Accepts s k x → x < 2 ^ 32
length_small s (xdr.opaque_up_to max) x u a = a.1
length_small s (xdr.text max) x u a = a.1
length_small s _ x u a = absurd u

module _ (s : List KindView) (place d : ℕ) (t : Part) (ts : List Part) (ds : List Due) (x : ℕ)
    (u : IsLengthFirst (lead_of (kind_at s t.kind))) where
  -- what a value that begins with the length x is
  length_into : (less : x < 2 ^ 32) (c : List ℕ) (all : List Entry)
      → Completes s place (Frame d (t ∷ ts) ∷ ds) (word x ++ c) all
      → Accepts s (kind_at s t.kind) x × (qs : List Entry) × (all ≡ counted place d t x ++ qs)
      × Completes s (place + length (word x)) (Rest x ∷ Frame d ts ∷ ds) c qs
  length_into less c all r =
      let k : KindView = kind_at s t.kind in
      let i = begin_into s place d t ts ds (word x ++ c) all r in
      let g : Head = i.0 in
      let y : List ℕ = i.1 in
      let l = counted_is s k g place d t u i.3 in
      let bs : List ℕ = l.0 in
      let n : ℕ = length bs in
      let leaf = l.1.2 in
      let e1 : word x ++ c ≡ word n ++ ((bs ++ pad n) ++ y) = i.4 ∙ ap (λ (o : List ℕ). o ++ y) leaf.1
      ∙ append_assoc (word n) (bs ++ pad n) y in
      let small : n < 2 ^ 32 = length_small s k n u l.1.1 in
      let same : n ≡ x = sym (from4-unit4 n ((bs ++ pad n) ++ y) small) ∙ ap from4 (sym e1) ∙ from4-unit4 x c less in
      let rest : c ≡ bs ++ (pad n ++ y) = sym (drop4-unit4 x c) ∙ ap (λ (b : List ℕ). drop 4 b) e1
      ∙ drop4-unit4 n ((bs ++ pad n) ++ y) ∙ append_assoc bs (pad n) y in
      let ended = leaf_into s (place + length (own k g)) d ts (parts k g) ds y i.2 leaf.2 i.6 in
      let far : place + length (own k g) ≡ place + length (word x) + (x + length (pad x)) =
      omega (
        arith,
        unit4-length x,
        unit4-length n,
        ap length leaf.1,
        length-append (word n) (bs ++ pad n),
        length-append bs (pad n),
        same,
        ap (λ (m : ℕ). length (pad m)) same,
      ) in (
        subst (λ (m : ℕ). Accepts s k m) same l.1.1,
        i.2,
        i.5 ∙ ap (λ (o : List Entry). o ++ i.2) (leaf.3 ∙ ap (λ (m : ℕ). counted place d t m) same),
        (
          bs,
          y,
          same,
          l.1.0,
          rest ∙ ap (λ (m : ℕ). bs ++ (pad m ++ y)) same,
          subst
              (λ (m : ℕ). Completes s m (Frame d ts ∷ ds) y i.2) far ended,
        ),
      )

  pub reads_length : Accepts s (kind_at s t.kind) x
      → Reads s place (Frame d (t ∷ ts) ∷ ds) (word x) (counted place d t x) (Rest x ∷ Frame d ts ∷ ds)
  reads_length a = record {
    into = λ c all r. let i = length_into (length_small s (kind_at s t.kind) x u a) c all r in (i.1, i.2, i.3);
    back = λ c ps r. length_back c ps r.0 r.1 r.2 r.3 r.4 r.5;
  }
    where
      length_back : (c : List ℕ) (ps : List Entry) (bs y : List ℕ) → length bs ≡ x → AreBytes bs
          → c ≡ bs ++ (pad x ++ y)
          → Completes s (place + length (word x) + (x + length (pad x))) (Frame d ts ∷ ds) y ps
          → Completes s place (Frame d (t ∷ ts) ∷ ds) (word x ++ c) (counted place d t x ++ ps)
      length_back c ps bs y len are e r =
          let k : KindView = kind_at s t.kind in
          let n : ℕ = length bs in
          let leaf = counted_legal s k place d t bs u (subst (λ (m : ℕ). Accepts s k m) (sym len) a) are in
          let far : place + length (word x) + (x + length (pad x)) ≡ place + length (word n ++ (bs ++ pad n)) =
          omega (
            arith,
            unit4-length x,
            unit4-length n,
            length-append (word n) (bs ++ pad n),
            length-append bs (pad n),
            len,
            ap (λ (m : ℕ). length (pad m)) len,
          ) in
          let whole = leaf_back s place d t ts ds (value.bytes bs) (word n ++ (bs ++ pad n)) (counted place d t n) y ps
          leaf (subst (λ (m : ℕ). Completes s m (Frame d ts ∷ ds) y ps) far r) in
          let spelled : (word n ++ (bs ++ pad n)) ++ y ≡ word x ++ c =
          append_assoc (word n) (bs ++ pad n) y ∙ ap (λ (b : List ℕ). word n ++ b) (append_assoc bs (pad n) y)
          ∙ ap (λ (m : ℕ). word m ++ (bs ++ (pad m ++ y))) len ∙ ap (λ (b : List ℕ). word x ++ b) (sym e) in
          subst (λ (b : List ℕ). Completes s place (Frame d (t ∷ ts) ∷ ds) b (counted place d t x ++ ps)) spelled
          (subst (λ (m : ℕ). Completes s place (Frame d (t ∷ ts) ∷ ds) ((word n ++ (bs ++ pad n)) ++ y)
          (counted place d t m ++ ps)) len whole)

-- no other length begins what is owed
pub refuses_length : (s : List KindView) (place d : ℕ) (t : Part) (ts : List Part) (ds : List Due) (x : ℕ) (c : List ℕ)
    (ps : List Entry) → IsLengthFirst (lead_of (kind_at s t.kind)) → x < 2 ^ 32
    → Completes s place (Frame d (t ∷ ts) ∷ ds) (word x ++ c) ps → Accepts s (kind_at s t.kind) x
refuses_length s place d t ts ds x c ps u less r = (length_into s place d t ts ds x u less c ps r).0
