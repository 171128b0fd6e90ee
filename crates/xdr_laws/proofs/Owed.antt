-- How what is owed changes, by a head that begins and by a frame that ends.
use Rattle.std.proofs.Common.{◌≡◌, ℕ, ◌+◌, List, [], ◌∷◌, ◌++◌, length, refl, sym, ap, subst, ◌∙◌}
use Rattle.std.proofs.Common.{append_assoc, arith}
use Rattle.std.proofs.lemmas.List.{length-append, append_cancel_left}
use Rattle.std.proofs.Math.Nat.{add-zero}
use Rattle.xdr_types.specs.Kinds.{KindView, Part, kind_at}
use Rattle.xdr_types.specs.Tree as value
use Rattle.xdr_types.specs.Tree.{Head, Values}
use Rattle.xdr_types.specs.Fits.{fits, parts}
use Rattle.xdr_types.specs.Spelling.{own, spelling}
use Rattle.xdr_types.specs.Layout.{Entry, layout, shown}
use Rattle.xdr_laws.specs.Owed.{Due, Frame, Completes, Reads}
use Rattle.xdr_laws.proofs.Legal.{IsLegal, FitAll, fit_node, node_fits}
use Rattle.std.proofs.lemmas.Bool.{false≢true}

pub regroup : {A : Type 0} → (a b c x : List A) → (a ++ (b ++ c)) ++ x ≡ a ++ (b ++ (c ++ x))
regroup {A = A} a b c x = append_assoc a (b ++ c) x ∙ ap (λ (l : List A). a ++ l) (append_assoc b c x)

pub regroup_left : {A : Type 0} → (a b c x : List A) → ((a ++ b) ++ c) ++ x ≡ a ++ (b ++ (c ++ x))
regroup_left {A = A} a b c x = append_assoc (a ++ b) c x ∙ append_assoc a b (c ++ x)

pub begin_back : (s : List KindView) (place d : ℕ) (t : Part) (ts : List Part) (ds : List Due) (h : Head) (c : List ℕ)
    (ps : List Entry) → IsLegal s (kind_at s t.kind) h
    → Completes s (place + length (own (kind_at s t.kind) h))
    (Frame (d + 1) (parts (kind_at s t.kind) h) ∷ Frame d ts ∷ ds) c ps
    → Completes s place (Frame d (t ∷ ts) ∷ ds) (own (kind_at s t.kind) h ++ c)
    (shown place d t (kind_at s t.kind) h ++ ps)
begin_back s place d t ts ds h c ps l r =
    let k : KindView = kind_at s t.kind in
    let v : Values = r.0 in
    let inner = r.6 in
    let w : Values = inner.0 in
    let sv : List ℕ = spelling s (parts k h) v in
    let sw : List ℕ = spelling s ts w in
    let spelled : own k h ++ c ≡ ((own k h ++ sv) ++ sw) ++ inner.1 =
    ap (λ (b : List ℕ). own k h ++ b) (r.4 ∙ ap (λ (b : List ℕ). sv ++ b) inner.4)
    ∙ sym (regroup_left (own k h) sv sw inner.1) in
    let parted : shown place d t k h ++ ps ≡ layout s place d (t ∷ ts) (value.node h v w) ++ inner.2 =
    ap (λ (b : List Entry). shown place d t k h ++ b)
    (r.5 ∙ ap (λ (b : List Entry). layout s (place + length (own k h)) (d + 1) (parts k h) v ++ b) inner.5)
    ∙ sym (regroup (shown place d t k h) (layout s (place + length (own k h)) (d + 1) (parts k h) v)
    (layout s (place + length (own k h) + length sv) d ts w) inner.2) in
    let far : place + length (own k h) + length sv + length sw ≡ place + length ((own k h ++ sv) ++ sw) =
    omega (arith, length-append (own k h ++ sv) sw, length-append (own k h) sv) in (
      value.node h v w,
      inner.1,
      inner.2,
      node_fits s t ts h v w l r.3 inner.3,
      spelled,
      parted,
      subst
          (λ (n : ℕ). Completes s n ds inner.1 inner.2) far inner.6,
    )

-- what begins where a value is due
abbrev pub Begins : List KindView → (place d : ℕ) (t : Part) → List Part → List Due → List ℕ → List Entry → Type 0
Begins s place d t ts ds c all =
    (h : Head) × (x : List ℕ) × (ps : List Entry) × IsLegal s (kind_at s t.kind) h × (c ≡ own (kind_at s t.kind) h ++ x)
    × (all ≡ shown place d t (kind_at s t.kind) h ++ ps)
    × Completes s (place + length (own (kind_at s t.kind) h))
    (Frame (d + 1) (parts (kind_at s t.kind) h) ∷ Frame d ts ∷ ds) x ps

begin_into_at : (s : List KindView) (place d : ℕ) (t : Part) (ts : List Part) (ds : List Due) (v : Values) (x : List ℕ)
    (qs : List Entry) (c : List ℕ) (all : List Entry)
    → FitAll s (t ∷ ts) v → c ≡ spelling s (t ∷ ts) v ++ x → all ≡ layout s place d (t ∷ ts) v ++ qs
    → Completes s (place + length (spelling s (t ∷ ts) v)) ds x qs
    → Begins s place d t ts ds c all
begin_into_at s place d t ts ds value.none x qs c all fits e p r = absurd (false≢true fits)
begin_into_at s place d t ts ds (value.node h v w) x qs c all fits e p r =
    let k : KindView = kind_at s t.kind in
    let f = fit_node s t ts h v w fits in
    let sv : List ℕ = spelling s (parts k h) v in
    let sw : List ℕ = spelling s ts w in
    let far : place + length ((own k h ++ sv) ++ sw) ≡ place + length (own k h) + length sv + length sw =
    omega (arith, length-append (own k h ++ sv) sw, length-append (own k h) sv) in
    let rest : Completes s (place + length (own k h) + length sv + length sw) ds x qs = subst
    (λ (n : ℕ). Completes s n ds x qs) far r in
    let inside = layout s (place + length (own k h)) (d + 1) (parts k h) v in
    let after = layout s (place + length (own k h) + length sv) d ts w in (
      h,
      sv ++ (sw ++ x),
      inside ++ (after ++ qs),
      f.0,
      e ∙ regroup_left (own k h) sv sw x,
      p ∙ regroup (shown place d t k h) inside after qs,
      (v, sw ++ x, after ++ qs, f.1, refl, refl, (w, x, qs, f.2, refl, refl, rest)),
    )

pub begin_into : (s : List KindView) (place d : ℕ) (t : Part) (ts : List Part) (ds : List Due) (c : List ℕ)
    (all : List Entry) → Completes s place (Frame d (t ∷ ts) ∷ ds) c all → Begins s place d t ts ds c all
begin_into s place d t ts ds c all r = begin_into_at s place d t ts ds r.0 r.1 r.2 c all r.3 r.4 r.5 r.6

pub reads_none : (s : List KindView) (place : ℕ) (ds : List Due) → Reads s place ds [] [] ds
reads_none s place ds = record {
  into = λ c all r. (all, refl, subst (λ (n : ℕ). Completes s n ds c all) (sym (add-zero place)) r);
  back = λ c ps r. subst (λ (n : ℕ). Completes s n ds c ps) (add-zero place) r;
}

pub reads_then : (s : List KindView) (place : ℕ) (a b d : List Due) (q u : List ℕ) (ps qs : List Entry)
    → Reads s place a q ps b → Reads s (place + length q) b u qs d → Reads s place a (q ++ u) (ps ++ qs) d
reads_then s place a b d q u ps qs first second =
    let far : place + length q + length u ≡ place + length (q ++ u) = omega (arith, length-append q u) in
    record {
      into = λ c all r.
          let one = first.into (u ++ c) all (subst (λ (l : List ℕ). Completes s place a l all) (append_assoc q u c) r)
          in
          let two = second.into c one.0 one.2 in (
            two.0,
            one.1 ∙ ap (λ (l : List Entry). ps ++ l) two.1
                ∙ sym (append_assoc ps qs two.0),
            subst (λ (n : ℕ). Completes s n d c two.0) far two.2,
          );
      back = λ c rs r.
          let two = second.back c rs (subst (λ (n : ℕ). Completes s n d c rs) (sym far) r) in
          let one = first.back (u ++ c) (qs ++ rs) two in
          let regrouped : Completes s place a ((q ++ u) ++ c) (ps ++ (qs ++ rs)) = subst
          (λ (l : List ℕ). Completes s place a l (ps ++ (qs ++ rs))) (sym (append_assoc q u c)) one in
          subst (λ (l : List Entry). Completes s place a ((q ++ u) ++ c) l) (sym (append_assoc ps qs rs)) regrouped;
    }

-- nothing is read first
pub silent_then : (s : List KindView) (place : ℕ) (a b d : List Due) (u : List ℕ) (ps qs : List Entry)
    → Reads s place a [] ps b → Reads s place b u qs d → Reads s place a u (ps ++ qs) d
silent_then s place a b d u ps qs first second =
    reads_then s place a b d [] u ps qs first (subst (λ (n : ℕ). Reads s n b u qs d) (sym (add-zero place)) second)

-- a frame that owes nothing more ends
pub reads_end : (s : List KindView) (place d : ℕ) (ds : List Due) → Reads s place (Frame d [] ∷ ds) [] [] ds
reads_end s place d ds = record {
  into = λ c all r. ended s place d ds r.0 r.1 r.2 c all r.3 r.4 r.5 r.6;
  back = λ c ps r. (value.none, c, ps, refl, refl, refl, r);
}
  where
    ended : (s : List KindView) (place d : ℕ) (ds : List Due) (v : Values) (x : List ℕ) (qs : List Entry) (c : List ℕ)
        (all : List Entry)
        → FitAll s [] v → c ≡ spelling s [] v ++ x → all ≡ layout s place d [] v ++ qs
        → Completes s (place + length (spelling s [] v)) ds x qs
        → (ps : List Entry) × (all ≡ ps) × Completes s (place + 0) ds c ps
    ended s place d ds value.none x qs c all fits e p r =
        (qs, p, subst (λ (l : List ℕ). Completes s (place + 0) ds l qs) (sym e) r)
    ended s place d ds (value.node h v w) x qs c all fits e p r = absurd (false≢true fits)

-- a head whose bytes are known, the only one that can begin so
pub reads_head : (s : List KindView) (place d : ℕ) (t : Part) (ts : List Part) (ds : List Due) (h : Head)
    → IsLegal s (kind_at s t.kind) h
    → ((g : Head) (c x : List ℕ) → IsLegal s (kind_at s t.kind) g
    → own (kind_at s t.kind) h ++ c ≡ own (kind_at s t.kind) g ++ x → h ≡ g)
    → Reads s place (Frame d (t ∷ ts) ∷ ds) (own (kind_at s t.kind) h) (shown place d t (kind_at s t.kind) h)
    (Frame (d + 1) (parts (kind_at s t.kind) h) ∷ Frame d ts ∷ ds)
reads_head s place d t ts ds h legal only =
    let k : KindView = kind_at s t.kind in
    record {
      into = λ c all r.
          let b = begin_into s place d t ts ds (own k h ++ c) all r in
          let alike : h ≡ b.0 = only b.0 c b.1 b.3 b.4 in
          let spelled : own k h ++ c ≡ own k h ++ b.1 = b.4 ∙ ap (λ (g : Head). own k g ++ b.1) (sym alike) in
          let same : b.1 ≡ c = sym (append_cancel_left (own k h) c b.1 spelled) in (
            b.2,
            b.5 ∙ ap (λ (g : Head). shown place d t k g ++ b.2) (sym alike),
            subst (λ (l : List ℕ). Completes s (place + length (own k h)) (Frame (d + 1) (parts k h) ∷ Frame d ts ∷ ds)
                l b.2) same
                (subst (λ (g : Head). Completes s (place + length (own k g))
                (Frame (d + 1) (parts k g) ∷ Frame d ts ∷ ds) b.1 b.2) (sym alike) b.6),
          );
      back = λ c ps r. begin_back s place d t ts ds h c ps legal r;
    }
