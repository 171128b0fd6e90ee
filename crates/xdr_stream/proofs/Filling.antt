-- The nodes that are built are those that the law counts.
use Rattle.std.proofs.Common.{◌≡◌, ℕ, ◌+◌, ◌%◌, true, false, ◌&&◌, List, [], ◌∷◌, ◌++◌, length}
use Rattle.std.proofs.Common.{replicate, refl, sym, ap, subst, ◌∙◌, append_assoc, append-nil, zero-add, arith}
use Rattle.std.proofs.lemmas.Bool.{false≢true}
use Rattle.std.proofs.lemmas.List.{length-append}
use Rattle.xdr_types.specs.Kinds.{KindView, Part, kind_at}
use Rattle.xdr_types.specs.Tree as value
use Rattle.xdr_types.specs.Tree.{Head, Values, Tree, from_list}
use Rattle.xdr_units.specs.Numbers.{pad}
use Rattle.xdr_types.specs.Fits.{Fits, fit, fits, is_legal, parts, item_part}
use Rattle.xdr_types.specs.Spelling.{own, spelling, bytes_of}
use Rattle.xdr_types.specs.Layout.{Entry, layout, entries}
use Rattle.xdr_types.proofs.Unique.{one}
use Rattle.xdr_laws.specs.Owed.{Due, Rest, Completes}
use Rattle.xdr_laws.specs.Held.{count_nodes}
use Rattle.xdr_laws.specs.Parts.{nodes}
use Rattle.xdr_laws.proofs.Legal.{both, and, are_bytes_of, bytes_are}
use Rattle.xdr_laws.proofs.Known.{root, completion_of}
use Rattle.xdr_laws.proofs.WholeUnits.{root_fits}
use Rattle.xdr_units.proofs.Bytes.{AreBytes-append}
use Rattle.xdr_laws.proofs.Holding.{nodes_whole, nodes_append}
use Rattle.xdr_stream.specs.Frames.{dues}
use Rattle.xdr_stream.specs.Trace.{Level}
use Rattle.xdr_stream.specs.Retained.{nodes_in}
use Rattle.xdr_types.specs.Within.{Bounds}
use Rattle.xdr_stream.specs.Sees.{Reading, Opens, Built, BuiltInto}

-- ---- values after a list of trees

abbrev join : List Tree → Values → Values
join [] v = v
join (w ∷ ws) v = value.node w.0 w.1 (join ws v)

fit_join : (s : List KindView) (ts ps : List Part) (vs : List Tree) (v : Values) → fit s ts (from_list vs) ≡ true
    → fit s ps v ≡ true → fit s (ts ++ ps) (join vs v) ≡ true
fit_join s [] ps [] v f g = g
fit_join s [] ps (w ∷ vs) v f g = absurd (false≢true f)
fit_join s (t ∷ ts) ps [] v f g = absurd (false≢true f)
fit_join s (t ∷ ts) ps (w ∷ vs) v f g =
    let c = both (fits s t.kind w) (fit s ts (from_list vs)) f in
    and (fits s t.kind w) (fit s (ts ++ ps) (join vs v)) c.0 (fit_join s ts ps vs v c.1 g)

spelling_join : (s : List KindView) (ts ps : List Part) (vs : List Tree) (v : Values) → fit s ts (from_list vs) ≡ true
    → spelling s (ts ++ ps) (join vs v) ≡ spelling s ts (from_list vs) ++ spelling s ps v
spelling_join s [] ps [] v f = refl
spelling_join s [] ps (w ∷ vs) v f = absurd (false≢true f)
spelling_join s (t ∷ ts) ps [] v f = absurd (false≢true f)
spelling_join s (t ∷ ts) ps (w ∷ vs) v f =
    let c = both (fits s t.kind w) (fit s ts (from_list vs)) f in
    ap (λ (x : List ℕ). bytes_of s t.kind w ++ x) (spelling_join s ts ps vs v c.1)
    ∙ sym (append_assoc (bytes_of s t.kind w) (spelling s ts (from_list vs)) (spelling s ps v))

count_join : (vs : List Tree) (v : Values) → count_nodes (join vs v) ≡ count_nodes (from_list vs) + count_nodes v
count_join [] v = sym (zero-add (count_nodes v))
count_join (w ∷ vs) v = omega (arith, count_join vs v)

-- ---- the value that goes on with what is owed

-- values of the parts at work, and of all that is owed around them, are a value of the root
abbrev Fills : List KindView → (t : ℕ) → (bytes : List ℕ) → (count : ℕ) → Type 0
Fills s t bytes count =
    (w : Values) × (fit s (item_part t ∷ []) w ≡ true) × (spelling s (item_part t ∷ []) w ≡ bytes)
    × (count_nodes w ≡ count)

module _ (s : List KindView) (t : ℕ) where
  -- a node and the parts after it, after those that are finished
  one_more : (ls : List Level) (l : Level) (ts left : List Part) (p : Part) (h : Head) (inner v : Values)
      → fit s ts (from_list l.done) ≡ true → is_legal s (kind_at s p.kind) h ≡ true
      → fit s (parts (kind_at s p.kind) h) inner ≡ true → fit s left v ≡ true
      → fit s (ts ++ p ∷ left) (join l.done (value.node h inner v)) ≡ true
  one_more ls l ts left p h inner v f legal g rest =
      fit_join s ts (p ∷ left) l.done (value.node h inner v) f
      (and (is_legal s (kind_at s p.kind) h && fit s (parts (kind_at s p.kind) h) inner) (fit s left v)
      (and (is_legal s (kind_at s p.kind) h) (fit s (parts (kind_at s p.kind) h) inner) legal g) rest)

  fills : (ls : List Level) (fs : List (List Part)) (h : Head) (ps : List Part) (o : List ℕ) (v : Values) (place : ℕ)
      (x : List ℕ) (es : List Entry)
      → Opens s t ls fs h ps o → fit s ps v ≡ true → Completes s place (dues fs) x es
      → Fills s t (o ++ (spelling s ps v ++ x)) (nodes_in ls + (count_nodes v + nodes s es))
  fills [] [] h ps o v place x es a f c = (
    v,
    subst (λ (qs : List Part). fit s qs v ≡ true) a.1 f,
    ap (λ (qs : List Part). spelling s qs v) (sym a.1) ∙ sym (append-nil (spelling s ps v))
        ∙ ap (λ (y : List ℕ). spelling s ps v ++ y) (sym c.0)
        ∙ ap (λ (y : List ℕ). y ++ (spelling s ps v ++ x)) (sym a.2),
    omega (arith, ap (λ (l : List Entry). nodes s l) c.1),
  )
  fills [] (left ∷ fs) h ps o v place x es a f c = absurd a
  fills (l ∷ ls) [] h ps o v place x es a f c = absurd a
  fills (l ∷ ls) (left ∷ fs) h ps o v place x es a f c =
      let p : Part = a.1 in
      let k : KindView = kind_at s p.kind in
      let u : Values = c.0 in
      let y : List ℕ = c.1 in
      let inside : fit s (parts k h) v ≡ true = subst (λ (qs : List Part). fit s qs v ≡ true) a.7 f in
      let all : Values = join l.done (value.node h v u) in
      let fine = one_more ls l a.0 left p h v u a.4 a.6 inside c.3 in
      let w = fills ls fs l.head (a.0 ++ p ∷ left) a.2 all (place + length (spelling s left u)) y c.2 a.3 fine c.6 in
      let done : List ℕ = spelling s a.0 (from_list l.done) in
      let reported : spelling s (a.0 ++ p ∷ left) all ≡ done ++ ((own k h ++ spelling s ps v) ++ spelling s left u) =
      spelling_join s a.0 (p ∷ left) l.done (value.node h v u) a.4
      ∙ ap (λ (qs : List Part). done ++ ((own k h ++ spelling s qs v) ++ spelling s left u)) (sym a.7) in
      let bytes : a.2 ++ (spelling s (a.0 ++ p ∷ left) all ++ y) ≡ o ++ (spelling s ps v ++ x) =
      ap (λ (z : List ℕ). a.2 ++ (z ++ y)) reported
      ∙ shuffle a.2 done (own k h) (spelling s ps v) (spelling s left u) y
      ∙ ap (λ (z : List ℕ). ((a.2 ++ done) ++ own k h) ++ (spelling s ps v ++ z)) (sym c.4)
      ∙ ap (λ (z : List ℕ). z ++ (spelling s ps v ++ x)) (sym a.8) in
      let counted : nodes s es ≡ count_nodes u + nodes s c.2 =
      ap (λ (z : List Entry). nodes s z) c.5
      ∙ nodes_append s (layout s place (length fs + 1) left u) c.2
      ∙ ap (λ (n : ℕ). n + nodes s c.2) (nodes_whole s place (length fs + 1) left u c.3) in (
        w.0,
        w.1,
        w.2 ∙ bytes,
        omega (arith, w.3, count_join l.done (value.node h v u), counted),
      )
    where
      shuffle : (r d o i a y : List ℕ) → r ++ ((d ++ ((o ++ i) ++ a)) ++ y) ≡ ((r ++ d) ++ o) ++ (i ++ (a ++ y))
      shuffle r d o i a y =
          ap (λ (z : List ℕ). r ++ z) (append_assoc d ((o ++ i) ++ a) y
          ∙ ap (λ (z : List ℕ). d ++ z) (append_assoc (o ++ i) a y ∙ append_assoc o i (a ++ y)))
          ∙ sym (append_assoc r d (o ++ (i ++ (a ++ y)))) ∙ sym (append_assoc (r ++ d) o (i ++ (a ++ y)))

  -- the value that stands for values of the root
  one_of : (w : Values) → fit s (item_part t ∷ []) w ≡ true
      → (v : Tree) × (w ≡ from_list (v ∷ [])) × Fits s t v × (spelling s (item_part t ∷ []) w ≡ bytes_of s t v)
  one_of value.none f = absurd (false≢true f)
  one_of (value.node h inner (value.node g i r)) f =
      absurd (false≢true (both (fits s t (h, inner)) false f).1)
  one_of (value.node h inner value.none) f =
      let v : Tree = (h, inner) in
      (v, refl, (both (fits s t v) true f).0, append-nil (bytes_of s t v))

  -- so many nodes have begun, where the values that go on have so many and those of the parts that begin later
  same_count : (l : Bounds) (ds : List Due) (q : List ℕ) (n : ℕ) (r : Reading s t l ds q)
      → ((c : List ℕ) (es : List Entry) → Completes s (length q) ds c es → Fills s t (q ++ c) (n + nodes s es))
      → nodes s r.begun ≡ n
  same_count l ds q n r go =
      let v : Tree = r.front.0 in
      let fitting : Fits s t v = r.front.1.0 in
      let more : List ℕ = r.front.1.1 in
      let into = r.reads.into more (entries s t v)
      (subst (λ (x : List ℕ). Completes s 0 (root t) x (entries s t v)) r.front.1.2 (completion_of s t v fitting)) in
      let rest = subst (λ (m : ℕ). Completes s m ds more into.0) (zero-add (length q)) into.2 in
      let w = go more into.0 rest in
      let u = one_of w.0 w.1 in
      let same : u.0 ≡ v = (one s t u.0 v [] [] u.2 fitting
      (ap (λ (x : List ℕ). x ++ []) (sym u.3 ∙ w.2 ∙ sym r.front.1.2))).0 in
      let whole : nodes s (entries s t v) ≡ count_nodes (from_list (v ∷ [])) =
      nodes_whole s 0 1 (item_part t ∷ []) (from_list (v ∷ [])) (root_fits s t v fitting) in
      let counted : count_nodes w.0 ≡ count_nodes (from_list (v ∷ [])) =
      ap (λ (x : Values). count_nodes x) (u.1 ∙ ap (λ (x : Tree). from_list (x ∷ [])) same) in
      let split : nodes s (entries s t v) ≡ nodes s r.begun + nodes s into.0 =
      ap (λ (x : List Entry). nodes s x) into.1 ∙ nodes_append s r.begun into.0 in
      omega (arith, w.3, counted, whole, split)

  -- between parts
  pub next_count : (l : Bounds) (ls : List Level) (fs : List (List Part)) (q : List ℕ) (r : Reading s t l (dues fs) q)
      → Built s t ls fs q → nodes s r.begun + 1 ≡ nodes_in ls
  next_count l [] fs q r b = absurd b
  next_count l (m ∷ ls) [] q r b = absurd b
  next_count l (m ∷ ls) (left ∷ fs) q r b =
      let done : List ℕ = spelling s b.0 (from_list m.done) in
      let n : ℕ = count_nodes (from_list m.done) + nodes_in ls in
      let e = same_count l (dues (left ∷ fs)) q n r (λ c es o.
      let all : Values = join m.done o.0 in
      let w = fills ls fs m.head (b.0 ++ left) b.1 all (length q + length (spelling s left o.0)) o.1 o.2 b.2
      (fit_join s b.0 left m.done o.0 b.3 o.3) o.6 in
      let bytes : b.1 ++ (spelling s (b.0 ++ left) all ++ o.1) ≡ q ++ c =
      ap (λ (z : List ℕ). b.1 ++ (z ++ o.1)) (spelling_join s b.0 left m.done o.0 b.3)
      ∙ ap (λ (z : List ℕ). b.1 ++ z) (append_assoc done (spelling s left o.0) o.1)
      ∙ sym (append_assoc b.1 done (spelling s left o.0 ++ o.1))
      ∙ ap (λ (z : List ℕ). z ++ (spelling s left o.0 ++ o.1)) (sym b.4)
      ∙ ap (λ (z : List ℕ). q ++ z) (sym o.4) in
      let counted : nodes s es ≡ count_nodes o.0 + nodes s o.2 =
      ap (λ (z : List Entry). nodes s z) o.5
      ∙ nodes_append s (layout s (length q) (length fs + 1) left o.0) o.2
      ∙ ap (λ (k : ℕ). k + nodes s o.2) (nodes_whole s (length q) (length fs + 1) left o.0 o.3) in
      (w.0, w.1, w.2 ∙ bytes, omega (arith, w.3, count_join m.done o.0, counted))) in
      omega (arith, e)

  -- inside content
  pub into_count : (l : Bounds) (ls : List Level) (fs : List (List Part)) (content : List ℕ) (make : List ℕ → Head)
      (n : ℕ)
      (q : List ℕ) (r : Reading s t l (Rest n ∷ dues fs) q)
      → BuiltInto s t ls fs content make n q → nodes s r.begun ≡ nodes_in ls
  into_count l [] fs content make n q r b = absurd b
  into_count l (m ∷ ls) [] content make n q r b = absurd b
  into_count l (m ∷ ls) (left ∷ fs) content make n q r b =
      let p : Part = b.1 in
      let k : KindView = kind_at s p.kind in
      let done : List ℕ = spelling s b.0 (from_list m.done) in
      same_count l (Rest n ∷ dues (left ∷ fs)) q (nodes_in (m ∷ ls)) r (λ c es a.
      let o = a.5 in
      let bs : List ℕ = content ++ a.0 in
      let size : length bs ≡ length content + n = omega (arith, length-append content a.0, a.2) in
      let made = b.6 bs size (are_bytes_of bs (AreBytes-append content a.0 (bytes_are content b.9) a.3)) in
      let h : Head = make bs in
      let u : Values = value.node h value.none o.0 in
      let all : Values = join m.done u in
      let inner : fit s (parts k h) value.none ≡ true =
      subst (λ (qs : List Part). fit s qs value.none ≡ true) (sym made.2) refl in
      let fine = one_more ls m b.0 left p h value.none o.0 b.5 made.0 inner o.3 in
      let w = fills ls fs m.head (b.0 ++ p ∷ left) b.2 all
      (length q + (n + length (pad n)) + length (spelling s left o.0)) o.1 o.2 b.4 fine o.6 in
      let node : own k h ++ spelling s (parts k h) value.none ≡ b.3 ++ (bs ++ pad n) =
      ap (λ (qs : List Part). own k h ++ spelling s qs value.none) made.2 ∙ append-nil (own k h) ∙ made.1
      ∙ ap (λ (z : List ℕ). b.3 ++ (bs ++ z)) (same_pad (length content) n b.8) in
      let reported : spelling s (b.0 ++ p ∷ left) all ≡ done ++ ((b.3 ++ (bs ++ pad n)) ++ spelling s left o.0) =
      spelling_join s b.0 (p ∷ left) m.done u b.5
      ∙ ap (λ (z : List ℕ). done ++ (z ++ spelling s left o.0)) node in
      let bytes : b.2 ++ (spelling s (b.0 ++ p ∷ left) all ++ o.1) ≡ q ++ c =
      ap (λ (z : List ℕ). b.2 ++ (z ++ o.1)) reported
      ∙ shuffle b.2 done b.3 content a.0 (pad n) (spelling s left o.0) o.1
      ∙ ap (λ (z : List ℕ). z ++ (a.0 ++ (pad n ++ (spelling s left o.0 ++ o.1)))) (sym b.7)
      ∙ ap (λ (z : List ℕ). q ++ (a.0 ++ (pad n ++ z))) (sym o.4)
      ∙ ap (λ (z : List ℕ). q ++ z) (sym a.4) in
      let counted : nodes s es ≡ count_nodes o.0 + nodes s o.2 =
      ap (λ (z : List Entry). nodes s z) o.5
      ∙ nodes_append s (layout s (length q + (n + length (pad n))) (length fs + 1) left o.0) o.2
      ∙ ap (λ (k : ℕ). k + nodes s o.2)
      (nodes_whole s (length q + (n + length (pad n))) (length fs + 1) left o.0 o.3) in
      (w.0, w.1, w.2 ∙ bytes, omega (arith, w.3, count_join m.done u, counted)))
    where
      same_pad : (m n : ℕ) → m % 4 ≡ 0 → pad (m + n) ≡ pad n
      same_pad m n e = ap (λ (k : ℕ). replicate k 0) (omega (arith, e))

      shuffle : (r d f c b z a y : List ℕ)
          → r ++ ((d ++ ((f ++ ((c ++ b) ++ z)) ++ a)) ++ y) ≡ ((r ++ d) ++ (f ++ c)) ++ (b ++ (z ++ (a ++ y)))
      shuffle r d f c b z a y =
          ap (λ (x : List ℕ). r ++ x) (append_assoc d ((f ++ ((c ++ b) ++ z)) ++ a) y
          ∙ ap (λ (x : List ℕ). d ++ x) (append_assoc (f ++ ((c ++ b) ++ z)) a y
          ∙ append_assoc f ((c ++ b) ++ z) (a ++ y)
          ∙ ap (λ (x : List ℕ). f ++ x) (append_assoc (c ++ b) z (a ++ y) ∙ append_assoc c b (z ++ (a ++ y)))
          ∙ sym (append_assoc f c (b ++ (z ++ (a ++ y))))))
          ∙ sym (append_assoc r d ((f ++ c) ++ (b ++ (z ++ (a ++ y)))))
          ∙ sym (append_assoc (r ++ d) (f ++ c) (b ++ (z ++ (a ++ y))))
