-- How the finished parts grow with what is read.
use Rattle.std.proofs.Common.{◌≡◌, ℕ, true, false, List, [], ◌∷◌, ◌++◌, length, refl, sym, ap, subst, ◌∙◌}
use Rattle.std.proofs.Common.{append_assoc, append-nil, arith, inl, inr}
use Rattle.std.proofs.lemmas.Bool.{false≢true}
use Rattle.std.proofs.lemmas.List.{length-append}
use Rattle.xdr_types.specs.Kinds.{KindView, Part, kind_at}
use Rattle.xdr_types.specs.Tree as value
use Rattle.xdr_types.specs.Tree.{Head, Tree, from_list}
use Rattle.xdr_types.specs.Fits.{Fits, fit, fits, is_legal, parts, item_part}
use Rattle.xdr_types.specs.Spelling.{own, spelling, bytes_of}
use Rattle.xdr_laws.proofs.Legal.{both, and, legal_is}
use Rattle.xdr_stream.specs.Trace.{Level, level, IsOpen}
use Rattle.xdr_stream.specs.Private.Reported.{added, add, close_levels, CanCloseLevels, HasSpaceAt}
use Rattle.xdr_stream.specs.Sees.{Opens, Built}
use Rattle.xdr_stream.proofs.Filled.{as_many, fit_last, spelling_last, many_or, added_many, many_space, few_space}
use Rattle.xdr_stream.proofs.Filled.{added_few, filled}

-- a node that has parts to come takes one more
added_opens : (s : List KindView) (t : ℕ) (ls : List Level) (fs : List (List Part)) (h : Head) (ts left : List Part)
    (p : Part) (r : List ℕ) (done : List Tree) (v : Tree)
    → Opens s t ls fs h (ts ++ p ∷ left) r → length ts ≡ length done → added h done v ≡ done ++ v ∷ []
added_opens s t [] [] h ts left p r done v o n =
    let few : length (ts ++ p ∷ left) ≡ 1 = ap (λ (l : List Part). length l) o.1 in
    added_few h done v (omega (arith, length-append ts (p ∷ left)))
added_opens s t (l ∷ ls) (f ∷ fs) h ts left p r done v o n =
    elim (many_or s (kind_at s o.1.kind) h (legal_is s (kind_at s o.1.kind) h o.6)) [
      | inl many ↦ added_many h done v many
      | inr few ↦ added_few h done v (omega
          (arith, few, ap (λ (x : List Part). length x) o.7, length-append ts (p ∷ left)))
    ]
added_opens s t [] (f ∷ fs) h ts left p r done v o n = absurd o
added_opens s t (l ∷ ls) [] h ts left p r done v o n = absurd o

-- and has space for it
pub space_opens : (s : List KindView) (t : ℕ) (ls : List Level) (fs : List (List Part)) (h : Head) (ts left : List Part)
    (p : Part) (r : List ℕ) (done : List Tree)
    → Opens s t ls fs h (ts ++ p ∷ left) r → length ts ≡ length done → HasSpaceAt h done
space_opens s t [] [] h ts left p r done o n =
    let few : length (ts ++ p ∷ left) ≡ 1 = ap (λ (l : List Part). length l) o.1 in
    few_space h done (omega (arith, length-append ts (p ∷ left)))
space_opens s t (l ∷ ls) (f ∷ fs) h ts left p r done o n =
    elim (many_or s (kind_at s o.1.kind) h (legal_is s (kind_at s o.1.kind) h o.6)) [
      | inl many ↦ many_space h done many
      | inr few ↦ few_space h done (omega
          (arith, few, ap (λ (x : List Part). length x) o.7, length-append ts (p ∷ left)))
    ]
space_opens s t [] (f ∷ fs) h ts left p r done o n = absurd o
space_opens s t (l ∷ ls) [] h ts left p r done o n = absurd o

-- a value of the next part
pub finish : (s : List KindView) (t : ℕ) (l : Level) (ls : List Level) (fs : List (List Part)) (ts left : List Part)
    (p : Part) (r : List ℕ) (v : Tree)
    → Opens s t ls fs l.head (ts ++ p ∷ left) r → fit s ts (from_list l.done) ≡ true → fits s p.kind v ≡ true
    → Built s t (add v (l ∷ ls)) (left ∷ fs) ((r ++ spelling s ts (from_list l.done)) ++ bytes_of s p.kind v)
finish s t l ls fs ts left p r v o f g =
    let n : length ts ≡ length l.done = as_many s ts l.done f in
    let same : added l.head l.done v ≡ l.done ++ v ∷ [] = added_opens s t ls fs l.head ts left p r l.done v o n in
    let grouped : ts ++ p ∷ left ≡ (ts ++ p ∷ []) ++ left = sym (append_assoc ts (p ∷ []) left) in
    let whole : Built s t (level l.head (l.done ++ v ∷ []) ∷ ls) (left ∷ fs)
    ((r ++ spelling s ts (from_list l.done)) ++ bytes_of s p.kind v) = (
      ts ++ p ∷ [],
      r,
      subst (λ (x : List Part). Opens s t ls fs l.head x r) grouped o,
      fit_last s ts l.done p v n ∙ and (fit s ts (from_list l.done)) (fits s p.kind v) f g,
      append_assoc r (spelling s ts (from_list l.done)) (bytes_of s p.kind v)
          ∙ ap (λ (x : List ℕ). r ++ x) (sym (spelling_last s ts l.done p v n)),
    ) in
    subst (λ (d : List Tree). Built s t (level l.head d ∷ ls) (left ∷ fs)
    ((r ++ spelling s ts (from_list l.done)) ++ bytes_of s p.kind v)) (sym same) whole

pub built_start : (s : List KindView) (t : ℕ) → Built s t (level value.nothing [] ∷ []) ((item_part t ∷ []) ∷ []) []
built_start s t = ([], [], (refl, refl, refl), refl, refl)

-- a node without parts is read
pub built_leaf : (s : List KindView) (t : ℕ) (ls : List Level) (fs : List (List Part)) (p : Part) (left : List Part)
    (q : List ℕ) (h : Head)
    → is_legal s (kind_at s p.kind) h ≡ true → parts (kind_at s p.kind) h ≡ [] → Built s t ls ((p ∷ left) ∷ fs) q
    → Built s t (add (h, value.none) ls) (left ∷ fs) (q ++ own (kind_at s p.kind) h)
built_leaf s t [] fs p left q h l none b = absurd b
built_leaf s t (m ∷ ls) fs p left q h l none b =
    let v : Tree = (h, value.none) in
    let k : KindView = kind_at s p.kind in
    let fitting : fits s p.kind v ≡ true =
    and (is_legal s k h) (fit s (parts k h) value.none) l
    (subst (λ (ps : List Part). fit s ps value.none ≡ true) (sym none) refl) in
    let bytes : bytes_of s p.kind v ≡ own k h = ap (λ (ps : List Part). own k h ++ spelling s ps value.none) none
    ∙ append-nil (own k h) in
    subst (λ (x : List ℕ). Built s t (add v (m ∷ ls)) (left ∷ fs) x)
    (ap (λ (x : List ℕ). x ++ bytes_of s p.kind v) (sym b.4) ∙ ap (λ (x : List ℕ). q ++ x) bytes)
    (finish s t m ls fs b.0 left p b.1 v b.2 b.3 fitting)

-- a node with parts is opened
pub built_open : (s : List KindView) (t : ℕ) (ls : List Level) (fs : List (List Part)) (p : Part) (left : List Part)
    (q : List ℕ) (h : Head)
    → IsOpen h → is_legal s (kind_at s p.kind) h ≡ true → Built s t ls ((p ∷ left) ∷ fs) q
    → Built s t (level h [] ∷ ls) (parts (kind_at s p.kind) h ∷ left ∷ fs) (q ++ own (kind_at s p.kind) h)
built_open s t [] fs p left q h o l b = absurd b
built_open s t (m ∷ ls) fs p left q h o l b =
    let k : KindView = kind_at s p.kind in
    let bytes : List ℕ = q ++ own k h in (
      [],
      bytes,
      (b.0, p, b.1, b.2, b.3, o, l, refl, ap (λ (x : List ℕ). x ++ own k h) b.4),
      refl,
      sym
          (append-nil bytes),
    )

-- and closed
pub built_close : (s : List KindView) (t : ℕ) (ls : List Level) (left : List Part) (fs : List (List Part)) (q : List ℕ)
    → Built s t ls ([] ∷ left ∷ fs) q → CanCloseLevels ls × Built s t (close_levels ls) (left ∷ fs) q
built_close s t [] left fs q b = absurd b
built_close s t (l ∷ []) left fs q b = absurd b.2
built_close s t (l ∷ m ∷ ls) left fs q b =
    let o = b.2 in
    let p : Part = o.1 in
    let k : KindView = kind_at s p.kind in
    let all : b.0 ≡ parts k l.head = sym (append-nil b.0) ∙ o.7 in
    let v : Tree = (l.head, from_list l.done) in
    let inside : fit s (parts k l.head) (from_list l.done) ≡ true =
    subst (λ (ps : List Part). fit s ps (from_list l.done) ≡ true) all b.3 in
    let fitting : fits s p.kind v ≡ true =
    and (is_legal s k l.head) (fit s (parts k l.head) (from_list l.done)) o.6 inside in
    let far : (o.2 ++ spelling s o.0 (from_list m.done)) ++ bytes_of s p.kind v ≡ q =
    sym (append_assoc (o.2 ++ spelling s o.0 (from_list m.done)) (own k l.head)
    (spelling s (parts k l.head) (from_list l.done)))
    ∙ ap (λ (x : List ℕ). x ++ spelling s (parts k l.head) (from_list l.done)) (sym o.8)
    ∙ ap (λ (ps : List Part). b.1 ++ spelling s ps (from_list l.done)) (sym all) ∙ sym b.4 in (
      (
        o.5,
        filled s k l.head l.done o.5 (legal_is s k l.head o.6) (as_many s (parts k l.head) l.done inside),
        space_opens s t ls fs m.head o.0 left p o.2 m.done o.3 (as_many s o.0 m.done o.4),
      ),
      subst (λ (x : List ℕ). Built s t (add v (m ∷ ls)) (left ∷ fs) x) far
          (finish s t m ls fs o.0 left p o.2 v o.3 o.4 fitting),
    )

-- the root is finished
pub built_whole : (s : List KindView) (t : ℕ) (ls : List Level) (q : List ℕ) → Built s t ls ([] ∷ []) q
    → (v : Tree) × (ls ≡ level value.nothing (v ∷ []) ∷ []) × Fits s t v × (bytes_of s t v ≡ q)
built_whole s t [] q b = absurd b
built_whole s t (l ∷ m ∷ ls) q b = absurd b.2
built_whole s t (l ∷ []) q b = the_one l.head l.done b.0 b.1 b.2.0 (sym (append-nil b.0) ∙ b.2.1) b.2.2 b.3 b.4
  where
    the_one : (h : Head) (done : List Tree) (ts : List Part) (r : List ℕ) → h ≡ value.nothing → ts ≡ item_part t ∷ []
        → r ≡ [] → fit s ts (from_list done) ≡ true → q ≡ r ++ spelling s ts (from_list done)
        → (v : Tree) × (level h done ∷ [] ≡ level value.nothing (v ∷ []) ∷ []) × Fits s t v × (bytes_of s t v ≡ q)
    the_one h done ts r hn tn rn f e =
        one_done h done hn (subst (λ (x : List Part). fit s x (from_list done) ≡ true) tn f)
        (sym (e ∙ ap (λ (x : List ℕ). x ++ spelling s ts (from_list done)) rn
        ∙ ap (λ (x : List Part). spelling s x (from_list done)) tn))
      where
        one_done : (h : Head) (done : List Tree) → h ≡ value.nothing → fit s (item_part t ∷ []) (from_list done) ≡ true
            → spelling s (item_part t ∷ []) (from_list done) ≡ q
            → (v : Tree) × (level h done ∷ [] ≡ level value.nothing (v ∷ []) ∷ []) × Fits s t v × (bytes_of s t v ≡ q)
        one_done h [] hn f e = absurd (false≢true f)
        one_done h (v ∷ []) hn f e = (
          v,
          ap (λ (x : Head). level x (v ∷ []) ∷ []) hn,
          (both (fits s t v) true f).0,
          sym
              (append-nil (bytes_of s t v)) ∙ e,
        )
        one_done h (v ∷ w ∷ done) hn f e = absurd (false≢true (both (fits s t v) false f).1)
