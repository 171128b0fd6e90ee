-- What is due means the bytes of the values that its JSON values spell.
use Rattle.std.proofs.Common.{◌≡◌, ℕ, ℤ, List, [], ◌∷◌, ◌++◌, length, replicate, Bool, true}
use Rattle.std.proofs.Common.{false, ◌&&◌}
use Rattle.std.proofs.Common.{refl, ap, sym, ◌∙◌, subst, arith, Option, Some, None}
use Rattle.std.proofs.lemmas.Bool.{false≢true, and_parts as both, and_from, eqb-true}
use Rattle.std.proofs.lemmas.List.{append_assoc, append-nil, length-map, length-replicate}
use Rattle.json.specs.Json as json
use Rattle.json.specs.Json.{Json}
use Rattle.xdr_types.specs.Kinds as xdr
use Rattle.xdr_types.specs.Kinds.{KindView, Part, kind_at}
use Rattle.xdr_types.specs.Tree as value
use Rattle.xdr_types.specs.Tree.{Head, Values, Tree}
use Rattle.xdr_types.specs.Fits.{is_legal, parts, part_of, optional_part, item_part}
use Rattle.xdr_types.specs.Spelling.{own, spelling, bytes_of}
use Rattle.xdr_json.specs.Spelled.{shows, under, spell, spells, is_list, list_of, under_list, under_fields}
use Rattle.xdr_json.specs.Spelled.{under_arm, under_present, is_present, is_group}
use Rattle.xdr_json.specs.Spelled.{is_choice, at_key}
use Rattle.xdr_json_reader.specs.Nodes.{Due, each, Shows, ShowsNone}
use Rattle.xdr_json_reader.specs.Private.Pending.{Means, all, one, Stands, Took}
use Rattle.xdr_json.proofs.Once.{AreApart, one_head}

-- ---- as many JSON values as parts

many : (n : ℕ) (p : Part) (j : Json) → is_list n j ≡ true → length (replicate n p) ≡ length (under_list j)
many n p (json.array js) h = length-replicate n p ∙ sym (eqb-true (length (list_of js)) n h)
many n p _ h = absurd (false≢true h)

few : (f : KindView) (p : Part) (j : Json) → is_present f j ≡ true → length (p ∷ []) ≡ length (under_present f j)
few (xdr.maybe inner) p j h = many 1 p j h
few f p j h = refl

fields : (ps : List Part) (j : Json) → is_group ps j ≡ true → length ps ≡ length (under_fields ps j)
fields ps (json.object ms) h = sym (length-map ps (λ (p : Part). at_key ms p.name))
fields ps _ h = absurd (false≢true h)

arm : (kinds : List KindView) (f : KindView) (z : ℤ) (o : Option Part) (j : Json)
    → is_choice kinds f z (optional_part o) j ≡ true
    → length (optional_part o) ≡ length (under_arm kinds (optional_part o) j)
arm kinds f z None j h = refl
arm kinds f z (Some p) (json.object ms) h = refl
arm kinds f z (Some p) _ h = absurd (false≢true h)

pub as_many : (kinds : List KindView) (f : KindView) (h : Head) (j : Json) → Shows kinds f j h
    → length (parts f h) ≡ length (under kinds f h j)
as_many kinds xdr.int (value.int z) j s = refl
as_many kinds xdr.int _ j s = absurd (false≢true s.legal)
as_many kinds xdr.unsigned (value.unsigned n) j s = refl
as_many kinds xdr.unsigned _ j s = absurd (false≢true s.legal)
as_many kinds xdr.hyper (value.hyper z) j s = refl
as_many kinds xdr.hyper _ j s = absurd (false≢true s.legal)
as_many kinds xdr.unsigned_hyper (value.unsigned_hyper n) j s = refl
as_many kinds xdr.unsigned_hyper _ j s = absurd (false≢true s.legal)
as_many kinds xdr.boolean (value.boolean b) j s = refl
as_many kinds xdr.boolean _ j s = absurd (false≢true s.legal)
as_many kinds (xdr.numbered cs) (value.numbered z) j s = refl
as_many kinds (xdr.numbered cs) _ j s = absurd (false≢true s.legal)
as_many kinds (xdr.opaque size) (value.bytes bs) j s = refl
as_many kinds (xdr.opaque size) _ j s = absurd (false≢true s.legal)
as_many kinds (xdr.opaque_up_to max) (value.bytes bs) j s = refl
as_many kinds (xdr.opaque_up_to max) _ j s = absurd (false≢true s.legal)
as_many kinds (xdr.text max) (value.bytes bs) j s = refl
as_many kinds (xdr.text max) _ j s = absurd (false≢true s.legal)
as_many kinds (xdr.fixed inner size) (value.items n) j s = many n (item_part inner) j s.shown
as_many kinds (xdr.fixed inner size) _ j s = absurd (false≢true s.legal)
as_many kinds (xdr.up_to inner max) (value.items n) j s = many n (item_part inner) j s.shown
as_many kinds (xdr.up_to inner max) _ j s = absurd (false≢true s.legal)
as_many kinds (xdr.structure ps) value.fields j s = fields ps j s.shown
as_many kinds (xdr.structure ps) _ j s = absurd (false≢true s.legal)
as_many kinds (xdr.choice tag arms other) (value.tag z) j s =
    arm kinds (kind_at kinds tag) z (part_of arms other z) j s.shown
as_many kinds (xdr.choice tag arms other) _ j s = absurd (false≢true s.legal)
as_many kinds (xdr.maybe inner) value.present j s = few (kind_at kinds inner) (item_part inner) j s.shown
as_many kinds (xdr.maybe inner) value.absent j s = refl
as_many kinds (xdr.maybe inner) _ j s = absurd (false≢true s.legal)
as_many kinds xdr.nothing value.nothing j s = refl
as_many kinds xdr.nothing _ j s = absurd (false≢true s.legal)
as_many kinds xdr.unknown _ j s = absurd (false≢true s.legal)

-- ---- what is due, step by step

abbrev pub Inverted : (kinds : List KindView) → List Due → List ℕ → Type 0
Inverted kinds [] bs = bs ≡ []
Inverted kinds (d ∷ more) bs =
    (h : Head) × (tail : List ℕ) × Shows kinds (kind_at kinds d.0) d.1 h × (bs ≡ own (kind_at kinds d.0) h ++ tail)
    × Means kinds (each (parts (kind_at kinds d.0) h) (under kinds (kind_at kinds d.0) h d.1) ++ more) tail

invert : (kinds : List KindView) (due : List Due) (bs : List ℕ) → Means kinds due bs → Inverted kinds due bs
invert kinds _ _ all = refl
invert kinds _ _ (one place j h more bs s m) = (h, bs, s, refl, m)

pub stands_start : (kinds : List KindView) (root : List Due) → Stands kinds root [] root
stands_start kinds root = record { sound = λ bs m. m; whole = λ bs m. (bs, refl, m) }

pub stands_took : (kinds : List KindView) → AreApart kinds → (root more next : List Due) (out new : List ℕ) (place : ℕ)
    (j : Json) → Stands kinds root out ((place, j) ∷ more) → Took kinds (kind_at kinds place) j out new more next
    → Stands kinds root new next
stands_took kinds apart root more next out new place j s t =
    let f = kind_at kinds place in record {
      sound = λ bs m.
          let under' = subst (λ (ds : List Due). Means kinds ds bs) t.parts m in
          let first = s.sound (own f t.head ++ bs) (one place j t.head more bs t.shows under') in
          subst (λ (z : List ℕ). Means kinds root z)
          (sym (append_assoc out (own f t.head) bs) ∙ ap (λ (z : List ℕ). z ++ bs) (sym t.bytes)) first;
      whole = λ bs m.
          let w = s.whole bs m in
          let i = invert kinds ((place, j) ∷ more) w.0 w.2 in
          let same : i.0 ≡ t.head =
          one_head kinds apart f i.0 t.head j (apart place) i.2.legal t.shows.legal i.2.shown t.shows.shown in
          let at = subst (λ (h : Head). Means kinds (each (parts f h) (under kinds f h j) ++ more) i.1) same i.4 in (
            i.1,
            w.1 ∙ ap (λ (z : List ℕ). out ++ z) (i.3 ∙ ap (λ (h : Head). own f h ++ i.1) same)
                ∙ sym (append_assoc out (own f t.head) i.1) ∙ ap (λ (z : List ℕ). z ++ i.1) (sym t.bytes),
            subst (λ (ds : List Due). Means kinds ds i.1) (sym t.parts) at,
          );
    }

pub stands_refused : (kinds : List KindView) (root more : List Due) (out : List ℕ) (place : ℕ) (j : Json)
    → Stands kinds root out ((place, j) ∷ more) → ShowsNone kinds (kind_at kinds place) j → (bs : List ℕ)
    → Means kinds root bs → ⊥
stands_refused kinds root more out place j s none bs m =
    let w = s.whole bs m in
    let i = invert kinds ((place, j) ∷ more) w.0 w.2 in
    none i.0 i.2

pub stands_end : (kinds : List KindView) (root : List Due) (out : List ℕ) → Stands kinds root out []
    → Means kinds root out × ((bs : List ℕ) → Means kinds root bs → bs ≡ out)
stands_end kinds root out s = (
  subst (λ (z : List ℕ). Means kinds root z) (append-nil out) (s.sound [] all),
  λ bs m.
      let w = s.whole bs m in
      w.1 ∙ ap (λ (z : List ℕ). out ++ z) (invert kinds [] w.0 w.2) ∙ append-nil out,
)

-- ---- what is due and the values that it spells

abbrev spell_due : List KindView → List Due → Values → Bool
spell_due kinds [] value.none = true
spell_due kinds (d ∷ ds) (value.node h inner rest) =
    ((is_legal kinds (kind_at kinds d.0) h && shows kinds (kind_at kinds d.0) h d.1)
    && spell kinds (parts (kind_at kinds d.0) h) (under kinds (kind_at kinds d.0) h d.1) inner)
    && spell_due kinds ds rest
spell_due kinds _ _ = false

abbrev bytes_due : List KindView → List Due → Values → List ℕ
bytes_due kinds (d ∷ ds) (value.node h inner rest) =
    (own (kind_at kinds d.0) h ++ spelling kinds (parts (kind_at kinds d.0) h) inner) ++ bytes_due kinds ds rest
bytes_due kinds _ _ = []

record Split (kinds : List KindView) (ps : List Part) (js : List Json) (more : List Due) (vs : Values) : Type 0 where
  inner : Values
  rest : Values
  spelled : spell kinds ps js inner ≡ true
  left : spell_due kinds more rest ≡ true
  bytes : bytes_due kinds (each ps js ++ more) vs ≡ spelling kinds ps inner ++ bytes_due kinds more rest

split : (kinds : List KindView) (ps : List Part) (js : List Json) (more : List Due) (vs : Values)
    → length ps ≡ length js → spell_due kinds (each ps js ++ more) vs ≡ true → Split kinds ps js more vs
split kinds [] [] more vs e h =
    record { inner = value.none; rest = vs; spelled = refl; left = h; bytes = refl }
split kinds [] (j ∷ js) more vs e h = absurd (omega (arith, e))
split kinds (p ∷ ps) [] more vs e h = absurd (omega (arith, e))
split kinds (p ∷ ps) (j ∷ js) more value.none e h = absurd (false≢true h)
split kinds (p ∷ ps) (j ∷ js) more (value.node g inner rest) e h =
    let f = kind_at kinds p.kind in
    let hs = both ((is_legal kinds f g && shows kinds f g j) && spell kinds (parts f g) (under kinds f g j) inner)
    (spell_due kinds (each ps js ++ more) rest) h in
    let two = split kinds ps js more rest (omega (arith, e)) hs.1 in
    record {
      inner = value.node g inner two.inner;
      rest = two.rest;
      spelled = and_from ((is_legal kinds f g && shows kinds f g j) && spell kinds (parts f g) (under kinds f g j)
          inner)
          (spell kinds ps js two.inner) hs.0 two.spelled;
      left = two.left;
      bytes = ap (λ (z : List ℕ). (own f g ++ spelling kinds (parts f g) inner) ++ z) two.bytes
          ∙ sym (append_assoc (own f g ++ spelling kinds (parts f g) inner) (spelling kinds ps two.inner)
          (bytes_due kinds more two.rest));
    }

spelled_due : (kinds : List KindView) (due : List Due) (bs : List ℕ) → Means kinds due bs
    → (vs : Values) × (spell_due kinds due vs ≡ true) × (bytes_due kinds due vs ≡ bs)
spelled_due kinds _ _ all = (value.none, refl, refl)
spelled_due kinds _ _ (one place j h more bs s m) =
    let f = kind_at kinds place in
    let inside = spelled_due kinds (each (parts f h) (under kinds f h j) ++ more) bs m in
    let two = split kinds (parts f h) (under kinds f h j) more inside.0 (as_many kinds f h j s) inside.1 in (
      value.node h two.inner two.rest,
      and_from ((is_legal kinds f h && shows kinds f h j) && spell kinds (parts f h) (under kinds f h j) two.inner)
          (spell_due kinds more two.rest)
          (and_from (is_legal kinds f h && shows kinds f h j) (spell kinds (parts f h) (under kinds f h j) two.inner)
          (and_from (is_legal kinds f h) (shows kinds f h j) s.legal s.shown) two.spelled) two.left,
      append_assoc (own f h) (spelling kinds (parts f h) two.inner) (bytes_due kinds more two.rest)
          ∙ ap (λ (z : List ℕ). own f h ++ z) (sym two.bytes ∙ inside.2),
    )

means_spelled : (kinds : List KindView) (ps : List Part) (js : List Json) (vs : Values) → spell kinds ps js vs ≡ true
    → (more : List Due) (bs : List ℕ) → Means kinds more bs
    → Means kinds (each ps js ++ more) (spelling kinds ps vs ++ bs)
means_spelled kinds [] [] value.none h more bs m = m
means_spelled kinds (p ∷ ps) (j ∷ js) (value.node g inner rest) h more bs m =
    let f = kind_at kinds p.kind in
    let hs = both ((is_legal kinds f g && shows kinds f g j) && spell kinds (parts f g) (under kinds f g j) inner)
    (spell kinds ps js rest) h in
    let gs = both (is_legal kinds f g && shows kinds f g j) (spell kinds (parts f g) (under kinds f g j) inner) hs.0 in
    let shown = both (is_legal kinds f g) (shows kinds f g j) gs.0 in
    let a = spelling kinds (parts f g) inner in
    let b = spelling kinds ps rest in
    let behind = means_spelled kinds ps js rest hs.1 more bs m in
    let inside = means_spelled kinds (parts f g) (under kinds f g j) inner gs.1 (each ps js ++ more)
    (spelling kinds ps rest ++ bs) behind in
    let made = one p.kind j g (each ps js ++ more)
    (spelling kinds (parts f g) inner ++ (spelling kinds ps rest ++ bs))
    (record { legal = shown.0; shown = shown.1 }) inside in
    subst (λ (z : List ℕ). Means kinds ((p.kind, j) ∷ (each ps js ++ more)) z)
    (sym (append_assoc (own f g) a (b ++ bs)) ∙ sym (append_assoc (own f g ++ a) b bs)) made
means_spelled kinds [] [] (value.node g inner rest) h more bs m = absurd (false≢true h)
means_spelled kinds [] (j ∷ js) value.none h more bs m = absurd (false≢true h)
means_spelled kinds [] (j ∷ js) (value.node g inner rest) h more bs m = absurd (false≢true h)
means_spelled kinds (p ∷ ps) [] value.none h more bs m = absurd (false≢true h)
means_spelled kinds (p ∷ ps) [] (value.node g inner rest) h more bs m = absurd (false≢true h)
means_spelled kinds (p ∷ ps) (j ∷ js) value.none h more bs m = absurd (false≢true h)

-- ---- the root

abbrev pub Rooted : List KindView → ℕ → Json → List ℕ → Type 0
Rooted kinds place j bs = (t : Tree) × (spells kinds place j t ≡ true) × (bytes_of kinds place t ≡ bs)

rooted : (kinds : List KindView) (place : ℕ) (j : Json) (bs : List ℕ) (vs : Values)
    → spell_due kinds ((place, j) ∷ []) vs ≡ true → bytes_due kinds ((place, j) ∷ []) vs ≡ bs → Rooted kinds place j bs
rooted kinds place j bs value.none h e = absurd (false≢true h)
rooted kinds place j bs (value.node g inner value.none) h e =
    let f = kind_at kinds place in
    let hs = both ((is_legal kinds f g && shows kinds f g j) && spell kinds (parts f g) (under kinds f g j) inner)
    true h
    in
    ((g, inner), hs.0, sym (append-nil (own f g ++ spelling kinds (parts f g) inner)) ∙ e)
rooted kinds place j bs (value.node g inner (value.node i more rest)) h e =
    let f = kind_at kinds place in
    let hs = both ((is_legal kinds f g && shows kinds f g j) && spell kinds (parts f g) (under kinds f g j) inner)
    false h
    in
    absurd (false≢true hs.1)

pub root_spelled : (kinds : List KindView) (place : ℕ) (j : Json) (bs : List ℕ) → Means kinds ((place, j) ∷ []) bs
    → Rooted kinds place j bs
root_spelled kinds place j bs m =
    let s = spelled_due kinds ((place, j) ∷ []) bs m in
    rooted kinds place j bs s.0 s.1 s.2

pub root_means : (kinds : List KindView) (place : ℕ) (j : Json) (t : Tree) → spells kinds place j t ≡ true
    → Means kinds ((place, j) ∷ []) (bytes_of kinds place t)
root_means kinds place j t h =
    let f = kind_at kinds place in
    let hs = both (is_legal kinds f t.0 && shows kinds f t.0 j) (spell kinds (parts f t.0) (under kinds f t.0 j) t.1)
    h in
    let shown = both (is_legal kinds f t.0) (shows kinds f t.0 j) hs.0 in
    let inside = means_spelled kinds (parts f t.0) (under kinds f t.0 j) t.1 hs.1 [] [] all in
    subst (λ (z : List ℕ). Means kinds ((place, j) ∷ []) (own f t.0 ++ z))
    (append-nil (spelling kinds (parts f t.0) t.1))
    (one place j t.0 [] (spelling kinds (parts f t.0) t.1 ++ []) (record { legal = shown.0; shown = shown.1 }) inside)
