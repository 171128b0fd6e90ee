-- One more item, one more part.
use Rattle.std.proofs.Common.{◌≡◌, ℕ, ◌+◌, ◌<◌, List, [], ◌∷◌, ◌++◌, length, drop, get_or, map, replicate, true}
use Rattle.std.proofs.Common.{refl, ap, sym, ◌∙◌, subst, append_assoc, Option, Some}
use Rattle.std.proofs.lemmas.List.{at_drop_more, length-append}
use Rattle.std.proofs.lemmas.Bool.{and_parts as both}
use Rattle.xdr_types.specs.Kinds.{KindView, Part}
use Rattle.xdr_types.specs.KindViews.{part_of_member}
use Rattle.xdr_types.specs.Tree.{Tree, Values, none, node, from_list}
use Rattle.xdr_types.specs.Fits.{fits, fit, optional_part}
use Rattle.xdr_types.specs.Spelling.{spelling, bytes_of}
use Rattle.xdr_types.specs.View.{tree, values}
use Rattle.xdr_types.specs.declared.value.Value.{Value}
use Rattle.xdr_types.specs.declared.kind.Member.{Member}

pub values-at : (vs : List Value) (i : ℕ) (v : Value) → i < length vs → v ≡ get_or vs i v
    → values (drop i vs) ≡ node (tree v).0 (tree v).1 (values (drop (i + 1) vs))
values-at vs i v h is = at_drop_more values vs i v h
    ∙ ap (λ w. node (tree w).0 (tree w).1 (values (drop (i + 1) vs))) (sym is)

pub items-at : (p : Part) (vs : List Value) (i : ℕ) (v : Value) → i < length vs
    → replicate (length (drop i vs)) p ≡ p ∷ replicate (length (drop (i + 1) vs)) p
items-at p vs i v h = at_drop_more (λ ws. replicate (length ws) p) vs i v h

pub fields-at : (ms : List Member) (i : ℕ) (m : Member) → i < length ms → m ≡ get_or ms i m
    → map part_of_member (drop i ms) ≡ part_of_member m ∷ map part_of_member (drop (i + 1) ms)
fields-at ms i m h is = at_drop_more (map part_of_member) ms i m h
    ∙ ap (λ w. part_of_member w ∷ map part_of_member (drop (i + 1) ms)) (sym is)

-- the first of the values, and the rest
pub first-fits : (kinds : List KindView) (p : Part) (ps qs : List Part) (t : Tree) (vs ws : Values) → qs ≡ p ∷ ps
    → ws ≡ node t.0 t.1 vs → fit kinds qs ws ≡ true
    → (fits kinds p.kind t ≡ true) × (fit kinds ps vs ≡ true)
first-fits kinds p ps qs t vs ws qe we h =
    both (fits kinds p.kind t) (fit kinds ps vs)
    (subst (λ (z : List Part). fit kinds z (node t.0 t.1 vs) ≡ true) qe
    (subst (λ (z : Values). fit kinds qs z ≡ true) we h))

pub reported-step : (kinds : List KindView) (p : Part) (ps qs : List Part) (t : Tree) (vs ws : Values)
    (out new all : List ℕ) → qs ≡ p ∷ ps → ws ≡ node t.0 t.1 vs
    → out ++ spelling kinds qs ws ≡ all → new ≡ out ++ bytes_of kinds p.kind t → new ++ spelling kinds ps vs ≡ all
reported-step kinds p ps qs t vs ws out new all qe we reported e =
    ap (λ z. z ++ spelling kinds ps vs) e ∙ append_assoc out (bytes_of kinds p.kind t) (spelling kinds ps vs)
    ∙ ap (λ z. out ++ spelling kinds (p ∷ ps) z) (sym we) ∙ ap (λ z. out ++ spelling kinds z ws) (sym qe) ∙ reported

-- the part of a choice
pub chosen-fits : (kinds : List KindView) (o : Option Part) (p : Part) (t : Tree) → o ≡ Some p
    → fit kinds (optional_part o) (from_list (t ∷ [])) ≡ true → fits kinds p.kind t ≡ true
chosen-fits kinds o p t e h = (first-fits kinds p [] (optional_part o) t none (from_list (t ∷ []))
    (ap optional_part e) refl h).0

pub length-step : (kinds : List KindView) (p : Part) (ps qs : List Part) (t : Tree) (vs ws : Values) → qs ≡ p ∷ ps
    → ws ≡ node t.0 t.1 vs
    → length (spelling kinds qs ws) ≡ length (bytes_of kinds p.kind t) + length (spelling kinds ps vs)
length-step kinds p ps qs t vs ws qe we =
    ap (λ (z : Values). length (spelling kinds qs z)) we
    ∙ ap (λ (z : List Part). length (spelling kinds z (node t.0 t.1 vs))) qe
    ∙ length-append (bytes_of kinds p.kind t) (spelling kinds ps vs)

-- no values have no bytes, whatever the parts are
pub nothing_spelled : (kinds : List KindView) (ps : List Part) → length (spelling kinds ps none) ≡ 0
nothing_spelled kinds [] = refl
nothing_spelled kinds (p ∷ ps) = refl
