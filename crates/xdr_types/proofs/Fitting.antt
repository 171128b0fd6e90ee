-- Facts about values one after another.
use Rattle.std.proofs.Common.{◌≡◌, List, [], ◌∷◌, length, map, Bool, true, false, ◌&&◌, refl, ap, ◌∙◌, arith, suc}
use Rattle.std.proofs.lemmas.Bool.{false≢true}
use Rattle.std.proofs.lemmas.Bool.{and_parts as both}
use Rattle.xdr_types.specs.Kinds.{KindView}
use Rattle.xdr_types.specs.KindViews.{part_of_member}
use Rattle.xdr_types.specs.Fits.{fits, fit}
use Rattle.xdr_types.specs.View.{tree, values}
use Rattle.xdr_types.specs.Same.{same, same_values}
use Rattle.xdr_types.specs.declared.value.Value.{Value}
use Rattle.xdr_types.specs.declared.kind.Member.{Member}

and-false : (b : Bool) → b && false ≡ false
and-false true = refl
and-false false = refl

-- no value of a structure has another number of parts
pub fit-lengths : (kinds : List KindView) (ms : List Member) (vs : List Value) → (length ms ≡ length vs → ⊥)
    → fit kinds (map part_of_member ms) (values vs) ≡ false
fit-lengths kinds [] [] h = absurd (h refl)
fit-lengths kinds [] (v ∷ vs) h = refl
fit-lengths kinds (m ∷ ms) [] h = refl
fit-lengths kinds (m ∷ ms) (v ∷ vs) h =
    ap (λ b. fits kinds m.kind.place (tree v) && b) (fit-lengths kinds ms vs (λ e. h (omega (arith, e)))) ∙ and-false _

pub same-lengths : (vs ws : List Value) → (length vs ≡ length ws → ⊥) → same_values (values vs) (values ws) ≡ false
same-lengths [] [] h = absurd (h refl)
same-lengths [] (w ∷ ws) h = refl
same-lengths (v ∷ vs) [] h = refl
same-lengths (v ∷ vs) (w ∷ ws) h =
    ap (λ b. same (tree v) (tree w) && b) (same-lengths vs ws (λ e. h (omega (arith, e)))) ∙ and-false _

-- a structure with a value has as many parts
pub fit-count : (kinds : List KindView) (ms : List Member) (vs : List Value)
    → fit kinds (map part_of_member ms) (values vs) ≡ true → length ms ≡ length vs
fit-count kinds [] [] h = refl
fit-count kinds [] (v ∷ vs) h = absurd (false≢true h)
fit-count kinds (m ∷ ms) [] h = absurd (false≢true h)
fit-count kinds (m ∷ ms) (v ∷ vs) h = ap suc
    (fit-count kinds ms vs (both (fits kinds m.kind.place (tree v))
    (fit kinds (map part_of_member ms) (values vs)) h).1)
