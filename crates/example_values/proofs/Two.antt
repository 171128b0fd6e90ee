-- A structure of a number and a string.
use Rattle.std.proofs.Common.{◌≡◌, ℕ, pos, ◌&&◌, Bool, true, false, List, [], ◌∷◌, ◌++◌, length, codes, refl, ap, sym}
use Rattle.std.proofs.Common.{◌∙◌, subst, ℤ}
use Rattle.std.proofs.lemmas.Bool.{false≢true, and_parts as both}
use Rattle.xdr_types.specs.Kinds.{KindView, kind_at}
use Rattle.xdr_types.specs.Tree as value
use Rattle.xdr_types.specs.Tree.{Head, Values, Tree, from_list}
use Rattle.xdr_types.specs.Fits.{Fits}
use Rattle.xdr_types.specs.Spelling.{bytes_of}
use Rattle.xdr_writer.specs.Items.{ItemView, number, content}
use Rattle.xdr_writer.specs.ItemsOf.{items_of}
use Rattle.xdr_writer.specs.Laws.{ItemsTellValue}
use Rattle.xdr_filling.specs.Filled.{IsValue}
use Rattle.example_values.specs.Pair.{pair_kinds, pair_bytes}
use Rattle.example_values.proofs.Single.{Has, known}

abbrev pub three : ItemView
three = number (pos 3)

abbrev pub abc : ItemView
abc = content (codes "abc")

abbrev pub pair : Tree
pair = (
  value.fields,
  value.node (value.int (pos 3)) value.none (value.node (value.bytes (codes "abc")) value.none value.none),
)

pub pair_is : (kinds : List KindView) (most : ℕ) (bytes : List ℕ) → kinds ≡ pair_kinds → ItemsTellValue pair_kinds
    → IsValue kinds 2 most (three ∷ abc ∷ []) bytes → bytes ≡ pair_bytes
pair_is kinds most bytes e tell v =
    let w : IsValue pair_kinds 2 most (three ∷ abc ∷ []) bytes =
    subst (λ (x : List KindView). IsValue x 2 most (three ∷ abc ∷ []) bytes) e v in
    sym w.4 ∙ ap (λ (t : Tree). bytes_of pair_kinds 2 t) (tell 2 w.0 pair w.1 refl w.3)

never : {A : Type 0} → false ≡ true → A
never e = absurd (false≢true e)

-- its first item is not all of them
early : (bytes : List ℕ) (h : Head) (vs : Values) → Has pair_kinds (kind_at pair_kinds 2) (three ∷ []) bytes h vs → ⊥
early bytes value.fields value.none has = never has.fits
early bytes value.fields (value.node h w value.none) has = never (both _ _ has.fits).1
early bytes value.fields (value.node (value.int y) value.none (value.node (value.bytes xs) w v)) has =
    more_items y xs _ has.told
  where
    more_items : (y : ℤ) (xs : List ℕ) (is : List ItemView) → number y ∷ content xs ∷ is ≡ three ∷ [] → ⊥
    more_items y xs is e = cc
early bytes value.fields (value.node (value.int y) value.none (value.node h w v)) has = never (both _ _ has.fits).1
early bytes value.fields (value.node (value.int y) (value.node a b c) r) has =
    never (both _ _ (both _ _ has.fits).0).1
early bytes value.fields (value.node h w r) has = never has.fits
early bytes h vs has = never has.fits

pub not_early : (kinds : List KindView) (most : ℕ) (bytes : List ℕ) → kinds ≡ pair_kinds
    → IsValue kinds 2 most (three ∷ []) bytes → ⊥
not_early kinds most bytes e v =
    let w : IsValue pair_kinds 2 most (three ∷ []) bytes =
    subst (λ (x : List KindView). IsValue x 2 most (three ∷ []) bytes) e v in
    early bytes w.0.0 w.0.1 (known pair_kinds 2 most (kind_at pair_kinds 2) (three ∷ []) bytes refl w)
