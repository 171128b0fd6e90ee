-- Optional data beside a union and an array of at most one element (RFC 4506 section 4.19).
use Rattle.std.specs.Prelude.{◌≡◌, pos, List, [], ◌∷◌, None, codes}
use Rattle.xdr_types.specs.Kinds as xdr
use Rattle.xdr_types.specs.Kinds.{KindView}
use Rattle.xdr_types.specs.Tree as value
use Rattle.xdr_types.specs.Tree.{Head, Tree, from_list}
use Rattle.xdr_types.specs.Fits.{fits}
use Rattle.xdr_types.specs.Spelling.{bytes_of}
use Rattle.example_xdr.specs.Rfc.{part, arm}

-- the element's kind, bool and void, and then three kinds of it. Optional data is at place 3, at place 4 the union of
-- bool that has the element under TRUE and void under FALSE, at place 5 the array of at most one
abbrev pub optional_kinds : KindView → List KindView
optional_kinds element =
    element
    ∷ xdr.boolean
    ∷ xdr.nothing
    ∷ xdr.maybe 0
    ∷ xdr.choice 1 (arm 1 (part (codes "element") 0) ∷ arm 0 (part [] 2) ∷ []) None
    ∷ xdr.up_to 0 1
    ∷ []

-- a head with one value under it
abbrev pub over : Head → Tree → Tree
over head v = (head, from_list (v ∷ []))

-- a head with none under it
abbrev pub alone : Head → Tree
alone head = (head, value.none)

-- The three are alike: with an element each is a value where the others are, and has their bytes; so it is without one.
pub record AreAlike (element : KindView) (v : Tree) : Type 0 where
  pub union_bytes : bytes_of (optional_kinds element) 4 (over (value.tag (pos 1)) v)
      ≡ bytes_of (optional_kinds element) 3 (over value.present v)
  pub union_fits : fits (optional_kinds element) 4 (over (value.tag (pos 1)) v)
      ≡ fits (optional_kinds element) 3 (over value.present v)
  pub array_bytes : bytes_of (optional_kinds element) 5 (over (value.items 1) v)
      ≡ bytes_of (optional_kinds element) 3 (over value.present v)
  pub array_fits : fits (optional_kinds element) 5 (over (value.items 1) v)
      ≡ fits (optional_kinds element) 3 (over value.present v)
  pub no_union : bytes_of (optional_kinds element) 4 (over (value.tag (pos 0)) (alone value.nothing))
      ≡ bytes_of (optional_kinds element) 3 (alone value.absent)
  pub no_array : bytes_of (optional_kinds element) 5 (alone (value.items 0))
      ≡ bytes_of (optional_kinds element) 3 (alone value.absent)
