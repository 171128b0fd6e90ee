-- What the tables of names hold, for look-ups (the names of RFC 4506 section 6.4).
use Rattle.std.specs.Prelude.{◌≡◌, ◌≤◌, ℕ, Bool, true, false, List, [], ◌∷◌, Some, None}
use Rattle.std.specs.Prelude.{option_map, map}
use Rattle.std.specs.Prelude.{if◌then◌else◌}
use Rattle.std.specs.BTreeMap.{BTreeMap}
use Rattle.std.specs.List.{list_any}
use Rattle.std.specs.Str.{bytes_eq}
use Rattle.std.specs.BTreeSet.{BTreeSet}
use denote.Ref.{Bor}
use Rattle.xdr_grammar.specs.declared.outline.Part.{Part}
use Rattle.xdr_grammar.specs.View.{part_of}
use Rattle.xdr_grammar.specs.Outline.{Field, Part as Shown, IsBasic, IsNamed, IsStruct, IsMade, IsStructMade, IsText}
use Rattle.xdr_grammar.specs.Outline.{IsVoid}
use Rattle.xdr_constants.specs.Tables.{key_texts, at_name}
use Rattle.xdr_lang.specs.LookUp.{type_named, named_place}

-- The map has what each type is declared as.
pub record HasParts (m : BTreeMap (Bor (List ℕ)) Part) (types : List Field) : Type 0 where
  pub finds : (n : List ℕ) → option_map part_of (at_name n m) ≡ type_named n types

-- The name denotes the place, through so many names or more.
pub record IsPlacedAt (types : List Field) (n : List ℕ) (place steps : ℕ) : Type 0 where
  pub reached : (most : ℕ) → steps ≤ most → named_place most types n ≡ Some place

-- Each name in the map denotes its place.
pub record HasPlaces (m : BTreeMap (Bor (List ℕ)) (ℕ × ℕ)) (types : List Field) : Type 0 where
  pub right : (n : List ℕ) (place steps : ℕ) → at_name n m ≡ Some (place, steps) → IsPlacedAt types n place steps

-- the name is in the set
abbrev pub is_in : BTreeSet (Bor (List ℕ)) → List ℕ → Bool
is_in s n = list_any (bytes_eq n) (key_texts s.keys)

abbrev pub IsIn : List ℕ → BTreeSet (Bor (List ℕ)) → Type 0
IsIn n s = is_in s n ≡ true

-- another name, of the set
abbrev pub leads_into : BTreeSet (Bor (List ℕ)) → Shown → Bool
leads_into s (IsBasic b) = false
leads_into s (IsNamed n) = is_in s n
leads_into s (IsStruct n) = false
leads_into s (IsMade k) = false
leads_into s (IsStructMade k) = false
leads_into s IsText = false
leads_into s IsVoid = false

-- A type whose name is in the set is another name, of the set.
unfoldable pub stays_in : BTreeSet (Bor (List ℕ)) → Field → Bool
stays_in s f = if is_in s f.name then leads_into s f.part else true

-- the same of all types
unfoldable pub all_stay : BTreeSet (Bor (List ℕ)) → List Field → Bool
all_stay s [] = true
all_stay s (f ∷ fs) = if stays_in s f then all_stay s fs else false

-- No name in the set denotes a place, through however many names.
pub record HasNoPlaces (s : BTreeSet (Bor (List ℕ))) (types : List Field) : Type 0 where
  pub none : (n : List ℕ) → IsIn n s → (most : ℕ) → named_place most types n ≡ None

-- the names of types
abbrev pub type_names : List Field → List (List ℕ)
type_names ts = map (λ (t : Field). t.name) ts

-- Some name of the first is one of the others.
abbrev pub share : List (List ℕ) → List (List ℕ) → Bool
share ns others = list_any (λ (n : List ℕ). list_any (bytes_eq n) others) ns
