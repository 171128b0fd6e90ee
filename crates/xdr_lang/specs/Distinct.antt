-- Which names and numbers must differ (RFC 4506 section 6.4, RFC 5531 section 12.3).
use Rattle.std.specs.Prelude.{ℕ, ℤ, Bool, false, not, ◌&&◌, ◌||◌, List, [], ◌∷◌, ◌++◌, map, filter, Option, Some, None}
use Rattle.std.specs.Prelude.{codes}
use Rattle.std.specs.List.{list_any}
use Rattle.std.specs.Ordering.{int_eq}
use Rattle.std.specs.Str.{bytes_eq}
use Rattle.xdr_grammar.specs.Outline.{Field, Entry, Arm, Draft, DNumbered, DOpaque, DOpaqueUpTo, DText, DFixed, DUpTo}
use Rattle.xdr_grammar.specs.Outline.{DStructure, DChoice, DMaybe, Procedure, Version, Program, Outline}

-- Some element is one of those before it, where same tells which are one.
unfoldable pub repeats : {A : Type 0} → (A → A → Bool) → List A → List A → Bool
repeats same before [] = false
repeats same before (x ∷ xs) = list_any (same x) before || repeats same (before ++ x ∷ []) xs

-- The empty name, that of void, is no name.
abbrev pub is_name : List ℕ → Bool
is_name n = not (bytes_eq n [])

-- Some name is there twice.
unfoldable pub names_repeat : List (List ℕ) → Bool
names_repeat ns = repeats bytes_eq [] (filter is_name ns)

-- both numbers of a pair are the other's
abbrev pub same_pair : ℤ × ℤ → ℤ × ℤ → Bool
same_pair x y = int_eq x.0 y.0 && int_eq x.1 y.1

-- TRUE, FALSE, constants, types and programs have one name space.
abbrev pub declared_names : Outline → List (List ℕ)
declared_names o = ((codes "TRUE" ∷ codes "FALSE" ∷ map (λ (e : Entry). e.name) o.constants) ++ map
    (λ (t : Field). t.name) o.types) ++ map (λ (p : Program). p.name) o.programs

-- the default's name, where there is one
abbrev pub other_name : Option Field → List (List ℕ)
other_name None = []
other_name (Some f) = f.name ∷ []

-- The fields of a struct have a name space of their own, and so have the arms of a union.
unfoldable pub kind_repeats : Draft → Bool
kind_repeats (DStructure fs) = names_repeat (map (λ (f : Field). f.name) fs)
kind_repeats (DChoice t arms other) = names_repeat (other_name other ++ map (λ (a : Arm). a.member.name) arms)
kind_repeats (DNumbered ms) = false
kind_repeats (DOpaque v) = false
kind_repeats (DOpaqueUpTo v) = false
kind_repeats (DText v) = false
kind_repeats (DFixed p v) = false
kind_repeats (DUpTo p v) = false
kind_repeats (DMaybe p) = false

-- Procedures of a version differ in name and number.
unfoldable pub version_repeats : Version → Bool
version_repeats v = names_repeat (map (λ (p : Procedure). p.name) v.procedures)
    || repeats int_eq [] (map (λ (p : Procedure). p.number) v.procedures)

-- Versions of a program differ in name.
unfoldable pub program_repeats : Program → Bool
program_repeats p = names_repeat (map (λ (v : Version). v.name) p.versions) || list_any version_repeats p.versions

-- the numbers of a program with each of its versions'
unfoldable pub pairs_of : List (ℤ × ℤ) → ℤ → List Version → List (ℤ × ℤ)
pairs_of before p [] = before
pairs_of before p (v ∷ vs) = pairs_of (before ++ (p, v.number) ∷ []) p vs

-- the same of all programs, after those before
unfoldable pub pairs : List (ℤ × ℤ) → List Program → List (ℤ × ℤ)
pairs before [] = before
pairs before (p ∷ ps) = pairs (pairs_of before p.number p.versions) ps

-- Some name, number of a procedure, or pair of a program's and a version's number is there twice.
unfoldable pub has_twice : Outline → Bool
has_twice o = names_repeat (declared_names o)
    || (list_any kind_repeats o.drafts
    || (list_any program_repeats o.programs || repeats same_pair [] (pairs [] o.programs)))
