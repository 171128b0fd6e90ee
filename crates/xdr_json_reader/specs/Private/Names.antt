-- Names of enumerations, each with its number (RFC 4506 section 4.3).
use Rattle.std.specs.Prelude.{◌≡◌, ℕ, ℤ, List, [], true, false, Option, MatchOption}
use Rattle.std.specs.BTreeMap.{BTreeMap, get_by}
use Rattle.std.specs.Borrow.{Bor}
use Rattle.std.specs.Cmp.Lexicographic.{slice_cmp}
use Rattle.std.specs.Ordering.{nat_cmp}
use Rattle.xdr_types.specs.Kinds as xdr
use Rattle.xdr_types.specs.Kinds.{KindView, Constant, kind_at}
use Rattle.xdr_types.specs.Fits.{is_constant}
use Rattle.xdr_json.specs.Spelled.{is_name}

-- the number of a member with the name, or none where no member has it
abbrev pub NumberFound : Option ℤ → List Constant → (name : List ℕ) → Type 0
NumberFound o cs name =
    MatchOption o ((z : ℤ) → is_name cs z name ≡ false)
    (λ n. (is_name cs n name ≡ true) × (is_constant cs n ≡ true))

-- the table of an enumeration's names
abbrev pub IsTable : List Constant → BTreeMap (Bor (List ℕ)) ℤ → Type 0
IsTable cs m = (name : List ℕ) → NumberFound (get_by (λ k. slice_cmp nat_cmp name k.now) m) cs name

-- the same of one that may be there
abbrev pub MayBeTable : List Constant → Option (Bor (BTreeMap (Bor (List ℕ)) ℤ)) → Type 0
MayBeTable cs o = MatchOption o (Unit {0}) (λ m. IsTable cs m.now)

-- the members of an enumeration; none of another kind
abbrev pub constants_in : KindView → List Constant
constants_in (xdr.numbered cs) = cs
constants_in _ = []

-- each table is that of the enumeration at its place
abbrev pub AreTables : List KindView → BTreeMap ℕ (BTreeMap (Bor (List ℕ)) ℤ) → Type 0
AreTables kinds ts =
    (place : ℕ) → MatchOption (get_by (nat_cmp place) ts) (Unit {0})
    (λ m. IsTable (constants_in (kind_at kinds place)) m)

-- the members of the enumeration that a kind is, or that its discriminant is of
abbrev pub names_of : List KindView → KindView → List Constant
names_of kinds (xdr.numbered cs) = cs
names_of kinds (xdr.choice tag arms other) = constants_in (kind_at kinds tag)
names_of kinds _ = []
