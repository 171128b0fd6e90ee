-- The set in which a name that the text has defined is looked up.
use Rattle.std.specs.Prelude.{◌≡◌, ℕ, List}
use Rattle.std.specs.BTreeSet.{BTreeSet, contains_by}
use Rattle.std.specs.Ordering.{nat_cmp}
use Rattle.std.specs.Cmp.Lexicographic.{slice_cmp}
use denote.Ref.{Bor}
use Rattle.xdr_dialect.specs.Directives.{is_among}

-- the set has these names, and no others
abbrev pub HasAll : BTreeSet (Bor (List ℕ)) → List (List ℕ) → Type 0
HasAll s ns = (name : List ℕ) → contains_by (λ (k : Bor (List ℕ)). slice_cmp nat_cmp name k.now) s ≡ is_among ns name
