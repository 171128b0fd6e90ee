-- What a table of constants holds, for look-ups by name (RFC 4506 section 6.4).
use Rattle.std.specs.Prelude.{◌≡◌, ℕ, suc, ℤ, Bool, List, [], ◌∷◌, map, Option, Some, None, if◌then◌else◌}
use Rattle.std.specs.BTreeMap.{BTreeMap, get_by}
use Rattle.std.specs.Ordering.{nat_cmp}
use Rattle.std.specs.Cmp.Lexicographic.{slice_cmp}
use Rattle.std.specs.Str.{bytes_eq}
use denote.Ref.{Bor}
use Rattle.xdr_constants.specs.Constants.{Known}

-- the keys, without where they lie in memory
abbrev pub key_texts : List (Bor (List ℕ)) → List (List ℕ)
key_texts ks = map (λ (k : Bor (List ℕ)). k.now) ks

-- what the map has at the name
abbrev pub at_name : {X : Type 0} → List ℕ → BTreeMap (Bor (List ℕ)) X → Option X
at_name n m = get_by (λ k. slice_cmp nat_cmp n k.now) m

-- the first constant with that name: its place, counted from i on, its number, and whether const declares it
unfoldable pub first_named : List ℕ → ℕ → List Known → Option (ℕ × ℤ × Bool)
first_named n i [] = None
first_named n i (k ∷ ks) = if bytes_eq k.name n then Some (i, k.value, k.by_const) else first_named n (suc i) ks

-- The map has the first constant with each name.
pub record HasFirst (m : BTreeMap (Bor (List ℕ)) (ℕ × ℤ × Bool)) (ks : List Known) : Type 0 where
  pub finds : (n : List ℕ) → at_name n m ≡ first_named n 0 ks
