-- The lists of the registry's types are well formed and sound, so only an allocation failure refuses them.
use Rattle.std.proofs.Common.{◌≡◌, ℕ, zero, suc, ◌<◌, List, [], ◌∷◌, length, Option, Some, None, is_some, Bool}
use Rattle.std.proofs.Common.{true, false, ◌&&◌, nat_lt, refl, sym, ◌∙◌, arith, ltb-true, subst, inl, inr, Result, Ok}
use Rattle.std.proofs.Common.{Err, MatchResult}
use Rattle.std.specs.List.{AllByRecursion}
use Rattle.std.proofs.lemmas.Bool.{false≢true}
use Rattle.std.proofs.lemmas.Bool.{and_parts as both}
use Rattle.std.proofs.lemmas.Option.{none-some}
use Rattle.xdr_types.specs.Kinds as xdr
use Rattle.xdr_types.specs.Kinds.{KindView, Part, Lists, kind_at}
use Rattle.xdr_types.specs.Faults.{IsWellFormed, kind_flaw_at, name_flaw_at, fault}
use Rattle.xdr_types.specs.Refused.{IsRefused}
use Rattle.xdr_types.specs.Private.Rounds.{height_in}
use Rattle.xdr_types.specs.Sound.{IsBelow, Asks, IsSound}
use Rattle.xdr_types.proofs.Flawless.{flawless}
use Rattle.xdr_types.proofs.Heighting.{has-height}
use Rattle.xdr_types.proofs.Refusing.{refused}
use Rattle.xdr_types.specs.declared.fault.Flaw.TheVariants as flaw
use Rattle.xdr_types.specs.declared.fault.SchemaFault.{SchemaFault}
use Rattle.registry_dumps.specs.Dir.{dir_kinds, dir_lists}
use Rattle.xdr_types.proofs.Heighting.{some-is}

pub well_formed : IsWellFormed dir_lists
well_formed = record {
  few = omega arith;
  kinds = flawless (kind_flaw_at dir_kinds) 19 refl;
  names = flawless (name_flaw_at dir_kinds dir_lists.names) 13 refl;
}

-- the numbers of the heighting: a row is above its fields, and a node above its row
abbrev heights : List (Option ℕ)
heights =
    Some 0 ∷ Some 0 ∷ Some 0 ∷ Some 0 ∷ Some 0 ∷ Some 0 ∷ Some 0 ∷ Some 0 ∷ Some 0 ∷ Some 0 ∷ Some 0
    ∷ Some 1 ∷ Some 0 ∷ Some 2 ∷ Some 0 ∷ Some 1 ∷ Some 0 ∷ Some 2 ∷ Some 0 ∷ []

abbrev is_below : Option ℕ → ℕ → Bool
is_below None n = false
is_below (Some m) n = nat_lt m n

abbrev are_below : ℕ → List Part → Bool
are_below n [] = true
are_below n (p ∷ ps) = is_below (height_in heights p.kind) n && are_below n ps

-- what a kind asks stands below n, as a test of the kinds that are there
abbrev has_below : ℕ → KindView → Bool
has_below n (xdr.structure ps) = are_below n ps
has_below n (xdr.maybe item) = true
has_below n xdr.int = true
has_below n xdr.unsigned = true
has_below n xdr.hyper = true
has_below n xdr.unsigned_hyper = true
has_below n xdr.boolean = true
has_below n xdr.nothing = true
has_below n (xdr.opaque_up_to max) = true
has_below n (xdr.text max) = true
has_below n _ = false

abbrev all_below : List KindView → List (Option ℕ) → Bool
all_below [] [] = true
all_below (f ∷ fs) (Some n ∷ ns) = has_below n f && all_below fs ns
all_below _ _ = false

below-is : (o : Option ℕ) (n : ℕ) → is_below o n ≡ true → (m : ℕ) × (o ≡ Some m) × (m < n)
below-is None n h = absurd (false≢true h)
below-is (Some m) n h = (m, refl, ltb-true m n h)

are-below : (n : ℕ) (ps : List Part) → are_below n ps ≡ true
    → AllByRecursion (λ (p : Part). IsBelow (height_in heights) n p.kind) ps
are-below n [] h = tt
are-below n (p ∷ ps) h =
    let tests = both (is_below (height_in heights p.kind) n) (are_below n ps) h in
    (below-is (height_in heights p.kind) n tests.0, are-below n ps tests.1)

asks : (kinds : List KindView) (n : ℕ) (f : KindView) → has_below n f ≡ true
    → Asks kinds (IsBelow (height_in heights) n) f
asks kinds n (xdr.structure ps) h = are-below n ps h
asks kinds n (xdr.maybe item) h = tt
asks kinds n xdr.int h = tt
asks kinds n xdr.unsigned h = tt
asks kinds n xdr.hyper h = tt
asks kinds n xdr.unsigned_hyper h = tt
asks kinds n xdr.boolean h = tt
asks kinds n xdr.nothing h = tt
asks kinds n (xdr.opaque_up_to max) h = tt
asks kinds n (xdr.text max) h = tt
asks kinds n (xdr.numbered cs) h = absurd (false≢true h)
asks kinds n (xdr.opaque size) h = absurd (false≢true h)
asks kinds n (xdr.fixed item size) h = absurd (false≢true h)
asks kinds n (xdr.up_to item max) h = absurd (false≢true h)
asks kinds n (xdr.choice tag arms other) h = absurd (false≢true h)
asks kinds n xdr.unknown h = absurd (false≢true h)

proper : (kinds fs : List KindView) (ns : List (Option ℕ)) → all_below fs ns ≡ true → (place n : ℕ)
    → height_in ns place ≡ Some n
    → Asks kinds (IsBelow (height_in heights) n) (kind_at fs place)
proper kinds [] [] h place n e = absurd (none-some n e)
proper kinds [] (o ∷ ns) h place n e = absurd (false≢true h)
proper kinds (f ∷ fs) [] h place n e = absurd (false≢true h)
proper kinds (f ∷ fs) (None ∷ ns) h place n e = absurd (false≢true h)
proper kinds (f ∷ fs) (Some m ∷ ns) h zero n e =
    let tests = both (has_below m f) (all_below fs ns) h in
    subst (λ (k : ℕ). Asks kinds (IsBelow (height_in heights) k) f) (some-is m n e) (asks kinds m f tests.0)
proper kinds (f ∷ fs) (Some m ∷ ns) h (suc place) n e =
    proper kinds fs ns (both (has_below m f) (all_below fs ns) h).1 place n e

marked : (ns : List (Option ℕ)) (fs : List KindView) (place : ℕ) → all_below fs ns ≡ true → place < length fs
    → is_some (height_in ns place) ≡ true
marked [] [] place h within = absurd (omega (arith, within))
marked (o ∷ ns) [] place h within = absurd (omega (arith, within))
marked [] (f ∷ fs) place h within = absurd (false≢true h)
marked (None ∷ ns) (f ∷ fs) place h within = absurd (false≢true h)
marked (Some m ∷ ns) (f ∷ fs) zero h within = refl
marked (Some m ∷ ns) (f ∷ fs) (suc place) h within =
    marked ns fs place (both (has_below m f) (all_below fs ns) h).1 (omega (arith, within))

pub sound : IsSound dir_kinds
sound place within =
    has-height dir_kinds heights (proper dir_kinds dir_kinds heights refl) place
    (marked heights dir_kinds place refl within)

for_memory : (s : Lists) (e : SchemaFault) → s ≡ dir_lists → IsRefused s e → e ≡ fault flaw.NoMemory 0
for_memory s e same (inl memory) = memory
for_memory s e same (inr first) =
    absurd (refused s e first (subst IsWellFormed (sym same) well_formed)
    (subst (λ (x : Lists). IsSound x.kinds) (sym same) sound))

-- What `Schema::build` answers of these lists.
pub built : (r : Result Lists SchemaFault) (s : Lists) → s ≡ dir_lists
    → MatchResult r (λ t. (t ≡ s) × IsWellFormed t × IsSound t.kinds) (λ e. IsRefused s e)
    → MatchResult r (λ t. t ≡ dir_lists) (λ e. e ≡ fault flaw.NoMemory 0)
built (Ok t) s same h = h.0 ∙ same
built (Err e) s same h = for_memory s e same h
