-- The places that a well formed schema's kinds name stand in its list.
use Rattle.std.proofs.Common.{◌≡◌, ℕ, zero, suc, ◌<◌, ℤ, List, [], ◌∷◌, length, replicate, Bool, true, false}
use Rattle.std.proofs.Common.{if◌then◌else◌, Option, Some, None, leb-false}
use Rattle.std.specs.List.{list_any, AllByRecursion}
use Rattle.xdr_types.specs.Kinds as xdr
use Rattle.xdr_types.specs.Kinds.{KindView, Part, Branch, Lists, kind_at}
use Rattle.xdr_types.specs.Tree as value
use Rattle.xdr_types.specs.Tree.{Head}
use Rattle.xdr_types.specs.Fits.{is_listed, part_of, parts, optional_part, item_part}
use Rattle.xdr_types.specs.Faults.{some_optional, is_outside, some_part, has_unknown, IsWellFormed}
use Rattle.xdr_types.specs.Laws.{EachPartIsKnown}
use Rattle.xdr_types.proofs.Inhabited.{or-false, all-sane}

abbrev Are : List KindView → List Part → Type 0
Are kinds ps = AllByRecursion (λ (p : Part). p.kind < length kinds) ps

inside : (kinds : List KindView) (place : ℕ) → is_outside kinds place ≡ false → place < length kinds
inside kinds place h = leb-false (length kinds) place h

items : (kinds : List KindView) (p : Part) → p.kind < length kinds → (n : ℕ) → Are kinds (replicate n p)
items kinds p h zero = tt
items kinds p h (suc n) = (h, items kinds p h n)

fields : (kinds : List KindView) (ps : List Part) → list_any (λ (p : Part). is_outside kinds p.kind) ps ≡ false
    → Are kinds ps
fields kinds [] h = tt
fields kinds (p ∷ ps) h =
    let hs = or-false (is_outside kinds p.kind) (list_any (λ (p : Part). is_outside kinds p.kind) ps) h in
    (inside kinds p.kind hs.0, fields kinds ps hs.1)

other_is : (kinds : List KindView) (other : Option Part)
    → some_optional (λ (p : Part). is_outside kinds p.kind) other ≡ false → Are kinds (optional_part other)
other_is kinds None h = tt
other_is kinds (Some p) h = (inside kinds p.kind h, tt)

picked : (kinds : List KindView) (arms : List Branch) (other : Option Part) (z : ℤ)
    → list_any (λ (a : Branch). is_outside kinds a.part.kind) arms ≡ false
    → some_optional (λ (p : Part). is_outside kinds p.kind) other ≡ false
    → Are kinds (optional_part (part_of arms other z))
picked kinds [] other z h k = other_is kinds other k
picked kinds (a ∷ arms) other z h k =
    let hs = or-false (is_outside kinds a.part.kind) (list_any (λ (a : Branch). is_outside kinds a.part.kind) arms) h in
    by_case (is_listed a.cases z) (inside kinds a.part.kind hs.0) (picked kinds arms other z hs.1 k)
  where
    by_case : (b : Bool) → a.part.kind < length kinds → Are kinds (optional_part (part_of arms other z))
        → Are kinds (optional_part (if b then Some a.part else part_of arms other z))
    by_case true here rest = (here, tt)
    by_case false here rest = rest

of_kind : (kinds : List KindView) (f : KindView) (h : Head) → has_unknown kinds f ≡ false → Are kinds (parts f h)
of_kind kinds (xdr.fixed item size) (value.items n) e = items kinds (item_part item) (inside kinds item e) n
of_kind kinds (xdr.up_to item max) (value.items n) e = items kinds (item_part item) (inside kinds item e) n
of_kind kinds (xdr.structure ps) value.fields e = fields kinds ps e
of_kind kinds (xdr.choice tag arms other) (value.tag z) e =
    let both = (or-false (is_outside kinds tag) (some_part (is_outside kinds) (xdr.choice tag arms other)) e).1 in
    let each = or-false (list_any (λ (a : Branch). is_outside kinds a.part.kind) arms)
    (some_optional (λ (p : Part). is_outside kinds p.kind) other) both in
    picked kinds arms other z each.0 each.1
of_kind kinds (xdr.maybe item) value.present e = (inside kinds item e, tt)
of_kind kinds _ _ e = tt

pub all_known : (s : Lists) → IsWellFormed s → EachPartIsKnown s.kinds
all_known s well place h within = of_kind s.kinds (kind_at s.kinds place) h (all-sane s well place within).known
