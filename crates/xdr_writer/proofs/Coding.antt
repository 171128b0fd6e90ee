-- What becomes of an item, said of a checker's schema.
use Rattle.std.proofs.Common.{◌≡◌, ℕ, ◌%◌, ◌≤◌, List, length, sym, ap, ◌∙◌, subst}
use Rattle.std.specs.Prelude.{Result}
use Rattle.xdr_types.specs.Kinds.{KindView, Lists, kind_at}
use Rattle.xdr_types.specs.Within.{Bounds}
use Rattle.xdr_types.specs.Layout.{Entry}
use Rattle.xdr_due.specs.Due.{IsDue, IsNothing}
use Rattle.xdr_due.specs.declared.due.Due.{Due}
use Rattle.xdr_codec.specs.Checks as checks
use Rattle.xdr_codec.specs.declared.checker.Checker.{Checker}
use Rattle.xdr_writer.specs.Items.{ItemView, of_node, spelled_as}
use Rattle.xdr_writer.specs.Private.Bytes.{IsUnits}
use Rattle.xdr_writer.specs.Private.Becomes.{Becomes, IsPlace}
use Rattle.xdr_writer.specs.declared.refusal.Why.{Why}
use Rattle.xdr_writer.specs.declared.units.Coded.{Coded}
use Rattle.xdr_writer.proofs.Joined.{spelled_units}

-- what becomes of an item where this is due, by a list of kinds
abbrev pub Coded_by : List KindView → Due → ItemView → Result Coded Why → Type 0
Coded_by s d i r = (root : ℕ) (limits : Bounds) (b : List ℕ) (e : Entry) → length b % 4 ≡ 0 → IsDue s root limits b d
    → (IsNothing d → ⊥) → IsPlace s root b e → Becomes s (kind_at s e.kind) e.role i r

pub at_place : (c : Checker) (schema : Lists) → checks.schema_of c ≡ schema → (b : List ℕ) → length b % 4 ≡ 0
    → (d : Due) → IsDue (checks.kinds_of c) (checks.kind_of c).place (checks.limits_of c) b d → (IsNothing d → ⊥)
    → (e : Entry) → IsPlace (checks.kinds_of c) (checks.kind_of c).place b e → (i : ItemView) (r : Result Coded Why)
    → Coded_by schema.kinds d i r → Becomes (checks.kinds_of c) (kind_at (checks.kinds_of c) e.kind) e.role i r
at_place c schema same b units d due some e p i r h =
    let mine : Coded_by (checks.kinds_of c) d i r = subst (λ (z : Lists). Coded_by z.kinds d i r) (sym same) h in
    mine (checks.kind_of c).place (checks.limits_of c) b e units due some p

pub units_of : (k : KindView) (i : ItemView) (u : List ℕ) → u ≡ spelled_as k i → 4 ≤ length u → IsUnits u
units_of k i u known some =
    (ap (λ (z : List ℕ). length z % 4) known ∙ spelled_units (of_node k i), some)
