-- What is said of a checker's settings is said of them after a call that keeps them.
use Rattle.std.proofs.Common.{ℕ, List, ◌∙◌, sym, subst}
use Rattle.xdr_types.specs.Kinds.{KindView, Lists}
use Rattle.xdr_types.specs.Within.{Bounds}
use Rattle.xdr_types.specs.declared.kind.KindId.{KindId}
use Rattle.xdr_codec.specs.Checks as checks
use Rattle.xdr_codec.specs.declared.checker.Checker.{Checker}

pub carried : (Said : List KindView → ℕ → Bounds → Type 0) (x y : Checker) → checks.IsSame x y
    → Said (checks.kinds_of x) (checks.kind_of x).place (checks.limits_of x)
    → Said (checks.kinds_of y) (checks.kind_of y).place (checks.limits_of y)
carried Said x y same h =
    subst (λ (l : Bounds). Said (checks.kinds_of y) (checks.kind_of y).place l) (sym same.limits_are)
    (subst (λ (k : KindId). Said (checks.kinds_of y) k.place (checks.limits_of x)) (sym same.kind_is)
    (subst (λ (z : Lists). Said z.kinds (checks.kind_of x).place (checks.limits_of x)) (sym same.schema_is) h))

-- and was said of them before
pub back : (Said : List KindView → ℕ → Bounds → Type 0) (x y : Checker) → checks.IsSame x y
    → Said (checks.kinds_of y) (checks.kind_of y).place (checks.limits_of y)
    → Said (checks.kinds_of x) (checks.kind_of x).place (checks.limits_of x)
back Said x y same h =
    subst (λ (l : Bounds). Said (checks.kinds_of x) (checks.kind_of x).place l) same.limits_are
    (subst (λ (k : KindId). Said (checks.kinds_of x) k.place (checks.limits_of y)) same.kind_is
    (subst (λ (z : Lists). Said z.kinds (checks.kind_of y).place (checks.limits_of y)) same.schema_is h))

pub same_then : (x y z : Checker) → checks.IsSame x y → checks.IsSame y z → checks.IsSame x z
same_then x y z f g = record {
  schema_is = g.schema_is ∙ f.schema_is;
  kind_is = g.kind_is ∙ f.kind_is;
  limits_are = g.limits_are ∙ f.limits_are;
}
