use Rattle.std.proofs.Common.{sym, subst}
use Rattle.xdr_types.specs.Kinds.{KindView}
use Rattle.xdr_types.specs.KindViews.{kind_view}
use Rattle.xdr_types.specs.declared.kind.Kind.{Kind}
use Rattle.xdr_paths.specs.Private.Own.{IsForm}
use Rattle.xdr_paths.specs.declared.own.Form.TheVariants.{Counted}
use Rattle.xdr_paths.proofs.Standing.{sized_end}
use Rattle.xdr_paths.proofs.look.Look.end_of_part.Goals as goal

pub returns-in-Some : goal.returns-in-Some
returns-in-Some c =
    λ n s. sized_end c.args.self.now.schema.now.kinds c.args.self.now.limits c.args.self.now.bytes.now n
    c.args.kind.place c.args.at s c.in-Some.extent.bytes c.in-Some.ensures.bytes

pub end_of_content-requires-clause-counted : goal.end_of_content-requires-clause-counted
end_of_content-requires-clause-counted c =
    subst (λ (k : KindView). IsForm k Counted) c.kind.ensures
    (subst (λ (k : Kind). IsForm (kind_view k) Counted) (sym c.in-OpaqueUpTo.is) tt)
