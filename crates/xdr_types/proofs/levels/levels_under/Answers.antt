use Rattle.std.proofs.Common.{sym, subst}
use Rattle.std.proofs.lemmas.Option.{IfSome_then}
use Rattle.xdr_types.specs.KindViews.{kind_view}
use Rattle.xdr_types.specs.Private.Notes.{IsUnder}
use Rattle.xdr_types.specs.declared.kind.Kind.{Kind}
use Rattle.xdr_types.proofs.Leveled.{under_fixed, under_maybe}
use Rattle.xdr_types.proofs.levels.levels_under.Goals as goal

pub returns-in-Fixed : goal.returns-in-Fixed
returns-in-Fixed c = λ kinds are.
    IfSome_then c.noted_levels.result (c.noted_levels.ensures kinds are)
    (λ most of. subst (λ (k : Kind). IsUnder kinds (kind_view k) most) (sym c.in-Fixed.is)
    (under_fixed kinds c.in-Fixed.item.place c.in-Fixed.size most of))

pub returns-in-Maybe : goal.returns-in-Maybe
returns-in-Maybe c = λ kinds are.
    IfSome_then c.noted_levels-in-Maybe.result (c.noted_levels-in-Maybe.ensures kinds are)
    (λ most of. subst (λ (k : Kind). IsUnder kinds (kind_view k) most) (sym c.in-Maybe.is)
    (under_maybe kinds c.in-Maybe.item.place most of))
