use Rattle.std.proofs.Common.{Option, option_map, sym, subst}
use Rattle.std.proofs.lemmas.Option.{IfSome_then}
use Rattle.xdr_types.specs.KindViews.{part_of_member}
use Rattle.xdr_types.specs.Fits.{optional_part}
use Rattle.xdr_types.specs.Private.Notes.{AreWithin}
use Rattle.xdr_types.specs.declared.kind.Member.{Member}
use Rattle.xdr_types.proofs.Leveled.{one_within}
use Rattle.xdr_types.proofs.levels.levels_of_default.Goals as goal

pub returns-in-Some : goal.returns-in-Some
returns-in-Some c = λ kinds are.
    IfSome_then c.noted_levels.result (c.noted_levels.ensures kinds are)
    (λ most of. subst (λ (o : Option Member). AreWithin kinds (optional_part (option_map part_of_member o)) most)
    (sym c.in-Some.is) (one_within kinds (part_of_member c.in-Some.member) most of))
