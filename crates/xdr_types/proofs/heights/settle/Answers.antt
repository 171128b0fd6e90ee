use Rattle.std.proofs.Common.{sym, ◌∙◌, subst, arith, map, rules}
use Rattle.std.proofs.lemmas.Grind.{common_steps}
use Rattle.std.proofs.lemmas.List.{length-map}
use Rattle.xdr_types.specs.Kinds.{KindView}
use Rattle.xdr_types.specs.KindViews.{kind_view}
use Rattle.xdr_types.specs.Sound.{Asks}
use Rattle.xdr_types.specs.Private.Rounds.{IsMarked}
use Rattle.xdr_types.proofs.Heighting.{step}
use Rattle.xdr_types.proofs.Marks.{kind-read, none-read}
use Rattle.xdr_types.proofs.heights.settle.Goals as goal

pub returns-clause-between : goal.returns-clause-between
returns-clause-between c =
    let ks = c.args.kinds.now.items in
    let hs = c.args.heights.now.items in
    let now = c.requires.between in
    record {
      few = now.few;
      reached = now.reached;
      waits = first_of (search rules, grind (arith, common_steps));
      heights = step (map kind_view ks) hs c.args.next.now c.args.place now.heights
          (omega (arith, c.requires.within, length-map ks kind_view))
          (none-read hs c.args.place c.index.result.now
          (omega (arith, c.requires.within, now.heights.lengths, length-map ks kind_view)) c.index.ensures
          (sym c.is_some.ensures ∙ c.if-is_some.false))
          (subst (λ (f : KindView). Asks (map kind_view ks) (IsMarked hs) f)
          (sym (kind-read ks c.args.place c.index-else-is_some-2.result.now c.requires.within
          c.index-else-is_some-2.ensures)) (c.is_met.ensures.0 c.if-not-is_met.false));
    }
