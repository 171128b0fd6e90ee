use Rattle.std.proofs.Common.{sym, ap, ◌∙◌, map, replicate, None, ℕ}
use Rattle.std.proofs.lemmas.List.{length-map}
use Rattle.xdr_types.specs.KindViews.{kind_view}
use Rattle.xdr_types.proofs.Higher.{lowest-found}
use Rattle.xdr_types.proofs.Marks.{fresh}
use Rattle.xdr_types.proofs.heights.lowest_without_height.Goals as goal

pub loop-init : goal.loop-init
loop-init c =
    let ks = c.args.kinds.now in
    record {
      few = c.requires;
      reached = c.in_ok-reached.ensures;
      waits = c.in_ok-waits.ensures ∙ c.len.ensures ∙ ks.ok.0;
      heights = fresh (map kind_view ks.items) c.in_ok-heights.heights.items (c.in_ok-heights.ensures
          ∙ ap (λ (n : ℕ). replicate n None) (c.len-2.ensures ∙ ks.ok.0 ∙ sym (length-map ks.items kind_view)));
    }

pub returns : goal.returns
returns c = lowest-found (map kind_view c.args.kinds.now.items) c.round.new.heights.items c.round.new.next
    c.round.ensures.between.heights (c.round.ensures.closed c.loop-test.false) c.first_unmarked.result
    c.first_unmarked.ensures
