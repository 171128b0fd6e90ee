use Rattle.std.proofs.Common.{◌≡◌, sym, ◌∙◌, rules}
use Rattle.xdr_types.specs.View.{tree}
use Rattle.xdr_types.specs.Fits.{item_part}
use Rattle.xdr_show.specs.Private.Lines.{value_lines}
use Rattle.xdr_show.proofs.Joined.{show_is_lines}
use Rattle.xdr_show.proofs.shown.show.Goals as goal

pub returns : goal.returns
returns c =
    let reported : c.push_value.new.out.items ≡ value_lines c.args.schema.now.kinds 1 (item_part c.args.kind.place)
    (tree c.args.value.now) = search (rules, c.in_ok-push_value.ensures) in
    reported ∙ sym (show_is_lines c.args.schema.now.kinds c.args.kind.place (tree c.args.value.now))
