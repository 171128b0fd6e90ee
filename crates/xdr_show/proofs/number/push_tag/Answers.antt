use Rattle.std.proofs.Common.{rules, sym, ap, ◌∙◌}
use Rattle.xdr_types.specs.KindViews.{kind_view}
use Rattle.xdr_show.proofs.number.push_tag.Goals as goal

pub returns-in-Numbered : goal.returns-in-Numbered
returns-in-Numbered c =
    let name = c.name_of.ensures _ (sym c.requires ∙ ap kind_view c.in-Numbered.is) in
    search (rules, name)
