use Rattle.std.proofs.Common.{rules, sym, ap, ◌∙◌}
use Rattle.xdr_types.specs.KindViews.{kind_view}
use Rattle.xdr_show.proofs.line.push_text.Goals as goal

pub returns-in-Numbered-Numbered : goal.returns-in-Numbered-Numbered
returns-in-Numbered-Numbered c =
    let name = c.name_of.ensures _ (sym c.requires.kind ∙ ap kind_view c.in-Numbered-Numbered.is-0) in
    search (rules, name)
