use Rattle.capture_records.proofs.Reading.{keeps_join, passes_keeps, side_as}
use Rattle.std.proofs.Common.{refl, sym, ◌∙◌}
use Rattle.capture_records.proofs.side.Side.finds_behind.Goals as goal

pub returns-in-None-clause-keeps : goal.returns-in-None-clause-keeps
returns-in-None-clause-keeps c =
    let mid = c.pass.new.self in
    keeps_join c.args.self.now mid _ (passes_keeps c.args.self.now mid _ c.requires c.pass.ensures.passes)
    (side_as mid _ (λ e. c.requires (sym c.pass.ensures.passes.next ∙ e)) refl refl refl)

pub returns-in-Some-clause-keeps : goal.returns-in-Some-clause-keeps
returns-in-Some-clause-keeps c =
    let mid = c.pass-in-Some.new.self in
    keeps_join c.args.self.now mid _ (passes_keeps c.args.self.now mid _ c.requires c.pass-in-Some.ensures.passes)
    (side_as mid _ (λ e. c.requires (sym c.pass-in-Some.ensures.passes.next ∙ e)) refl refl refl)
