use Rattle.std.proofs.Common.{◌≡◌, length, refl, arith, ◌∙◌, ap}
use Rattle.xdr_types.specs.View.{tree}
use Rattle.xdr_stream.specs.Trace.{level}
use Rattle.xdr_stream.specs.Private.Reported.{added}
use Rattle.xdr_stream.specs.Values.{level_of}
use Rattle.xdr_stream.specs.declared.builder.level.Level.{Level}
use Rattle.xdr_stream.proofs.Levels.{closed, not_closed}
use Rattle.xdr_stream.proofs.Reported.{reports_close}
use Rattle.xdr_stream.proofs.builder.values.ValuesBuild.close.Goals as goal

pub returns-in_ok-add : goal.returns-in_ok-add
returns-in_ok-add c = λ t reported can.
    let grown : level_of c.add.new.level ≡ level (level_of c.in-Some.parent).head
    (added (level_of c.in-Some.parent).head (level_of c.in-Some.parent).done (tree c.closed.result)) =
    c.in_ok-add.ensures.added ∙ ap (λ (l : Level). level (level_of l).head
    (added (level_of l).head (level_of l).done (tree c.closed.result))) c.replace-level.ensures.after in
    reports_close c.args.self.now _ t can
    (closed c.args.self.now.content.items c.args.self.now.work c.add.new.level c.in-Some.parent c.replace-level.result
    c.args.self.now.parents.items c.pop.new.self.items c.closed.result t
    c.in-Some.ensures.items c.replace-level.ensures.value c.closed.ensures grown reported.trace can) refl refl reported

pub returns-in_default : goal.returns-in_default
returns-in_default c = λ t reported can.
    let none : length c.args.self.now.parents.items ≡ 0 = omega (arith, c.in_default.ensures.cases) in
    absurd (not_closed c.args.self.now.content.items c.args.self.now.work c.args.self.now.parents.items t none
    reported.trace
    can)
