-- A line is written, or nothing is.
use Rattle.std.proofs.Common.{◌≡◌, ◌∙◌, true, rules}
use Rattle.oncrpc_tasks.specs.Checked.{is_said}
use Rattle.oncrpc_tasks.proofs.Saying.{line_said}
use Rattle.oncrpc_tasks.proofs.check.say.Goals as goal

pub returns : goal.returns
returns g c =
    let asked : is_said c.args.form c.args.answer ≡ true = search rules in
    let text = c.as_bytes.ensures.value ∙ c.requires in
    line_said (record { taken = g.F.Sink.taken; lost = g.F.Sink.failures }) _ _ _ _ c.write_whole.result asked
    (rw text at c.write_whole.ensures.ok) (rw text at c.write_whole.ensures.cut) c.write_whole.ensures.one_failed
