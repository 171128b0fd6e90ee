use Rattle.std.proofs.Common.{ap, refl, ◌∙◌}
use Rattle.std.specs.Prelude.{codes}
use Rattle.oncrpc_watch.specs.Events.{stream_line}
use Rattle.oncrpc_capture.proofs.Printed.{file_said}
use Rattle.oncrpc_capture.proofs.printing.Printing.refuse_file.Goals as goal

pub returns : goal.returns
returns g c =
    file_said c.args.self.now _ c.args.why.now c.as_bytes.result.now c.args.at _ _ c.refuse.ensures.terms refl
    c.refuse.ensures.table c.refuse.ensures.counts
    (c.as_bytes.ensures.value ∙ c.in_ok-line.ensures
    ∙ ap (λ f. stream_line f (codes "file") c.args.why.now c.args.at)
    (c.form.ensures ∙ ap (λ t. t.form) c.refuse.ensures.terms)) c.in_ok-write_whole.ensures.ok
