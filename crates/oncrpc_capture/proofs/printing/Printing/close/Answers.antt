use Rattle.std.proofs.Common.{ap, ◌∙◌}
use Rattle.oncrpc_watch.specs.Lines.{counts_line}
use Rattle.oncrpc_capture.proofs.Printed.{closes_with}
use Rattle.oncrpc_capture.proofs.printing.Printing.close.Goals as goal

pub returns : goal.returns
returns g c =
    closes_with c.args.self.now c.as_bytes.result.now _ _ _ c.in_ok-put_tables.ensures
    (c.as_bytes.ensures.value ∙ c.in_ok-line.ensures ∙ ap (λ f. counts_line f c.counts.result) c.form.ensures
    ∙ ap (λ k. counts_line c.args.self.now.watch.terms.form k) c.counts.ensures) c.in_ok-write_whole.ensures.ok
