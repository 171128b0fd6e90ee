-- The answer of this status has what is needed.
use Rattle.std.proofs.Common.{sym, ap, ◌∙◌, option_map}
use Rattle.c_registry.specs.Held.{held_of}
use Rattle.c_registry.specs.Listed.{Buffers, buffers}
use Rattle.c_registry.proofs.Told.{short}
use Rattle.c_registry.proofs.examples.reports_the_buffers_that_are_needed.Goals as goal

pub returns : goal.returns
returns c = λ e.
    let l = c.list_rows.ensures.answer in
    let s = short (option_map held_of c.args.handle.now.held) (buffers c.args.rows.now c.args.bytes.now)
    (buffers c.list_rows.new.rows c.list_rows.new.bytes) l.0 l.1 (sym e ∙ l.2) in
    (ap (λ (b : Buffers). b.rows) s.0, ap (λ (b : Buffers). b.bytes) s.0, rw l.3 s.1)
