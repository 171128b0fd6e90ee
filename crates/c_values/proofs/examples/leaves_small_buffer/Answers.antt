-- The one answer with status 8 is that the buffer is too small.
use Rattle.std.proofs.Common.{sym, ◌∙◌}
use Rattle.c_values.proofs.Reported.{buffer_reported}
use Rattle.c_values.proofs.examples.leaves_small_buffer.Goals as goal

pub returns : goal.returns
returns c = λ e. let t = c.normalise_records.ensures in buffer_reported _ _ _ _ _ t.0 t.1 (sym e ∙ t.2)
