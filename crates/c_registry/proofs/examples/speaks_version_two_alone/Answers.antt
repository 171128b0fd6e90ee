-- The call is read as one of another version, and the reply has 24 bytes.
use Rattle.std.proofs.Common.{sym, ◌∙◌}
use Rattle.c_registry.proofs.Denied.{denied, started}
use Rattle.c_registry.proofs.examples.speaks_version_two_alone.Goals as goal

pub returns : goal.returns
returns c = λ e.
    let s = c.start_registry-started.ensures in
    let a = c.answer_record-answered.ensures in
    let held = started 111 _ s.0 s.1 (sym e ∙ s.2) in
    let d = denied c.five_cases.ensures.exclusive _ _ c.requires.buffer _ _ a.0 (rw (held, c.requires.call) at a.1) in
    (a.2 ∙ d.0, a.3 ∙ d.1, d.2)
