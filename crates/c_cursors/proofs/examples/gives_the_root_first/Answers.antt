-- All parts are before the cursor that was started, the root first.
use Rattle.std.proofs.Common.{sym, ◌∙◌, option_map}
use Rattle.xdr_lang.specs.Views.{declared_of}
use Rattle.c_cursors.proofs.Root.{root_given}
use Rattle.c_cursors.proofs.examples.gives_the_root_first.Goals as goal

pub returns : goal.returns
returns c = λ low e.
    let s = c.start_cursor-started.ensures in
    let t = c.next_by_cursor-given.ensures.answer in
    root_given (option_map declared_of c.args.declarations.now.declared) _ _ _ _ _ _ _ s.answer.0 s.answer.1
    (rw s.answer.2 at low) _ _ t.0 (rw s.stay at t.1) (sym e ∙ t.2)
