use Rattle.std.proofs.Common.{◌∙◌}
use Rattle.std.proofs.lemmas.Result.{err_from_is_err_and}
use Rattle.oncrpc_watch.proofs.Answered.{answers_of, is_program}
use Rattle.oncrpc_watch.proofs.watch.Watch.judge.Goals as goal

pub returns-clause-found : goal.returns-clause-found
returns-clause-found c = λ s h. record {
  program = c.program_of.result;
  answers = answers_of _ c.args.self.now.table s.history c.args.way c.args.record.now _ _ _ _ h.0
      c.call_of-asked.ensures c.in_ok-found.ensures.1;
  is_program = is_program _ c.args.record.now _ _ _ _ c.program_of.result c.program_of.ensures.call
      c.program_of.ensures.reply c.in_ok-found.ensures.1;
  finds = rw c.settings-settings.ensures at c.in_ok-found.ensures;
}

pub returns-in_err-note-clause-unchanged : goal.returns-in_err-note-clause-unchanged
returns-in_err-note-clause-unchanged c =
    let p = err_from_is_err_and c.from_residual-in_err-note.result c.from_residual-in_err-note.ensures.1 in
    rw p.1 (λ s h. (c.in_err-note.ensures.unchanged s.history h.0, c.note.ensures.counts ∙ h.1))
