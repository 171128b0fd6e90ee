use Rattle.xdr_io.specs.Reported.{Counts}
use Rattle.oncrpc_tasks.specs.Right.{asked_of}
use Rattle.oncrpc_tasks.specs.Private.Judged.{keeps_of, unshown}
use Rattle.oncrpc_tasks.proofs.Progress.{Progress}
use Rattle.oncrpc_tasks.proofs.judge.judge_over.Given as goal

abbrev pub invariant-loop-turn : goal.invariant-loop-turn
invariant-loop-turn g l = record {
  progress : Progress (unshown (asked_of l.fn.question)) l.checker l.count l.at_end l._turn
      (g.I.Source.left l.fn.input) (g.I.Source.left l.input) (keeps_of l.fn.question.form) l.retained.items;
  reads : Counts l._turn (g.I.Source.reads l.fn.input) (g.I.Source.reads l.input);
  none_failed : Counts 0 (g.I.Source.failures l.fn.input) (g.I.Source.failures l.input);
}
