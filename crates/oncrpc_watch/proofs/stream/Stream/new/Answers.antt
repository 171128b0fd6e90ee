use Rattle.std.proofs.Common.{[], ℕ, refl, subst, sym}
use Rattle.xdr_io.proofs.Chained.{Counts-none}
use Rattle.xdr_io.specs.Reported.{Counts}
use Rattle.rpc_record.specs.Streamed.{HasRead, reads_of}
use Rattle.oncrpc_watch.specs.declared.stream.TheConstants.{MOST_RECORD}
use Rattle.oncrpc_watch.proofs.stream.Stream.new.Goals as goal

pub returns-clause-stands : goal.returns-clause-stands
returns-clause-stands g c = (
  [],
  subst (λ k. HasRead MOST_RECORD c.start.result [] (g.R.Source.left c.args.source) (g.R.Source.left k))
      (sym c.new.ensures) (c.start.ensures.read _),
  refl,
)

pub returns-clause-sound : goal.returns-clause-sound
returns-clause-sound g c = record {
  unfailed = subst (λ k. Counts 0 (g.R.Source.failures c.args.source) (g.R.Source.failures k)) (sym c.new.ensures)
      (Counts-none _);
  counted = subst (λ k. Counts (reads_of c.start.result) (g.R.Source.reads c.args.source) (g.R.Source.reads k))
      (sym c.new.ensures)
      (subst (λ (n : ℕ). Counts n (g.R.Source.reads c.args.source) (g.R.Source.reads c.args.source))
      (sym c.start.ensures.unread) (Counts-none _));
}
