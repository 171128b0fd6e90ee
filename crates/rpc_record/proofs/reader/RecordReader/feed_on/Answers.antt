use Rattle.std.proofs.Common.{refl, ◌∙◌, subst, arith, rules}
use Rattle.std.proofs.lemmas.Grind.{common_steps}
use Rattle.xdr_io.proofs.Chained.{length_rest}
use Rattle.rpc_record.specs.Represents.{IsTaking, Takes}
use Rattle.rpc_record.proofs.Readers.{Takes-broken, Takes-piece}
use Rattle.rpc_record.proofs.Reported.{Refuses-piece, Reports-broken, Reports-more}
use Rattle.rpc_record.proofs.reader.RecordReader.feed_on.Goals as goal

pub loop-used-preserved : goal.loop-used-preserved
loop-used-preserved c =
    let taking : IsTaking c.loop-used.self = search rules in
    let some = c.advance-used.ensures.some in
    record {
      within = omega (arith, c.advance-used.ensures.within, length_rest c.loop-used.used c.args.piece.now);
      limit = c.advance-used.ensures.limit ∙ c.loop-used.invariant.limit;
      takes = Takes-piece c.args.self.now c.loop-used.self c.advance-used.new.self c.loop-used.used
          c.advance-used.result c.args.piece.now c.loop-used.invariant.takes c.advance-used.ensures.takes;
      refuses = Refuses-piece c.args.self.now c.loop-used.self c.advance-used.new.self c.loop-used.used
          c.advance-used.result c.args.piece.now c.loop-used.invariant.limit taking c.loop-used.invariant.takes
          c.advance-used.ensures.refuses;
      fed = λ _. c.advance-used.ensures.fed;
      idle = λ n. absurd (n (subst IsTaking (c.loop-used.invariant.begun (c.loop-used.invariant.idle n)) taking));
      begun = λ e. absurd (omega arith);
    }

pub returns-in-Broken-clause-feeds : goal.returns-in-Broken-clause-feeds
returns-in-Broken-clause-feeds c = (
  rw c.in-Broken.is refl,
  Takes-broken c.args.self.now c.loop-used.self c.in-Broken.fault c.loop-used.used c.args.piece.now c.in-Broken.is
      c.loop-used.invariant.takes,
  λ taking. rw c.in-Broken.is at (c.loop-used.invariant.fed taking),
)

pub returns-in-Broken-clause-reports : goal.returns-in-Broken-clause-reports
returns-in-Broken-clause-reports c =
    Reports-broken c.args.self.now c.loop-used.self c.in-Broken.fault c.loop-used.used c.args.piece.now
    c.loop-used.invariant.limit (rw c.in-Broken.is refl)
    (Takes-broken c.args.self.now c.loop-used.self c.in-Broken.fault c.loop-used.used c.args.piece.now c.in-Broken.is
    c.loop-used.invariant.takes) c.loop-used.invariant.refuses

pub returns-in_default-clause-reports : goal.returns-in_default-clause-reports
returns-in_default-clause-reports c =
    let taking : IsTaking c.loop-used.self = search rules in
    let takes : Takes c.args.self.now c.loop-used.self c.args.piece.now = first_of
    (search rules, grind (arith, common_steps)) in
    Reports-more c.args.self.now c.loop-used.self c.args.piece.now c.loop-used.invariant.limit taking takes
