use Rattle.rpc_message.proofs.Loop.{words_more, words_written}
use Rattle.rpc_message.proofs.credentials.push_words.Goals as goal

pub loop-number-preserved : goal.loop-number-preserved
loop-number-preserved c = record {
  written = words_written c.args.out.now.items c.loop-number.out.items c.push_word.new.out.items c.args.words.now
      c.loop-number.number-index 0 c.loop-number-test.true c.loop-number.invariant.written c.in_ok-push_word.ensures.ok;
  fit = words_more c.args.words.now c.loop-number.number-index 0 c.loop-number-test.true c.loop-number.invariant.fit
      c.in_ok-push_word.ensures.fits;
}
