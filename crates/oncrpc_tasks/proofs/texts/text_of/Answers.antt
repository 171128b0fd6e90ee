-- The bytes that were read are the text, or are more than a text may have.
use Rattle.std.proofs.Common.{arith, rules}
use Rattle.oncrpc_tasks.proofs.Reported.{begins_reported}
use Rattle.oncrpc_tasks.proofs.texts.text_of.Goals as goal

pub returns-clause-reads : goal.returns-clause-reads
returns-clause-reads g c = record {
  read = begins_reported _ _ _ c.in_ok-text.text.items c.in_ok-source.ensures.text c.in_ok-text.ensures.read.bytes
      (λ short. c.in_ok-text.ensures.read.end (omega (arith, short, c.in_ok-text.text.ok.0)));
  opened = search rules;
  failed = search rules;
  only = tt;
}
