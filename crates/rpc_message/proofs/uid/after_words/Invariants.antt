use Rattle.std.proofs.Common.{◌≡◌, ◌-◌}
use Rattle.rpc_message.specs.Private.Passing.{behind_words}
use Rattle.rpc_message.proofs.uid.after_words.Given as goal

abbrev pub invariant-loop : goal.invariant-loop
invariant-loop l = behind_words (l.count - l.counter) l.rest ≡ behind_words l.count l.bytes
