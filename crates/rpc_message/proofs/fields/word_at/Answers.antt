use Rattle.std.proofs.Common.{rules}
use Rattle.rpc_message.proofs.ContentLaws.{word_found, no_word}
use Rattle.rpc_message.proofs.fields.word_at.Goals as goal

pub returns-in-Some : goal.returns-in-Some
returns-in-Some c = word_found c.args.bytes.now c.in-Some.rest.now c.in-Some.number
    (search rules) c.in-Some.ensures.found

pub returns-in-None : goal.returns-in-None
returns-in-None c = no_word c.args.bytes.now c.in-None.ensures.found
