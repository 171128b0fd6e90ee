-- What is printed of a server's answer: the result of a success, or the line of anything else (RFC 5531 section 9).
use Rattle.std.specs.Prelude.{◌≡◌, ℕ, List, Result, Ok, Err}
use Rattle.rpc_message.specs.declared.message.Reply.{Reply}
use Rattle.rpc_message.specs.Message.{ReplyView, StatusView, Accepted, Denied, Success}
use Rattle.rpc_message.specs.View.{reply_view}
use Rattle.rpc_engine.specs.declared.fault.ClientFault.{ClientFault}
use Rattle.oncrpc_service.specs.Infos.{IsLine, fault_line, status_line}
use Rattle.oncrpc_call.specs.Asked.{Wanted}
use Rattle.oncrpc_call.specs.Lines.{denied_line}
use Rattle.oncrpc_call.specs.Results.{RefusesResults, ShowsResults}

-- an accepted call was a success, and this is printed of its results
abbrev pub ShowsStatus : Wanted → StatusView → (text : List ℕ) → Type 0
ShowsStatus w (Success results) text = ShowsResults w results text
ShowsStatus w _ text = ⊥

-- the call was accepted with success, and this is printed of its results
abbrev pub ShowsReply : Wanted → ReplyView → (text : List ℕ) → Type 0
ShowsReply w (Accepted xid verf s) text = ShowsStatus w s text
ShowsReply w (Denied xid why) text = ⊥

-- the line of an accepted call without a result
abbrev pub RefusesStatus : Wanted → StatusView → (line : List ℕ) → Type 0
RefusesStatus w (Success results) line = RefusesResults w results line
RefusesStatus w s line = line ≡ status_line s

-- the line of a reply without a result
abbrev pub RefusesReply : Wanted → ReplyView → (line : List ℕ) → Type 0
RefusesReply w (Accepted xid verf s) line = RefusesStatus w s line
RefusesReply w (Denied xid why) line = line ≡ denied_line why

-- the server answered with a result, of which this is printed
abbrev pub Shows : Wanted → Result Reply ClientFault → (text : List ℕ) → Type 0
Shows w (Ok reply) text = ShowsReply w (reply_view reply) text
Shows w (Err f) text = ⊥

-- the line of an answer without a result; devices that failed and allocation failures have a line elsewhere
abbrev pub Refuses : Wanted → Result Reply ClientFault → (line : List ℕ) → Type 0
Refuses w (Ok reply) line = RefusesReply w (reply_view reply) line
Refuses w (Err f) line = IsLine (fault_line f) line
