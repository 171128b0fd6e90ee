-- Replies whose verifier is AUTH_NONE with an empty body (RFC 5531 section 9).
use Rattle.std.specs.Prelude.{ℕ, List, [], ◌++◌}
use Rattle.xdr_units.specs.Numbers.{word}
use Rattle.rpc_message.specs.Constants.{reply_type, msg_accepted, auth_none}
use Rattle.rpc_message.specs.Message.{StatusView, ReplyView, Accepted}

-- an accepted reply with this status
abbrev pub accepted : (xid : ℕ) → StatusView → ReplyView
accepted xid status = Accepted xid (record { flavor = auth_none; body = [] }) status

-- the words of an accepted reply up to and with its number: xid, REPLY, MSG_ACCEPTED, AUTH_NONE, no body, accept_stat
abbrev pub accepted_head : (xid stat : ℕ) → List ℕ
accepted_head xid stat = word xid ++ word reply_type ++ word msg_accepted ++ word auth_none ++ word 0 ++ word stat
