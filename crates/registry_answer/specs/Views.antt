-- What the code's own types stand for.
use Rattle.std.specs.Prelude.{ℕ, List, Bool, true, false, Option, Some, None, codes}
use Rattle.rpc_message.specs.Heads.{accepted}
use Rattle.rpc_message.specs.Message.{SystemErr}
use Rattle.rpc_message.specs.Spelling.{reply}
use Rattle.registry_rows.specs.Ports.{tcp, udp}
use Rattle.registry_answer.specs.declared.transport.Transport.{Transport}
use Rattle.registry_answer.specs.declared.transport.Transport.TheVariants as transport
use Rattle.registry_answer.specs.declared.answering.Answered.{Answered}
use Rattle.registry_answer.specs.declared.answering.Answered.TheVariants as answered

-- the netid of a Unix socket of the host (own, as of libtirpc's table of transports)
abbrev pub local : List ℕ
local = codes "local"

-- the netid of a transport (RFC 5665 section 5.1)
abbrev pub netid_of : Transport → List ℕ
netid_of transport.Tcp = tcp
netid_of transport.Udp = udp
netid_of transport.Local = local

-- memory was refused
abbrev pub is_refused : Answered → Bool
is_refused (answered.OutOfMemory xid) = true
is_refused _ = false

-- what is sent: nothing, the reply, or the SYSTEM_ERR reply
abbrev pub sent_of : Answered → Option (List ℕ)
sent_of answered.Silent = None
sent_of (answered.Reply v) = Some v.items
sent_of (answered.OutOfMemory xid) = Some (reply (accepted xid SystemErr))
