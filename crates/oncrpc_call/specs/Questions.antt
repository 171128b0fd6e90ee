-- The question for a program's port, as it is put to a registry (RFC 1833 sections 2.2.1 and 3.2).
use Rattle.std.specs.Prelude.{ℕ, ◌==◌, ◌≤◌, List, [], ◌∷◌, ◌++◌, codes, length, if◌then◌else◌}
use Rattle.xdr_units.specs.Numbers.{padded, word}
use Rattle.rpc_message.specs.Message.{CallView}
use Rattle.rpc_message.specs.Spelling.{call}
use Rattle.rpc_message.specs.View.{call_view}
use Rattle.rpc_message.specs.declared.message.Call.{Call}
use Rattle.oncrpc_call.specs.declared.transport.Transport.{Transport}
use Rattle.oncrpc_call.specs.declared.transport.Transport.TheVariants as over

-- the netid of a transport (RFC 5665 section 5.1)
abbrev pub netid : Transport → List ℕ
netid over.Tcp = codes "tcp"
netid over.Udp = codes "udp"
netid over.Tcp6 = codes "tcp6"
netid over.Udp6 = codes "udp6"

-- the number of its protocol: IPPROTO_TCP, IPPROTO_UDP (RFC 1833 section 3.1)
abbrev pub protocol : Transport → ℕ
protocol over.Tcp = 6
protocol over.Udp = 17
protocol over.Tcp6 = 6
protocol over.Udp6 = 17

-- the versions of the registry that are asked, one after another; version 2 has ports over IPv4 alone (RFC 1833
-- section 3)
abbrev pub versions_asked : Transport → List ℕ
versions_asked over.Tcp = 4 ∷ 3 ∷ 2 ∷ []
versions_asked over.Udp = 4 ∷ 3 ∷ 2 ∷ []
versions_asked over.Tcp6 = 4 ∷ 3 ∷ []
versions_asked over.Udp6 = 4 ∷ 3 ∷ []

-- a `mapping`: program, version, the number of the protocol, and no port (RFC 1833 section 3.1)
abbrev pub port_args : (program version : ℕ) → Transport → List ℕ
port_args program version t =
    word program ++ word version ++ word (protocol t) ++ word 0

-- an `rpcb`: program, version, netid, and neither address nor owner (RFC 1833 section 2.1)
abbrev pub address_args : (program version : ℕ) → Transport → List ℕ
address_args program version t =
    word program ++ word version ++ word (length (netid t)) ++ padded (netid t) ++ word 0 ++ word 0

-- procedure 3 of a version of the registry, by nobody
abbrev pub question : (registry program version : ℕ) → Transport → CallView
question registry program version t = record {
  xid = registry;
  prog = 100000;
  vers = registry;
  proc = 3;
  cred = record { flavor = 0; body = [] };
  verf = record { flavor = 0; body = [] };
  args = if registry == 2 then port_args program version t else address_args program version t;
}

-- The call can be sent: credential and verifier are short enough for a message (RFC 5531 section 8.2), and the call is
-- for one datagram over IPv4, so also for one fragment (RFC 5531 section 11).
pub record CanBeSent (c : Call) : Type 0 where
  pub cred : length c.cred.body.items ≤ 400
  pub verf : length c.verf.body.items ≤ 400
  pub short : length (call (call_view c)) ≤ 65507
