-- Who calls, by the addresses of a socket (this project's own, after rpcbind).
use Rattle.std.specs.Prelude.{ℕ, Bool, true, false, ◌||◌, nat_eq, if◌then◌else◌, List, [], ◌∷◌, Option, Some, None}
use Rattle.std.specs.Prelude.{slice_index}
use Rattle.std.specs.Str.{bytes_eq}
use Rattle.std.specs.Net.Addr.{ipv4_octets}
use Rattle.std.specs.Net.Socket.{socket_ip}
use Rattle.std.specs.declared.net.ip_addr.IpAddr.{IpAddr}
use Rattle.std.specs.declared.net.ip_addr.IpAddr.TheVariants.{V4, V6}
use Rattle.std.specs.declared.net.socket_addr.SocketAddr.{SocketAddr}
use Rattle.registry_callers.specs.declared.callers.Peer.{Peer}
use Rattle.registry_callers.specs.declared.callers.Peer.TheVariants as peer

-- the octets of an address of one host over IPv4, which 0.0.0.0 is not (RFC 1122 section 3.2.1.3)
abbrev pub host_of : IpAddr → Option (List ℕ)
host_of (V4 a) = if bytes_eq (ipv4_octets a) (0 ∷ 0 ∷ 0 ∷ 0 ∷ []) then None else Some (ipv4_octets a)
host_of (V6 a) = None

-- those of the address that was called, where it is known
abbrev pub host_at : Option SocketAddr → Option (List ℕ)
host_at (Some address) = host_of (socket_ip address)
host_at None = None

-- these are the octets that were called
abbrev pub is_called : (octets : List ℕ) → (called : Option (List ℕ)) → Bool
is_called octets (Some called) = bytes_eq octets called
is_called octets None = false

-- Someone of this host calls from 127.0.0.0/8, or from the very address that is called. Anyone else is at another host
-- (own, after rpcbind).
abbrev pub peer_at : (from called : Option (List ℕ)) → Peer
peer_at (Some octets) called =
    if nat_eq (slice_index octets 0) 127 || is_called octets called then peer.Local else peer.Remote
peer_at None called = peer.Remote
