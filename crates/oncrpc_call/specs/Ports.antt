-- The port that a registry tells (RFC 1833 sections 2.2.1 and 3.2; RFC 5665 section 5.2.3).
use Rattle.std.specs.Prelude.{◌≡◌, ℕ, ◌<◌, ◌/◌, ◌%◌, ◌^◌, ◌==◌, List, ◌++◌, codes, decimal, length, Some, option_map}
use Rattle.std.specs.Prelude.{MatchBool}
use Rattle.std.specs.Net.Grammar.{IsIpv6Text}
use Rattle.std.specs.declared.net.ipv6_addr.Ipv6Addr.{Ipv6Addr}
use Rattle.xdr_units.specs.Numbers.{padded, word}
use Rattle.registry_uaddr.specs.Uaddrs.{uaddr_of}
use Rattle.registry_uaddr.specs.declared.address.Uaddr.{Uaddr}
use Rattle.oncrpc_call.specs.declared.transport.Transport.{Transport}
use Rattle.oncrpc_call.specs.declared.transport.Transport.TheVariants as over

-- The text is a universal address over IPv6 with this port: a host, as RFC 4291 section 2.2 writes it, the port's high
-- octet, and its low one, both in decimal and behind a dot (RFC 5665 section 5.2.3.4).
pub record IsUaddr6 (text : List ℕ) (port : ℕ) : Type 0 where
  pub host : Ipv6Addr
  pub written : List ℕ
  pub spells : IsIpv6Text written host
  pub small : port < 2 ^ 16
  pub whole : text ≡ written ++ codes "." ++ decimal (port / 256) ++ codes "." ++ decimal (port % 256)

-- the same over IPv4: four octets of a host and two of the port (RFC 5665 section 5.2.3.3)
abbrev pub IsUaddr4 : (text : List ℕ) → (port : ℕ) → Type 0
IsUaddr4 text port = option_map (λ (a : Uaddr). a.port) (uaddr_of text) ≡ Some port

-- the text is a universal address over a transport's protocol with this port
abbrev pub IsUaddrOver : Transport → (text : List ℕ) → (port : ℕ) → Type 0
IsUaddrOver over.Tcp text port = IsUaddr4 text port
IsUaddrOver over.Udp text port = IsUaddr4 text port
IsUaddrOver over.Tcp6 text port = IsUaddr6 text port
IsUaddrOver over.Udp6 text port = IsUaddr6 text port

-- The results of GETADDR begin with the text of such an address, as a string (RFC 1833 section 2.2.1; RFC 4506 section
-- 4.11).
pub record TellsAddress (t : Transport) (results : List ℕ) (port : ℕ) : Type 0 where
  pub text : List ℕ
  pub more : List ℕ
  pub short : length text < 2 ^ 32
  pub begins : results ≡ word (length text) ++ (padded text ++ more)
  pub address : IsUaddrOver t text port

-- The results of GETPORT begin with the port as a number (RFC 1833 section 3.2).
pub record TellsNumber (results : List ℕ) (port : ℕ) : Type 0 where
  pub more : List ℕ
  pub small : port < 2 ^ 16
  pub begins : results ≡ word port ++ more

-- the results of a version of the registry begin with a port, in version 2 with a number
abbrev pub BeginsWith : (registry : ℕ) → Transport → (results : List ℕ) → (port : ℕ) → Type 0
BeginsWith registry t results port =
    MatchBool (registry == 2) (TellsNumber results port) (TellsAddress t results port)

-- A version of the registry tells a port, which is not 0: 0 says that there is no row (RFC 1833 section 3.2).
pub record TellsPort (registry : ℕ) (t : Transport) (results : List ℕ) (port : ℕ) : Type 0 where
  pub some : 0 < port
  pub told : BeginsWith registry t results port
