-- The calls of version 2, which name a transport by its number (RFC 1833 section 3).
use Rattle.std.specs.Prelude.{ℕ, ◌/◌, ◌%◌, ◌^◌, ◌-◌, Bool, false, ◌||◌, List, [], ◌∷◌, nat_eq, nat_le}
use Rattle.std.specs.Prelude.{Option, Some, None, if◌then◌else◌, codes, flat_map}
use Rattle.std.specs.Option.{option_map_or}
use Rattle.std.specs.Str.{bytes_eq}
use Rattle.registry_rows.specs.Rows.{Row, row_of}
use Rattle.registry_rows.specs.Steps.{Step, set, without, is_unset, superuser}
use Rattle.registry_rows.specs.LookUp.{look_up}
use Rattle.registry_rows.specs.Program.{program, versions}
use Rattle.registry_uaddr.specs.Uaddrs.{dotted, uaddr_of}

-- the netid of TCP over IPv4 (RFC 5665 section 5.1)
abbrev pub tcp : List ℕ
tcp = codes "tcp"

-- the netid of UDP over IPv4 (RFC 5665 section 5.1)
abbrev pub udp : List ℕ
udp = codes "udp"

-- the transports that version 2 knows, by their numbers (RFC 1833 section 3.1: IPPROTO_TCP, IPPROTO_UDP)
abbrev pub transports : List (ℕ × List ℕ)
transports = (6, tcp) ∷ (17, udp) ∷ []

-- the netid beside a number in a table
abbrev pub netid_beside : List (ℕ × List ℕ) → ℕ → Option (List ℕ)
netid_beside [] prot = None
netid_beside (t ∷ ts) prot = if nat_eq prot t.0 then Some t.1 else netid_beside ts prot

-- the number beside a netid in a table
abbrev pub prot_beside : List (ℕ × List ℕ) → List ℕ → Option ℕ
prot_beside [] netid = None
prot_beside (t ∷ ts) netid = if bytes_eq netid t.1 then Some t.0 else prot_beside ts netid

-- the netid of a transport's number
abbrev pub netid_of_prot : ℕ → Option (List ℕ)
netid_of_prot prot = netid_beside transports prot

-- the number of a transport's netid
abbrev pub prot_of_netid : List ℕ → Option ℕ
prot_of_netid netid = prot_beside transports netid

-- the address of a port at every host
abbrev pub at_port : ℕ → List ℕ
at_port port = dotted (0 ∷ 0 ∷ 0 ∷ 0 ∷ port / 256 ∷ port % 256 ∷ [])

-- a row at a port, where the transport has a netid and the port two octets
abbrev pub set_at : List Row → ℕ → ℕ → ℕ → List ℕ → Option (List ℕ) → Step
set_at rows prog vers port owner None = (rows, false)
set_at rows prog vers port owner (Some netid) =
    if nat_le port (2 ^ 16 - 1) then set rows (row_of prog vers netid (at_port port) owner) else (rows, false)

-- registers a port (RFC 1833 section 3.2, PMAPPROC_SET)
abbrev pub set_port : List Row → ℕ → ℕ → ℕ → ℕ → List ℕ → Step
set_port rows prog vers prot port owner = set_at rows prog vers port owner (netid_of_prot prot)

-- what `unset` names at the two transports that have numbers
abbrev pub is_unset_port : ℕ → ℕ → List ℕ → Row → Bool
is_unset_port prog vers owner r = is_unset prog vers tcp owner r || is_unset prog vers udp owner r

-- removes the rows over both (RFC 1833 section 3.2, PMAPPROC_UNSET)
abbrev pub unset_port : List Row → ℕ → ℕ → List ℕ → Step
unset_port rows prog vers owner = without (is_unset_port prog vers owner) rows

-- the registry's own rows of a version: its program over both transports (RFC 1833 sections 2 and 3)
abbrev pub own_rows_of : ℕ → ℕ → List Row
own_rows_of port vers =
    row_of program vers tcp (at_port port) superuser ∷ row_of program vers udp (at_port port) superuser ∷ []

-- the registry's own rows: those of its versions, in their order
abbrev pub own_rows : ℕ → List Row
own_rows port = flat_map (own_rows_of port) versions

-- the port of an address, 0 where it is no IPv4 universal address
abbrev pub port_in : List ℕ → ℕ
port_in text = option_map_or (λ a. a.port) (uaddr_of text) 0

-- the port of the row that is looked up for a version of a program over a transport, 0 where there is none
abbrev pub port_over : List Row → ℕ → ℕ → List ℕ → ℕ
port_over rows prog vers netid = option_map_or (λ r. port_in r.address) (look_up rows prog vers netid) 0

-- and with a transport's number, 0 where it has none (RFC 1833 section 3.2, PMAPPROC_GETPORT)
abbrev pub get_port : List Row → ℕ → ℕ → ℕ → ℕ
get_port rows prog vers prot = option_map_or (port_over rows prog vers) (netid_of_prot prot) 0
