-- The rows of the registry as values (RFC 1833 sections 2.1 and 3.1).
use Rattle.std.specs.Prelude.{ℕ, ◌^◌, List, [], ◌∷◌, map, filter_map, Option, option_map, option_and_then}
use Rattle.xdr_types.specs.Tree as value
use Rattle.xdr_types.specs.Tree.{Tree, from_list}
use Rattle.xdr_types.specs.Within.{Bounds}
use Rattle.registry_uaddr.specs.declared.address.Uaddr.{Uaddr}
use Rattle.registry_uaddr.specs.Uaddrs.{uaddr_of}
use Rattle.registry_rows.specs.Rows.{Row}
use Rattle.registry_rows.specs.Ports.{prot_of_netid}

-- an unsigned integer (RFC 4506 section 4.2)
abbrev pub number : ℕ → Tree
number n = (value.unsigned n, value.none)

-- a string (RFC 4506 section 4.11)
abbrev pub content : List ℕ → Tree
content bs = (value.bytes bs, value.none)

-- a structure of these fields (RFC 4506 section 4.14)
abbrev pub group : List Tree → Tree
group ts = (value.fields, from_list ts)

-- an optional value that is there (RFC 4506 section 4.19)
abbrev pub given : Tree → Tree
given t = (value.present, from_list (t ∷ []))

-- a list as a chain of optional nodes: each has a value and the rest of the chain (RFC 4506 section 4.19)
abbrev pub linked : List Tree → Tree
linked [] = (value.absent, value.none)
linked (t ∷ ts) = given (group (t ∷ linked ts ∷ []))

-- a row as an `rpcb` (RFC 1833 section 2.1)
abbrev pub rpcb_tree : Row → Tree
rpcb_tree r = group (number r.prog ∷ number r.vers ∷ content r.netid ∷ content r.address ∷ content r.owner ∷ [])

-- all rows in order, as an `rpcblist`
abbrev pub rpcb_list : List Row → Tree
rpcb_list rows = linked (map rpcb_tree rows)

-- a `mapping` (RFC 1833 section 3.1)
abbrev pub mapping_of : (prog vers prot port : ℕ) → Tree
mapping_of prog vers prot port = group (number prog ∷ number vers ∷ number prot ∷ number port ∷ [])

-- a row at an IPv4 address as a `mapping` with the transport's number (RFC 1833 section 3.1)
abbrev pub mapping_tree : Row → ℕ → Uaddr → Tree
mapping_tree r prot a = mapping_of r.prog r.vers prot a.port

-- the mapping of a row over `tcp` or `udp` whose address is a universal address over IPv4; other rows have none
abbrev pub mapping_row : Row → Option Tree
mapping_row r = option_and_then (λ prot. option_map (mapping_tree r prot) (uaddr_of r.address)) (prot_of_netid r.netid)

-- the mappings of all rows that have one, in order, as a `pmaplist`
abbrev pub mapping_list : List Row → Tree
mapping_list rows = linked (filter_map mapping_row rows)

-- the limits within which each dump is (this project's own)
abbrev pub dump_limits : Bounds
dump_limits = record { depth = 4096; bytes = 2 ^ 24 }
