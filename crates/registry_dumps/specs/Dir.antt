-- The lists of the registry's types (RFC 1833 sections 2.1 and 3.1): the kinds and names of `rpcb`, `rp__list`,
-- `rpcblist`, `mapping`, `pm__list` and `pmaplist`.
use Rattle.std.specs.Prelude.{ℕ, ◌-◌, ◌^◌, List, [], ◌∷◌, ◌++◌, codes}
use Rattle.xdr_types.specs.Kinds.{KindView, Part, Lists, text, structure, maybe}
use Rattle.xdr_types.specs.Named.{named, basic}

-- ---- the places of kinds: of basic ones, and of the registry's own, which follow them

-- an unsigned integer (RFC 4506 section 4.2)
abbrev pub unsigned_kind : ℕ
unsigned_kind = 1

-- a bool (RFC 4506 section 4.4)
abbrev pub bool_kind : ℕ
bool_kind = 4

-- no value (RFC 4506 section 4.16)
abbrev pub void_kind : ℕ
void_kind = 5

-- a string (RFC 4506 section 4.11)
abbrev pub string_kind : ℕ
string_kind = 7

-- the three strings of `rpcb` (RFC 1833 section 2.1)
abbrev pub netid_kind : ℕ
netid_kind = 8

abbrev pub address_kind : ℕ
address_kind = 9

abbrev pub owner_kind : ℕ
owner_kind = 10

-- `rpcb`
abbrev pub rpcb_kind : ℕ
rpcb_kind = 11

-- the rest of a list of these, its node `rp__list`, and the list `rpcblist`
abbrev pub rpcb_next_kind : ℕ
rpcb_next_kind = 12

abbrev pub rpcb_node_kind : ℕ
rpcb_node_kind = 13

abbrev pub rpcb_list_kind : ℕ
rpcb_list_kind = 14

-- `mapping` (RFC 1833 section 3.1)
abbrev pub mapping_kind : ℕ
mapping_kind = 15

-- the rest of a list of these, its node `pm__list`, and the list `pmaplist`
abbrev pub mapping_next_kind : ℕ
mapping_next_kind = 16

abbrev pub mapping_node_kind : ℕ
mapping_node_kind = 17

abbrev pub mapping_list_kind : ℕ
mapping_list_kind = 18

-- ---- the kinds

-- a string of any length (RFC 4506 section 4.11)
abbrev pub any_text : KindView
any_text = text (2 ^ 32 - 1)

-- a row of versions 3 and 4 (RFC 1833 section 2.1)
abbrev pub rpcb : KindView
rpcb = structure (named (codes "r_prog") unsigned_kind ∷ named (codes "r_vers") unsigned_kind ∷ named
    (codes "r_netid") netid_kind ∷ named (codes "r_addr") address_kind ∷ named (codes "r_owner") owner_kind ∷ [])

-- a row, and the rest of the list (RFC 1833 section 2.1)
abbrev pub rpcb_node : KindView
rpcb_node = structure (named (codes "rpcb_map") rpcb_kind ∷ named (codes "rpcb_next") rpcb_next_kind ∷ [])

-- a row of version 2 (RFC 1833 section 3.1)
abbrev pub mapping : KindView
mapping = structure (named (codes "prog") unsigned_kind ∷ named (codes "vers") unsigned_kind ∷ named
    (codes "prot") unsigned_kind ∷ named (codes "port") unsigned_kind ∷ [])

-- a row of version 2, and the rest of the list (RFC 1833 section 3.1)
abbrev pub mapping_node : KindView
mapping_node = structure (named (codes "map") mapping_kind ∷ named (codes "next") mapping_next_kind ∷ [])

-- places 8 to 18, after the basic ones
abbrev pub own_kinds : List KindView
own_kinds =
    any_text ∷ any_text ∷ any_text ∷ rpcb ∷ maybe rpcb_node_kind ∷ rpcb_node ∷ maybe rpcb_node_kind
    ∷ mapping ∷ maybe mapping_node_kind ∷ mapping_node ∷ maybe mapping_node_kind ∷ []

-- all kinds, the basic ones first
abbrev pub dir_kinds : List KindView
dir_kinds = basic.kinds ++ own_kinds

-- the names of the registry's own types
abbrev pub own_names : List Part
own_names = named (codes "rpcb") rpcb_kind ∷ named (codes "rp__list") rpcb_node_kind ∷ named
    (codes "rpcblist") rpcb_list_kind ∷ named (codes "mapping") mapping_kind ∷ named
    (codes "pm__list") mapping_node_kind ∷ named (codes "pmaplist") mapping_list_kind ∷ []

-- the kinds and the names, the basic ones first
abbrev pub dir_lists : Lists
dir_lists = record { kinds = dir_kinds; names = basic.names ++ own_names }
