-- The look-up of an address: of a version that is not registered the greatest that is (this project's own, as rpcbind
-- does it; RFC 1833 section 2.2.1, RPCBPROC_GETADDR).
use Rattle.std.specs.Prelude.{ℕ, Bool, ◌&&◌, List, [], nat_eq, nat_le, Option, filter, find}
use Rattle.std.specs.Option.{option_or, option_map_or}
use Rattle.std.specs.List.{list_all}
use Rattle.std.specs.Str.{bytes_eq}
use Rattle.registry_rows.specs.Rows.{Row}
use Rattle.registry_rows.specs.Steps.{row_at}

-- the row is of this program and over this transport, in whatever version
abbrev pub is_over : ℕ → List ℕ → Row → Bool
is_over prog netid r = nat_eq prog r.prog && bytes_eq netid r.netid

-- none of the rows has a greater version than this row
abbrev pub none_greater : List Row → Row → Bool
none_greater rows r = list_all (λ s. nat_le s.vers r.vers) rows

-- the row of greatest version: one of the rows than which none has a greater version
abbrev pub greatest : List Row → Option Row
greatest rows = find (none_greater rows) rows

-- the row of a version of a program over a transport; where there is none, the row of greatest version of that program
-- over that transport; else none
abbrev pub look_up : List Row → ℕ → ℕ → List ℕ → Option Row
look_up rows prog vers netid = option_or (row_at rows prog vers netid) (greatest (filter (is_over prog netid) rows))

-- the address that the look-up finds, empty where it finds none (RFC 1833 section 2.2.1, RPCBPROC_GETADDR)
abbrev pub getaddr : List Row → ℕ → ℕ → List ℕ → List ℕ
getaddr rows prog vers netid = option_map_or (λ r. r.address) (look_up rows prog vers netid) []
