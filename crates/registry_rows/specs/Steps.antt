-- What each call does to the list of rows (RFC 1833 section 2.2.1).
use Rattle.std.specs.Prelude.{ℕ, Bool, true, false, not, ◌&&◌, ◌||◌, List, [], ◌∷◌, ◌++◌, codes, nat_eq, nat_le, nat_lt}
use Rattle.std.specs.Prelude.{Option, if◌then◌else◌, length, filter, find}
use Rattle.std.specs.Option.{option_map_or}
use Rattle.std.specs.List.{list_any}
use Rattle.std.specs.Str.{bytes_eq}
use Rattle.registry_rows.specs.Rows.{Row, is_of, is_at}

-- a list and an answer
abbrev pub Step : Type 0
Step = List Row × Bool

-- no bytes
abbrev pub is_empty : List ℕ → Bool
is_empty bs = nat_eq (length bs) 0

-- the owner that may remove every row (RFC 1833 section 2.1)
abbrev pub superuser : List ℕ
superuser = codes "superuser"

-- whether the row may be added: with a netid and an address, none too long, space for it, and no row of its key (RFC
-- 1833 section 2.2.1, RPCBPROC_SET)
abbrev pub may_add : List Row → Row → Bool
may_add rows r =
    not (is_empty r.netid) && not (is_empty r.address) && nat_le (length r.netid) 64 && nat_le (length r.address) 256
    && nat_lt (length rows) 1024 && not (list_any (is_at r.prog r.vers r.netid) rows)

-- adds a row at the end, where it may be added
abbrev pub set : List Row → Row → Step
set rows r = if may_add rows r then (rows ++ r ∷ [], true) else (rows, false)

-- whether the owner may remove the row
abbrev pub may_remove : List ℕ → Row → Bool
may_remove owner r = bytes_eq owner r.owner || bytes_eq owner superuser

-- the rows that a test names go
abbrev pub without : (Row → Bool) → List Row → Step
without test rows = (filter (λ r. not (test r)) rows, list_any test rows)

-- whether an `unset` names the row: with an empty netid every row of the version (RFC 1833 section 2.2.1,
-- RPCBPROC_UNSET)
abbrev pub is_unset : ℕ → ℕ → List ℕ → List ℕ → Row → Bool
is_unset prog vers netid owner r = is_of prog vers r && (is_empty netid || bytes_eq netid r.netid) && may_remove owner r

-- removes the rows that it names
abbrev pub unset : List Row → ℕ → ℕ → List ℕ → List ℕ → Step
unset rows prog vers netid owner = without (is_unset prog vers netid owner) rows

-- the row of a version of a program over a transport
abbrev pub row_at : List Row → ℕ → ℕ → List ℕ → Option Row
row_at rows prog vers netid = find (is_at prog vers netid) rows

-- its address, empty where there is none (RFC 1833 section 2.2.1, RPCBPROC_GETVERSADDR)
abbrev pub getversaddr : List Row → ℕ → ℕ → List ℕ → List ℕ
getversaddr rows prog vers netid = option_map_or (λ r. r.address) (row_at rows prog vers netid) []
