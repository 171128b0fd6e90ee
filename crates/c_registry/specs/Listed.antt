-- What listing the rows of a registry leaves in two buffers (RFC 1833 section 2.1).
use Rattle.std.specs.Prelude.{⊤, ◌≡◌, ◌+◌, ◌<◌, ◌⊎◌, ℕ, List, [], ◌∷◌, ◌++◌, length, drop, flat_map, Option, Some, None}
use Rattle.registry_rows.specs.Rows.{Row}
use Rattle.c_messages.specs.Parts.{LiesAt, part}
use Rattle.c_registry.specs.declared.listed.Listed.{Listed}
use Rattle.c_registry.specs.declared.listed.Listed.TheVariants as listed
use Rattle.c_registry.specs.declared.listed.RowCounts.{RowCounts}
use Rattle.c_registry.specs.declared.row.RowParts.{RowParts}
use Rattle.c_registry.specs.Held.{Held}

-- C's row is this one: its texts lie in the bytes.
pub record IsRowIn (bytes : List ℕ) (r : Row) (p : RowParts) : Type 0 where
  pub program : p.program ≡ r.prog
  pub version : p.version ≡ r.vers
  pub netid : LiesAt bytes p.netid r.netid
  pub address : LiesAt bytes p.address r.address
  pub owner : LiesAt bytes p.owner r.owner

-- and so one by one
abbrev pub AreRows : (bytes : List ℕ) → List Row → List RowParts → Type 0
AreRows bytes [] [] = ⊤
AreRows bytes (r ∷ rs) (p ∷ ps) = IsRowIn bytes r p × AreRows bytes rs ps
AreRows bytes _ _ = ⊥

-- the texts of rows, one directly behind the other
abbrev pub texts_of : List Row → List ℕ
texts_of rows = flat_map (λ r. r.netid ++ r.address ++ r.owner) rows

-- C's row whose texts stand so many bytes from the front: the netid, the address and the owner
abbrev pub row_at : ℕ → Row → RowParts
row_at at r = record {
  program = r.prog;
  version = r.vers;
  netid = part at r.netid;
  address = part (at + length r.netid) r.address;
  owner = part (at + length r.netid + length r.address) r.owner;
}

-- C's rows, the texts of each directly behind those of the row before it
abbrev pub rows_at : ℕ → List Row → List RowParts
rows_at at [] = []
rows_at at (r ∷ rs) = row_at at r ∷ rows_at (at + length (r.netid ++ r.address ++ r.owner)) rs

-- what C lends: a buffer for rows, and one for the bytes of their texts
pub record Buffers : Type 0 where
  pub rows : List RowParts
  pub bytes : List ℕ

abbrev pub buffers : List RowParts → List ℕ → Buffers
buffers rows bytes = record { rows = rows; bytes = bytes }

-- they stand at the front of the buffers, whose other places stay
abbrev pub ArePut : List RowParts → (bytes : List ℕ) → (old new : Buffers) → Type 0
ArePut rows bytes old new =
    (new.rows ≡ rows ++ drop (length rows) old.rows) × (new.bytes ≡ bytes ++ drop (length bytes) old.bytes)

-- how many rows there are, and how many bytes their texts have
abbrev pub counts_of : List Row → RowCounts
counts_of rows = record { rows = length rows; bytes = length (texts_of rows) }

-- All rows, in their order, stand in the buffers with their texts. Or a buffer is too small, and what is needed is
-- told; or memory was refused. Then nothing is written.
abbrev pub IsListed : List Row → (old new : Buffers) → Listed → Type 0
IsListed rows old new (listed.Whole c) =
    AreRows (texts_of rows) rows (rows_at 0 rows) × ArePut (rows_at 0 rows) (texts_of rows) old new
    × (c ≡ counts_of rows)
IsListed rows old new (listed.NoRoom c) =
    ((length old.rows < c.rows) ⊎ (length old.bytes < c.bytes)) × (new ≡ old) × (c ≡ counts_of rows)
IsListed rows old new listed.NoMemory = new ≡ old
IsListed rows old new listed.NoRegistry = ⊥

-- the same of a handle
abbrev pub IsListedBy : (held : Option Held) → (old new : Buffers) → Listed → Type 0
IsListedBy None old new a = (a ≡ listed.NoRegistry) × (new ≡ old)
IsListedBy (Some h) old new a = IsListed h.rows old new a

-- how C sees the answer: a status,
abbrev pub listed_status : Listed → ℕ
listed_status (listed.Whole c) = 0
listed_status listed.NoMemory = 6
listed_status (listed.NoRoom c) = 8
listed_status listed.NoRegistry = 18

-- no counts
abbrev pub no_counts : RowCounts
no_counts = record { rows = 0; bytes = 0 }

-- and both counts, which are 0 where nothing is counted
abbrev pub listed_counts : Listed → RowCounts
listed_counts (listed.Whole c) = c
listed_counts listed.NoMemory = no_counts
listed_counts (listed.NoRoom c) = c
listed_counts listed.NoRegistry = no_counts

-- a status and counts that are those of an answer of which this holds
abbrev pub ReportsRows : (Listed → Type 0) → (status : ℕ) → RowCounts → Type 0
ReportsRows Is status counts = (a : Listed) × Is a × (status ≡ listed_status a) × (counts ≡ listed_counts a)
