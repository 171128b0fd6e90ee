-- Rows for C one after another, as the code makes them.
use Rattle.std.specs.Prelude.{◌≡◌, ◌<◌, ◌⊎◌, ℕ, List, [], ◌∷◌, ◌++◌, length}
use Rattle.registry_rows.specs.Rows.{Row}
use Rattle.c_messages.specs.Parts.{part}
use Rattle.c_registry.specs.declared.row.RowParts.{RowParts}
use Rattle.c_registry.specs.Listed.{Buffers}

-- the row whose texts stand behind these bytes
abbrev pub row_behind : List ℕ → Row → RowParts
row_behind before r = record {
  program = r.prog;
  version = r.vers;
  netid = part (length before) r.netid;
  address = part (length (before ++ r.netid)) r.address;
  owner = part (length (before ++ r.netid ++ r.address)) r.owner;
}

-- these bytes and the texts of the row behind them
abbrev pub bytes_behind : List ℕ → Row → List ℕ
bytes_behind before r = before ++ r.netid ++ r.address ++ r.owner

-- rows whose texts stand behind these bytes
abbrev pub rows_behind : List ℕ → List Row → List RowParts
rows_behind before [] = []
rows_behind before (r ∷ rs) = row_behind before r ∷ rows_behind (bytes_behind before r) rs

-- a buffer has too few places for them, and both stay
abbrev pub HaveTooFew : List RowParts → (bytes : List ℕ) → (old new : Buffers) → Type 0
HaveTooFew rows bytes old new =
    ((length old.rows < length rows) ⊎ (length old.bytes < length bytes)) × (new ≡ old)
