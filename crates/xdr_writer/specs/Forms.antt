-- Which items may come at an entry of a layout.
use Rattle.std.specs.Prelude.{◌≡◌, ℕ, ℤ, ◌<◌, ◌^◌, Bool, List, length, ⊤, IsTrue}
use Rattle.xdr_types.specs.Kinds as xdr
use Rattle.xdr_types.specs.Kinds.{KindView, kind_at}
use Rattle.xdr_types.specs.Fits.{is_signed, is_unsigned}
use Rattle.xdr_types.specs.Layout.{Entry, Role, of_number, of_flag, of_length, of_content}
use Rattle.xdr_types.specs.Outcome.{HasNextUnit}
use Rattle.xdr_writer.specs.Items.{ItemView, number, flag, count, content}

-- the kind is an array of a bounded count (RFC 4506 section 4.13)
abbrev pub IsCounted : KindView → Type 0
IsCounted (xdr.up_to item max) = ⊤
IsCounted _ = ⊥

-- content of so many bytes of a node of this kind has this role: of fixed size by itself, else behind its length (RFC
-- 4506 sections 4.9 to 4.11)
abbrev pub IsContentOf : KindView → (size : ℕ) → Role → Type 0
IsContentOf (xdr.opaque limit) size role = role ≡ of_content size
IsContentOf (xdr.opaque_up_to max) size role = role ≡ of_length
IsContentOf (xdr.text max) size role = role ≡ of_length
IsContentOf _ size role = ⊥

-- the item has the form of a part with this role, of a node of this kind (RFC 4506 section 4)
abbrev pub HasForm : KindView → Role → ItemView → Type 0
HasForm kind role (number z) = role ≡ of_number
HasForm kind role (flag b) = role ≡ of_flag
HasForm kind role (count n) = (role ≡ of_length) × IsCounted kind
HasForm kind role (content bs) = IsContentOf kind (length bs) role

-- the number goes into one unit: as two's complement in kinds of signed numbers (RFC 4506 sections 4.1 to 4.4)
abbrev pub is_in_unit : KindView → ℤ → Bool
is_in_unit xdr.int z = is_signed (2 ^ 31) z
is_in_unit (xdr.numbered constants) z = is_signed (2 ^ 31) z
is_in_unit _ z = is_unsigned (2 ^ 32) z

-- the number goes into the unit, or the two units, of a kind; a discriminant's are those of its own kind (RFC 4506
-- sections 4.1 to 4.5, 4.15)
abbrev pub is_in_range : List KindView → KindView → ℤ → Bool
is_in_range kinds xdr.hyper z = is_signed (2 ^ 63) z
is_in_range kinds xdr.unsigned_hyper z = is_unsigned (2 ^ 64) z
is_in_range kinds (xdr.choice tag arms other) z = is_in_unit (kind_at kinds tag) z
is_in_range kinds kind z = is_in_unit kind z

-- the item's number, its count or its length goes into its units (RFC 4506 sections 4.1 to 4.5, 4.10 to 4.13)
abbrev pub IsInRange : List KindView → KindView → ItemView → Type 0
IsInRange kinds kind (number z) = IsTrue (is_in_range kinds kind z)
IsInRange kinds kind (flag b) = ⊤
IsInRange kinds kind (count n) = n < 2 ^ 32
IsInRange kinds (xdr.opaque size) (content bs) = ⊤
IsInRange kinds kind (content bs) = length bs < 2 ^ 32

-- the item's number or its count goes into its units; of content, whose length the limit on bytes bounds, nothing is
-- said (RFC 4506 sections 4.1 to 4.5, 4.13, 4.15)
abbrev pub HasRange : List KindView → KindView → ItemView → Type 0
HasRange kinds kind (number z) = IsTrue (is_in_range kinds kind z)
HasRange kinds kind (flag b) = ⊤
HasRange kinds kind (count n) = n < 2 ^ 32
HasRange kinds kind (content bs) = ⊤

-- the next unit begins this part in each value that begins with the bytes
abbrev pub IsNext : List KindView → (kind : ℕ) → (b : List ℕ) → Entry → Type 0
IsNext kinds kind b e = HasNextUnit kinds kind b e × (e.at ≡ length b)
