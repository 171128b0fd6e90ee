-- Where a part of a message lies.
use Rattle.std.specs.Prelude.{◌≡◌, ◌≤◌, ◌+◌, ℕ, List, length, take, drop}
use Rattle.xdr_units.specs.Numbers.{gap}
use Rattle.c_messages.specs.declared.part.Part.{Part}

-- Behind so many bytes stand as many as are reported, and they are these.
pub record LiesAt (bytes : List ℕ) (p : Part) (these : List ℕ) : Type 0 where
  pub within : p.at + p.count ≤ length bytes
  pub same : take p.count (drop p.at bytes) ≡ these

-- these bytes, at that place
abbrev pub part : ℕ → List ℕ → Part
part at these = record { at = at; count = length these }

-- no part
abbrev pub none : Part
none = record { at = 0; count = 0 }

-- a count of bytes with the padding to a multiple of four (RFC 4506 section 3)
abbrev pub padded_size : ℕ → ℕ
padded_size n = n + gap n
