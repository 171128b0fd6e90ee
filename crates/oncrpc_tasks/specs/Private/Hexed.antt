-- Hexadecimal digits as bytes, two after two.
use Rattle.std.specs.Prelude.{ℕ, ◌+◌, ◌*◌, List, [], ◌∷◌, ◌++◌, Option, Some, None}
use Rattle.hex.specs.Hex.{hex_digit_value}

-- bytes before others, where there are such
abbrev pub joined : List ℕ → Option (List ℕ) → Option (List ℕ)
joined front None = None
joined front (Some rest) = Some (front ++ rest)

-- the byte of two digits with these values, where both have one
abbrev pub byte_of : Option ℕ → Option ℕ → Option ℕ
byte_of (Some high) (Some low) = Some (high * 16 + low)
byte_of _ _ = None

-- a byte before others, where both are there
abbrev pub begun : Option ℕ → Option (List ℕ) → Option (List ℕ)
begun None rest = None
begun (Some byte) rest = joined (byte ∷ []) rest

-- the bytes that digits spell two after two, where they spell some
unfoldable pub pairs : List ℕ → Option (List ℕ)
pairs [] = Some []
pairs (digit ∷ []) = None
pairs (high ∷ low ∷ rest) = begun (byte_of (hex_digit_value high) (hex_digit_value low)) (pairs rest)
