-- What stands at the front of bytes, and what is told of it.
use Rattle.std.specs.Prelude.{◌≡◌, ℕ, ◌-◌, ◌^◌, ◌==◌, ℤ, pos, negsuc, cond, nat_lt, true, not, List, ◌++◌, decimal}
use Rattle.std.specs.Fmt.{signed_decimal}
use Rattle.json.specs.Json as json
use Rattle.json.specs.Json.{Json}
use Rattle.json.specs.Token.{Token}
use Rattle.xdr_types.specs.Kinds as xdr
use Rattle.xdr_types.specs.Kinds.{KindView, Part}
use Rattle.xdr_types.specs.Tree.{Tree, Values}
use Rattle.xdr_types.specs.Fits.{fits, fit}
use Rattle.xdr_types.specs.Spelling.{spelling, bytes_of}
use Rattle.xdr_types.specs.Outcome.{signed}
use Rattle.xdr_json.specs.Mapping.{name_json}

-- A value of the kind at a place begins the bytes, and the rest follows.
pub record Stands (kinds : List KindView) (place : ℕ) (bytes : List ℕ) (t : Tree) (rest : List ℕ) : Type 0 where
  pub fits : fits kinds place t ≡ true
  pub spelled : bytes ≡ bytes_of kinds place t ++ rest

-- One value for each part begins the bytes, and the rest follows.
pub record StandEach (kinds : List KindView) (ps : List Part) (bytes : List ℕ) (vs : Values) (rest : List ℕ) : Type 0
  where
    pub fit : fit kinds ps vs ≡ true
    pub spelled : bytes ≡ spelling kinds ps vs ++ rest

-- The rest is left, and these tokens were added.
pub record Says (behind rest : List ℕ) (old new more : List Token) : Type 0 where
  pub left : behind ≡ rest
  pub told : new ≡ old ++ more

-- a unit of a kind of one unit (RFC 4506 sections 4.1 to 4.4)
abbrev pub unit_json : KindView → (unit : ℕ) → Json
unit_json xdr.int u = json.number (signed_decimal (signed u))
unit_json xdr.unsigned u = json.number (decimal u)
unit_json xdr.boolean u = json.boolean (not (u == 0))
unit_json (xdr.numbered members) u = name_json (xdr.numbered members) (signed u)
unit_json _ u = json.null

-- the number in two units, as a signed one (RFC 4506 section 4.5)
abbrev pub signed_wide : ℕ → ℤ
signed_wide x = cond (nat_lt x (2 ^ 63)) (pos x) (negsuc (2 ^ 64 - 1 - x))

-- two units of a kind of two (RFC 4506 section 4.5)
abbrev pub units_json : KindView → (units : ℕ) → Json
units_json xdr.hyper u = json.string (signed_decimal (signed_wide u))
units_json _ u = json.string (decimal u)
