-- What an example says of lists of kinds and names that make no schema.
use Rattle.std.specs.Prelude.{◌≡◌, ◌⊎◌, ℕ, zero, suc, ◌+◌, length, Option, Some, None, ⊤}
use Rattle.std.specs.Option.{option_or}
use Rattle.xdr_types.specs.Kinds.{Lists}
use Rattle.xdr_types.specs.Faults.{fault, kind_flaw_at, name_flaw_at}
use Rattle.xdr_types.specs.declared.fault.Flaw.{Flaw}
use Rattle.xdr_types.specs.declared.fault.Flaw.TheVariants as flaw
use Rattle.xdr_types.specs.declared.fault.SchemaFault.{SchemaFault}

-- a flaw at a place, or what comes after it
abbrev pub found_or : Option Flaw → ℕ → Option SchemaFault → Option SchemaFault
found_or None place later = later
found_or (Some why) place later = Some (fault why place)

-- the first of so many flaws from a place on
abbrev pub first_from : (ℕ → Option Flaw) → ℕ → ℕ → Option SchemaFault
first_from flaw_at zero place = None
first_from flaw_at (suc count) place = found_or (flaw_at place) place (first_from flaw_at count (place + 1))

-- the first flaw of a kind, else of a name
abbrev pub first_flaw : Lists → Option SchemaFault
first_flaw s =
    option_or (first_from (kind_flaw_at s.kinds) (length s.kinds) 0)
    (first_from (name_flaw_at s.kinds s.names) (length s.names) 0)

-- no schema was made: for this fault, or since memory was refused
abbrev pub IsRefusedFor : Option SchemaFault → Flaw → ℕ → Type 0
IsRefusedFor r why place = (r ≡ Some (fault why place)) ⊎ (r ≡ Some (fault flaw.NoMemory 0))

-- a schema was made, or a kind has no finite value, or memory was refused
abbrev pub IsNoFlaw : Option SchemaFault → Type 0
IsNoFlaw None = ⊤
IsNoFlaw (Some e) = (e.why ≡ flaw.NoFiniteValue) ⊎ (e.why ≡ flaw.NoMemory)
