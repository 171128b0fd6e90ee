-- Which kinds take no memory while their values are read.
use Rattle.std.specs.Prelude.{⊤}
use Rattle.xdr_types.specs.Kinds as xdr
use Rattle.xdr_types.specs.Kinds.{KindView}
use Rattle.xdr_stream.specs.declared.fault.Reason.{Reason}
use Rattle.xdr_stream.specs.declared.fault.Reason.TheVariants as reason

-- A value of the kind is read without memory (RFC 4506 sections 4.1 to 4.11, 4.16). It has no parts, so that no node
-- opens, and what content it has is spared, which no builder of values does.
abbrev pub TakesNone : (spares : Type 0) → KindView → Type 0
TakesNone spares xdr.int = ⊤
TakesNone spares xdr.unsigned = ⊤
TakesNone spares xdr.hyper = ⊤
TakesNone spares xdr.unsigned_hyper = ⊤
TakesNone spares xdr.boolean = ⊤
TakesNone spares (xdr.numbered constants) = ⊤
TakesNone spares (xdr.opaque size) = spares
TakesNone spares (xdr.opaque_up_to max) = spares
TakesNone spares (xdr.text max) = spares
TakesNone spares (xdr.fixed item size) = ⊥
TakesNone spares (xdr.up_to item max) = ⊥
TakesNone spares (xdr.structure fields) = ⊥
TakesNone spares (xdr.choice tag arms other) = ⊥
TakesNone spares (xdr.maybe item) = ⊥
TakesNone spares xdr.nothing = ⊤
TakesNone spares xdr.unknown = ⊥

-- a number, a boolean, an enumeration or void: its value lies in its node
abbrev pub IsFlat : KindView → Type 0
IsFlat k = TakesNone ⊥ k

-- no structure, array, union or optional
abbrev pub HasNoParts : KindView → Type 0
HasNoParts k = TakesNone ⊤ k

-- an allocation failure is no reason where the kind takes none
abbrev pub Spares : (spares : Type 0) → KindView → Reason → Type 0
Spares spares k reason.BadBool = ⊤
Spares spares k reason.BadNumbered = ⊤
Spares spares k reason.BadCase = ⊤
Spares spares k reason.TooLong = ⊤
Spares spares k reason.BadPadding = ⊤
Spares spares k reason.TooDeep = ⊤
Spares spares k reason.TooLarge = ⊤
Spares spares k reason.Truncated = ⊤
Spares spares k reason.NoMemory = TakesNone spares k → ⊥
