-- A fault of a text, as its refusal.
use Rattle.std.specs.Prelude.{◌≡◌, ◌≢◌, ℕ, List}
use Rattle.xdr_json_reader.specs.declared.fault.JsonReason.{JsonReason}
use Rattle.xdr_json_reader.specs.declared.fault.JsonReason.TheVariants.{NoMemory}
use Rattle.oncrpc_encode.specs.Encoding.{IsAt}
use Rattle.oncrpc_encode.specs.declared.refusal.Refusal.{Refusal}
use Rattle.oncrpc_encode.specs.declared.refusal.Refusal.TheVariants as refusal

-- it has the reason, which is no allocation failure, and the line and the column of the place
abbrev pub IsRefusedFor : (text : List ℕ) → JsonReason → (at : ℕ) → Refusal → Type 0
IsRefusedFor text why at (refusal.At w line column) = (w ≡ why) × (why ≢ NoMemory) × IsAt text at line column
IsRefusedFor text why at refusal.TooLong = ⊥
