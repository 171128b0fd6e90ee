-- What is written of what a text stands for: bytes to the output, or a line to the stream of faults.
use Rattle.std.specs.Prelude.{ℕ, Bool, true, false, List, [], ◌∷◌, ◌++◌, codes, decimal}
use Rattle.hex.specs.Hex.{encode_lower}
use Rattle.xdr_json_reader.specs.declared.fault.JsonReason.{JsonReason}
use Rattle.xdr_json_reader.specs.declared.fault.JsonReason.TheVariants as reason
use Rattle.oncrpc_encode.specs.declared.refusal.Refusal.{Refusal}
use Rattle.oncrpc_encode.specs.declared.refusal.Refusal.TheVariants as refusal

-- the bytes, or their lower-case hexadecimal and a line feed
abbrev pub written_in : (hex : Bool) → (bytes : List ℕ) → List ℕ
written_in false bytes = bytes
written_in true bytes = encode_lower bytes ++ 10 ∷ []

-- the name of a reason
abbrev pub name : JsonReason → List ℕ
name reason.NotJson = codes "NotJson"
name reason.UnknownMember = codes "UnknownMember"
name reason.MissingMember = codes "MissingMember"
name reason.MemberTwice = codes "MemberTwice"
name reason.WrongType = codes "WrongType"
name reason.OutOfRange = codes "OutOfRange"
name reason.NotWhole = codes "NotWhole"
name reason.UnknownName = codes "UnknownName"
name reason.BadHex = codes "BadHex"
name reason.WrongLength = codes "WrongLength"
name reason.NoArm = codes "NoArm"
name reason.TooDeep = codes "TooDeep"
name reason.TooLarge = codes "TooLarge"
name reason.NoMemory = codes "NoMemory"

-- the line of a refusal, which ends with a line feed
abbrev pub refusal_line : Refusal → List ℕ
refusal_line (refusal.At why line column) =
    codes "refused " ++ name why ++ codes " at " ++ decimal line ++ codes ":" ++ decimal column ++ codes "\n"
refusal_line refusal.TooLong = codes "refused text too long\n"
