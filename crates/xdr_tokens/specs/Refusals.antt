-- The numbers of faults, and which of them tokens are refused with.
use Rattle.std.specs.Prelude.{◌≤◌, ℕ, List, length}
use Rattle.xdr_tokens.specs.declared.fault.Wrong.{Wrong}
use Rattle.xdr_tokens.specs.declared.fault.Wrong.TheVariants as wrong
use Rattle.xdr_tokens.specs.declared.fault.Fault.{Fault}
use Rattle.xdr_tokens.specs.declared.fault.Fault.TheVariants as fault

-- the number of what is wrong, in the order in which faults are listed
abbrev pub wrong_number : Wrong → ℕ
wrong_number wrong.BadCharacter = 1
wrong_number wrong.BadNumber = 2
wrong_number wrong.Unexpected = 3
wrong_number wrong.FloatingKind = 4
wrong_number wrong.NameTwice = 5
wrong_number wrong.NameUnknown = 6
wrong_number wrong.NotASize = 7
wrong_number wrong.OutOfRange = 8
wrong_number wrong.TypedefLoop = 9
wrong_number (wrong.BadSchema flaw) = 10
wrong_number wrong.TextTooLong = 11
wrong_number wrong.NestedTooDeep = 12

-- A bad character or a bad number at a byte of the text, so many bytes before its end; or an allocation failure.
abbrev pub IsTokenFault : List ℕ → Fault → Type 0
IsTokenFault text fault.NoMemory = Unit {0}
IsTokenFault text (fault.Refused wrong left) =
    (1 ≤ wrong_number wrong) × (wrong_number wrong ≤ 2) × (1 ≤ left) × (left ≤ length text)
