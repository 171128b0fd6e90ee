-- Which faults tokens are refused with.
use Rattle.std.specs.Prelude.{◌≡◌, ◌⊎◌}
use Rattle.xdr_tokens.specs.declared.fault.Fault.{Fault}
use Rattle.xdr_tokens.specs.declared.fault.Fault.TheVariants as fault
use Rattle.xdr_tokens.specs.Refusals.{wrong_number}

-- A token that cannot stand there, a floating-point type, or one body too many; or an allocation failure.
abbrev pub IsGrammarFault : Fault → Type 0
IsGrammarFault fault.NoMemory = Unit {0}
IsGrammarFault (fault.Refused wrong left) =
    (wrong_number wrong ≡ 3) ⊎ ((wrong_number wrong ≡ 4) ⊎ (wrong_number wrong ≡ 12))
