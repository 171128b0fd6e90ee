-- Which of the faults that are noted is kept: the first of the text (the names and numbers of RFC 4506 section 6.4).
use Rattle.std.specs.Prelude.{ℕ, nat_le, Option, None, Some, if◌then◌else◌}
use Rattle.xdr_tokens.specs.declared.fault.Fault.{Fault}
use Rattle.xdr_tokens.specs.declared.fault.Fault.TheVariants as fault
use Rattle.xdr_tokens.specs.declared.fault.Wrong.{Wrong}

-- The fault that is kept and one more: the one with more bytes from there to the end, and the kept one at one place.
abbrev pub first_with : Option (Wrong × ℕ) → Wrong → ℕ → Option (Wrong × ℕ)
first_with None wrong left = Some (wrong, left)
first_with (Some kept) wrong left = if nat_le left kept.1 then Some kept else Some (wrong, left)

-- the same with the fault of a look-up, which has no place where memory was refused
abbrev pub first_with_fault : Option (Wrong × ℕ) → Fault → Option (Wrong × ℕ)
first_with_fault kept (fault.Refused wrong left) = first_with kept wrong left
first_with_fault kept fault.NoMemory = kept
