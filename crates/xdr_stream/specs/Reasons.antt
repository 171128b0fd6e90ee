-- The numbers of reasons.
use Rattle.std.specs.Prelude.{ℕ}
use Rattle.xdr_stream.specs.declared.fault.Reason.{Reason}
use Rattle.xdr_stream.specs.declared.fault.Reason.TheVariants as reason

-- the number of a reason: a unit that no value has (RFC 4506 sections 3, 4.3, 4.4, 4.10 to 4.15, 4.19), a limit, the
-- end of the bytes, an allocation failure
abbrev pub reason_number : Reason → ℕ
reason_number reason.BadBool = 1
reason_number reason.BadNumbered = 2
reason_number reason.BadCase = 3
reason_number reason.TooLong = 4
reason_number reason.BadPadding = 5
reason_number reason.TooDeep = 6
reason_number reason.TooLarge = 7
reason_number reason.Truncated = 8
reason_number reason.NoMemory = 9
