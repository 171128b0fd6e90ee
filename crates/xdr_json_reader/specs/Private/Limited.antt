-- Which limit the value passes whose bytes a reason refuses.
use Rattle.xdr_stream.specs.declared.fault.Reason.{Reason}
use Rattle.xdr_stream.specs.declared.fault.Reason.TheVariants as reason
use Rattle.xdr_json_reader.specs.declared.fault.JsonReason.{JsonReason}
use Rattle.xdr_json_reader.specs.declared.fault.JsonReason.TheVariants as why

-- the bytes of a value are refused by a limit or an allocation failure
abbrev pub limit_reason : Reason → JsonReason
limit_reason reason.TooDeep = why.TooDeep
limit_reason reason.NoMemory = why.NoMemory
limit_reason _ = why.TooLarge
