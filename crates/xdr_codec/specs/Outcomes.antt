-- The outcome of decoding as a decoder's answers (RFC 4506).
use Rattle.std.specs.Prelude.{ℕ, List, Result}
use Rattle.xdr_types.specs.declared.value.Value.{Value}
use Rattle.xdr_stream.specs.Finish as stream
use Rattle.xdr_stream.specs.Represents as reported
use Rattle.xdr_stream.specs.declared.fault.DecodeFault.{DecodeFault}
use Rattle.xdr_stream.specs.declared.reader.Progress.{Progress}
use Rattle.xdr_codec.specs.Settings.{kinds_of, kind_of, limits_of}
use Rattle.xdr_codec.specs.declared.decoder.Decoder.{Decoder}

-- the answer to a piece is the outcome of the bytes b before it and all of its own, unless memory was refused. It is
-- more to come where that is pending, done where a value is whole, a fault where it is one of this reason at this place
abbrev pub HasOutcome : Decoder → (b piece : List ℕ) → Result Progress DecodeFault → Type 0
HasOutcome d b piece r = reported.Answers (kinds_of d) (kind_of d).place (limits_of d) b piece r

-- the answer to the end of the bytes b is their outcome: the value that is whole, a fault of this reason at this place,
-- and cut short at their count where it is pending
abbrev pub EndsIn : Decoder → (b : List ℕ) → Result Value DecodeFault → Type 0
EndsIn d b r = stream.Finishes (kinds_of d) (kind_of d).place (limits_of d) b r
