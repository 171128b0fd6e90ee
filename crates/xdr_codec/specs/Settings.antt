-- What a decoder was started with.
use Rattle.std.specs.Prelude.{List}
use Rattle.xdr_types.specs.Kinds.{KindView, Lists}
use Rattle.xdr_types.specs.Within.{Bounds}
use Rattle.xdr_types.specs.declared.kind.KindId.{KindId}
use Rattle.xdr_codec.specs.declared.decoder.Decoder.{Decoder}

-- the lists of its schema
abbrev pub schema_of : Decoder → Lists
schema_of d = d.reader.schema.now

-- the kinds of its schema
abbrev pub kinds_of : Decoder → List KindView
kinds_of d = d.reader.schema.now.kinds

-- the kind of the value that it decodes
abbrev pub kind_of : Decoder → KindId
kind_of d = d.reader.kind

-- its limits
abbrev pub limits_of : Decoder → Bounds
limits_of d = d.reader.limits
