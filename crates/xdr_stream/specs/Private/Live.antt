-- What may come next before it is settled.
use Rattle.std.specs.Prelude.{◌<◌, ⊤}
use Rattle.xdr_stream.specs.declared.machine.Awaits.{Awaits}
use Rattle.xdr_stream.specs.declared.machine.Awaits.TheVariants.{Content}

-- content has bytes to come
abbrev pub IsLive : Awaits → Type 0
IsLive (Content n) = 0 < n
IsLive _ = ⊤
