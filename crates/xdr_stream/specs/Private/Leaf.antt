-- What a number makes without parts.
use Rattle.std.specs.Prelude.{ℕ, List}
use Rattle.xdr_types.specs.Kinds.{KindView}
use Rattle.xdr_stream.specs.Taking.{Takes}
use Rattle.xdr_stream.specs.declared.builder.Leaf.{Leaf}
use Rattle.xdr_stream.specs.declared.machine.number.Made.TheVariants as made

-- a number makes this node without parts of the kind (RFC 4506 sections 4.1 to 4.4)
abbrev pub IsTaken : List KindView → KindView → (number : ℕ) → Leaf → Type 0
IsTaken kinds k x leaf = Takes kinds k x (made.Leaf leaf)
