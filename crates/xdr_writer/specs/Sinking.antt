-- What is left where an item's bytes did not all go out.
use Rattle.std.specs.Prelude.{◌≡◌, ℕ, ◌<◌, List, [], length, take, Option, Err}
use Rattle.std.specs.Io.KnownBytes.{Appends}
use Rattle.xdr_writer.specs.Items.{ItemView, NodeItem}
use Rattle.xdr_writer.specs.Represents.{RepresentsItems}
use Rattle.xdr_writer.specs.Answers.{Took, Rejects}
use Rattle.xdr_writer.specs.declared.item.Step.{Step}
use Rattle.xdr_writer.specs.declared.sinking.PutFault.{PutFault}
use Rattle.xdr_writer.specs.declared.sinking.PutFault.TheVariants as fault
use Rattle.xdr_writer.specs.declared.writer.Writer.{Writer}

-- the item is refused, and the sink has taken nothing; or it is taken, and the sink has taken fewer than all its bytes,
-- from the first on
abbrev pub IsNotOut : (a b : Writer) → ItemView → (old new : Option (List ℕ)) → PutFault → Type 0
IsNotOut a b i old new (fault.Refused f) = Rejects a b i [] [] (Err f) × (new ≡ old)
IsNotOut a b i old new (fault.Cut c) = (is : List NodeItem) → RepresentsItems a is
    → (s : Step) × (bytes : List ℕ) × Took a b is i [] bytes s × (c.written < length bytes)
    × Appends old new (take c.written bytes)
