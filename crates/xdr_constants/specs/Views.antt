-- What the code makes, without where it lies in memory and in the text.
use Rattle.std.specs.Prelude.{ℕ, List, map}
use Rattle.xdr_grammar.specs.declared.outline.Late.{Late}
use Rattle.xdr_grammar.specs.declared.outline.Late.TheVariants as late
use Rattle.xdr_constants.specs.declared.constants.Known.{Known}
use Rattle.xdr_constants.specs.Constants as said

-- a constant that is looked up
abbrev pub known_of : Known → said.Known
known_of k = record { name = k.name.text.now; value = k.value; by_const = k.by_const }

abbrev pub knowns : List Known → List said.Known
knowns ks = map known_of ks

-- where a value stands: so many bytes of the text are left at its first
abbrev pub place_of : Late → ℕ
place_of (late.Given n) = n.left
place_of (late.Earlier n before) = n.left
