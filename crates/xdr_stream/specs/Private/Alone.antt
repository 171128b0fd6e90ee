-- Where no node is at work but what stands around the root.
use Rattle.std.specs.Prelude.{◌≡◌, List, [], ◌∷◌, ⊤}
use Rattle.xdr_types.specs.Tree as value
use Rattle.xdr_stream.specs.Trace as trace
use Rattle.xdr_stream.specs.Trace.{Trace}
use Rattle.xdr_stream.specs.declared.builder.level.Level.{Level}
use Rattle.xdr_stream.specs.declared.builder.level.Level.TheVariants.{Root, Items, Fields, Choice, Maybe}

abbrev pub IsAloneIn : List trace.Level → Type 0
IsAloneIn [] = ⊥
IsAloneIn (l ∷ []) = l.head ≡ value.nothing
IsAloneIn (l ∷ m ∷ ls) = ⊥

-- no node is at work but what stands around the root
abbrev pub IsAlone : Trace → Type 0
IsAlone t = IsAloneIn t.levels

-- and so in code
abbrev pub IsRoot : Level → Type 0
IsRoot (Root part) = ⊤
IsRoot (Items count items) = ⊥
IsRoot (Fields items) = ⊥
IsRoot (Choice tag part) = ⊥
IsRoot (Maybe part) = ⊥
