-- What stands for a node of a kind.
use Rattle.std.specs.Prelude.{◌≡◌, ⊤}
use Rattle.xdr_types.specs.Kinds as xdr
use Rattle.xdr_types.specs.Kinds.{KindView, Part}
use Rattle.xdr_parts.specs.declared.part.Role.TheVariants.{Number, Length, Flag}
use Rattle.xdr_paths.specs.declared.own.Form.{Form}
use Rattle.xdr_paths.specs.declared.own.Form.TheVariants.{Unit as OneUnit, Wide, Content, Counted, Group}
use Rattle.xdr_paths.specs.declared.spot.Spot.{Spot}

-- the form that stands for a node of the kind (RFC 4506 sections 4.1 to 4.19)
abbrev pub IsForm : KindView → Form → Type 0
IsForm xdr.int (OneUnit Number) = ⊤
IsForm xdr.unsigned (OneUnit Number) = ⊤
IsForm xdr.boolean (OneUnit Number) = ⊤
IsForm (xdr.numbered members) (OneUnit Number) = ⊤
IsForm (xdr.choice tag arms other) (OneUnit Number) = ⊤
IsForm (xdr.up_to item max) (OneUnit Length) = ⊤
IsForm (xdr.maybe item) (OneUnit Flag) = ⊤
IsForm xdr.hyper Wide = ⊤
IsForm xdr.unsigned_hyper Wide = ⊤
IsForm (xdr.opaque count) (Content size) = count ≡ size
IsForm (xdr.opaque_up_to max) Counted = ⊤
IsForm (xdr.text max) Counted = ⊤
IsForm (xdr.fixed item size) Group = ⊤
IsForm (xdr.structure fields) Group = ⊤
IsForm xdr.nothing Group = ⊤
IsForm _ _ = ⊥

-- the part that the node of a spot stands for
abbrev pub part_at : Spot → Part
part_at s = record { name = s.name.now; kind = s.kind.place }
