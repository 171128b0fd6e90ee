use Rattle.std.proofs.Common.{sym, subst, ap, map}
use Rattle.xdr_types.specs.KindViews.{kind_view, name_of}
use Rattle.xdr_types.specs.Sound.{IsSound}
use Rattle.example_xdr.proofs.LookUps.{well_formed, sound}
use Rattle.example_xdr.proofs.look_ups.many_numbers_are_a_schema.Goals as goal

pub only_memory-requires-clause-well : goal.only_memory-requires-clause-well
only_memory-requires-clause-well c =
    well_formed (map kind_view c.args.kinds.items) (map name_of c.new.result.items) c.requires
    (ap (map name_of) c.new.ensures.items)

pub only_memory-requires-clause-sound : goal.only_memory-requires-clause-sound
only_memory-requires-clause-sound c = subst IsSound (sym c.requires) sound
