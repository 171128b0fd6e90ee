-- The name is that of the first of the parts that are still to come.
use Rattle.c_cursors.proofs.Parts.{name_lacks, more_than_room, room_for_none}
use Rattle.c_cursors.proofs.giving.lacking.Goals as goal

pub returns-in-Some-clause-lacking : goal.returns-in-Some-clause-lacking
returns-in-Some-clause-lacking c =
    λ input es awaits.
    name_lacks c.in-Some.name.now c.args.buffer.now es c.name_lacking.result (c.in-Some.ensures.name input es awaits)
    c.name_lacking.ensures

pub returns-in-Some-clause-more : goal.returns-in-Some-clause-more
returns-in-Some-clause-more c =
    more_than_room c.in-Some.name.now c.args.buffer.now c.name_lacking.result c.name_lacking.ensures

pub returns-in-None-clause-lacking : goal.returns-in-None-clause-lacking
returns-in-None-clause-lacking c =
    λ input es awaits. room_for_none c.args.buffer.now es (c.in-None.ensures.name input es awaits)
