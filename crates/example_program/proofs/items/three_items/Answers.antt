use Rattle.example_program.proofs.Divided.{told_three}
use Rattle.example_program.proofs.items.three_items.Goals as goal

pub returns : goal.returns
returns c =
    told_three c.an_array_has_one_reading.ensures c.items_of.result (rw c.requires at c.items_of.ensures.found)
    (rw c.requires at c.items_of.ensures.none)
