use Rattle.example_program.proofs.Divided.{no_two}
use Rattle.example_program.proofs.items.no_two_items.Goals as goal

pub returns : goal.returns
returns c =
    no_two c.an_array_has_one_reading.ensures c.items_of.result (rw c.requires at c.items_of.ensures.found)
