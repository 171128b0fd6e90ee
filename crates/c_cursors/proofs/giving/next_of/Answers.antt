use Rattle.c_cursors.proofs.giving.next_of.Goals as goal

pub returns : goal.returns
returns c = c.next_in.ensures
