-- A name for which there is room is put.
use Rattle.c_cursors.proofs.Parts.{at_front}
use Rattle.c_cursors.proofs.putting.put_name.Goals as goal

pub returns : goal.returns
returns c =
    λ room.
    at_front c.put-fits.result c.args.name.now c.args.buffer.now c.put-fits.new.buffer
    (rw c.as_bytes.ensures.value at c.put-fits.ensures) room
