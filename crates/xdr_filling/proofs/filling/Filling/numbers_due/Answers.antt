-- A run tells what is due.
use Rattle.std.proofs.Common.{ap}
use Rattle.xdr_stream.specs.Frames.{left_of}
use Rattle.xdr_stream.specs.declared.machine.frame.Frame.{Frame}
use Rattle.xdr_filling.proofs.filling.Filling.numbers_due.Goals as goal

pub returns-in-Some : goal.returns-in-Some
returns-in-Some c = record {
  due = λ some. record {
    place = c.in-Some.run'.item.place;
    signed = c.in-Some.run'.signed;
    parts = ap (λ (f : Frame). left_of f) c.in-Some.ensures.frame;
    kind = c.in-Some.ensures.kind;
  };
}
