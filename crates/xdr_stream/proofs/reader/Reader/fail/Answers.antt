use Rattle.std.proofs.Common.{List, [], sym, ap, subst}
use Rattle.xdr_types.specs.Kinds.{Part}
use Rattle.xdr_stream.specs.Frames.{onto}
use Rattle.xdr_stream.specs.Private.Sound.{AreAllSolid}
use Rattle.xdr_stream.specs.declared.machine.frame.Frame.{Frame}
use Rattle.xdr_stream.proofs.reader.Reader.fail.Goals as goal

pub invariant_of-self : goal.invariant_of-self
invariant_of-self g c = record {
  sound = (
    c.args.self.now.sound.0,
    subst (λ (fs : List (List Part)). AreAllSolid c.args.self.now.schema.now.kinds fs)
        (ap (λ (fs : List Frame). onto [] fs) (sym c.clear.ensures)) tt,
  );
  waits = tt;
}
