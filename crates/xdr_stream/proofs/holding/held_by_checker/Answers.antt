use Rattle.std.proofs.Common.{refl, arith}
use Rattle.std.specs.Prelude.{⊤}
use Rattle.xdr_stream.specs.Trace.{Trace}
use Rattle.xdr_stream.specs.Frames.{stack_of}
use Rattle.xdr_stream.proofs.Stored.{stored, frames_few, parents_few}
use Rattle.xdr_stream.proofs.holding.held_by_checker.Goals as goal

pub returns-clause-counts : goal.returns-clause-counts
returns-clause-counts c = λ b st.
    let r = c.args.reader.now in
    let w = stored r.schema.now c.len-known.ensures.well_formed c.len-known.ensures.sound r.kind.place r.limits
    c.depth-in_range.ensures.range ⊤ (λ (t : Trace). ⊤) (stack_of r.work r.parents.items) r.read r.unit
    r.pending r.state b c.pending_of.ensures.space st in
    record {
      frames = c.frames_of.ensures (parents_few r.state r.work r.parents.items r.limits c.depth-in_range.ensures.range
          w.2.frames_are);
      nodes_are = refl;
      bytes_are = refl;
      pending = c.pending_of.ensures.count;
    }

pub returns-clause-bounds : goal.returns-clause-bounds
returns-clause-bounds c = λ b st.
    let r = c.args.reader.now in
    let w = stored r.schema.now c.len-known.ensures.well_formed c.len-known.ensures.sound r.kind.place r.limits
    c.depth-in_range.ensures.range ⊤ (λ (t : Trace). ⊤) (stack_of r.work r.parents.items) r.read r.unit
    r.pending r.state b c.pending_of.ensures.space st in
    record {
      frames = omega (
        arith,
        c.frames_of.ensures (parents_few r.state r.work r.parents.items r.limits c.depth-in_range.ensures.range
            w.2.frames_are),
        frames_few r.state r.work r.parents.items r.limits.depth
            w.2.frames_are,
      );
      nodes = omega arith;
      bytes = omega arith;
      pending = omega (arith, c.pending_of.ensures.count, w.2.pending_is);
    }
