use Rattle.std.proofs.Common.{◌≡◌, ◌+◌, ◌<◌, ◌^◌, ℕ, List, sym, ap, subst, ◌∙◌, arith}
use Rattle.xdr_types.specs.Kinds.{Part}
use Rattle.xdr_stream.specs.Trace.{Trace}
use Rattle.xdr_stream.specs.Frames.{stack_of}
use Rattle.xdr_stream.specs.Values.{Reports}
use Rattle.xdr_stream.specs.Retained.{nodes_in, bytes_retained}
use Rattle.xdr_stream.specs.Held.{frames_at, nodes_at, pending_at}
use Rattle.xdr_stream.specs.Represents.{RepresentsAs}
use Rattle.xdr_stream.specs.declared.reader.State.{State}
use Rattle.xdr_stream.proofs.Stored.{stored, frames_few, parents_few, whole_stored, due_stored}
use Rattle.xdr_stream.proofs.holding.held_by_decoder.Goals as goal

pub returns-clause-counts : goal.returns-clause-counts
returns-clause-counts c = λ b st.
    let r = c.args.reader.now in
    let w = stored r.schema.now c.len-known.ensures.well_formed c.len-known.ensures.sound r.kind.place r.limits
    c.depth-in_range.ensures.range ⊥ (λ (t : Trace). Reports r.built t) (stack_of r.work r.parents.items) r.read r.unit
    r.pending r.state b c.pending_of.ensures.space st in
    let n = w.1.nodes (omega (arith, w.2.few)) in
    let below : r.built.nodes + 1 < 2 ^ 64 = omega (arith, n, w.2.few) in
    record {
      frames = c.frames_of.ensures (parents_few r.state r.work r.parents.items r.limits c.depth-in_range.ensures.range
          w.2.frames_are);
      nodes_are = c.nodes_of.ensures below ∙ ap (λ (m : ℕ). nodes_at r.state m) n
          ∙ ap (λ (t : Trace). nodes_at r.state (nodes_in t.levels)) (sym w.1.trace);
      bytes_are = w.1.retained w.2.short ∙ ap (λ (t : Trace). bytes_retained t) (sym w.1.trace);
      pending = c.pending_of.ensures.count;
    }

pub returns-clause-bounds : goal.returns-clause-bounds
returns-clause-bounds c = λ b st.
    let r = c.args.reader.now in
    let w = stored r.schema.now c.len-known.ensures.well_formed c.len-known.ensures.sound r.kind.place r.limits
    c.depth-in_range.ensures.range ⊥ (λ (t : Trace). Reports r.built t) (stack_of r.work r.parents.items) r.read r.unit
    r.pending r.state b c.pending_of.ensures.space st in
    let n = w.1.nodes (omega (arith, w.2.few)) in
    let below : r.built.nodes + 1 < 2 ^ 64 = omega (arith, n, w.2.few) in
    let nodes = c.nodes_of.ensures below ∙ ap (λ (m : ℕ). nodes_at r.state m) n in
    record {
      frames = omega (
        arith,
        c.frames_of.ensures (parents_few r.state r.work r.parents.items r.limits c.depth-in_range.ensures.range
            w.2.frames_are),
        frames_few r.state r.work r.parents.items r.limits.depth
            w.2.frames_are,
      );
      nodes = omega (arith, nodes, w.2.nodes);
      bytes = omega (arith, w.1.retained w.2.short, w.2.bytes);
      pending = omega (arith, c.pending_of.ensures.count, w.2.pending_is);
    }

pub returns-clause-due : goal.returns-clause-due
returns-clause-due c = λ b waits st.
    let r = c.args.reader.now in
    let w = stored r.schema.now c.len-known.ensures.well_formed c.len-known.ensures.sound r.kind.place r.limits
    c.depth-in_range.ensures.range ⊥ (λ (t : Trace). Reports r.built t) (stack_of r.work r.parents.items) r.read r.unit
    r.pending r.state b c.pending_of.ensures.space st in
    let n = w.1.nodes (omega (arith, w.2.few)) in
    let below : r.built.nodes + 1 < 2 ^ 64 = omega (arith, n, w.2.few) in
    let d = due_stored ⊥ r.schema.now.kinds r.kind.place r.limits (λ (t : Trace). Reports r.built t)
    (stack_of r.work r.parents.items) r.read r.unit r.pending r.state b c.pending_of.ensures.space waits st in
    d.2 _ (c.nodes_of.ensures below ∙ ap (λ (m : ℕ). nodes_at r.state m) n
    ∙ ap (λ (t : Trace). nodes_at r.state (nodes_in t.levels)) (sym w.1.trace ∙ d.1.trace)) c.pending_of.ensures.count

pub returns-clause-whole : goal.returns-clause-whole
returns-clause-whole c = λ b done st.
    let r = c.args.reader.now in
    let H : Trace → Type 0 = λ (t : Trace). Reports r.built t in
    let fs : List (List Part) = stack_of r.work r.parents.items in
    let w = stored r.schema.now c.len-known.ensures.well_formed c.len-known.ensures.sound r.kind.place r.limits
    c.depth-in_range.ensures.range ⊥ H fs r.read r.unit r.pending r.state b c.pending_of.ensures.space st in
    let n = w.1.nodes (omega (arith, w.2.few)) in
    let below : r.built.nodes + 1 < 2 ^ 64 = omega (arith, n, w.2.few) in
    let at = subst (λ (x : State). RepresentsAs ⊥ r.schema.now.kinds r.kind.place r.limits H fs r.read r.unit r.pending
    x b) done st in
    let v = whole_stored r.schema.now.kinds r.kind.place r.limits H fs r.read r.unit r.pending b at in
    let same : w.0 ≡ at.2.trace = sym w.1.trace ∙ at.2.reported.trace in
    record {
      value = v.0;
      outcome = v.1;
      frames = c.frames_of.ensures (parents_few r.state r.work r.parents.items r.limits c.depth-in_range.ensures.range
          w.2.frames_are)
          ∙ ap (λ (x : State). frames_at x r.parents.items) done;
      nodes = (let m = c.nodes_of.ensures below ∙ ap (λ (x : State). nodes_at x (r.built.nodes + 1)) done in
          omega (arith, m, n, ap (λ (t : Trace). nodes_in t.levels) same, v.4));
      bytes = w.1.retained w.2.short ∙ ap (λ (t : Trace). bytes_retained t) same ∙ v.5;
      pending = c.pending_of.ensures.count ∙ ap (λ (x : State). pending_at x r.pending) done;
    }
