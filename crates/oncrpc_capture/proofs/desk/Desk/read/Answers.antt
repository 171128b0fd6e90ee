use Rattle.std.proofs.Common.{[], ap, refl, sym, subst, ◌∙◌}
use Rattle.xdr_io.proofs.Chained.{Consumes-none}
use Rattle.oncrpc_capture.specs.Private.Steps.{IsThrough}
use Rattle.oncrpc_capture.proofs.Fed.{breaks_off, ends_there, goes_on}
use Rattle.oncrpc_capture.proofs.Printed.{on_ok}
use Rattle.oncrpc_capture.proofs.Through.{through_start}
use Rattle.oncrpc_capture.proofs.desk.Desk.read.Goals as goal

pub reads-init : goal.reads-init
reads-init g c =
    let p = c.args.self.now.printing in
    let t = g.O.Sink.taken c.args.output.now in
    record {
      through = (
        [],
        Consumes-none _,
        subst (λ n. IsThrough c.start-reader.result [] c.args.self.now.ports.now n c.args.self.now.flows p p t t)
            (sym c.requires.first)
            (through_start _ _ c.args.self.now.flows p t c.start-reader.ensures.represents
            c.start-reader.ensures.gathers c.requires.begun),
      );
      ports = refl;
    }

pub reads-preserved : goal.reads-preserved
reads-preserved g c =
    let inv = c.reads.invariant in
    record {
      through = goes_on _ _ _ _ _ _ _ _ _ _ _ _ _ _ _ _ _ (ap (λ k. k.now) inv.ports) inv.through.1 inv.through.2
          c.in-Ok.ensures.bytes.0 _ _ _ _ c.if-not-more.false c.in_ok-more.ensures.feeds;
      ports = c.feed.ensures.ports ∙ inv.ports;
    }

pub returns-then-size-eq0 : goal.returns-then-size-eq0
returns-then-size-eq0 g c =
    let inv = c.reads.invariant in
    on_ok _
    (λ h. ends_there _ _ _ _ _ _ _ _ _ _ _ _ _ _ _ _ _ (ap (λ k. k.now) inv.ports) inv.through.1 inv.through.2
    c.in-Ok.ensures.bytes.0 c.in-Ok.ensures.bytes.1 c.if-size-eq0.true h) c.end_file.ensures

pub returns-then-not-more : goal.returns-then-not-more
returns-then-not-more g c =
    let inv = c.reads.invariant in
    on_ok _
    (λ h. breaks_off _ _ _ _ _ _ _ _ _ _ _ _ _ _ _ _ _ (ap (λ k. k.now) inv.ports) inv.through.1 inv.through.2
    c.in-Ok.ensures.bytes.0 _ _ _ _ _ _ _ c.if-not-more.true c.in_ok-more.ensures.feeds h) c.end.ensures.goes
