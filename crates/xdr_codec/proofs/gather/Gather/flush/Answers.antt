use Rattle.std.proofs.Common.{arith, refl}
use Rattle.xdr_codec.specs.Private.Gathered.{gathering}
use Rattle.xdr_codec.proofs.Gathering.{flushed, flush_cut}
use Rattle.xdr_codec.proofs.gather.Gather.flush.Goals as goal

pub returns-in-Ok-clause-put : goal.returns-in-Ok-clause-put
returns-in-Ok-clause-put g c =
    let d = c.args.self.now in
    let a = gathering (g.W.Sink.taken d.sink.now) (g.W.Sink.failures d.sink.now) d.array d.filled d.written in
    let b = gathering (g.W.Sink.taken c.write_whole.new.sink) (g.W.Sink.failures c.write_whole.new.sink) d.array 0
    c.saturating_add-self.result in
    flushed a b c.in-Ok.ensures.ok c.in-Ok.ensures.none_failed refl
    (λ small. omega (arith, small, c.saturating_add-self.ensures))

pub returns-in-Err-clause-put : goal.returns-in-Err-clause-put
returns-in-Err-clause-put g c =
    let d = c.args.self.now in
    let a = gathering (g.W.Sink.taken d.sink.now) (g.W.Sink.failures d.sink.now) d.array d.filled d.written in
    let b = gathering (g.W.Sink.taken c.write_whole.new.sink) (g.W.Sink.failures c.write_whole.new.sink) d.array
    d.filled c.saturating_add-self-in-Err.result in
    flush_cut a b c.in-Err.cut.written c.in-Err.ensures.cut.0 c.in-Err.ensures.cut.1 c.in-Err.ensures.one_failed
    (λ small. omega (arith, small, c.saturating_add-self-in-Err.ensures))
