use Rattle.std.proofs.Common.{List, sym, ap, subst}
use Rattle.xdr_types.specs.Kinds.{Part}
use Rattle.xdr_stream.specs.Frames.{stack_of}
use Rattle.xdr_stream.specs.Sees.{Sees}
use Rattle.xdr_stream.specs.Private.Sound.{IsSoundAt}
use Rattle.std.proofs.Common.{◌∙◌}
use Rattle.xdr_stream.specs.declared.machine.frame.Frame.{Frame}
use Rattle.xdr_stream.specs.declared.machine.Awaits.TheVariants.{Next}
use Rattle.xdr_stream.proofs.reader.Reader.end.Goals as goal

pub invariant_of-self : goal.invariant_of-self
invariant_of-self g c = record {
  sound = subst (λ (fs : List Frame). IsSoundAt c.args.self.now.schema.now.kinds c.args.self.now.work fs)
      (sym c.trim.ensures) c.args.self.now.sound;
  waits = tt;
}

pub returns-clause-represents : goal.returns-clause-represents
returns-clause-represents g c = λ q len whole h.
    let a = c.args.self.now in
    let same = ap (λ (fs : List Frame). stack_of a.work fs) c.trim.ensures in (
      len,
      same ∙ whole,
      subst (λ (fs : List (List Part)). Sees a.schema.now.kinds a.kind.place a.limits
          (g.B.Build.reports c.trim-2.new.self) Next fs q) (sym same) (record {
            reading = h.reading;
            trace = h.trace;
            reported = c.trim-2.ensures h.trace h.reported;
            built = h.built;
          }),
    )
