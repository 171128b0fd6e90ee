use Rattle.std.proofs.Common.{ap, inl, inr, subst, sym, ◌∙◌}
use Rattle.xdr_io.proofs.Chained.{Counts-none}
use Rattle.oncrpc_watch.specs.Private.Steps.{PrintsIn, PrintsPartIn, Reports, sunk}
use Rattle.oncrpc_watch.specs.Terms.{Terms, terms_of}
use Rattle.std.proofs.lemmas.Result.{err_from_is_err_and}
use Rattle.oncrpc_watch.proofs.messages.print_by.Goals as goal

pub returns-clause-prints : goal.returns-clause-prints
returns-clause-prints g c = record {
  heads = c.in_ok-heads.heads;
  are_heads = c.in_ok-heads.ensures;
  prints = subst
      (λ (t : Terms). PrintsIn g.R.Source.left t c.args.other (g.I.Source.left c.args.input)
      (g.O.Sink.taken c.args.output.now) (g.O.Sink.taken c.print_in.new.output) c.in_ok-status.status)
      (ap terms_of c.new-watch.ensures.terms ∙ c.terms_by-terms.ensures) c.in_ok-status.ensures.prints;
}

pub returns-in_err-heads-clause-fails : goal.returns-in_err-heads-clause-fails
returns-in_err-heads-clause-fails g c =
    let e = c.from_residual in
    let p = err_from_is_err_and e.result e.ensures.1 in
    rw p.1 (inl (subst
    (λ x. Reports g.I.Source.failures g.I.Source.reads c.args.input
    (sunk g.O.Sink.taken g.O.Sink.failures c.args.output.now)
    (sunk g.O.Sink.taken g.O.Sink.failures c.args.output.now) x) (sym p.2) (Counts-none _)))

pub returns-in_err-status-clause-part : goal.returns-in_err-status-clause-part
returns-in_err-status-clause-part g c =
    let e = c.from_residual-in_err-status in
    let p = err_from_is_err_and e.result e.ensures.1 in
    rw p.1 (inr (record {
      heads = c.in_ok-heads.heads;
      are_heads = c.in_ok-heads.ensures;
      prints = subst
          (λ (t : Terms). PrintsPartIn g.R.Source.left t c.args.other (g.I.Source.left c.args.input)
          (g.O.Sink.taken c.args.output.now) (g.O.Sink.taken c.print_in.new.output))
          (ap terms_of c.new-watch.ensures.terms ∙ c.terms_by-terms.ensures) c.in_err-status.ensures.part;
    }))
