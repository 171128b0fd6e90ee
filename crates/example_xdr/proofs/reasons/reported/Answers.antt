use Rattle.std.proofs.Common.{length, map, ◌≡◌, subst, sym}
use Rattle.std.specs.Prelude.{Option}
use Rattle.xdr_types.specs.Layout.{entries}
use Rattle.xdr_parts.specs.Lent.{entry_of}
use Rattle.xdr_stream.specs.declared.fault.DecodeFault.{DecodeFault}
use Rattle.example_xdr.specs.Reported.{fault_of, Says}
use Rattle.example_xdr.proofs.Refusing.{says_decoded, says_lent}
use Rattle.example_xdr.proofs.reasons.reported.Goals as goal

pub returns : goal.returns
returns c = λ e none o.
    let s = c.args.schema.now.kinds in
    let t = c.args.kind.place in
    let b = c.args.input.now in
    record {
      decoded = subst (λ (x : Option DecodeFault). Says (fault_of (length b) e) x) (sym c.err.ensures.value)
          (says_decoded s t c.args.limits (c.one_outcome.ensures s) b e none o c.decode.result
          c.decode.ensures.outcome c.decode.ensures.fault);
      fed = c.fed.ensures e none o;
      lent = subst (λ (x : Option DecodeFault). Says (fault_of (length b) e) x) (sym c.err-2.ensures.value)
          (says_lent s t c.args.limits (c.one_outcome.ensures s) b e none o
          (λ ls v. map entry_of ls.items ≡ entries s t v) c.parts.result
          c.parts.ensures.outcome c.parts.ensures.fault);
    }
