use Rattle.std.proofs.Common.{ℕ, List, [], ◌++◌, length, ◌∙◌, subst, sym}
use Rattle.std.specs.Prelude.{Option, Ok}
use Rattle.xdr_types.specs.Kinds.{KindView}
use Rattle.xdr_types.specs.Within.{Bounds}
use Rattle.xdr_stream.specs.Finish.{Finishes}
use Rattle.xdr_stream.specs.Represents.{Answers, Fails, taken}
use Rattle.xdr_stream.specs.declared.fault.DecodeFault.{DecodeFault}
use Rattle.example_xdr.specs.Reported.{fault_of, Says}
use Rattle.example_xdr.proofs.Refusing.{failed, says_fed, started}
use Rattle.example_xdr.proofs.reasons.fed.Goals as goal

pub returns-in-Ok : goal.returns-in-Ok
returns-in-Ok c = λ e none o.
    let x = c.args.schema.now in
    let k = c.args.kind in
    let l = c.args.limits in
    let b : List ℕ = c.args.input.now in
    let d = c.start-decoder.result in
    let n = c.feed.new.self in
    let p = c.in-Ok.field-0 in
    let set = c.start-decoder.ensures.settings in
    let same = c.in-Ok.ensures.same in
    let answer = started d x k l (λ (ks : List KindView) (t : ℕ) (m : Bounds). Answers ks t m [] b (Ok p)) set
    (c.in-Ok.ensures.outcome [] c.start-decoder.ensures.represents) in
    let end = started n x k l
    (λ (ks : List KindView) (t : ℕ) (m : Bounds). Finishes ks t m ([] ++ taken b (Ok p)) c.finish.result)
    (record {
      schema_is = same.schema_is ∙ set.schema_is;
      kind_is = same.kind_is ∙ set.kind_is;
      limits_are = same.limits_are ∙ set.limits_are;
    })
    (c.finish.ensures.outcome ([] ++ taken b (Ok p))
    (c.in-Ok.ensures.represents [] c.start-decoder.ensures.represents)) in
    subst (λ (y : Option DecodeFault). Says (fault_of (length b) e) y) (sym c.err.ensures.value)
    (says_fed x.kinds k.place l (c.one_outcome.ensures x.kinds) b e none o p answer c.finish.result end)

pub returns-in-Err : goal.returns-in-Err
returns-in-Err c = λ e none o.
    let x = c.args.schema.now in
    let k = c.args.kind in
    let l = c.args.limits in
    let b : List ℕ = c.args.input.now in
    let d = c.start-decoder.result in
    failed x.kinds k.place l (c.one_outcome.ensures x.kinds) b e none o c.in-Err.fault
    (started d x k l (λ (ks : List KindView) (t : ℕ) (m : Bounds). Fails ks t m c.in-Err.fault b)
    c.start-decoder.ensures.settings (c.in-Err.ensures.outcome [] c.start-decoder.ensures.represents))
