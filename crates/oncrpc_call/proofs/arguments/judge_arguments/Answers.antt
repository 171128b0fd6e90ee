-- The arguments that are left are those of the bytes that are left.
use Rattle.std.proofs.Common.{rules, ◌≡◌, ◌≢◌, ℕ, ◌+◌, ◌-◌, ◌<◌, List, length, take, drop, subst, sym, arith}
use Rattle.std.proofs.lemmas.List.{length-map, take_rest}
use Rattle.xdr_types.specs.declared.kind.KindId.{KindId}
use Rattle.xdr_types.specs.View.{tree}
use Rattle.xdr_stream.specs.declared.fault.Reason.TheVariants as reason
use Rattle.xdr_lang.specs.Views.{places}
use Rattle.oncrpc_call.specs.Asking.{AreArguments}
use Rattle.oncrpc_call.proofs.Behind.{behind_first, leaves_more, none_first, one_left, place_at, place_is, reaches_at}
use Rattle.oncrpc_call.proofs.Behind.{with_first}
use Rattle.oncrpc_call.proofs.arguments.judge_arguments.Goals as goal

pub returns-in-Err-2-clause-refused : goal.returns-in-Err-2-clause-refused
returns-in-Err-2-clause-refused c =
    let K = c.args.schema.now.kinds in
    let ids = c.args.kinds.now in
    let at = c.arguments.at in
    let rest = c.arguments.rest.now in
    let known : c.in-Err-2.fault.why ≢ reason.NoMemory = search rules in
    let fault_known : c.in-Err.fault.why ≢ reason.NoMemory = search rules in (
      record {
        kind = place_at ids at;
        rest = rest;
        reached = reaches_at K ids at c.args.limits c.args.bytes.now rest c.arguments.invariant.begun
            c.arguments-test.true;
        is_kind = search rules;
        known = fault_known;
        ends = c.in-Err.ensures.fault;
        none = c.in-Err.ensures.refusal.refused;
        place = c.in-Err.ensures.refusal.place;
      },
      λ h. none_first K (place_at ids at) (places (drop (at + 1) ids)) c.args.limits rest c.in-Err-2.fault.why known
          c.in-Err-2.ensures.refusal.refused
          (subst (λ (xs : List ℕ). AreArguments K xs c.args.limits rest) (one_left ids at c.arguments-test.true)
          (c.arguments.invariant.back h)),
    )

pub arguments-preserved : goal.arguments-preserved
arguments-preserved c =
    let K = c.args.schema.now.kinds in
    let ids = c.args.kinds.now in
    let at = c.arguments.at in
    let limits = c.args.limits in
    let rest = c.arguments.rest.now in
    let used = c.in-Ok.used in
    let others = places (drop (at + 1) ids) in
    let inv = c.arguments.invariant in
    let is = c.in-Ok.ensures.value in
    let left = one_left ids at c.arguments-test.true in
    let tail : take (length rest - used) (drop used rest) ≡ drop used rest = take_rest rest used in
    let some = c.arguments-test.true in
    let inside : at < length (places ids) = omega (arith, some, length-map ids (λ (k : KindId). k.place)) in
    record {
      on = λ h. inv.on (subst (λ (xs : List ℕ). AreArguments K xs limits rest) (sym left)
          (with_first K (place_at ids at) others limits rest (tree c.in-Ok._value) used is.0 is.1 is.2
          c.in-Ok.ensures.only (subst (λ (b : List ℕ). AreArguments K others limits b) tail h)));
      back = λ h. subst (λ (b : List ℕ). AreArguments K others limits b) (sym tail)
          (behind_first K (place_at ids at) others limits rest (tree c.in-Ok._value) used is.0 is.1 is.2
          c.in-Ok.ensures.only (subst (λ (xs : List ℕ). AreArguments K xs limits rest) left (inv.back h)));
      begun = leaves_more K (places ids) at (place_at ids at) used limits c.args.bytes.now rest
          (take (length rest - used) (drop used rest)) (tree c.in-Ok._value) inv.begun inside
          (place_is ids at some) is.0 is.2 tail;
    }
