use Rattle.std.proofs.Common.{◌≡◌, ◌+◌, ℕ, length, take, refl, arith}
use Rattle.std.proofs.lemmas.List.{take_all}
use Rattle.std.proofs.lemmas.Result.{err_from_is_err_and}
use Rattle.capture_streams.specs.Taking.{taken_of}
use Rattle.capture_streams.proofs.Delivering.{steps_fill, steps_pops}
use Rattle.capture_streams.proofs.Wanting.{refused_ahead}
use Rattle.capture_streams.proofs.direction.Direction.take_ahead.Goals as goal

pub invariant_of-self-clause-behind : goal.invariant_of-self-clause-behind
invariant_of-self-clause-behind c = c.fill.ensures.from c.args.self.now.due (omega arith) c.args.self.now.behind

pub returns-in_err-fill-clause-steps : goal.returns-in_err-fill-clause-steps
returns-in_err-fill-clause-steps c =
    let p = err_from_is_err_and c.from_residual.result c.from_residual.ensures.1 in
    let d = c.args.self.now in
    rw (p.1, p.2, ← c.from.ensures) (steps_fill d _ (d.due + c.from.result)
    (take (taken_of c.in_err-fill.field-0.0) c.args.bytes.now) c.args.out.now.items refl
    c.in_err-fill.ensures.refused.fills)

pub returns-in_err-fill-clause-refused : goal.returns-in_err-fill-clause-refused
returns-in_err-fill-clause-refused c =
    let p = err_from_is_err_and c.from_residual.result c.from_residual.ensures.1 in
    let d = c.args.self.now in
    let refused = c.in_err-fill.ensures.refused in
    rw (p.1, p.2, ← c.from.ensures) (refused_ahead c.fill.new.self (d.due + c.from.result) c.args.bytes.now
    c.in_err-fill.field-0.0 refused.few refused.wanted)

pub returns-in-Ok-clause-steps : goal.returns-in-Ok-clause-steps
returns-in-Ok-clause-steps c =
    let d = c.args.self.now in
    let at : ℕ = d.due + c.from.result in
    let bytes = c.args.bytes.now in
    let out = c.args.out.now.items in
    rw (← c.from.ensures) (steps_pops d _ c.pop_all.new.self at bytes out out c.pop_all.new.out.items
    (steps_fill d _ at bytes out refl c.in_ok-fill.ensures.ok) c.pop_all.ensures.pops)

pub returns-in-Err-clause-steps : goal.returns-in-Err-clause-steps
returns-in-Err-clause-steps c =
    let d = c.args.self.now in
    let at : ℕ = d.due + c.from.result in
    let bytes = c.args.bytes.now in
    let out = c.args.out.now.items in
    let all : take (length bytes) bytes ≡ bytes = take_all (length bytes) bytes (omega arith) in
    rw (← c.from.ensures, all) (steps_pops d _ c.pop_all.new.self at bytes out out c.pop_all.new.out.items
    (steps_fill d _ at bytes out refl c.in_ok-fill.ensures.ok) c.pop_all.ensures.pops)

pub returns-in-Err-clause-refused : goal.returns-in-Err-clause-refused
returns-in-Err-clause-refused c = (omega arith, λ more. absurd (omega arith))
