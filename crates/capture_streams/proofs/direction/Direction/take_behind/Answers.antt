use Rattle.std.proofs.Common.{◌≤◌, ℕ, List, length, take, sym, subst}
use Rattle.std.proofs.lemmas.List.{take_rest}
use Rattle.capture_streams.specs.Private.Steps.{Steps}
use Rattle.capture_streams.proofs.Delivering.{behind_part}
use Rattle.capture_streams.proofs.direction.Direction.take_behind.Goals as goal

pub returns-in-Err-clause-steps : goal.returns-in-Err-clause-steps
returns-in-Err-clause-steps c =
    let d = c.args.self.now in
    let bytes = c.args.bytes.now in
    let passed : ℕ = c.min-passed.result in
    let count : ℕ = c.in-Err.count in
    let cut = subst (λ (zs : List ℕ). (count ≤ length zs)
    × Steps d c.deliver.new.self d.due (take count zs) c.args.out.now.items c.deliver.new.out.items)
    (take_rest bytes passed) c.in-Err.ensures.cut in
    subst (λ (zs : List ℕ). Steps d c.deliver.new.self d.due zs c.args.out.now.items c.deliver.new.out.items)
    (sym (behind_part passed c.args.distance count bytes c.min-passed.ensures cut.0)) cut.1
