use Rattle.std.proofs.Common.{◌≡◌, ◌+◌, length, arith}
use Rattle.oncrpc_tasks.specs.Hexadecimal.{digits}
use Rattle.oncrpc_tasks.proofs.Hexed.{in_parts}
use Rattle.oncrpc_tasks.proofs.hexadecimal.count_of_digits.Goals as goal

pub loop-rest-preserved : goal.loop-rest-preserved
loop-rest-preserved c =
    let split = c.split_at.ensures in
    let parts : length (digits c.split_at.result.0.now) + length (digits c.split_at.result.1.now)
    ≡ length (digits c.loop-rest.rest.now) = rw (split.front, split.back) (in_parts 240 c.loop-rest.rest.now) in
    omega arith
