use Rattle.std.proofs.Common.{◌≡◌, ◌+◌, ℕ, List, length, subst, arith, rules}
use Rattle.std.proofs.lemmas.Grind.{common_steps}
use Rattle.capture_files.specs.Private.Moves.{Enters}
use Rattle.capture_files.specs.Runs.{capped}
use Rattle.capture_files.proofs.Taking.{let_go_is}
use Rattle.capture_files.proofs.reader.CaptureReader.let_go.Goals as goal

pub returns-in-Waiting : goal.returns-in-Waiting
returns-in-Waiting c =
    let self = c.args.self.now in
    let same : c.replace-unit.result.items ≡ self.unit.items =
    first_of (search rules, first_of (grind (arith, common_steps), cc (c.replace-unit.ensures.value))) in
    let enters = subst (λ (x : List ℕ). Enters c.enter.new.self self.place self.interfaces.items
    (capped (self.at + length x))) same c.enter.ensures in
    let_go_is self c.enter.new.self _ c.in-Waiting.is enters
