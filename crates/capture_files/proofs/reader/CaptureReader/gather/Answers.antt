use Rattle.std.proofs.Common.{◌≡◌, ◌++◌, ℕ, List, take, subst, arith, rules}
use Rattle.std.proofs.lemmas.Grind.{common_steps}
use Rattle.capture_files.specs.Private.Moves.{Looks}
use Rattle.capture_files.proofs.Represented.{out_of_memory}
use Rattle.capture_files.proofs.Taking.{looked}
use Rattle.capture_files.proofs.reader.CaptureReader.gather.Goals as goal

pub returns-in-Ok-clause-takes : goal.returns-in-Ok-clause-takes
returns-in-Ok-clause-takes c =
    let self = c.args.self.now in
    let taken = take c.min-count.result c.args.rest.now in
    let all : c.extend_from_slice.new.self.items ≡ self.unit.items ++ taken =
    first_of (search rules, grind (arith, common_steps)) in
    looked self c.look.new.self taken c.requires.open
    (subst (λ (x : List ℕ). Looks self c.look.new.self x) all c.look.ensures.looks)

pub returns-in-Err-clause-takes : goal.returns-in-Err-clause-takes
returns-in-Err-clause-takes c = λ bytes ps h.
    out_of_memory c.refuse.new.self (bytes ++ take c.min-count.result c.args.rest.now) ps c.args.self.now.at
    (record {
      fault = c.refuse.result;
      broken = c.refuse.ensures.broken;
      reason_is = c.refuse.ensures.reason;
      at_is = c.refuse.ensures.at;
    })
