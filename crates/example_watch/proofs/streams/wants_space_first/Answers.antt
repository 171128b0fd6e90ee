use Rattle.std.proofs.Common.{◌∙◌, codes, inl, inr, refl, arith}
use Rattle.std.proofs.lemmas.Bool.{cases_eq, ne_eqb}
use Rattle.example_watch.proofs.Ahead.{no_space}
use Rattle.example_watch.proofs.streams.wants_space_first.Goals as goal

pub returns-in-Err-NoMemory : goal.returns-in-Err-NoMemory
returns-in-Err-NoMemory c =
    let d = c.start-direction in
    let arm = c.in-Err-NoMemory in
    let refused = rw arm.field-0-is at arm.ensures.refused in
    elim (cases_eq arm.taken 0) [
      | inl none ↦ absurd (no_space d.result c.take.new.self (codes "ef") arm.taken d.ensures.first d.ensures.stands.due
          (arm.ensures.same.limit ∙ d.ensures.limit) refused (omega (arith, none)))
      | inr apart ↦ rw (ne_eqb arm.taken 0 apart) refl
    ]
