-- What is kept is a reader before the first byte.
use Rattle.std.proofs.Common.{refl, ap, ◌∙◌, Option, Some, None, option_map, arith}
use Rattle.c_records.specs.Held.{Held, held_of}
use Rattle.c_records.specs.declared.state.State.{State}
use Rattle.c_records.proofs.start.start_in.Goals as goal

pub returns-in-Ok : goal.returns-in-Ok
returns-in-Ok c =
    let s = c.start.ensures in
    let fresh : Held = record { reader = c.start.result; waits = None } in (
      refl,
      omega (arith, c.if-limit-gt-MOST_LIMIT.false),
      fresh,
      ap (λ (o : Option State). option_map held_of o) (c.keep.ensures ∙ ap (λ (t : State). Some t) c.in-Ok.ensures.ok),
      record { limit = s.limit; taking = (refl, s.taking); represents = s.represents },
    )
