use Rattle.std.proofs.Common.{◌≡◌, ◌-◌}
use Rattle.xdr_lang.specs.Views.{types_of}
use Rattle.xdr_lang.specs.LookUp.{named_place}
use Rattle.xdr_lang.proofs.places.named_within.Given as goal

abbrev pub invariant-loop-step : goal.invariant-loop-step
invariant-loop-step l = named_place (l.steps - l.step)
    (types_of l.types.list.items) l.name.text.now ≡ named_place l.steps (types_of l.types.list.items) l.first.text.now
