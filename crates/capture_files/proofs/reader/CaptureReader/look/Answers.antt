use Rattle.std.proofs.Common.{◌≡◌, ◌++◌, ℕ, List, length, refl, ap, subst, ◌∙◌, arith}
use Rattle.capture_files.specs.declared.captured.Interface.{Interface}
use Rattle.capture_files.specs.Gathers.{Gathers}
use Rattle.capture_files.specs.Represents.{state_of}
use Rattle.capture_files.specs.Runs.{step_at, left_of}
use Rattle.capture_files.specs.Steps.{step_of}
use Rattle.capture_files.proofs.Faults.{went_uncut}
use Rattle.capture_files.proofs.Represented.{opens_at, idle_here, went}
use Rattle.capture_files.proofs.reader.CaptureReader.look.Goals as goal

pub returns-then-len-self-clause-looks : goal.returns-then-len-self-clause-looks
returns-then-len-self-clause-looks c = λ whole ps asked front asks at.
    let self = c.args.self.now in
    let unit = c.args.unit.items in
    opens_at self.progress self.need self.at unit (state_of self) (whole ++ unit) whole ps asked c.requires.open front
    refl asks (idle_here (left_of self.place) unit c.requires.here) at

pub returns-clause-looks : goal.returns-clause-looks
returns-clause-looks c = λ whole ps asked front asks at.
    let self = c.args.self.now in
    let unit = c.args.unit.items in
    let step : c.step-next.result ≡ step_at (state_of self) unit =
    c.step-next.ensures.step
    ∙ ap (λ (x : List Interface). step_of self.place x c.deref-2.result.now) c.deref.ensures.value
    ∙ ap (λ (x : List ℕ). step_of self.place self.interfaces.items x) c.deref-2.ensures.value in
    let len : length unit ≡ self.need = omega (arith, c.args.unit.ok.0) in
    went self c.go.new.self unit c.step-next.result whole ps asked c.requires.here len step c.go.ensures
    (subst (λ (x : List ℕ). Gathers x c.step-next.result) c.deref-2.ensures.value c.step-next.ensures.gathers) front
    asks at

pub returns-clause-uncut : goal.returns-clause-uncut
returns-clause-uncut c =
    went_uncut c.args.self.now c.go.new.self c.args.unit.items c.step-next.result c.go.ensures
    (subst (λ (x : List ℕ). Gathers x c.step-next.result) c.deref-2.ensures.value c.step-next.ensures.gathers)
