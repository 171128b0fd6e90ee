-- Bytes of a block that a reader passes over.
use Rattle.std.proofs.Common.{◌≡◌, ℕ, zero, suc, ◌+◌, ◌-◌, ◌<◌, ◌≤◌, eqb, min, List, [], ◌∷◌, ◌++◌, length, refl, sym}
use Rattle.std.proofs.Common.{ap, subst, ◌∙◌, arith, false, Option}
use Rattle.std.proofs.lemmas.Bool.{ne_eqb}
use Rattle.std.proofs.lemmas.List.{append-nil}
use Rattle.capture_files.specs.declared.captured.Interface.{Interface}
use Rattle.capture_files.specs.declared.numbers.Order.{Order}
use Rattle.capture_files.specs.declared.place.Place.TheVariants.{Passing}
use Rattle.capture_files.specs.declared.place.Step.{Step}
use Rattle.capture_files.specs.declared.place.Step.TheVariants.{Need, Moved}
use Rattle.capture_files.specs.declared.progress.Progress.{Progress}
use Rattle.capture_files.specs.declared.progress.Progress.TheVariants.{Gathering}
use Rattle.capture_files.specs.Passing.{passing_step}
use Rattle.capture_files.specs.Represents.{waits_at, IsIdle, Holds, RepresentsAt}
use Rattle.capture_files.specs.Runs.{PacketView, StateView, step_at, IsWhole, least_unit, Asks, IsUnitOf, capped}
use Rattle.capture_files.specs.Runs.{Front}
use Rattle.capture_files.specs.Steps.{step_of}
use Rattle.capture_files.proofs.Fronts.{front_next}
use Rattle.capture_files.proofs.Represented.{made, opens_at, idle_empty, further}

pub passes : (order : Order) (interface : Option Interface) (left total count : ℕ) (interfaces : List Interface)
    (taken : List ℕ) → length taken ≡ count → 0 < count → count ≤ left
    → Moved (Passing order interface (left - count) total)
    ≡ step_of (Passing order interface left total) interfaces taken
unfolding step_of passing_step
passes order interface left total count interfaces taken len some few =
    let there : eqb left 0 ≡ false = ne_eqb left 0 (λ e. omega (arith, e, some, few)) in
    let any : eqb (length taken) 0 ≡ false = ne_eqb (length taken) 0 (λ e. omega (arith, e, some, len)) in
    let least : min (length taken) left ≡ count = omega (arith, len, few) in
    rw (there, any, least) refl

pub nothing_passes : (order : Order) (interface : Option Interface) (left total : ℕ) (interfaces : List Interface)
    → 0 < left → step_of (Passing order interface left total) interfaces [] ≡ Need 1
unfolding step_of passing_step
nothing_passes order interface left total interfaces there =
    let here : eqb left 0 ≡ false = ne_eqb left 0 (λ e. omega (arith, e, there)) in
    rw here refl

idle_nil : (left : ℕ) (unit : List ℕ) → 0 < left → IsIdle left unit → unit ≡ []
idle_nil zero unit some h = absurd (omega (arith, some))
idle_nil (suc left) unit some h = h

-- bytes that are passed over are a unit
passing_unit : (left : ℕ) (s : StateView) (taken : List ℕ) (next : Step) → 0 < left → length taken ≤ left
    → next ≡ step_at s taken → IsWhole next → IsUnitOf left s taken
passing_unit zero s taken next some few e whole = absurd (omega (arith, some))
passing_unit (suc left) s taken next some few e whole = (subst IsWhole e whole, few)

-- nothing was asked for of no bytes
asks_empty : (s t : StateView) (asked : List ℕ) (need : ℕ) → Asks s least_unit asked need []
    → Asks t least_unit [] need []
asks_empty s t [] need h = h
asks_empty s t (m ∷ asked) need h = absurd (omega (arith, h.0))

asks_none : (s t : StateView) (asked : List ℕ) (need : ℕ) (unit : List ℕ) → unit ≡ []
    → Asks s least_unit asked need unit → Asks t least_unit [] need unit
asks_none s t asked need unit e h =
    subst (λ (x : List ℕ). Asks t least_unit [] need x) (sym e)
    (asks_empty s t asked need (subst (λ (x : List ℕ). Asks s least_unit asked need x) e h))

-- the bytes are taken, and as many fewer are left
pub passed : (p : Progress) (need at : ℕ) (unit : List ℕ) (order : Order) (interface : Option Interface)
    (left total count : ℕ) (interfaces : List Interface) (taken bytes : List ℕ) (ps : List PacketView)
    → p ≡ Gathering → length taken ≡ count → 0 < count → count ≤ left
    → RepresentsAt p need at unit (made (Passing order interface left total) interfaces) bytes ps
    → RepresentsAt p need (capped (at + count)) unit (made (Passing order interface (left - count) total) interfaces)
    (bytes ++ taken) (ps ++ waits_at p unit)
passed p need at unit order interface left total count interfaces taken bytes ps e len some few h =
    let s = made (Passing order interface left total) interfaces in
    let t = made (Passing order interface (left - count) total) interfaces in
    let held : Holds need at unit s bytes ps =
    subst (λ (q : Progress). RepresentsAt q need at unit s bytes ps) e h in
    let there : 0 < left = omega (arith, some, few) in
    let empty : unit ≡ [] = idle_nil left unit there held.idle in
    let next = Moved (Passing order interface (left - count) total) in
    let step : next ≡ step_at s taken = passes order interface left total count interfaces taken len some few in
    let front = front_next held.whole taken ps s next held.front step
    (passing_unit left s taken next there (omega (arith, len, few)) step tt) in
    let whole : bytes ≡ held.whole =
    held.spelled ∙ ap (λ (x : List ℕ). held.whole ++ x) empty ∙ append-nil held.whole in
    let spelled : bytes ++ taken ≡ (held.whole ++ taken) ++ unit =
    ap (λ (x : List ℕ). x ++ taken) whole ∙ sym (append-nil (held.whole ++ taken))
    ∙ ap (λ (x : List ℕ). (held.whole ++ taken) ++ x) (sym empty) in
    let place : capped (at + count) ≡ capped (length (held.whole ++ taken)) =
    ap (λ (n : ℕ). capped (at + n)) (sym len) ∙ further at held.whole taken held.place in
    opens_at p need (capped (at + count)) unit t (bytes ++ taken) (held.whole ++ taken) ps [] e
    (subst (λ (qs : List PacketView). Front (held.whole ++ taken) qs t) (append-nil ps) front) spelled
    (asks_none s t held.asked need unit empty held.asks) (idle_empty (left - count) unit empty) place
