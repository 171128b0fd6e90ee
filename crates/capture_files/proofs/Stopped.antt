-- A file is not refused for what its bytes say, nor cut: where a unit comes next, none of its front is anything else.
use Rattle.std.proofs.Common.{◌≡◌, ℕ, zero, suc, ◌+◌, ◌-◌, ◌<◌, ◌≤◌, eqb, false, List, [], ◌∷◌, ◌++◌, length, take}
use Rattle.std.proofs.Common.{drop, inl, inr, refl, sym, ap, subst, ◌∙◌, append_assoc, arith, Option}
use Rattle.std.proofs.lemmas.Bool.{cases_lt, ne_eqb}
use Rattle.std.proofs.lemmas.List.{append_cancel_left, append-nil, length-append, length-take-le, take_all}
use Rattle.std.specs.List.{concat}
use Rattle.capture_files.specs.declared.captured.Interface.{Interface}
use Rattle.capture_files.specs.declared.numbers.Order.{Order}
use Rattle.capture_files.specs.declared.place.Place.{Place}
use Rattle.capture_files.specs.declared.place.Place.TheVariants as place
use Rattle.capture_files.specs.declared.place.Place.TheVariants.{Passing}
use Rattle.capture_files.specs.declared.place.Step.TheVariants.{Need, Refused}
use Rattle.capture_files.specs.declared.reason.CaptureReason.{CaptureReason}
use Rattle.capture_files.specs.Passing.{passing_step}
use Rattle.capture_files.specs.Runs.{PacketView, StateView, beginning, step_at, IsWhole, least_unit, Asks, IsGathered}
use Rattle.capture_files.specs.Runs.{left_of, IsUnit, IsUnitOf, behind, Leads, MayEnd}
use Rattle.capture_files.specs.Runs.{NothingIsRefused, NothingIsCut}
use Rattle.capture_files.specs.Steps.{step_of}
use Rattle.capture_files.proofs.Once.{IsDone, whole_done, asks_no_unit, need_is, same_length, least_is, fronts_same}
use Rattle.capture_files.proofs.Once.{same_unit, unfold_pass, rest_passes, rest_same}
use Rattle.capture_files.proofs.Passed.{nothing_passes}
use Rattle.capture_files.proofs.Represented.{made}
use Rattle.capture_files.proofs.Taking.{refused_more}

-- ---- what is refused is no unit

refused_gathered : (s : StateView) (u unit a more asked : List ℕ) (x : CaptureReason) → IsGathered s u
    → Asks s least_unit asked (length unit) unit → step_at s unit ≡ Refused x → u ++ a ≡ unit ++ more → ⊥
refused_gathered s u unit a more asked x g asks e same =
    let len : length u ≡ length unit =
    same_length s least_unit g.asked asked u unit a more g.asks asks (whole_done (step_at s u) g.whole)
    (subst IsDone (sym e) tt) same in
    let one : u ≡ unit =
    sym (take_all (length u) u (omega arith))
    ∙ fronts_same (length u) u unit a more (omega arith) (omega (arith, len)) same
    ∙ take_all (length u) unit (omega (arith, len)) in
    subst IsWhole (ap (λ (y : List ℕ). step_at s y) one ∙ e) g.whole

-- bytes that are passed over are not refused
passing_not_refused : (order : Order) (interface : Option Interface) (left total : ℕ) (interfaces : List Interface)
    (bytes : List ℕ) (x : CaptureReason) → 0 < left
    → step_of (Passing order interface left total) interfaces bytes ≡ Refused x → ⊥
unfolding step_of passing_step
passing_not_refused order interface left total interfaces [] x there e =
    let k = sym (nothing_passes order interface left total interfaces there) ∙ e in absurd cc
passing_not_refused order interface left total interfaces (y ∷ bytes) x there e =
    let some : eqb left 0 ≡ false = ne_eqb left 0 (λ z. omega (arith, z, there)) in
    let any : eqb (length (y ∷ bytes)) 0 ≡ false = ne_eqb (length (y ∷ bytes)) 0 (λ z. omega (arith, z)) in
    let k = rw (some, any) at e in
    absurd cc

refused_place : (p : Place) (interfaces : List Interface) (u unit a more asked : List ℕ) (x : CaptureReason)
    → IsUnit (made p interfaces) u → Asks (made p interfaces) least_unit asked (length unit) unit
    → step_at (made p interfaces) unit ≡ Refused x → u ++ a ≡ unit ++ more → ⊥
refused_place place.Start interfaces u unit a more asked x is asks e same =
    refused_gathered (made place.Start interfaces) u unit a more asked x is asks e same
refused_place (place.Record file) interfaces u unit a more asked x is asks e same =
    refused_gathered (made (place.Record file) interfaces) u unit a more asked x is asks e same
refused_place (place.Block order) interfaces u unit a more asked x is asks e same =
    refused_gathered (made (place.Block order) interfaces) u unit a more asked x is asks e same
refused_place (place.Options order interface left total) interfaces u unit a more asked x is asks e same =
    refused_gathered (made (place.Options order interface left total) interfaces) u unit a more asked x is asks e same
refused_place (place.Passing order interface zero total) interfaces u unit a more asked x is asks e same =
    refused_gathered (made (place.Passing order interface zero total) interfaces) u unit a more asked x is asks e same
refused_place (place.Passing order interface (suc left) total) interfaces u unit a more asked x is asks e same =
    passing_not_refused order interface (suc left) total interfaces unit x (omega arith) e

-- ---- two runs

-- no units are these bytes and lead to the end of a file
abbrev Stuck : StateView → (tail : List ℕ) → Type 0
Stuck s tail = (us : List (List ℕ)) (ps : List PacketView) (t : StateView) → Leads s us ps t → concat us ≡ tail
    → MayEnd t.place → ⊥

-- units that lead to the end of a file, and fewer that lead to where none comes next
abbrev Never : ℕ → Type 0
Never fuel = (us vs : List (List ℕ)) (s : StateView) (ps qs : List PacketView) (t r : StateView) (tail : List ℕ)
    → length us + length vs ≤ fuel → Leads s us ps t → Leads s vs qs r → concat us ≡ concat vs ++ tail
    → MayEnd t.place → Stuck r tail → ⊥

at_end : (us : List (List ℕ)) (s : StateView) (ps : List PacketView) (t r : StateView) (tail : List ℕ)
    → Leads s us ps t → r ≡ s → concat us ≡ tail → MayEnd t.place → Stuck r tail → ⊥
at_end us s ps t r tail h same e ends stuck = subst (λ (y : StateView). Stuck y tail) same stuck us ps t h e ends

empty_not : (v b tail : List ℕ) → 4 ≤ length v → [] ≡ (v ++ b) ++ tail → ⊥
empty_not v b tail long e = omega (arith, long, ap length e, length-append (v ++ b) tail, length-append v b)

at_gathered : (fuel : ℕ) → Never fuel → (us : List (List ℕ)) (v : List ℕ) (vs : List (List ℕ)) (s : StateView)
    (ps qs : List PacketView) (t r : StateView) (tail : List ℕ) → left_of s.place ≡ 0
    → length us + suc (length vs) ≤ suc fuel → Leads s us ps t → Leads s (v ∷ vs) qs r
    → concat us ≡ (v ++ concat vs) ++ tail → MayEnd t.place → Stuck r tail → ⊥
at_gathered fuel never [] v vs s ps qs t r tail here few h k e ends stuck =
    let f : IsGathered s v = subst (λ (x : ℕ). IsUnitOf x s v) here k.0 in
    empty_not v (concat vs) tail (least_is s f.asked v f.asks) e
at_gathered fuel never (u ∷ us) v vs s ps qs t r tail here few h k e ends stuck =
    let g : IsGathered s u = subst (λ (x : ℕ). IsUnitOf x s u) here h.0 in
    let f : IsGathered s v = subst (λ (x : ℕ). IsUnitOf x s v) here k.0 in
    let joined : u ++ concat us ≡ v ++ (concat vs ++ tail) = e ∙ append_assoc v (concat vs) tail in
    let same : u ≡ v = same_unit s u v (concat us) (concat vs ++ tail) g f joined in
    let rest : concat us ≡ concat vs ++ tail =
    append_cancel_left u (concat us) (concat vs ++ tail)
    (joined ∙ ap (λ (x : List ℕ). x ++ (concat vs ++ tail)) (sym same)) in
    let later : Leads (behind s (step_at s u)) vs k.1.0 r =
    subst (λ (x : List ℕ). Leads (behind s (step_at s x)) vs k.1.0 r) (sym same) k.1.1.0 in
    never us vs (behind s (step_at s u)) h.1.0 k.1.0 t r tail (omega (arith, few)) h.1.1.0 later rest ends stuck

module _ (fuel : ℕ) (never : Never fuel) (order : Order) (interface : Option Interface) (total : ℕ)
    (interfaces : List Interface) (t r : StateView) (tail : List ℕ) (ends : MayEnd t.place) (stuck : Stuck r tail) where
  at_passing : (left : ℕ) (us : List (List ℕ)) (v : List ℕ) (vs : List (List ℕ)) (ps qs : List PacketView) → 0 < left
      → length us + suc (length vs) ≤ suc fuel → Leads (made (Passing order interface left total) interfaces) us ps t
      → Leads (made (Passing order interface left total) interfaces) (v ∷ vs) qs r
      → concat us ≡ (v ++ concat vs) ++ tail → ⊥
  at_passing left [] v vs ps qs there few h k e = subst (λ (x : StateView). MayEnd x.place) h.1 ends
  at_passing left (u ∷ us) v vs ps qs there few h k e =
      let f = unfold_pass order interface left total interfaces u us ps t there h in
      let g = unfold_pass order interface left total interfaces v vs qs r there k in
      let a = concat us in
      let b = concat vs in
      let joined : u ++ a ≡ v ++ (b ++ tail) = e ∙ append_assoc v b tail in
      elim (cases_lt (length u) (length v)) [
        | inl lt ↦
            let rest : a ≡ (drop (length u) v ++ b) ++ tail =
            rest_same u v a (b ++ tail) (omega (arith, lt)) joined ∙ sym (append_assoc (drop (length u) v) b tail) in
            never us (drop (length u) v ∷ vs) (made (Passing order interface (left - length u) total) interfaces) ps qs
            t r tail (omega (arith, few)) f.later
            (rest_passes order interface left total interfaces (length u) v vs qs r lt g) rest ends stuck
        | inr le ↦ elim (cases_lt (length v) (length u)) [
          | inl lt ↦ never (drop (length v) u ∷ us) vs
              (made (Passing order interface (left - length v) total) interfaces) ps qs t r tail (omega (arith, few))
              (rest_passes order interface left total interfaces (length v) u us ps t lt f) g.later
              (sym (rest_same v u (b ++ tail) a (omega (arith, lt)) (sym joined))) ends stuck
          | inr ge ↦
              let len : length u ≡ length v = omega (arith, le, ge) in
              let same : u ≡ v =
              sym (take_all (length u) u (omega arith))
              ∙ fronts_same (length u) u v a (b ++ tail) (omega arith) (omega (arith, len)) joined
              ∙ take_all (length u) v (omega (arith, len)) in
              let rest : a ≡ b ++ tail =
              append_cancel_left u a (b ++ tail) (joined ∙ ap (λ (x : List ℕ). x ++ (b ++ tail)) (sym same)) in
              let later = subst
              (λ (x : ℕ). Leads (made (Passing order interface (left - x) total) interfaces) vs qs r) (sym len)
              g.later in
              never us vs (made (Passing order interface (left - length u) total) interfaces) ps qs t r tail
              (omega (arith, few)) f.later later rest ends stuck
        ]
      ]

at_place : (fuel : ℕ) → Never fuel → (p : Place) (interfaces : List Interface) (us : List (List ℕ)) (v : List ℕ)
    (vs : List (List ℕ)) (ps qs : List PacketView) (t r : StateView) (tail : List ℕ)
    → length us + suc (length vs) ≤ suc fuel → Leads (made p interfaces) us ps t
    → Leads (made p interfaces) (v ∷ vs) qs r → concat us ≡ (v ++ concat vs) ++ tail → MayEnd t.place → Stuck r tail
    → ⊥
at_place fuel never place.Start interfaces us v vs ps qs t r tail few h k e ends stuck =
    at_gathered fuel never us v vs (made place.Start interfaces) ps qs t r tail refl few h k e ends stuck
at_place fuel never (place.Record file) interfaces us v vs ps qs t r tail few h k e ends stuck =
    at_gathered fuel never us v vs (made (place.Record file) interfaces) ps qs t r tail refl few h k e ends stuck
at_place fuel never (place.Block order) interfaces us v vs ps qs t r tail few h k e ends stuck =
    at_gathered fuel never us v vs (made (place.Block order) interfaces) ps qs t r tail refl few h k e ends stuck
at_place fuel never (place.Options order interface left total) interfaces us v vs ps qs t r tail few h k e ends stuck =
    at_gathered fuel never us v vs (made (place.Options order interface left total) interfaces) ps qs t r tail refl few
    h k e ends stuck
at_place fuel never (place.Passing order interface zero total) interfaces us v vs ps qs t r tail few h k e ends stuck =
    at_gathered fuel never us v vs (made (place.Passing order interface zero total) interfaces) ps qs t r tail refl few
    h k e ends stuck
at_place fuel never (place.Passing order interface (suc left) total) interfaces us v vs ps qs t r tail few h k e ends
    stuck =
    at_passing fuel never order interface total interfaces t r tail ends stuck (suc left) us v vs ps qs (omega arith)
    few h k e

nevers : (fuel : ℕ) → Never fuel
nevers fuel us [] s ps qs t r tail few h k e ends stuck = at_end us s ps t r tail h k.1 e ends stuck
nevers zero us (v ∷ vs) s ps qs t r tail few h k e ends stuck = absurd (omega (arith, few))
nevers (suc fuel) us (v ∷ vs) s ps qs t r tail few h k e ends stuck =
    at_place fuel (nevers fuel) s.place s.interfaces us v vs ps qs t r tail few h k e ends stuck

-- ---- what is refused

not_nothing : (s : StateView) (asked unit more : List ℕ) → Asks s least_unit asked (length unit) unit
    → unit ++ more ≡ [] → ⊥
not_nothing s asked unit more asks e =
    omega (arith, least_is s asked unit asks, ap length e, length-append unit more)

refused_stuck : (s : StateView) (unit more asked : List ℕ) (x : CaptureReason)
    → Asks s least_unit asked (length unit) unit → step_at s unit ≡ Refused x → Stuck s (unit ++ more)
refused_stuck s unit more asked x asks e [] ps t h same ends = not_nothing s asked unit more asks (sym same)
refused_stuck s unit more asked x asks e (u ∷ us) ps t h same ends =
    refused_place s.place s.interfaces u unit (concat us) more asked x h.0 asks e same

pub nothing_is_refused : NothingIsRefused
nothing_is_refused = λ at bytes later ps qs why f refused.
    let h = refused_more at bytes later qs why refused in
    let tail = h.unit ++ h.more in
    nevers (length f.front.units + length h.front.units) f.front.units h.front.units beginning ps qs f.state h.state
    tail (omega arith) f.front.leads h.front.leads
    (sym f.front.joined ∙ h.spelled ∙ ap (λ (x : List ℕ). x ++ tail) h.front.joined) f.ends
    (refused_stuck h.state h.unit h.more h.asked why h.asks h.refused)

-- ---- what is cut

-- a unit is not the front of bytes that are fewer than are asked for
cut_gathered : (s : StateView) (n : ℕ) (xs asked u unit a : List ℕ) (need : ℕ) → Asks s n xs (length u) u
    → Asks s n asked need unit → IsDone (step_at s u) → u ++ a ≡ unit → length unit < need → ⊥
cut_gathered s n [] [] u unit a need h k done e short =
    omega (arith, h, k, short, ap length e, length-append u a)
cut_gathered s n [] (m ∷ asked) u unit a need h k done e short =
    asks_no_unit s n m u unit a [] h k.0 (e ∙ sym (append-nil unit)) k.1.0 done
cut_gathered s n (m ∷ xs) [] u unit a need h k done e short =
    omega (arith, h.0, k, short, ap length e, length-append u a)
cut_gathered s n (m ∷ xs) (q ∷ asked) u unit a need h k done e short =
    let fronts = fronts_same n u unit a [] h.0 k.0 (e ∙ sym (append-nil unit)) in
    let same : m ≡ q = need_is m q (sym h.1.0 ∙ ap (λ (x : List ℕ). step_at s x) fronts ∙ k.1.0) in
    cut_gathered s q xs asked u unit a need (subst (λ (x : ℕ). Asks s x xs (length u) u) same h.1.1) k.1.1 done e short

cut_here : (s : StateView) (unit asked : List ℕ) (need : ℕ) → left_of s.place ≡ 0
    → Asks s least_unit asked need unit → length unit < need → (MayEnd s.place → 0 < length unit) → Stuck s unit
cut_here s unit asked need here asks short inside [] ps t h same ends =
    let some = inside (subst (λ (x : StateView). MayEnd x.place) h.1 ends) in
    omega (arith, some, ap length same)
cut_here s unit asked need here asks short inside (u ∷ us) ps t h same ends =
    let g : IsGathered s u = subst (λ (x : ℕ). IsUnitOf x s u) here h.0 in
    cut_gathered s least_unit g.asked asked u unit (concat us) need g.asks asks (whole_done (step_at s u) g.whole) same
    short

-- behind bytes that are passed over comes the end of their block
long_passed : (order : Order) (interface : Option Interface) (left total : ℕ) (interfaces : List Interface)
    (us : List (List ℕ)) (ps : List PacketView) (t : StateView)
    → Leads (made (Passing order interface left total) interfaces) us ps t → MayEnd t.place → 4 ≤ length (concat us)
long_passed order interface left total interfaces [] ps t h ends =
    absurd (subst (λ (x : StateView). MayEnd x.place) h.1 ends)
long_passed order interface zero total interfaces (u ∷ us) ps t h ends =
    let long = least_is (made (Passing order interface zero total) interfaces) h.0.asked u h.0.asks in
    omega (arith, long, length-append u (concat us))
long_passed order interface (suc left) total interfaces (u ∷ us) ps t h ends =
    let f = unfold_pass order interface (suc left) total interfaces u us ps t (omega arith) h in
    let long = long_passed order interface (suc left - length u) total interfaces us ps t f.later ends in
    omega (arith, long, length-append u (concat us))

-- some bytes that are passed over ask for no more
passing_done : (order : Order) (interface : Option Interface) (left total : ℕ) (interfaces : List Interface)
    (bytes : List ℕ) (m : ℕ) → 0 < left → 0 < length bytes
    → step_of (Passing order interface left total) interfaces bytes ≡ Need m → ⊥
unfolding step_of passing_step
passing_done order interface left total interfaces bytes m there more e =
    let some : eqb left 0 ≡ false = ne_eqb left 0 (λ z. omega (arith, z, there)) in
    let any : eqb (length bytes) 0 ≡ false = ne_eqb (length bytes) 0 (λ z. omega (arith, z, more)) in
    let k = rw (some, any) at e in
    absurd cc

cut_passing : (order : Order) (interface : Option Interface) (left total : ℕ) (interfaces : List Interface)
    (unit asked : List ℕ) (need : ℕ) → 0 < left
    → Asks (made (Passing order interface left total) interfaces) least_unit asked need unit → length unit < need
    → Stuck (made (Passing order interface left total) interfaces) unit
cut_passing order interface left total interfaces unit [] need there asks short us ps t h same ends =
    let long = long_passed order interface left total interfaces us ps t h ends in
    omega (arith, long, asks, short, ap length same)
cut_passing order interface left total interfaces unit (m ∷ asked) need there asks short us ps t h same ends =
    let some : 0 < length (take least_unit unit) = omega (arith, asks.0, length-take-le least_unit unit asks.0) in
    passing_done order interface left total interfaces (take least_unit unit) m there some asks.1.0

cut_place : (p : Place) (interfaces : List Interface) (unit asked : List ℕ) (need : ℕ)
    → Asks (made p interfaces) least_unit asked need unit → length unit < need → (MayEnd p → 0 < length unit)
    → Stuck (made p interfaces) unit
cut_place place.Start interfaces unit asked need asks short inside =
    cut_here (made place.Start interfaces) unit asked need refl asks short inside
cut_place (place.Record file) interfaces unit asked need asks short inside =
    cut_here (made (place.Record file) interfaces) unit asked need refl asks short inside
cut_place (place.Block order) interfaces unit asked need asks short inside =
    cut_here (made (place.Block order) interfaces) unit asked need refl asks short inside
cut_place (place.Options order interface left total) interfaces unit asked need asks short inside =
    cut_here (made (place.Options order interface left total) interfaces) unit asked need refl asks short inside
cut_place (place.Passing order interface zero total) interfaces unit asked need asks short inside =
    cut_here (made (place.Passing order interface zero total) interfaces) unit asked need refl asks short inside
cut_place (place.Passing order interface (suc left) total) interfaces unit asked need asks short inside =
    cut_passing order interface (suc left) total interfaces unit asked need (omega arith) asks short

pub nothing_is_cut : NothingIsCut
nothing_is_cut = λ at bytes ps qs cut none f.
    let tail : cut.unit ++ cut.more ≡ cut.unit =
    ap (λ (x : List ℕ). cut.unit ++ x) none ∙ append-nil cut.unit in
    let spelled : bytes ≡ cut.whole ++ cut.unit = cut.spelled ∙ ap (λ (x : List ℕ). cut.whole ++ x) tail in
    nevers (length f.front.units + length cut.front.units) f.front.units cut.front.units beginning ps qs f.state
    cut.state cut.unit (omega arith) f.front.leads cut.front.leads
    (sym f.front.joined ∙ spelled ∙ ap (λ (x : List ℕ). x ++ cut.unit) cut.front.joined) f.ends
    (cut_place cut.state.place cut.state.interfaces cut.unit cut.asked cut.need cut.asks cut.short cut.inside)
