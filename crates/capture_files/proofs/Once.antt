-- A file has one list of packets: its units are one after another, and where bytes are passed over it does not matter
-- how they are cut.
use Rattle.std.proofs.Common.{◌≡◌, ℕ, zero, suc, ◌+◌, ◌-◌, ◌<◌, ◌≤◌, List, [], ◌∷◌, ◌++◌, length, take, drop}
use Rattle.std.proofs.Common.{inl, inr, refl, sym, ap, subst, ◌∙◌, append_assoc, arith, Option}
use Rattle.std.proofs.lemmas.Bool.{cases_lt}
use Rattle.std.proofs.lemmas.List.{append_cancel_left, length-append, length-drop, take-append-le, take-append-drop}
use Rattle.std.proofs.lemmas.List.{take_all}
use Rattle.std.specs.List.{concat}
use Rattle.capture_files.specs.declared.captured.Interface.{Interface}
use Rattle.capture_files.specs.declared.numbers.Order.{Order}
use Rattle.capture_files.specs.declared.place.Place.{Place}
use Rattle.capture_files.specs.declared.place.Place.TheVariants as place
use Rattle.capture_files.specs.declared.place.Place.TheVariants.{Passing}
use Rattle.capture_files.specs.declared.place.Step.{Step}
use Rattle.capture_files.specs.declared.place.Step.TheVariants.{Need, Moved, Section, Described, Packet, Refused}
use Rattle.capture_files.specs.Runs.{PacketView, StateView, beginning, step_at, IsWhole, least_unit, Asks, IsGathered}
use Rattle.capture_files.specs.Runs.{left_of, IsUnitOf, behind, packets_in, Leads, MayEnd, IsCapture}
use Rattle.capture_files.specs.Steps.{step_of}
use Rattle.capture_files.proofs.Passed.{passes, nothing_passes}
use Rattle.capture_files.proofs.Represented.{made}

-- ---- units that are gathered

pub least_is : (s : StateView) (asked : List ℕ) (u : List ℕ) → Asks s least_unit asked (length u) u → 4 ≤ length u
least_is s [] u h = omega (arith, h)
least_is s (m ∷ asked) u h = h.0

pub fronts_same : (n : ℕ) (u v a b : List ℕ) → n ≤ length u → n ≤ length v → u ++ a ≡ v ++ b → take n u ≡ take n v
fronts_same n u v a b hu hv e =
    sym (take-append-le n u a hu) ∙ ap (λ (x : List ℕ). take n x) e ∙ take-append-le n v b hv

pub need_is : (m k : ℕ) → Need m ≡ Need k → m ≡ k
need_is m k e = cc

-- the step asks for no more
abbrev pub IsDone : Step → Type 0
IsDone (Need n) = ⊥
IsDone _ = Unit {0}

pub whole_done : (x : Step) → IsWhole x → IsDone x
whole_done (Need n) h = h
whole_done (Moved place) h = tt
whole_done (Section place) h = tt
whole_done (Described place interface) h = tt
whole_done (Packet place found) h = tt
whole_done (Refused reason) h = tt

-- bytes that ask for more are none that ask for no more
pub asks_no_unit : (s : StateView) (n m : ℕ) (u v a b : List ℕ) → n ≡ length u → n ≤ length v → u ++ a ≡ v ++ b
    → step_at s (take n v) ≡ Need m → IsDone (step_at s u) → ⊥
asks_no_unit s n m u v a b len there e asks whole =
    let within : n ≤ length u = omega (arith, len) in
    let all : take n u ≡ u = take_all n u (omega (arith, len)) in
    let same : take n v ≡ u = sym (fronts_same n u v a b within there e) ∙ all in
    subst IsDone (sym (ap (λ (x : List ℕ). step_at s x) same) ∙ asks) whole

pub same_length : (s : StateView) (n : ℕ) (xs ys u v a b : List ℕ) → Asks s n xs (length u) u → Asks s n ys (length v) v
    → IsDone (step_at s u) → IsDone (step_at s v) → u ++ a ≡ v ++ b → length u ≡ length v
same_length s n [] [] u v a b h k whole other e = sym h ∙ k
same_length s n [] (m ∷ ys) u v a b h k whole other e =
    absurd (asks_no_unit s n m u v a b h k.0 e k.1.0 whole)
same_length s n (m ∷ xs) [] u v a b h k whole other e =
    absurd (asks_no_unit s n m v u b a k h.0 (sym e) h.1.0 other)
same_length s n (m ∷ xs) (k' ∷ ys) u v a b h k whole other e =
    let fronts = fronts_same n u v a b h.0 k.0 e in
    let same : m ≡ k' =
    need_is m k' (sym h.1.0 ∙ ap (λ (x : List ℕ). step_at s x) fronts ∙ k.1.0) in
    same_length s k' xs ys u v a b (subst (λ (x : ℕ). Asks s x xs (length u) u) same h.1.1) k.1.1 whole other e

pub same_unit : (s : StateView) (u v a b : List ℕ) → IsGathered s u → IsGathered s v → u ++ a ≡ v ++ b → u ≡ v
same_unit s u v a b g h e =
    let len : length u ≡ length v =
    same_length s least_unit g.asked h.asked u v a b g.asks h.asks (whole_done (step_at s u) g.whole)
    (whole_done (step_at s v) h.whole) e in
    sym (take_all (length u) u (omega arith)) ∙ fronts_same (length u) u v a b (omega arith) (omega (arith, len)) e
    ∙ take_all (length u) v (omega (arith, len))

-- ---- bytes that are passed over

-- one unit of them, and what follows
pub record Passes (order : Order) (interface : Option Interface) (left total : ℕ) (interfaces : List Interface)
    (u : List ℕ) (us : List (List ℕ)) (ps : List PacketView) (t : StateView) : Type 0 where
  pub some : 0 < length u
  pub few : length u ≤ left
  pub later : Leads (made (Passing order interface (left - length u) total) interfaces) us ps t

some_passed : (order : Order) (interface : Option Interface) (left total : ℕ) (interfaces : List Interface)
    (u : List ℕ) → 0 < left → IsWhole (step_of (Passing order interface left total) interfaces u) → 0 < length u
some_passed order interface left total interfaces [] there whole =
    absurd (subst IsWhole (nothing_passes order interface left total interfaces there) whole)
some_passed order interface left total interfaces (x ∷ u) there whole = omega (arith, there)

unit_passed : (left : ℕ) (s : StateView) (u : List ℕ) → 0 < left → IsUnitOf left s u
    → IsWhole (step_at s u) × (length u ≤ left)
unit_passed zero s u there h = absurd (omega (arith, there))
unit_passed (suc left) s u there h = h

passed_unit : (left : ℕ) (s : StateView) (u : List ℕ) → 0 < left → IsWhole (step_at s u) → length u ≤ left
    → IsUnitOf left s u
passed_unit zero s u there whole few = absurd (omega (arith, there))
passed_unit (suc left) s u there whole few = (whole, few)

-- what follows a unit, for each step
abbrev Follows : StateView → List ℕ → List (List ℕ) → List PacketView → StateView → Step → Type 0
Follows s u us ps t x = (later : List PacketView) × (Leads (behind s x) us later t × (ps ≡ packets_in x u ++ later))

pub unfold_pass : (order : Order) (interface : Option Interface) (left total : ℕ) (interfaces : List Interface)
    (u : List ℕ) (us : List (List ℕ)) (ps : List PacketView) (t : StateView) → 0 < left
    → Leads (made (Passing order interface left total) interfaces) (u ∷ us) ps t
    → Passes order interface left total interfaces u us ps t
unfold_pass order interface left total interfaces u us ps t there h =
    let s = made (Passing order interface left total) interfaces in
    let next = made (Passing order interface (left - length u) total) interfaces in
    let unit = unit_passed left s u there h.0 in
    let some = some_passed order interface left total interfaces u there unit.0 in
    let step = passes order interface left total (length u) interfaces u refl some unit.1 in
    let follows : Follows s u us ps t (Moved (Passing order interface (left - length u) total)) =
    subst (Follows s u us ps t) (sym step) h.1 in
    record {
      some = some;
      few = unit.1;
      later = subst (λ (qs : List PacketView). Leads next us qs t) (sym follows.1.1) follows.1.0;
    }

fold_pass : (order : Order) (interface : Option Interface) (left total : ℕ) (interfaces : List Interface)
    (u : List ℕ) (us : List (List ℕ)) (ps : List PacketView) (t : StateView)
    → Passes order interface left total interfaces u us ps t
    → Leads (made (Passing order interface left total) interfaces) (u ∷ us) ps t
fold_pass order interface left total interfaces u us ps t h =
    let s = made (Passing order interface left total) interfaces in
    let step = passes order interface left total (length u) interfaces u refl h.some h.few in
    let there : 0 < left = omega (arith, h.some, h.few) in
    let follows : Follows s u us ps t (Moved (Passing order interface (left - length u) total)) =
    (ps, (h.later, refl)) in
    (passed_unit left s u there (subst IsWhole step tt) h.few, subst (Follows s u us ps t) step follows)

-- ---- two readings

-- two runs of units over the same bytes, of so few units
abbrev Agree : ℕ → Type 0
Agree fuel = (us vs : List (List ℕ)) (s : StateView) (ps qs : List PacketView) (t r : StateView)
    → length us + length vs ≤ fuel → Leads s us ps t → Leads s vs qs r → concat us ≡ concat vs → MayEnd t.place
    → MayEnd r.place → ps ≡ qs

empty_is : (u a b : List ℕ) → 4 ≤ length u → [] ≡ u ++ a → ⊥
empty_is u a b long e = omega (arith, long, ap length e, length-append u a)

at_gathered : (fuel : ℕ) → Agree fuel → (us vs : List (List ℕ)) (s : StateView) (ps qs : List PacketView)
    (t r : StateView) → left_of s.place ≡ 0 → length us + length vs ≤ suc fuel → Leads s us ps t → Leads s vs qs r
    → concat us ≡ concat vs → MayEnd t.place → MayEnd r.place → ps ≡ qs
at_gathered fuel agree [] [] s ps qs t r here few h k e ends other = h.0 ∙ sym k.0
at_gathered fuel agree [] (v ∷ vs) s ps qs t r here few h k e ends other =
    let g : IsGathered s v = subst (λ (x : ℕ). IsUnitOf x s v) here k.0 in
    absurd (empty_is v (concat vs) [] (least_is s g.asked v g.asks) e)
at_gathered fuel agree (u ∷ us) [] s ps qs t r here few h k e ends other =
    let g : IsGathered s u = subst (λ (x : ℕ). IsUnitOf x s u) here h.0 in
    absurd (empty_is u (concat us) [] (least_is s g.asked u g.asks) (sym e))
at_gathered fuel agree (u ∷ us) (v ∷ vs) s ps qs t r here few h k e ends other =
    let g : IsGathered s u = subst (λ (x : ℕ). IsUnitOf x s u) here h.0 in
    let f : IsGathered s v = subst (λ (x : ℕ). IsUnitOf x s v) here k.0 in
    let same : u ≡ v = same_unit s u v (concat us) (concat vs) g f e in
    let follows : Follows s u vs qs r (step_at s u) =
    subst (λ (x : List ℕ). Follows s x vs qs r (step_at s x)) (sym same) k.1 in
    let rest : concat us ≡ concat vs =
    append_cancel_left u (concat us) (concat vs) (e ∙ ap (λ (x : List ℕ). x ++ concat vs) (sym same)) in
    let later = agree us vs (behind s (step_at s u)) h.1.0 follows.0 t r (omega (arith, few)) h.1.1.0 follows.1.0 rest
    ends other in
    h.1.1.1 ∙ ap (λ (x : List PacketView). packets_in (step_at s u) u ++ x) later ∙ sym follows.1.1

-- the longer of two units is the shorter one and some more bytes
longer_is : (u v a b : List ℕ) → length u ≤ length v → u ++ a ≡ v ++ b → u ++ drop (length u) v ≡ v
longer_is u v a b le e =
    let front : take (length u) v ≡ u =
    sym (fronts_same (length u) u v a b (omega arith) le e) ∙ take_all (length u) u (omega arith) in
    ap (λ (x : List ℕ). x ++ drop (length u) v) (sym front) ∙ take-append-drop (length u) v

-- the rest of the longer unit is a unit behind the shorter
pub rest_passes : (order : Order) (interface : Option Interface) (left total : ℕ) (interfaces : List Interface)
    (n : ℕ) (v : List ℕ) (vs : List (List ℕ)) (qs : List PacketView) (r : StateView) → n < length v
    → Passes order interface left total interfaces v vs qs r
    → Leads (made (Passing order interface (left - n) total) interfaces) (drop n v ∷ vs) qs r
rest_passes order interface left total interfaces n v vs qs r lt h =
    let len : length (drop n v) ≡ length v - n = length-drop n v in
    let left_is : left - length v ≡ left - n - length (drop n v) = omega (arith, len, lt, h.few) in
    fold_pass order interface (left - n) total interfaces (drop n v) vs qs r (record {
      some = omega (arith, len, lt);
      few = omega (arith, len, lt, h.few);
      later = subst (λ (x : ℕ). Leads (made (Passing order interface x total) interfaces) vs qs r) left_is h.later;
    })

pub rest_same : (u v a b : List ℕ) → length u ≤ length v → u ++ a ≡ v ++ b → a ≡ drop (length u) v ++ b
rest_same u v a b le e =
    append_cancel_left u a (drop (length u) v ++ b)
    (e ∙ ap (λ (x : List ℕ). x ++ b) (sym (longer_is u v a b le e)) ∙ append_assoc u (drop (length u) v) b)

pass_both : (fuel : ℕ) → Agree fuel → (order : Order) (interface : Option Interface) (left total : ℕ)
    (interfaces : List Interface) (u v : List ℕ) (us vs : List (List ℕ)) (ps qs : List PacketView) (t r : StateView)
    → length us + suc (length vs) ≤ fuel → Passes order interface left total interfaces u us ps t
    → Passes order interface left total interfaces v vs qs r → u ++ concat us ≡ v ++ concat vs → length u < length v
    → MayEnd t.place → MayEnd r.place → ps ≡ qs
pass_both fuel agree order interface left total interfaces u v us vs ps qs t r few h k e lt ends other =
    let s = made (Passing order interface (left - length u) total) interfaces in
    agree us (drop (length u) v ∷ vs) s ps qs t r few h.later
    (rest_passes order interface left total interfaces (length u) v vs qs r lt k)
    (rest_same u v (concat us) (concat vs) (omega (arith, lt)) e) ends other

pass_same : (fuel : ℕ) → Agree fuel → (order : Order) (interface : Option Interface) (left total : ℕ)
    (interfaces : List Interface) (u v : List ℕ) (us vs : List (List ℕ)) (ps qs : List PacketView) (t r : StateView)
    → length us + length vs ≤ fuel → Passes order interface left total interfaces u us ps t
    → Passes order interface left total interfaces v vs qs r → u ++ concat us ≡ v ++ concat vs → length u ≡ length v
    → MayEnd t.place → MayEnd r.place → ps ≡ qs
pass_same fuel agree order interface left total interfaces u v us vs ps qs t r few h k e len ends other =
    let all : take (length u) v ≡ v = take_all (length u) v (omega (arith, len)) in
    let same : u ≡ v =
    sym (take_all (length u) u (omega arith))
    ∙ fronts_same (length u) u v (concat us) (concat vs) (omega arith) (omega (arith, len)) e ∙ all in
    let rest : concat us ≡ concat vs =
    append_cancel_left u (concat us) (concat vs) (e ∙ ap (λ (x : List ℕ). x ++ concat vs) (sym same)) in
    let later = subst (λ (x : ℕ). Leads (made (Passing order interface (left - x) total) interfaces) vs qs r) (sym len)
    k.later in
    let s = made (Passing order interface (left - length u) total) interfaces in
    agree us vs s ps qs t r few h.later later rest ends other

at_passing : (fuel : ℕ) → Agree fuel → (order : Order) (interface : Option Interface) (left total : ℕ)
    (interfaces : List Interface) (us vs : List (List ℕ)) (ps qs : List PacketView) (t r : StateView) → 0 < left
    → length us + length vs ≤ suc fuel → Leads (made (Passing order interface left total) interfaces) us ps t
    → Leads (made (Passing order interface left total) interfaces) vs qs r → concat us ≡ concat vs → MayEnd t.place
    → MayEnd r.place → ps ≡ qs
at_passing fuel agree order interface left total interfaces [] vs ps qs t r there few h k e ends other =
    absurd (subst (λ (x : StateView). MayEnd x.place) h.1 ends)
at_passing fuel agree order interface left total interfaces (u ∷ us) [] ps qs t r there few h k e ends other =
    absurd (subst (λ (x : StateView). MayEnd x.place) k.1 other)
at_passing fuel agree order interface left total interfaces (u ∷ us) (v ∷ vs) ps qs t r there few h k e ends other =
    let f = unfold_pass order interface left total interfaces u us ps t there h in
    let g = unfold_pass order interface left total interfaces v vs qs r there k in
    elim (cases_lt (length u) (length v)) [
      | inl lt ↦ pass_both fuel agree order interface left total interfaces u v us vs ps qs t r (omega (arith, few)) f g
          e lt ends other
      | inr le ↦ elim (cases_lt (length v) (length u)) [
        | inl lt ↦ sym (pass_both fuel agree order interface left total interfaces v u vs us qs ps r t
            (omega (arith, few)) g f (sym e) lt other ends)
        | inr ge ↦ pass_same fuel agree order interface left total interfaces u v us vs ps qs t r (omega (arith, few)) f
            g e (omega (arith, le, ge)) ends other
      ]
    ]

at_place : (fuel : ℕ) → Agree fuel → (p : Place) (interfaces : List Interface) (us vs : List (List ℕ))
    (ps qs : List PacketView) (t r : StateView) → length us + length vs ≤ suc fuel → Leads (made p interfaces) us ps t
    → Leads (made p interfaces) vs qs r → concat us ≡ concat vs → MayEnd t.place → MayEnd r.place → ps ≡ qs
at_place fuel agree place.Start interfaces us vs ps qs t r few h k e ends other =
    at_gathered fuel agree us vs (made place.Start interfaces) ps qs t r refl few h k e ends other
at_place fuel agree (place.Record file) interfaces us vs ps qs t r few h k e ends other =
    at_gathered fuel agree us vs (made (place.Record file) interfaces) ps qs t r refl few h k e ends other
at_place fuel agree (place.Block order) interfaces us vs ps qs t r few h k e ends other =
    at_gathered fuel agree us vs (made (place.Block order) interfaces) ps qs t r refl few h k e ends other
at_place fuel agree (place.Options order interface left total) interfaces us vs ps qs t r few h k e ends other =
    at_gathered fuel agree us vs (made (place.Options order interface left total) interfaces) ps qs t r refl few h k e
    ends other
at_place fuel agree (place.Passing order interface zero total) interfaces us vs ps qs t r few h k e ends other =
    at_gathered fuel agree us vs (made (place.Passing order interface zero total) interfaces) ps qs t r refl few h k e
    ends other
at_place fuel agree (place.Passing order interface (suc left) total) interfaces us vs ps qs t r few h k e ends other =
    at_passing fuel agree order interface (suc left) total interfaces us vs ps qs t r (omega arith) few h k e ends other

agrees : (fuel : ℕ) → Agree fuel
agrees zero [] [] s ps qs t r few h k e ends other = h.0 ∙ sym k.0
agrees zero [] (v ∷ vs) s ps qs t r few h k e ends other = absurd (omega (arith, few))
agrees zero (u ∷ us) vs s ps qs t r few h k e ends other = absurd (omega (arith, few))
agrees (suc fuel) us vs s ps qs t r few h k e ends other =
    at_place fuel (agrees fuel) s.place s.interfaces us vs ps qs t r few h k e ends other

pub one_reading : (bytes : List ℕ) (ps qs : List PacketView) → IsCapture bytes ps → IsCapture bytes qs → ps ≡ qs
one_reading bytes ps qs f g =
    agrees (length f.front.units + length g.front.units) f.front.units g.front.units beginning ps qs f.state g.state
    (omega arith) f.front.leads g.front.leads (sym f.front.joined ∙ g.front.joined) f.ends g.ends
