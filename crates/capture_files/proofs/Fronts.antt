-- Units joined behind one another.
use Rattle.std.proofs.Common.{◌≡◌, ℕ, ◌≤◌, List, [], ◌∷◌, ◌++◌, length, take, refl, sym, ap, subst, ◌∙◌}
use Rattle.std.proofs.Common.{append_assoc, arith}
use Rattle.std.proofs.lemmas.List.{append-nil, take_all, take-append-le, length-append}
use Rattle.std.specs.List.{concat}
use Rattle.capture_files.specs.declared.place.Step.{Step}
use Rattle.capture_files.specs.declared.place.Step.TheVariants.{Need}
use Rattle.capture_files.specs.Runs.{PacketView, StateView, beginning, step_at, IsWhole, least_unit, Asks, IsGathered}
use Rattle.capture_files.specs.Runs.{left_of, IsUnitOf, IsUnit, behind, packets_in, Leads, Front}

concat-one : (units : List (List ℕ)) (unit : List ℕ) → concat (units ++ unit ∷ []) ≡ concat units ++ unit
concat-one [] unit = append-nil unit
concat-one (u ∷ units) unit =
    ap (λ (x : List ℕ). u ++ x) (concat-one units unit) ∙ sym (append_assoc u (concat units) unit)

abbrev packets_of : StateView → List ℕ → List PacketView
packets_of s unit = packets_in (step_at s unit) unit

abbrev next_state : StateView → List ℕ → StateView
next_state s unit = behind s (step_at s unit)

leads_more : (s : StateView) (units : List (List ℕ)) (ps : List PacketView) (t : StateView) (unit : List ℕ)
    → Leads s units ps t → IsUnit t unit
    → Leads s (units ++ unit ∷ []) (ps ++ packets_in (step_at t unit) unit) (behind t (step_at t unit))
leads_more s [] ps t unit h whole =
    let same : t ≡ s = h.1 in
    let packets : ps ++ packets_of t unit ≡ packets_of s unit ++ [] =
    ap (λ (qs : List PacketView). qs ++ packets_of t unit) h.0
    ∙ ap (λ (x : StateView). packets_of x unit) same ∙ sym (append-nil (packets_of s unit)) in (
      subst (λ (x : StateView). IsUnit x unit) same whole,
      ([], ((refl, ap (λ (x : StateView). next_state x unit) same), packets)),
    )
leads_more s (u ∷ units) ps t unit h whole =
    let later = h.1.0 in
    let packets : ps ++ packets_of t unit ≡ packets_of s u ++ (later ++ packets_of t unit) =
    ap (λ (qs : List PacketView). qs ++ packets_of t unit) h.1.1.1
    ∙ append_assoc (packets_of s u) later (packets_of t unit) in
    (h.0, (later ++ packets_of t unit, (leads_more (next_state s u) units later t unit h.1.1.0 whole, packets)))

-- one more unit
pub front_more : (bytes unit : List ℕ) (ps : List PacketView) (s : StateView) → Front bytes ps s → IsUnit s unit
    → Front (bytes ++ unit) (ps ++ packets_in (step_at s unit) unit) (behind s (step_at s unit))
front_more bytes unit ps s f whole = record {
  units = f.units ++ unit ∷ [];
  joined = ap (λ (x : List ℕ). x ++ unit) f.joined ∙ sym (concat-one f.units unit);
  leads = leads_more beginning f.units ps s unit f.leads whole;
}

-- the same, where the step is known
pub front_next : (bytes unit : List ℕ) (ps : List PacketView) (s : StateView) (next : Step) → Front bytes ps s
    → next ≡ step_at s unit → IsUnit s unit
    → Front (bytes ++ unit) (ps ++ packets_in next unit) (behind s next)
front_next bytes unit ps s next f e whole =
    subst (λ (x : Step). Front (bytes ++ unit) (ps ++ packets_in x unit) (behind s x)) (sym e)
    (front_more bytes unit ps s f whole)

-- ---- what is asked for

-- one more look
asks_more : (s : StateView) (n : ℕ) (asked : List ℕ) (need m : ℕ) (bytes : List ℕ) → Asks s n asked need bytes
    → need ≤ length bytes → step_at s (take need bytes) ≡ Need m → Asks s n (asked ++ m ∷ []) m bytes
asks_more s n [] need m bytes h there e = (
  subst (λ (x : ℕ). x ≤ length bytes) (sym h) there,
  (subst (λ (x : ℕ). step_at s (take x bytes) ≡ Need m) (sym h) e, refl),
)
asks_more s n (k ∷ asked) need m bytes h there e = (h.0, (h.1.0, asks_more s k asked need m bytes h.1.1 there e))

pub asks_next : (s : StateView) (asked : List ℕ) (need m : ℕ) (bytes : List ℕ) → Asks s least_unit asked need bytes
    → length bytes ≡ need → Need m ≡ step_at s bytes → Asks s least_unit (asked ++ m ∷ []) m bytes
asks_next s asked need m bytes h len e =
    let all : take need bytes ≡ bytes = take_all need bytes (omega (arith, len)) in
    asks_more s least_unit asked need m bytes h (omega (arith, len))
    (ap (λ (x : List ℕ). step_at s x) all ∙ sym e)

-- more bytes change no look
pub asks_longer : (s : StateView) (n : ℕ) (asked : List ℕ) (need : ℕ) (bytes more : List ℕ)
    → Asks s n asked need bytes → Asks s n asked need (bytes ++ more)
asks_longer s n [] need bytes more h = h
asks_longer s n (m ∷ asked) need bytes more h =
    let within : n ≤ length bytes = h.0 in
    let longer : n ≤ length (bytes ++ more) = omega (arith, within, length-append bytes more) in
    let same : take n (bytes ++ more) ≡ take n bytes = take-append-le n bytes more within in
    (longer, (ap (λ (x : List ℕ). step_at s x) same ∙ h.1.0, asks_longer s m asked need bytes more h.1.1))

-- what was gathered is a unit
pub unit_is : (s : StateView) (asked : List ℕ) (need : ℕ) (bytes : List ℕ) (next : Step) → left_of s.place ≡ 0
    → Asks s least_unit asked need bytes → length bytes ≡ need → next ≡ step_at s bytes → IsWhole next
    → IsUnit s bytes
unit_is s asked need bytes next here asks len e whole =
    let gathered : IsGathered s bytes =
    record {
      asked = asked;
      asks = subst (λ (x : ℕ). Asks s least_unit asked x bytes) (sym len) asks;
      whole = subst IsWhole e whole;
    } in
    subst (λ (x : ℕ). IsUnitOf x s bytes) (sym here) gathered
