-- Which units continue a front.
use Rattle.std.proofs.Common.{◌≡◌, ℕ, zero, suc, ◌+◌, ◌-◌, ◌%◌, ◌^◌, ◌<◌, ◌≤◌, List, [], ◌∷◌, ◌++◌, length, drop, refl}
use Rattle.std.proofs.Common.{sym, ap, subst, ◌∙◌, append_assoc, append-nil, zero-add, arith, inl, inr, replicate}
use Rattle.std.specs.Prelude.{Contains, ◌↔◌}
use Rattle.std.specs.Int.{w32, from_be_bytes}
use Rattle.std.specs.List.{AllByRecursion}
use Rattle.std.proofs.lemmas.Bool.{cases_lt}
use Rattle.std.proofs.lemmas.List.{length-drop, get_or_past}
use Rattle.std.proofs.lemmas.List.Elements.{All-contains, All-from_recursion, Contains-append_left}
use Rattle.std.proofs.lemmas.List.Elements.{Contains-append_right}
use Rattle.xdr_types.specs.Kinds as xdr
use Rattle.xdr_types.specs.Kinds.{KindView, Part, Constant, kind_at}
use Rattle.xdr_types.specs.Tree as value
use Rattle.xdr_types.specs.Tree.{Head, Values, Tree, from_list}
use Rattle.xdr_units.specs.Numbers.{pad, AreBytes, word}
use Rattle.xdr_types.specs.Fits.{fits, fit, item_part}
use Rattle.xdr_types.specs.Spelling.{spelling}
use Rattle.xdr_types.specs.Layout.{Entry, layout, entries, Role, of_number, of_flag, of_length, of_content, of_group}
use Rattle.xdr_types.specs.Front.{Front}
use Rattle.xdr_types.specs.Outcome.{HasNextUnit, Admits, AdmitsNumber}
use Rattle.xdr_laws.specs.Owed.{Due, Frame, Rest, Completes, Reads, lead_of, IsFreeBytes, HasUnit, Accepts}
use Rattle.xdr_laws.specs.Owed.{role_of, EndsAt, IsOnTrack, Reaches, AreOfList}
use Rattle.xdr_types.specs.Laws.{EachKindHasAValue, EachPartIsKnown}
use Rattle.xdr_laws.proofs.Owed.{begin_into}
use Rattle.xdr_laws.proofs.Legal.{IsLegal, FitAll, fit_node, and, bytes_are}
use Rattle.std.proofs.lemmas.Bool.{false≢true}
use Rattle.xdr_laws.specs.Begun.{first}
use Rattle.xdr_laws.specs.Laws.{IsUnfinished, GoesOn}
use Rattle.xdr_laws.proofs.Content.{unit4_back, unit4_less, refuses_padding}
use Rattle.xdr_laws.proofs.Reach.{step_unit, step_rest, accepted, Steps}
use Rattle.xdr_laws.proofs.SameParts.{parts_units}
use Rattle.xdr_laws.proofs.Known.{reached_front, known_at, begins_into, begins_back, one_stands, root}

-- ---- what is owed is of kinds of the list, and can then be completed

pub legal_known : (s : List KindView) (t : ℕ) (h : Head) → IsLegal s (kind_at s t) h → t < length s
legal_known s t h l = elim (cases_lt t (length s)) [
  | inl within ↦ within
  | inr past ↦ absurd (subst (λ (f : KindView). IsLegal s f h) (get_or_past s t xdr.unknown past) l)
]

fit_known : (s : List KindView) (ts : List Part) (v : Values) → FitAll s ts v
    → AllByRecursion (λ (p : Part). p.kind < length s) ts
fit_known s [] v f = tt
fit_known s (t ∷ ts) value.none f = absurd (false≢true f)
fit_known s (t ∷ ts) (value.node h v w) f = let g = fit_node s t ts h v w f in
    (legal_known s t.kind h g.0, fit_known s ts w g.2)

pub completes_known : (s : List KindView) (place : ℕ) (ds : List Due) (c : List ℕ) (es : List Entry)
    → Completes s place ds c es → AreOfList s ds
completes_known s place [] c es r = tt
completes_known s place (Frame d ts ∷ ds) c es r =
    (fit_known s ts r.0 r.3, completes_known s (place + length (spelling s ts r.0)) ds r.1 r.2 r.6)
completes_known s place (Rest n ∷ ds) c es r = completes_known s (place + (n + length (pad n))) ds r.1 es r.5

pub values_of : (s : List KindView) → EachKindHasAValue s → (ts : List Part)
    → AllByRecursion (λ (p : Part). p.kind < length s) ts → (v : Values) × FitAll s ts v
values_of s has [] of = (value.none, refl)
values_of s has (t ∷ ts) of =
    let first_value = has t.kind of.0 in
    let more = values_of s has ts of.1 in (
      value.node first_value.0.0 first_value.0.1 more.0,
      and (fits s t.kind first_value.0) (fit s ts more.0)
          first_value.1 more.1,
    )

zeros : (n : ℕ) → (bs : List ℕ) × (length bs ≡ n) × AreBytes bs
zeros zero = ([], refl, tt)
zeros (suc n) = let more = zeros n in (0 ∷ more.0, ap suc more.1, (omega arith, more.2))

-- something completes what is owed
pub alive : (s : List KindView) → EachKindHasAValue s → (place : ℕ) (ds : List Due) → AreOfList s ds
    → (c : List ℕ) × (es : List Entry) × Completes s place ds c es
alive s has place [] of = ([], [], (refl, refl))
alive s has place (Frame d ts ∷ ds) of =
    let v = values_of s has ts of.0 in
    let more = alive s has (place + length (spelling s ts v.0)) ds of.1 in
    (spelling s ts v.0 ++ more.0, layout s place d ts v.0 ++ more.1, (v.0, more.0, more.1, v.1, refl, refl, more.2))
alive s has place (Rest n ∷ ds) of =
    let z = zeros n in
    let more = alive s has (place + (n + length (pad n))) ds of in
    (z.0 ++ (pad n ++ more.0), more.1, (z.0, more.0, z.1, z.2, refl, more.2))

-- ---- what is accepted is what no reason stands against

-- the number in the unit u that begins a value
pub admits_accepted : (s : List KindView) (k : KindView) (after : ℕ) (u : List ℕ) → HasUnit (lead_of k)
    → Accepts s k (from_be_bytes w32 u) → Admits s k (role_of k) after u
admits_accepted s xdr.int after u h a = tt
admits_accepted s xdr.unsigned after u h a = tt
admits_accepted s xdr.boolean after u h a = a
admits_accepted s (xdr.numbered constants) after u h a = a.1
admits_accepted s (xdr.opaque_up_to max) after u h a = a.0
admits_accepted s (xdr.text max) after u h a = a.0
admits_accepted s (xdr.up_to item max) after u h a = a.0
admits_accepted s (xdr.choice tag arms other) after u h a = (a.1, a.2)
admits_accepted s (xdr.maybe item) after u h a = a
admits_accepted s xdr.unknown after u h a = absurd a
admits_accepted s _ after u h a = absurd h

pub accepted_admits : (s : List KindView) (k : KindView) (g : Head) → IsLegal s k g → (after : ℕ) (u : List ℕ)
    → HasUnit (lead_of k)
    → from_be_bytes w32 u < 2 ^ 32 → Admits s k (role_of k) after u → Accepts s k (from_be_bytes w32 u)
accepted_admits s xdr.int g l after u h less a = less
accepted_admits s xdr.unsigned g l after u h less a = less
accepted_admits s xdr.boolean g l after u h less a = a
accepted_admits s (xdr.numbered constants) g l after u h less a = (less, a)
accepted_admits s (xdr.opaque_up_to max) g l after u h less a = (a, less)
accepted_admits s (xdr.text max) g l after u h less a = (a, less)
accepted_admits s (xdr.up_to item max) g l after u h less a = (a, less)
accepted_admits s (xdr.choice tag arms other) g l after u h less a = (less, a.0, a.1)
accepted_admits s (xdr.maybe item) g l after u h less a = a
accepted_admits s xdr.unknown g l after u h less a = absurd l
accepted_admits s _ g l after u h less a = absurd h

admits_free : (s : List KindView) (k : KindView) (x : ℕ) → IsFreeBytes (lead_of k) → AdmitsNumber s k x
admits_free s xdr.hyper x u = tt
admits_free s xdr.unsigned_hyper x u = tt
admits_free s (xdr.opaque size) x u = tt
admits_free s _ x u = absurd u

-- ---- zeros

abbrev pub AreZeros : List ℕ → Type 0
AreZeros bs = AllByRecursion (λ b. b ≡ 0) bs

zeros_all : (n : ℕ) → AreZeros (replicate n 0)
zeros_all zero = tt
zeros_all (suc n) = (refl, zeros_all n)

all_zeros : (bs : List ℕ) → AreZeros bs → bs ≡ replicate (length bs) 0
all_zeros [] a = refl
all_zeros (b ∷ bs) a = ap (λ (x : ℕ). x ∷ bs) a.0 ∙ ap (λ (l : List ℕ). 0 ∷ l) (all_zeros bs a.1)

no_zeros : (bs : List ℕ) → length bs ≡ 0 → AreZeros bs
no_zeros [] e = tt
no_zeros (b ∷ bs) e = absurd (omega arith)

-- n bytes of content, and then zeros
abbrev pub Fills : ℕ → List ℕ → Type 0
Fills n u = n < 4 → drop n u ≡ pad n

pub zeros_fill : (n : ℕ) (u : List ℕ) → length u ≡ 4 → Fills n u → AreZeros (drop n u)
zeros_fill n u len fills = elim (cases_lt n 4) [
  | inl few ↦ subst (λ (l : List ℕ). AreZeros l) (sym (fills few)) (zeros_all ((4 - n % 4) % 4))
  | inr many ↦ no_zeros (drop n u) (omega (arith, length-drop n u))
]

pub fill_zeros : (n : ℕ) (u : List ℕ) → 0 < n → length u ≡ 4 → AreZeros (drop n u) → Fills n u
fill_zeros n u some len a few =
    let short : length (drop n u) ≡ (4 - n % 4) % 4 = omega (arith, length-drop n u) in
    all_zeros (drop n u) a ∙ ap (λ (m : ℕ). replicate m 0) short

-- the part whose content goes on, and the unit that it admits
pub rest_case : (s : List KindView) (e : Entry) (p n : ℕ) (u : List ℕ) → length u ≡ 4 → (role : Role) → e.at ≤ p → 0 < n
    → p % 4 ≡ 0 → e.at % 4 ≡ 0 → EndsAt s (p + n) e role
    → (p < e.at + e.size) × (Fills n u → Admits s (kind_at s e.kind) role (p - e.at) u)
    × (Admits s (kind_at s e.kind) role (p - e.at) u → Fills n u)
rest_case s e p n u len (of_content m) low some units at ends =
    let left : m - (p - e.at) ≡ n = omega (arith, ends.0) in (
      omega (arith, ends.0, ends.1),
      (λ fills. subst (λ (x : ℕ). AreZeros (drop x u)) (sym left) (zeros_fill n u len fills)),
      (λ a. fill_zeros n u some len (subst (λ (x : ℕ). AreZeros (drop x u)) left a)),
    )
rest_case s e p n u len of_number low some units at ends = (
  omega (arith, ends.0, ends.1),
  (λ fills. admits_free s (kind_at s e.kind) (from_be_bytes w32 u) ends.2),
  (λ a few. absurd (omega (arith, ends.0))),
)
rest_case s e p n u len of_flag low some units at ends = absurd ends
rest_case s e p n u len of_length low some units at ends = absurd ends
rest_case s e p n u len of_group low some units at ends = absurd ends

-- ---- the law where q is read

abbrev Continues : List KindView → ℕ → List ℕ → List ℕ → Type 0
Continues s t q u = (e : Entry) × HasNextUnit s t q e
    × (Front s t (q ++ u) ↔ Admits s (kind_at s e.kind) e.role (length q - e.at) u)

-- a unit that is read continues the front
front_by : (s : List KindView) → EachKindHasAValue s → EachPartIsKnown s
    → (t : ℕ) (q u : List ℕ) (begun : List Entry) (ds : List Due) → Reads s 0 (root t) q begun ds → AreOfList s ds
    → Steps s (length q) begun ds u
    → Front s t (q ++ u)
front_by s has known t q u begun ds reads of step =
    let a = alive s has (length q + length u) step.1 (step.5 known of) in
    let c = step.2.back a.0 a.1 a.2 in
    let v = begins_back s t q begun ds reads (u ++ a.0) (step.0 ++ a.1) c in
    (v.0, (v.1, a.0, v.2 ∙ sym (append_assoc q u a.0)))

-- a front that goes on by the unit completes what is owed
front_into : (s : List KindView) (t : ℕ) (q u : List ℕ) (begun : List Entry) (ds : List Due)
    → Reads s 0 (root t) q begun ds
    → Front s t (q ++ u)
    → (c : List ℕ) × (ps : List Entry) × Completes s (length q) ds (u ++ c) ps
front_into s t q u begun ds reads f =
    let i = begins_into s t q begun ds reads f.0 (u ++ f.1.1) f.1.0 (f.1.2 ∙ append_assoc q u f.1.1) in
    (f.1.1, i.0, i.2)

module _ (s : List KindView) (has : EachKindHasAValue s) (known : EachPartIsKnown s) (t : ℕ) (q u : List ℕ)
    (units : length q % 4 ≡ 0) (front : Front s t q) (len : length u ≡ 4) (are : AreBytes u) where
  -- where a value is due
  goes_on_due : (begun : List Entry) (d : ℕ) (t' : Part) (ts : List Part) (ds : List Due)
      → Reaches s 0 [] (root t) q begun (Frame d (t' ∷ ts) ∷ ds) → Continues s t q u
  goes_on_due begun d t' ts ds r =
      let k : KindView = kind_at s t'.kind in
      let owed : List Due = Frame d (t' ∷ ts) ∷ ds in
      let e : Entry = first (length q) d t' k in
      let x : ℕ = from_be_bytes w32 u in
      let is : word x ≡ u = unit4_back u len are in
      let less : x < 2 ^ 32 = unit4_less u len are in
      let i = (known_at s t q begun owed r).all front.0 front.1.1 front.1.0 front.1.2 in
      let inside : Contains (entries s t front.0) e =
      subst (λ (l : List Entry). Contains l e) (sym i.1)
      (Contains-append_left (begun ++ e ∷ []) i.0 e (Contains-append_right begun (e ∷ []) e (0, omega arith, refl)))
      in
      let represents : HasNextUnit s t q e = (front.0, front.1, inside, omega arith, omega arith) in
      let to : Front s t (q ++ u) → Admits s k (role_of k) (length q - e.at) u = λ f.
      (let c = front_into s t q u begun owed r.reads f in
      admits_accepted s k (length q - e.at) u r.settled
      (accepted s (length q) d t' ts ds x c.0 c.1 r.settled less
      (subst (λ (b : List ℕ). Completes s (length q) owed (b ++ c.0) c.1) (sym is) c.2))) in
      let j = begins_into s t q begun owed r.reads front.0 front.1.1 front.1.0 front.1.2 in
      let g = begin_into s (length q) d t' ts ds front.1.1 j.0 j.2 in
      let from : Admits s k (role_of k) (length q - e.at) u → Front s t (q ++ u) = λ a.
      front_by s has known t q u begun owed r.reads (completes_known s (length q) owed front.1.1 j.0 j.2)
      (subst (λ (b : List ℕ). Steps s (length q) begun owed b) is
      (step_unit s (length q) begun d t' ts ds x r.track r.settled
      (accepted_admits s k g.0 g.3 (length q - e.at) u r.settled less a))) in
      (e, represents, (to, from))

  -- where content goes on
  goes_on_rest : (begun : List Entry) (n : ℕ) (ds : List Due) → Reaches s 0 [] (root t) q begun (Rest n ∷ ds)
      → Continues s t q u
  goes_on_rest begun n ds r =
      let owed : List Due = Rest n ∷ ds in
      let track : IsOnTrack s begun (length q) owed = subst (λ (m : ℕ). IsOnTrack s begun m owed) (zero-add (length q))
      r.track in
      let e : Entry = track.1 in
      let i = (known_at s t q begun owed r).all front.0 front.1.1 front.1.0 front.1.2 in
      let inside : Contains (entries s t front.0) e =
      subst (λ (l : List Entry). Contains l e) (sym i.1)
      (Contains-append_left (begun ++ []) i.0 e
      (subst (λ (l : List Entry). Contains l e) (sym (append-nil begun)) track.2)) in
      let at : e.at % 4 ≡ 0 = All-contains (λ (x : Entry). x.at % 4 ≡ 0) (entries s t front.0) e
      (All-from_recursion (λ (x : Entry). x.at % 4 ≡ 0) (entries s t front.0)
      (parts_units s 0 1 (item_part t ∷ []) (from_list (front.0 ∷ [])) refl)) inside in
      let c = rest_case s e (length q) n u len e.role track.3 r.settled units at track.4 in
      let represents : HasNextUnit s t q e = (front.0, front.1, inside, track.3, c.0) in
      let to : Front s t (q ++ u) → Admits s (kind_at s e.kind) e.role (length q - e.at) u = λ f.
      (let g = front_into s t q u begun owed r.reads f in
      c.1 (λ few. refuses_padding s (length q) n ds u g.0 g.1 r.settled few len g.2)) in
      let j = begins_into s t q begun owed r.reads front.0 front.1.1 front.1.0 front.1.2 in
      let from : Admits s (kind_at s e.kind) e.role (length q - e.at) u → Front s t (q ++ u) = λ a.
      front_by s has known t q u begun owed r.reads (completes_known s (length q) owed front.1.1 j.0 j.2)
      (step_rest s (length q) begun n ds u r.settled track len are (c.2 a)) in
      (e, represents, (to, from))

  goes_on_at : (begun : List Entry) (ds : List Due) → Reaches s 0 [] (root t) q begun ds → IsUnfinished s t q
      → Continues s t q u
  goes_on_at begun [] r unfinished =
      let i = begins_into s t q begun [] r.reads front.0 front.1.1 front.1.0 front.1.2 in
      absurd (unfinished front.0 front.1.0 (front.1.2 ∙ ap (λ (c : List ℕ). q ++ c) i.2.0 ∙ append-nil q))
  goes_on_at begun (Frame d [] ∷ ds) r unfinished = absurd r.settled
  goes_on_at begun (Frame d (t' ∷ ts) ∷ ds) r unfinished = goes_on_due begun d t' ts ds r
  goes_on_at begun (Rest n ∷ ds) r unfinished = goes_on_rest begun n ds r

pub goes_on : (s : List KindView) → EachKindHasAValue s → EachPartIsKnown s → GoesOn s
goes_on s has known t q u units front unfinished len are =
    let r = reached_front s t q units front in
    let c = goes_on_at s has known t q u units front len (bytes_are u are) r.0 r.1 r.2 unfinished in
    (c.0, c.1, (λ f g. one_stands s t q units c.0 f c.1 g), c.2)
