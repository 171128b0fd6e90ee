-- Every front of whole units is read, and then nothing is owed or a unit is needed.
use Rattle.std.proofs.Common.{◌≡◌, ℕ, zero, suc, ◌+◌, ◌-◌, ◌%◌, ◌^◌, ◌<◌, ◌≤◌, List, [], ◌∷◌, ◌++◌, length, take, drop}
use Rattle.std.proofs.Common.{refl, sym, ap, subst, ◌∙◌, append_assoc, append-nil, arith, inl, inr}
use Rattle.std.specs.Prelude.{Contains}
use Rattle.std.specs.Int.{w32, from_be_bytes}
use Rattle.std.proofs.lemmas.List.{length-append, length-take, take-append-drop}
use Rattle.std.proofs.lemmas.List.Elements.{Contains-append_right}
use Rattle.std.proofs.lemmas.Bool.{cases_lt}
use Rattle.std.proofs.Math.Nat.{add-zero}
use Rattle.xdr_types.specs.Kinds.{KindView, Part, kind_at}
use Rattle.xdr_units.specs.Numbers.{pad, AreBytes, word}
use Rattle.xdr_types.specs.Fits.{parts}
use Rattle.xdr_types.specs.Spelling.{spelling}
use Rattle.xdr_types.specs.Layout.{Entry, entry, shown, of_content}
use Rattle.xdr_units.proofs.Bytes.{AreBytes-take}
use Rattle.xdr_laws.specs.Owed.{Due, Frame, Rest, Completes, Reads, lead_of, HasUnit, Accepts, head_of, IsSettled}
use Rattle.xdr_laws.specs.Owed.{AreFrames, EndsAt, IsOnTrack, AllUpTo, Reaches, AreOfList}
use Rattle.xdr_types.specs.Laws.{EachPartIsKnown}
use Rattle.xdr_laws.proofs.Owed.{reads_none, reads_then, silent_then}
use Rattle.xdr_laws.proofs.UnitOwed.{reads_unit, refuses_unit}
use Rattle.xdr_laws.proofs.Parts.{all_append}
use Rattle.xdr_laws.proofs.Counted.{counted, reads_length, refuses_length}
use Rattle.xdr_laws.proofs.Content.{reads_rest, reads_last, reads_over}
use Rattle.xdr_laws.proofs.Content.{refuses_padding, unit4_back, unit4_less}
use Rattle.xdr_laws.proofs.Entered.{unit_case, frames_on_track, low_less, shown_low, enter}

-- what is owed, settled
abbrev pub Settles : List KindView → (place : ℕ) (before : List Entry) → List Due → Type 0
Settles s place before ds = (begun : List Entry) × (ds' : List Due) × Reaches s place before ds [] begun ds'

settles_then : (s : List KindView) (place : ℕ) (before : List Entry) (a b : List Due) (begun : List Entry)
    → Reads s place a [] begun b → AllUpTo place begun → Settles s place (before ++ begun) b → Settles s place before a
settles_then s place before a b begun first low e = (
  begun ++ e.0,
  e.1,
  record {
    reads = silent_then s place a b e.1 [] begun e.0 first e.2.reads;
    settled = e.2.settled;
    track = subst (λ (l : List Entry). IsOnTrack s l (place + 0) e.1) (append_assoc before begun e.0) e.2.track;
    low = all_append (λ (x : Entry). x.at ≤ place + 0) begun e.0
        (subst (λ (m : ℕ). AllUpTo m begun) (sym (add-zero place)) low) e.2.low;
  },
)

pub settle : (s : List KindView) (place : ℕ) (before : List Entry) (ds : List Due) (p : ℕ) (c : List ℕ)
    (ps : List Entry)
    → IsOnTrack s before place ds → Completes s p ds c ps → Settles s place before ds
settle s place before [] p c ps a r = (
  [],
  [],
  record
      { reads = reads_none s place []; settled = tt; track = tt; low = tt },
)
settle s place before (Frame d ts ∷ ds) p c ps a r =
    let e = enter s place r.0 ts r.3 before d ds a.0 a.1 in
    elim e.3 [
      | inl n ↦ (
        e.0,
        e.1,
        record {
          reads = e.2;
          settled = n.0;
          track = subst
              (λ (m : ℕ). IsOnTrack s (before ++ e.0) m e.1) (sym (add-zero place)) n.1;
          low = subst
              (λ (m : ℕ). AllUpTo m e.0) (sym (add-zero place)) e.4;
        },
      )
      | inr same ↦
          settles_then s place before (Frame d ts ∷ ds) ds e.0
          (subst (λ (l : List Due). Reads s place (Frame d ts ∷ ds) [] e.0 l) same e.2) e.4
          (settle s place (before ++ e.0) ds (p + length (spelling s ts r.0)) r.1 r.2
          (frames_on_track s (before ++ e.0) place ds a.1) r.6)
    ]
settle s place before (Rest zero ∷ ds) p c ps a r =
    settles_then s place before (Rest zero ∷ ds) ds [] (reads_over s place ds) tt
    (settle s place (before ++ []) ds (p + (0 + length (pad 0))) r.1 ps (frames_on_track s (before ++ []) place ds a.0)
    r.5)
settle s place before (Rest (suc n) ∷ ds) p c ps a r = (
  [],
  Rest (suc n) ∷ ds,
  record {
    reads = reads_none s place (Rest (suc n) ∷ ds);
    settled = omega arith;
    track = subst (λ (l : List Entry). IsOnTrack s l (place + 0) (Rest (suc n) ∷ ds)) (sym (append-nil before))
        (subst (λ (m : ℕ). IsOnTrack s before m (Rest (suc n) ∷ ds)) (sym (add-zero place)) a);
    low = tt;
  },
)

-- a unit is read
abbrev pub Steps : List KindView → (place : ℕ) (before : List Entry) → List Due → List ℕ → Type 0
Steps s place before ds u = (begun : List Entry) × (ds' : List Due) × Reads s place ds u begun ds'
    × IsOnTrack s (before ++ begun) (place + 4) ds' × AllUpTo (place + 4) begun
    × (EachPartIsKnown s → AreOfList s ds → AreOfList s ds')

pub step_unit : (s : List KindView) (place : ℕ) (before : List Entry) (d : ℕ) (t : Part) (ts : List Part)
    (ds : List Due)
    (x : ℕ) → (d ≡ length ds + 1) × AreFrames ds
    → HasUnit (lead_of (kind_at s t.kind)) → Accepts s (kind_at s t.kind) x
    → Steps s place before (Frame d (t ∷ ts) ∷ ds) (word x)
step_unit s place before d t ts ds x a u accepts =
    elim (unit_case (lead_of (kind_at s t.kind)) u) [
      | inl first ↦
          (let k : KindView = kind_at s t.kind in (
            shown place d t k (head_of s k x),
            Frame (d + 1) (parts k (head_of s k x)) ∷ Frame d ts ∷ ds,
            reads_unit s
                place d t ts ds x first accepts,
            (omega (arith, a.0), a),
            shown_low place d t k (head_of s k x),
            (λ (known : EachPartIsKnown s) (of : AreOfList s (Frame d (t ∷ ts) ∷ ds)).
                (known t.kind (head_of s k x) of.0.0, (of.0.1, of.1))),
          ))
      | inr first ↦
          (let e : Entry = entry (place + 4) (x + length (pad x)) d t (of_content x) in
          let there : Contains (counted place d t x) e = (1, omega arith, refl) in (
            counted place d t x,
            Rest x ∷ Frame d ts ∷ ds,
            reads_length s place d t ts ds x first accepts,
            (
              a,
              e,
              Contains-append_right before (counted place d t x) e there,
              omega arith,
              (refl, refl),
              omega
                  (arith, a.0),
            ),
            (omega arith, (omega arith, tt)),
            (λ (known : EachPartIsKnown s) (of : AreOfList s (Frame d (t ∷ ts) ∷ ds)). (of.0.1, of.1)),
          ))
    ]

pub accepted : (s : List KindView) (place d : ℕ) (t : Part) (ts : List Part) (ds : List Due) (x : ℕ) (c : List ℕ)
    (ps : List Entry) → HasUnit (lead_of (kind_at s t.kind)) → x < 2 ^ 32
    → Completes s place (Frame d (t ∷ ts) ∷ ds) (word x ++ c) ps → Accepts s (kind_at s t.kind) x
accepted s place d t ts ds x c ps u less r = elim (unit_case (lead_of (kind_at s t.kind)) u) [
  | inl first ↦ refuses_unit s place d t ts ds x c ps first less r
  | inr first ↦ refuses_length s place d t ts ds x c ps first less r
]

-- the part goes on
still_ends : (s : List KindView) (place n : ℕ) (before : List Entry) → 4 ≤ n
    → (e : Entry) × Contains before e × (e.at ≤ place) × EndsAt s (place + n) e e.role
    → (e : Entry) × Contains (before ++ []) e × (e.at ≤ place + 4) × EndsAt s (place + 4 + (n - 4)) e e.role
still_ends s place n before h e =
    let same : place + n ≡ place + 4 + (n - 4) = omega arith in (
      e.0,
      subst (λ (l : List Entry). Contains l e.0) (sym (append-nil before)) e.1,
      omega (arith, e.2),
      subst
          (λ (m : ℕ). EndsAt s m e.0 e.0.role) same e.3,
    )

pub step_rest : (s : List KindView) (place : ℕ) (before : List Entry) (n : ℕ) (ds : List Due) (u : List ℕ) → 0 < n
    → IsOnTrack s before place (Rest n ∷ ds)
    → length u ≡ 4 → AreBytes u → (n < 4 → drop n u ≡ pad n) → Steps s place before (Rest n ∷ ds) u
unfolding still_ends
step_rest s place before n ds u some a len are zeros = elim (cases_lt n 4) [
  | inl few ↦
      (let same : take n u ++ pad n ≡ u = ap (λ (z : List ℕ). take n u ++ z) (sym (zeros few)) ∙ take-append-drop n u in
      let read = reads_last s place n ds (take n u) (omega (arith, length-take n u)) (AreBytes-take n u are) in (
        [],
        ds,
        subst (λ (q : List ℕ). Reads s place (Rest n ∷ ds) q [] ds) same read,
        frames_on_track s (before ++ [])
            (place + 4) ds a.0,
        tt,
        (λ (known : EachPartIsKnown s) (of : AreOfList s ds). of),
      ))
  | inr many ↦
      (let e = still_ends s place n before many (a.1, a.2, a.3, a.4) in (
        [],
        Rest (n - 4) ∷ ds,
        reads_rest s place n ds u many len are,
        (a.0, e.0, e.1, e.2, e.3, a.5),
        tt,
        (λ (known : EachPartIsKnown s) (of : AreOfList s ds). of),
      ))
]

pub step : (s : List KindView) (place : ℕ) (before : List Entry) (ds : List Due) (u c : List ℕ) (ps : List Entry)
    → IsSettled s ds → IsOnTrack s before place ds
    → length u ≡ 4 → AreBytes u → Completes s place ds (u ++ c) ps → Steps s place before ds u
step s place before [] u c ps n a len are r = absurd (omega (arith, ap length r.0, length-append u c))
step s place before (Frame d [] ∷ ds) u c ps n a len are r = absurd n
step s place before (Frame d (t ∷ ts) ∷ ds) u c ps n a len are r =
    let x : ℕ = from_be_bytes w32 u in
    let is : word x ≡ u = unit4_back u len are in
    let accepts = accepted s place d t ts ds x c ps n (unit4_less u len are)
    (subst (λ (b : List ℕ). Completes s place (Frame d (t ∷ ts) ∷ ds) (b ++ c) ps) (sym is) r) in
    subst (λ (b : List ℕ). Steps s place before (Frame d (t ∷ ts) ∷ ds) b) is
    (step_unit s place before d t ts ds x a n accepts)
step s place before (Rest n ∷ ds) u c ps some a len are r =
    step_rest s place before n ds u some a len are (λ few. refuses_padding s place n ds u c ps some few len r)

pub reach : (s : List KindView) (q : List ℕ) (place : ℕ) (before : List Entry) (ds : List Due) (c : List ℕ)
    (ps : List Entry)
    → IsOnTrack s before place ds → AreBytes q → length q % 4 ≡ 0 → Completes s place ds (q ++ c) ps
    → (begun : List Entry) × (ds' : List Due) × Reaches s place before ds q begun ds'
reach s [] place before ds c ps a are units r = settle s place before ds place c ps a r
reach s (x ∷ []) place before ds c ps a are units r = absurd (omega arith)
reach s (x ∷ y ∷ []) place before ds c ps a are units r = absurd (omega arith)
reach s (x ∷ y ∷ z ∷ []) place before ds c ps a are units r = absurd (omega arith)
reach s (x ∷ y ∷ z ∷ w ∷ q) place before ds c ps a are units r =
    let u : List ℕ = x ∷ y ∷ z ∷ w ∷ [] in
    let one = settle s place before ds place (u ++ (q ++ c)) ps a r in
    let r1 = one.2.reads.into (u ++ (q ++ c)) ps r in
    let at1 : Completes s place one.1 (u ++ (q ++ c)) r1.0 = subst (λ (m : ℕ). Completes s m one.1 (u ++ (q ++ c)) r1.0)
    (add-zero place) r1.2 in
    let track1 : IsOnTrack s (before ++ one.0) place one.1 = subst (λ (m : ℕ). IsOnTrack s (before ++ one.0) m one.1)
    (add-zero place) one.2.track in
    let two = step s place (before ++ one.0) one.1 u (q ++ c) r1.0 one.2.settled track1 refl
    (are.0, (are.1.0, (are.1.1.0, (are.1.1.1.0, tt)))) at1 in
    let r2 = two.2.into (q ++ c) r1.0 at1 in
    let three = reach s q (place + 4) ((before ++ one.0) ++ two.0) two.1 c r2.0 two.3 are.1.1.1.1 (omega arith) r2.2 in
    let end : ℕ = place + length (x ∷ y ∷ z ∷ w ∷ q) in
    let far : place + 4 + length q ≡ end = omega arith in (
      one.0 ++ (two.0 ++ three.0),
      three.1,
      record {
        reads = silent_then s place ds one.1 three.1 (x ∷ y ∷ z ∷ w ∷ q) one.0 (two.0 ++ three.0) one.2.reads
            (reads_then s place one.1 two.1 three.1 u q two.0 three.0 two.2 three.2.reads);
        settled = three.2.settled;
        track = subst (λ (m : ℕ). IsOnTrack s (before ++ (one.0 ++ (two.0 ++ three.0))) m three.1) far
            (subst (λ (l : List Entry). IsOnTrack s l (place + 4 + length q) three.1)
            (grouped before one.0 two.0 three.0) three.2.track);
        low = all_append (λ (e : Entry). e.at ≤ end) one.0 (two.0 ++ three.0)
            (low_less (place + 0) end one.0 (omega arith) one.2.low)
            (all_append (λ (e : Entry). e.at ≤ end) two.0 three.0 (low_less (place + 4) end two.0 (omega arith) two.4)
            (low_less (place + 4 + length q) end three.0 (omega arith) three.2.low));
      },
    )
  where
    grouped : (a b c d : List Entry) → ((a ++ b) ++ c) ++ d ≡ a ++ (b ++ (c ++ d))
    grouped a b c d = simp append_assoc
