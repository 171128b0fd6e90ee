-- What is known of all values that begin with one front of whole units.
use Rattle.std.proofs.Common.{◌≡◌, ℕ, ◌+◌, ◌%◌, ◌≤◌, Bool, true, false, cond, nat_le, leb-true, List, [], ◌∷◌}
use Rattle.std.proofs.Common.{◌++◌, length, refl, sym, ap, subst, ◌∙◌, append_assoc, append-nil, zero-add, arith, inl}
use Rattle.std.proofs.Common.{inr}
use Rattle.std.specs.Prelude.{Contains}
use Rattle.std.proofs.lemmas.List.{length-append}
use Rattle.std.proofs.lemmas.List.Elements.{All-contains, All-from_recursion, Contains-append_cases}
use Rattle.std.proofs.lemmas.List.Elements.{Contains-append_left}
use Rattle.xdr_units.proofs.Bytes.{AreBytes-before}
use Rattle.xdr_types.specs.Kinds as xdr
use Rattle.xdr_types.specs.Kinds.{KindView, Part, kind_at}
use Rattle.xdr_types.specs.Tree as value
use Rattle.xdr_types.specs.Tree.{Head, Values, Tree, from_list}
use Rattle.xdr_units.specs.Numbers.{pad, AreBytes, word}
use Rattle.xdr_types.specs.Fits.{Fits, fits, parts, item_part}
use Rattle.xdr_types.specs.Spelling.{own, spelling, bytes_of}
use Rattle.xdr_types.specs.Layout.{Entry, layout, entries, shown, content}
use Rattle.xdr_types.specs.Front.{Front}
use Rattle.xdr_types.specs.Outcome.{HasNextUnit}
use Rattle.xdr_laws.specs.Owed.{Due, Frame, Rest, Completes, Reads, lead_of, HasUnit, IsSettled, Reaches}
use Rattle.xdr_laws.proofs.Legal.{IsLegal, FitAll, both}
use Rattle.std.proofs.lemmas.Bool.{false≢true}
use Rattle.xdr_laws.specs.Parts.{up_to, AllFrom, AreKnown}
use Rattle.xdr_laws.specs.Begun.{first, begins_here}
use Rattle.xdr_laws.proofs.Numbers.{unit_of, unit4-length}
use Rattle.xdr_laws.proofs.Owed.{begin_into}
use Rattle.xdr_laws.proofs.Parts.{all_append, parts_join, from_less, completes_from, one_holder}
use Rattle.xdr_laws.proofs.Reach.{reach}
use Rattle.xdr_laws.proofs.WholeUnits.{root_fits, value_bytes}

-- what a head shows first, and then
abbrev ShowsFirst : (place d : ℕ) (t : Part) → KindView → Head → Type 0
ShowsFirst place d t k h = (more : List Entry) × (shown place d t k h ≡ first place d t k ∷ more)
    × AllFrom (place + 1) more × (4 ≤ length (own k h))

pub shows_first : (s : List KindView) (place d : ℕ) (t : Part) (k : KindView) (h : Head) → HasUnit (lead_of k)
    → IsLegal s k h
    → ShowsFirst place d t k h
shows_first s place d t xdr.int (value.int z) u l = ([], refl, tt, omega (arith, unit4-length (unit_of z)))
shows_first s place d t xdr.unsigned (value.unsigned n) u l = ([], refl, tt, omega (arith, unit4-length n))
shows_first s place d t xdr.boolean (value.boolean true) u l = ([], refl, tt, omega (arith, unit4-length 1))
shows_first s place d t xdr.boolean (value.boolean false) u l = ([], refl, tt, omega (arith, unit4-length 0))
shows_first s place d t (xdr.numbered constants) (value.numbered z) u l =
    ([], refl, tt, omega (arith, unit4-length (unit_of z)))
shows_first s place d t (xdr.opaque_up_to max) (value.bytes bs) u l = (
  content (place + 4) d t (length bs),
  refl,
  (omega arith, tt),
  omega
      (arith, unit4-length (length bs), length-append (word (length bs)) (bs ++ pad (length bs))),
)
shows_first s place d t (xdr.text max) (value.bytes bs) u l = (
  content (place + 4) d t (length bs),
  refl,
  (omega arith, tt),
  omega
      (arith, unit4-length (length bs), length-append (word (length bs)) (bs ++ pad (length bs))),
)
shows_first s place d t (xdr.up_to item max) (value.items n) u l = ([], refl, tt, omega (arith, unit4-length n))
shows_first s place d t (xdr.choice tag arms other) (value.tag z) u l =
    ([], refl, tt, omega (arith, unit4-length (unit_of z)))
shows_first s place d t (xdr.maybe item) value.present u l = ([], refl, tt, omega (arith, unit4-length 1))
shows_first s place d t (xdr.maybe item) value.absent u l = ([], refl, tt, omega (arith, unit4-length 0))
shows_first s place d t xdr.hyper h u l = absurd u
shows_first s place d t xdr.unsigned_hyper h u l = absurd u
shows_first s place d t (xdr.opaque size) h u l = absurd u
shows_first s place d t (xdr.fixed item size) h u l = absurd u
shows_first s place d t (xdr.structure fields) h u l = absurd u
shows_first s place d t xdr.nothing h u l = absurd u
shows_first s place d t _ _ u l = absurd l

pub begins_settled : (s : List KindView) (place : ℕ) (ds : List Due) (c : List ℕ) (ps : List Entry) → IsSettled s ds
    → Completes s place ds c ps
    → (later : List Entry) × (ps ≡ begins_here s place ds ++ later) × AllFrom (place + 1) later
begins_settled s place [] c ps n r = ([], r.1, tt)
begins_settled s place (Frame d [] ∷ ds) c ps n r = absurd n
begins_settled s place (Frame d (t ∷ ts) ∷ ds) c ps n r =
    let k : KindView = kind_at s t.kind in
    let i = begin_into s place d t ts ds c ps r in
    let f = shows_first s place d t k i.0 n i.3 in
    let far : AllFrom (place + 1) i.2 = from_less (place + 1) (place + length (own k i.0)) i.2 (omega (arith, f.3))
    (completes_from s (place + length (own k i.0)) (Frame (d + 1) (parts k i.0) ∷ Frame d ts ∷ ds) i.1 i.2 i.6) in (
      f.0 ++ i.2,
      i.5 ∙ ap (λ (l : List Entry). l ++ i.2) f.1,
      all_append (λ (e : Entry). place + 1 ≤ e.at) f.0 i.2 f.2
          far,
    )
begins_settled s place (Rest n ∷ ds) c ps some r = (
  ps,
  refl,
  from_less (place + 1) (place + (n + length (pad n))) ps (omega arith)
      (completes_from s (place + (n + length (pad n))) ds r.1 ps r.5),
)

abbrev pub root : ℕ → List Due
root t = Frame 1 (item_part t ∷ []) ∷ []

-- a value as a completion of the root
pub completion_of : (s : List KindView) (t : ℕ) (v : Tree) → Fits s t v
    → Completes s 0 (root t) (bytes_of s t v) (entries s t v)
completion_of s t v f =
    let b : List ℕ = bytes_of s t v in (
      from_list (v ∷ []),
      [],
      [],
      root_fits s t v f,
      sym (append-nil (b ++ []) ∙ append-nil b),
      sym
          (append-nil (entries s t v)),
      (refl, refl),
    )

-- and a completion of the root as a value
value_at : (s : List KindView) (t : ℕ) (v : Values) (x : List ℕ) (qs : List Entry) (c : List ℕ) (ps : List Entry)
    → FitAll s (item_part t ∷ []) v
    → c ≡ spelling s (item_part t ∷ []) v ++ x → ps ≡ layout s 0 1 (item_part t ∷ []) v ++ qs → x ≡ [] → qs ≡ []
    → (w : Tree) × Fits s t w × (bytes_of s t w ≡ c) × (entries s t w ≡ ps)
value_at s t value.none x qs c ps f e p n m = absurd (false≢true f)
value_at s t (value.node h inner value.none) x qs c ps f e p n m =
    let w : Tree = (h, inner) in
    let b : List ℕ = bytes_of s t w in
    let es : List Entry = entries s t w in (
      w,
      (both (fits s t w) true f).0,
      sym (append-nil (b ++ []) ∙ append-nil b) ∙ ap (λ (y : List ℕ). (b ++ []) ++ y) (sym n) ∙ sym e,
      sym (append-nil es) ∙ ap (λ (y : List Entry). es ++ y) (sym m) ∙ sym p,
    )
value_at s t (value.node h inner (value.node g a r)) x qs c ps f e p n m =
    let w : Tree = (h, inner) in
    absurd (false≢true (both (fits s t w) false f).1)

pub value_of : (s : List KindView) (t : ℕ) (c : List ℕ) (ps : List Entry) → Completes s 0 (root t) c ps
    → (v : Tree) × Fits s t v × (bytes_of s t v ≡ c) × (entries s t v ≡ ps)
value_of s t c ps r = value_at s t r.0 r.1 r.2 c ps r.3 r.4 r.5 r.6.0 r.6.1

pub reached_front : (s : List KindView) (t : ℕ) (q : List ℕ) → length q % 4 ≡ 0 → Front s t q
    → (begun : List Entry) × (ds : List Due) × Reaches s 0 [] (root t) q begun ds
reached_front s t q units f =
    let whole : Completes s 0 (root t) (q ++ f.1.1) (entries s t f.0) = subst
    (λ (b : List ℕ). Completes s 0 (root t) b (entries s t f.0)) f.1.2 (completion_of s t f.0 f.1.0) in
    reach s q 0 [] (root t) f.1.1 (entries s t f.0) (refl, tt)
    (AreBytes-before q f.1.1 (subst (λ (b : List ℕ). AreBytes b) f.1.2 (value_bytes s t f.0 f.1.0))) units whole

-- a value that begins with q, from where q is read
pub begins_into : (s : List KindView) (t : ℕ) (q : List ℕ) (begun : List Entry) (ds : List Due)
    → Reads s 0 (root t) q begun ds → (v : Tree) (c : List ℕ) → Fits s t v → bytes_of s t v ≡ q ++ c
    → (ps : List Entry) × (entries s t v ≡ begun ++ ps) × Completes s (length q) ds c ps
begins_into s t q begun ds reads v c f e =
    let i = reads.into c (entries s t v) (subst (λ (b : List ℕ). Completes s 0 (root t) b (entries s t v)) e
    (completion_of s t v f)) in
    (i.0, i.1, subst (λ (n : ℕ). Completes s n ds c i.0) (zero-add (length q)) i.2)

pub begins_back : (s : List KindView) (t : ℕ) (q : List ℕ) (begun : List Entry) (ds : List Due)
    → Reads s 0 (root t) q begun ds → (c : List ℕ) (ps : List Entry) → Completes s (length q) ds c ps
    → (v : Tree) × Fits s t v × (bytes_of s t v ≡ q ++ c) × (entries s t v ≡ begun ++ ps)
begins_back s t q begun ds reads c ps r = value_of s t (q ++ c) (begun ++ ps)
    (reads.back c ps (subst (λ (n : ℕ). Completes s n ds c ps) (sym (zero-add (length q))) r))

pub known_at : (s : List KindView) (t : ℕ) (q : List ℕ) (begun : List Entry) (ds : List Due)
    → Reaches s 0 [] (root t) q begun ds → AreKnown s t q (begun ++ begins_here s (length q) ds)
known_at s t q begun ds r = record {
  all = λ v c f e.
      let i = begins_into s t q begun ds r.reads v c f e in
      let b = begins_settled s (length q) ds c i.0 r.settled i.2 in (
        b.0,
        i.1 ∙ ap (λ (l : List Entry). begun ++ l) b.1
            ∙ sym (append_assoc begun (begins_here s (length q) ds) b.0),
        b.2,
      );
}

pub known : (s : List KindView) (t : ℕ) (q : List ℕ) → length q % 4 ≡ 0 → Front s t q
    → (ps : List Entry) × AreKnown s t q ps
known s t q units f = let r = reached_front s t q units f in
    (r.0 ++ begins_here s (length q) r.1, known_at s t q r.0 r.1 r.2)

pub up_to_append : (p : ℕ) (ps qs : List Entry) → up_to p (ps ++ qs) ≡ up_to p ps ++ up_to p qs
up_to_append p [] qs = refl
up_to_append p (e ∷ ps) qs = by_test (up_to_append p ps qs) (nat_le e.at p)
  where
    by_test : (up_to p (ps ++ qs) ≡ up_to p ps ++ up_to p qs) → (b : Bool)
        → cond b (e ∷ up_to p (ps ++ qs)) (up_to p (ps ++ qs)) ≡ cond b (e ∷ up_to p ps) (up_to p ps) ++ up_to p qs
    by_test more true = ap (λ (l : List Entry). e ∷ l) more
    by_test more false = more

pub up_to_late : (p : ℕ) (ps : List Entry) → AllFrom (p + 1) ps → up_to p ps ≡ []
up_to_late p [] a = refl
up_to_late p (e ∷ ps) a = by_test (up_to_late p ps a.1) (nat_le e.at p) refl
  where
    by_test : up_to p ps ≡ [] → (b : Bool) → nat_le e.at p ≡ b → cond b (e ∷ up_to p ps) (up_to p ps) ≡ []
    by_test more true h = let low = leb-true e.at p h in absurd (omega (arith, a.0))
    by_test more false h = more

pub up_to_known : (s : List KindView) (t : ℕ) (q : List ℕ) (ps : List Entry) → AreKnown s t q ps
    → (v : Tree) (c : List ℕ)
    → Fits s t v → bytes_of s t v ≡ q ++ c
    → up_to (length q) (entries s t v) ≡ up_to (length q) ps
up_to_known s t q ps k v c f e =
    let i = k.all v c f e in
    ap (λ (l : List Entry). up_to (length q) l) i.1 ∙ up_to_append (length q) ps i.0
    ∙ ap (λ (l : List Entry). up_to (length q) ps ++ l) (up_to_late (length q) i.0 i.2)
    ∙ append-nil (up_to (length q) ps)

-- it is one of the known
known_holds : (s : List KindView) (t : ℕ) (q : List ℕ) (ps : List Entry) → AreKnown s t q ps → (e : Entry)
    → HasNextUnit s t q e
    → Contains ps e
known_holds s t q ps k e h =
    let i = k.all h.0 h.1.1 h.1.0 h.1.2 in
    let inside : Contains (ps ++ i.0) e = subst (λ (l : List Entry). Contains l e) i.1 h.2 in
    elim (Contains-append_cases ps i.0 e inside) [
      | inl old ↦ old
      | inr new ↦ absurd (omega (
        arith,
        h.3,
        All-contains (λ (x : Entry). length q + 1 ≤ x.at) i.0 e
            (All-from_recursion (λ (x : Entry). length q + 1 ≤ x.at) i.0 i.2) new,
      ))
    ]

pub one_stands : (s : List KindView) (t : ℕ) (q : List ℕ) → length q % 4 ≡ 0 → (e f : Entry) → HasNextUnit s t q e
    → HasNextUnit s t q f → e ≡ f
one_stands s t q units e f h g =
    let k = known s t q units (h.0, h.1) in
    let i = k.1.all h.0 h.1.1 h.1.0 h.1.2 in
    let also : Contains (entries s t h.0) f = subst (λ (l : List Entry). Contains l f) (sym i.1)
    (Contains-append_left k.0 i.0 f (known_holds s t q k.0 k.1 f g)) in
    one_holder 0 _ (length q) (entries s t h.0) e f
    (parts_join s 0 1 (item_part t ∷ []) (from_list (h.0 ∷ [])) (root_fits s t h.0 h.1.0)) h.2 also (h.3, h.4)
    (g.3, g.4)
