-- How reading goes on by a unit.
use Rattle.std.proofs.Common.{◌≡◌, ℕ, ◌+◌, ◌-◌, ◌%◌, ◌<◌, ◌≤◌, true, List, [], ◌∷◌, ◌++◌, length, take, drop, refl, sym}
use Rattle.std.proofs.Common.{ap, subst, ◌∙◌, append_assoc, append-nil, zero-add, arith}
use Rattle.std.specs.Prelude.{Contains}
use Rattle.std.specs.Int.{w32, from_be_bytes}
use Rattle.std.proofs.lemmas.List.{length-append, length-take, take-append-drop}
use Rattle.std.proofs.lemmas.List.Elements.{All-contains, All-from_recursion, Contains-append_left}
use Rattle.std.proofs.lemmas.List.Elements.{Contains-append_right}
use Rattle.xdr_types.specs.Kinds.{KindView, Part, kind_at}
use Rattle.xdr_types.specs.Tree.{Head, Tree, from_list}
use Rattle.xdr_units.specs.Numbers.{pad, word}
use Rattle.xdr_types.specs.Fits.{Fits, parts, item_part, are_bytes}
use Rattle.xdr_types.specs.Spelling.{bytes_of}
use Rattle.xdr_types.specs.Within.{Bounds}
use Rattle.xdr_types.specs.Layout.{Entry, entry, entries, shown, Role, of_number, of_flag, of_length, of_content}
use Rattle.xdr_types.specs.Layout.{of_group}
use Rattle.xdr_types.specs.Front.{Front}
use Rattle.xdr_types.specs.Laws.{EachKindHasAValue, EachPartIsKnown}
use Rattle.xdr_types.specs.Outcome.{HasNextUnit, Admits, Why, bad_padding, reason, Whole, TooDeep, Broken, IsDeep}
use Rattle.xdr_types.specs.Outcome.{IsQuiet, IsReached, Outcome}
use Rattle.xdr_laws.specs.Owed.{Due, Frame, Rest, Reads, lead_of, HasUnit, IsUnitFirst, IsLengthFirst, Accepts, head_of}
use Rattle.xdr_laws.specs.Owed.{why_of, EndsAt, IsOnTrack, AllUpTo}
use Rattle.xdr_laws.specs.Begun.{first}
use Rattle.xdr_laws.specs.Laws.{IsUnfinished}
use Rattle.xdr_laws.proofs.Legal.{bytes_are}
use Rattle.xdr_laws.proofs.Numbers.{unit4-length}
use Rattle.xdr_laws.proofs.Owed.{reads_then, begin_into}
use Rattle.xdr_laws.proofs.UnitOwed.{reads_unit}
use Rattle.xdr_laws.proofs.Counted.{reads_length, counted}
use Rattle.xdr_laws.proofs.Content.{reads_rest, reads_last, unit4_less}
use Rattle.xdr_laws.proofs.Parts.{all_append}
use Rattle.xdr_units.proofs.Bytes.{AreBytes-take}
use Rattle.xdr_laws.proofs.Entered.{shown_low, low_less}
use Rattle.xdr_laws.proofs.SameParts.{parts_units}
use Rattle.xdr_laws.proofs.Known.{root, begins_into, one_stands}
use Rattle.xdr_laws.proofs.GoesOn.{admits_accepted, accepted_admits, Fills, rest_case}
use Rattle.xdr_laws.proofs.Holding.{stands_in}
use Rattle.xdr_laws.proofs.Events.{not_deep_at, unfinished_at, outcome_deep, outcome_whole, outcome_unit, reached_next}
use Rattle.xdr_stream.specs.Frames.{dues}
use Rattle.xdr_stream.specs.Sees.{Reading}
use Rattle.xdr_laws.proofs.Whole.{AllLow as AreAt}
use Rattle.xdr_stream.proofs.Reading.{dues_length, dues_frames, dues_track, shown_deep, shows, reaches}

-- what a unit does where it is admitted, and where it isn't
abbrev pub Decides : List KindView → ℕ → Bounds → (q u : List ℕ) → Type 0 → Why → Type 0
Decides s t l q u accepts why =
    (accepts → Front s t (q ++ u) × ((rest : List ℕ) → IsReached s t l (q ++ (u ++ rest)) (length q + 4)))
    × ((accepts → ⊥) → (rest : List ℕ) → Outcome s t l (q ++ (u ++ rest)) (Broken why (length q)))

module _ (s : List KindView) (t : ℕ) (l : Bounds) (has : EachKindHasAValue s) (known : EachPartIsKnown s) where
  -- by the part in which the unit stands
  by_part : (ds : List Due) (q u : List ℕ) (accepts : Type 0) (e : Entry) → Front s t q
      → ((rest : List ℕ) → IsReached s t l (q ++ rest) (length q)) → IsUnfinished s t q → (IsDeep s t l q → ⊥)
      → (length q ≡ l.bytes → ⊥)
      → length u ≡ 4 → are_bytes u ≡ true → HasNextUnit s t q e
      → (accepts → Admits s (kind_at s e.kind) e.role (length q - e.at) u)
      → (Admits s (kind_at s e.kind) e.role (length q - e.at) u → accepts)
      → Decides s t l q u accepts (reason s (kind_at s e.kind) e.role (from_be_bytes w32 u))
  by_part ds q u accepts e front reached unfinished shallow small len are represents to from = (
    (λ a. (
      (good [] a).0,
      λ rest. reached_next s has known t l q u rest front unfinished shallow small len are
          (reached (u ++ rest)) (good rest a).1,
    )),
    (λ n rest.
        let o = outcome_unit s has known t l q u rest front unfinished shallow small len are (reached (u ++ rest)) in
        let same : o.0 ≡ e = one_stands s t q (reached []).units o.0 e o.1 represents in
        subst (λ (x : Entry). Outcome s t l (q ++ (u ++ rest))
        (Broken (reason s (kind_at s x.kind) x.role (from_be_bytes w32 u)) (length q))) same
        (o.2 (λ a. n (from (subst (λ (x : Entry). Admits s (kind_at s x.kind) x.role (length q - x.at) u) same a))))),
  )
    where
      good : (rest : List ℕ) → accepts → Front s t (q ++ u) × IsQuiet s t l (q ++ (u ++ rest)) (length q)
      good rest a =
          let o = outcome_unit s has known t l q u rest front unfinished shallow small len are (reached (u ++ rest)) in
          let same : o.0 ≡ e = one_stands s t q (reached []).units o.0 e o.1 represents in
          o.3 (subst (λ (x : Entry). Admits s (kind_at s x.kind) x.role (length q - x.at) u) (sym same) (to a))

  -- where a value is due
  pub unit_due : (p : Part) (ps : List Part) (fs : List (List Part)) (q u : List ℕ)
      → HasUnit (lead_of (kind_at s p.kind)) → length fs + 1 ≤ l.depth → (length q ≡ l.bytes → ⊥)
      → length u ≡ 4 → are_bytes u ≡ true → Reading s t l (dues ((p ∷ ps) ∷ fs)) q
      → Decides s t l q u (Accepts s (kind_at s p.kind) (from_be_bytes w32 u))
      (why_of s (kind_at s p.kind) (from_be_bytes w32 u))
  unit_due p ps fs q u unit deep small len are r =
      let k : KindView = kind_at s p.kind in
      let d : ℕ = length fs + 1 in
      let ds : List Due = dues ((p ∷ ps) ∷ fs) in
      let reach = reaches s t l ds q unit r in
      let e : Entry = first (length q) d p k in
      let inside = stands_in s t q r.begun r.front ds reach e
      (Contains-append_right r.begun (e ∷ []) e (0, omega arith, refl)) in
      let shallow = not_deep_at s t l q r.begun ds reach
      (all_append (λ (x : Entry). x.depth ≤ l.depth) r.begun (e ∷ []) r.shallow (deep, tt)) in
      let unfinished = unfinished_at s t q r.begun ds reach tt in
      let v = r.front in
      let i = begins_into s t q r.begun ds r.reads v.0 v.1.1 v.1.0 v.1.2 in
      let g = begin_into s (length q) d p ps (dues fs) v.1.1 i.0 i.2 in
      by_part ds q u (Accepts s k (from_be_bytes w32 u)) e r.front r.reached unfinished shallow small len are
      (v.0, v.1, inside, omega arith, omega arith)
      (λ a. admits_accepted s k (length q - e.at) u unit a)
      (λ a. accepted_admits s k g.0 g.3 (length q - e.at) u unit (unit4_less u len (bytes_are u are)) a)

  -- in the middle of content
  pub rest_due : (n : ℕ) (fs : List (List Part)) (q u : List ℕ) → 0 < n → (length q ≡ l.bytes → ⊥) → length u ≡ 4
      → are_bytes u ≡ true → Reading s t l (Rest n ∷ dues fs) q
      → Decides s t l q u (Fills n u) bad_padding
  rest_due n fs q u some small len are r =
      let ds : List Due = Rest n ∷ dues fs in
      let reach = reaches s t l ds q some r in
      let e : Entry = r.track.1 in
      let inside = stands_in s t q r.begun r.front ds reach e (Contains-append_left r.begun [] e r.track.2) in
      let shallow = not_deep_at s t l q r.begun ds reach
      (all_append (λ (x : Entry). x.depth ≤ l.depth) r.begun [] r.shallow tt) in
      let unfinished = unfinished_at s t q r.begun ds reach tt in
      let v = r.front in
      let at : e.at % 4 ≡ 0 = All-contains (λ (x : Entry). x.at % 4 ≡ 0) (entries s t v.0) e
      (All-from_recursion (λ (x : Entry). x.at % 4 ≡ 0) (entries s t v.0)
      (parts_units s 0 1 (item_part t ∷ []) (from_list (v.0 ∷ [])) refl)) inside in
      let c = rest_case s e (length q) n u len e.role r.track.3 some (r.reached []).units at r.track.4 in
      let d = by_part ds q u (Fills n u) e r.front r.reached unfinished shallow small len are
      (v.0, v.1, inside, r.track.3, c.0) c.1 c.2 in (
        d.0,
        λ bad rest. subst (λ (w : Why). Outcome s t l (q ++ (u ++ rest)) (Broken w (length q)))
            (for_padding n u e (length q) (kind_at s e.kind) e.role (r.reached []).units at some r.track.4 bad)
            (d.1 bad rest),
      )
    where
      for_padding : (n : ℕ) (u : List ℕ) (e : Entry) (p : ℕ) (k : KindView) (role : Role) → p % 4 ≡ 0 → e.at % 4 ≡ 0
          → 0 < n → EndsAt s (p + n) e role → (Fills n u → ⊥)
          → reason s k role (from_be_bytes w32 u) ≡ bad_padding
      for_padding n u e p k (of_content m) units at some ends bad = refl
      for_padding n u e p k of_number units at some ends bad = absurd (bad (λ few. absurd (omega (arith, ends.0))))
      for_padding n u e p k of_flag units at some ends bad = absurd ends
      for_padding n u e p k of_length units at some ends bad = absurd ends
      for_padding n u e p k of_group units at some ends bad = absurd ends

module _ (s : List KindView) (t : ℕ) (l : Bounds) where
  pub taken : (ds ds' : List Due) (q u : List ℕ) (new : List Entry) (r : Reading s t l ds q)
      → Reads s (length q) ds u new ds' → length u ≡ 4 → IsOnTrack s (r.begun ++ new) (length q + 4) ds'
      → AllUpTo (length q + 4) new → AreAt l.depth new
      → Front s t (q ++ u) × ((rest : List ℕ) → IsReached s t l (q ++ (u ++ rest)) (length q + 4))
      → Reading s t l ds' (q ++ u)
  taken ds ds' q u new r more len track low deep next =
      let far : length q + 4 ≡ length (q ++ u) = omega (arith, length-append q u) in
      record {
        begun = r.begun ++ new;
        reads = reads_then s 0 (root t) ds ds' q u r.begun new r.reads
            (subst (λ (n : ℕ). Reads s n ds u new ds') (sym (zero-add (length q))) more);
        track = subst (λ (n : ℕ). IsOnTrack s (r.begun ++ new) n ds') far track;
        low = all_append (λ (e : Entry). e.at ≤ length (q ++ u)) r.begun new
            (low_less (length q) (length (q ++ u)) r.begun (omega arith) r.low)
            (subst (λ (n : ℕ). AllUpTo n new) far low);
        shallow = all_append (λ (e : Entry). e.depth ≤ l.depth) r.begun new r.shallow deep;
        front = next.0;
        reached = λ rest. subst (λ (n : ℕ). IsReached s t l ((q ++ u) ++ rest) n) far
            (subst (λ (b : List ℕ). IsReached s t l b (length q + 4)) (sym (append_assoc q u rest)) (next.1 rest));
      }

  -- the unit of a head
  pub reading_unit : (p : Part) (ps : List Part) (fs : List (List Part)) (q u : List ℕ) (x : ℕ) → word x ≡ u
      → IsUnitFirst (lead_of (kind_at s p.kind)) → Accepts s (kind_at s p.kind) x → length fs + 1 ≤ l.depth
      → Front s t (q ++ u) × ((rest : List ℕ) → IsReached s t l (q ++ (u ++ rest)) (length q + 4))
      → Reading s t l (dues ((p ∷ ps) ∷ fs)) q
      → Reading s t l (dues (parts (kind_at s p.kind) (head_of s (kind_at s p.kind) x) ∷ ps ∷ fs)) (q ++ u)
  reading_unit p ps fs q u x is unit accepts deep next r =
      let k : KindView = kind_at s p.kind in
      let h : Head = head_of s k x in
      let new : List Entry = shown (length q) (length fs + 1) p k h in
      let far : length fs + 1 + 1 ≡ length (ps ∷ fs) + 1 = omega arith in
      let more : Reads s (length q) (dues ((p ∷ ps) ∷ fs)) u new (dues (parts k h ∷ ps ∷ fs)) =
      subst (λ (b : List ℕ). Reads s (length q) (dues ((p ∷ ps) ∷ fs)) b new (dues (parts k h ∷ ps ∷ fs))) is
      (subst (λ (n : ℕ). Reads s (length q) (dues ((p ∷ ps) ∷ fs)) (word x) new (Frame n (parts k h) ∷ dues (ps ∷ fs)))
      far (reads_unit s (length q) (length fs + 1) p ps (dues fs) x unit accepts)) in
      taken (dues ((p ∷ ps) ∷ fs)) (dues (parts k h ∷ ps ∷ fs)) q u new r more
      (ap (λ (b : List ℕ). length b) (sym is) ∙ unit4-length x)
      (dues_track s (r.begun ++ new) (length q + 4) (parts k h ∷ ps ∷ fs))
      (shown_low (length q) (length fs + 1) p k h) (shown_deep l.depth (length q) (length fs + 1) p k h deep) next

  -- the length of content
  pub reading_length : (p : Part) (ps : List Part) (fs : List (List Part)) (q u : List ℕ) (x : ℕ) → word x ≡ u
      → IsLengthFirst (lead_of (kind_at s p.kind)) → Accepts s (kind_at s p.kind) x → length fs + 1 ≤ l.depth
      → Front s t (q ++ u) × ((rest : List ℕ) → IsReached s t l (q ++ (u ++ rest)) (length q + 4))
      → Reading s t l (dues ((p ∷ ps) ∷ fs)) q
      → Reading s t l (Rest x ∷ dues (ps ∷ fs)) (q ++ u)
  reading_length p ps fs q u x is unit accepts deep next r =
      let d : ℕ = length fs + 1 in
      let new : List Entry = counted (length q) d p x in
      let e : Entry = entry (length q + 4) (x + length (pad x)) d p (of_content x) in
      let there : Contains new e = (1, omega arith, refl) in
      let more : Reads s (length q) (dues ((p ∷ ps) ∷ fs)) u new (Rest x ∷ dues (ps ∷ fs)) =
      subst (λ (b : List ℕ). Reads s (length q) (dues ((p ∷ ps) ∷ fs)) b new (Rest x ∷ dues (ps ∷ fs))) is
      (reads_length s (length q) d p ps (dues fs) x unit accepts) in
      taken (dues ((p ∷ ps) ∷ fs)) (Rest x ∷ dues (ps ∷ fs)) q u new r more
      (ap (λ (b : List ℕ). length b) (sym is) ∙ unit4-length x) (
        dues_frames (ps ∷ fs),
        e,
        Contains-append_right r.begun new e there,
        omega arith,
        (refl, refl),
        omega
            (arith, dues_length (ps ∷ fs)),
      ) (omega arith, (omega arith, tt)) (deep, (deep, tt)) next

  -- four bytes of content
  pub reading_more : (n : ℕ) (fs : List (List Part)) (q u : List ℕ) → 4 ≤ n → length u ≡ 4 → are_bytes u ≡ true
      → Front s t (q ++ u) × ((rest : List ℕ) → IsReached s t l (q ++ (u ++ rest)) (length q + 4))
      → Reading s t l (Rest n ∷ dues fs) q → Reading s t l (Rest (n - 4) ∷ dues fs) (q ++ u)
  reading_more n fs q u many len are next r =
      let same : length q + n ≡ length q + 4 + (n - 4) = omega arith in
      let e : Entry = r.track.1 in
      taken (Rest n ∷ dues fs) (Rest (n - 4) ∷ dues fs) q u [] r
      (reads_rest s (length q) n (dues fs) u many len (bytes_are u are)) len (
        r.track.0,
        e,
        subst (λ (x : List Entry). Contains x e) (sym (append-nil r.begun)) r.track.2,
        omega
            (arith, r.track.3),
        subst (λ (m : ℕ). EndsAt s m e e.role) same r.track.4,
        r.track.5,
      )
      tt tt next

  -- its last bytes, and zeros
  pub reading_last : (n : ℕ) (fs : List (List Part)) (q u : List ℕ) → n < 4 → length u ≡ 4 → are_bytes u ≡ true
      → drop n u ≡ pad n
      → Front s t (q ++ u) × ((rest : List ℕ) → IsReached s t l (q ++ (u ++ rest)) (length q + 4))
      → Reading s t l (Rest n ∷ dues fs) q → Reading s t l (dues fs) (q ++ u)
  reading_last n fs q u few len are zeros next r =
      let same : take n u ++ pad n ≡ u = ap (λ (z : List ℕ). take n u ++ z) (sym zeros) ∙ take-append-drop n u in
      let read = reads_last s (length q) n (dues fs) (take n u) (omega (arith, length-take n u))
      (AreBytes-take n u (bytes_are u are)) in
      taken (Rest n ∷ dues fs) (dues fs) q u [] r
      (subst (λ (b : List ℕ). Reads s (length q) (Rest n ∷ dues fs) b [] (dues fs)) same read) len
      (dues_track s (r.begun ++ []) (length q + 4) fs) tt tt next

  -- ---- where reading stands

  pub still_due : (p : Part) (ps : List Part) (fs : List (List Part)) (q : List ℕ)
      → HasUnit (lead_of (kind_at s p.kind)) → length fs + 1 ≤ l.depth → Reading s t l (dues ((p ∷ ps) ∷ fs)) q
      → (IsDeep s t l q → ⊥) × IsUnfinished s t q
  still_due p ps fs q unit deep r =
      let ds : List Due = dues ((p ∷ ps) ∷ fs) in
      let reach = reaches s t l ds q unit r in
      let e : Entry = first (length q) (length fs + 1) p (kind_at s p.kind) in (
        not_deep_at s t l q r.begun ds reach
            (all_append (λ (x : Entry). x.depth ≤ l.depth) r.begun (e ∷ []) r.shallow (deep, tt)),
        unfinished_at s t q
            r.begun ds reach tt,
      )

  pub still_rest : (n : ℕ) (fs : List (List Part)) (q : List ℕ) → 0 < n → Reading s t l (Rest n ∷ dues fs) q
      → (IsDeep s t l q → ⊥) × IsUnfinished s t q
  still_rest n fs q some r =
      let ds : List Due = Rest n ∷ dues fs in
      let reach = reaches s t l ds q some r in (
        not_deep_at s t l q r.begun ds reach
            (all_append (λ (x : Entry). x.depth ≤ l.depth) r.begun [] r.shallow tt),
        unfinished_at s t q r.begun ds reach
            tt,
      )

  pub ends_deep : (p : Part) (ps : List Part) (fs : List (List Part)) (q rest : List ℕ) → l.depth < length fs + 1
      → Reading s t l (dues ((p ∷ ps) ∷ fs)) q → Outcome s t l (q ++ rest) (TooDeep (length q))
  ends_deep p ps fs q rest deep r =
      let v = r.front in
      let i = begins_into s t q r.begun (dues ((p ∷ ps) ∷ fs)) r.reads v.0 v.1.1 v.1.0 v.1.2 in
      let g = begin_into s (length q) (length fs + 1) p ps (dues fs) v.1.1 i.0 i.2 in
      let new : List Entry = shown (length q) (length fs + 1) p (kind_at s p.kind) g.0 in
      let e = shows (length q) (length fs + 1) p (kind_at s p.kind) g.0 in
      let inside : Contains (entries s t v.0) e.0 =
      subst (λ (x : List Entry). Contains x e.0) (sym (i.1 ∙ ap (λ (x : List Entry). r.begun ++ x) g.5))
      (Contains-append_right r.begun (new ++ g.2) e.0 (Contains-append_left new g.2 e.0 e.1)) in
      outcome_deep s t l q rest (r.reached rest) (v.0, v.1, e.0, inside, omega (arith, e.2), omega (arith, e.3))

  pub ends_whole : (q rest : List ℕ) (v : Tree) → Fits s t v → bytes_of s t v ≡ q → Reading s t l [] q
      → Outcome s t l (q ++ rest) (Whole v (length q))
  ends_whole q rest v f e r =
      let reach = reaches s t l [] q tt r in
      let shallow = not_deep_at s t l q r.begun [] reach
      (all_append (λ (x : Entry). x.depth ≤ l.depth) r.begun [] r.shallow tt) in
      outcome_whole s t l q rest (r.reached rest) shallow v f e
