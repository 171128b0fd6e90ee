-- The values inside a value, and where their bytes stand.
use Rattle.std.proofs.Common.{◌≡◌, ℕ, ◌+◌, ◌<◌, ◌≤◌, max, List, [], ◌∷◌, ◌++◌, length, drop, refl, sym, ap}
use Rattle.std.proofs.Common.{true}
use Rattle.std.proofs.Common.{subst, ◌∙◌, append_assoc, append-nil, arith}
use Rattle.std.proofs.Math.Nat.{le-max_left, le-max_right}
use Rattle.std.proofs.lemmas.List.{length-append, length-drop, drop_at, drop-drop}
use Rattle.xdr_types.specs.Kinds.{KindView, Part, kind_at}
use Rattle.xdr_types.specs.Tree as value
use Rattle.xdr_types.specs.Tree.{Head, Values, Tree, depth_of}
use Rattle.xdr_types.specs.Fits.{Fits, fits, parts}
use Rattle.xdr_types.specs.Spelling.{own, spelling, bytes_of}
use Rattle.xdr_types.specs.Within.{Bounds, AreBounds}
use Rattle.xdr_types.specs.Outcome.{Outcome, Whole}
use Rattle.xdr_laws.proofs.Legal.{IsLegal, fit_node, node_fits, both}
use Rattle.xdr_laws.proofs.GoesOn.{legal_known}
use Rattle.xdr_laws.proofs.Whole.{whole_exactly}
use Rattle.xdr_laws.proofs.OneOutcome.{one_whole}
use Rattle.xdr_paths.specs.Nodes.{Node}
use Rattle.xdr_paths.specs.Private.Standing.{Spells, Stands, StandsAs}

-- the bytes behind a stretch are the rest
pub drop_behind : (bytes q c : List ℕ) (at n : ℕ) → drop at bytes ≡ q ++ c → length q ≡ n → drop (at + n) bytes ≡ c
drop_behind bytes q c at n e len = sym (drop-drop n at bytes) ∙ ap (λ (l : List ℕ). drop n l) e ∙ drop_at q c n len

-- there are as many bytes as a stretch has
pub there : (bytes q c : List ℕ) (at n : ℕ) → drop at bytes ≡ q ++ c → length q ≡ n → at ≤ length bytes
    → at + n ≤ length bytes
there bytes q c at n e len within =
    omega (arith, length-drop at bytes, ap (λ (l : List ℕ). length l) e, length-append q c)

module _ (kinds : List KindView) (limits : Bounds) (bytes : List ℕ) where
  -- the first of several values
  pub first_of : (place depth : ℕ) (p : Part) (ps : List Part) (h : Head) (v w : Values)
      → Spells kinds limits bytes place depth (p ∷ ps) (value.node h v w)
      → Stands kinds limits bytes (record { place = place; depth = depth; part = p; head = h; inner = v })
  first_of place depth p ps h v w s =
      let k : KindView = kind_at kinds p.kind in
      let f = fit_node kinds p ps h v w s.fits in
      let q : List ℕ = own k h ++ spelling kinds (parts k h) v in
      let deep = le-max_right (depth_of w) (depth_of v + 1) in
      let flat : max 0 (depth_of v + 1) ≡ depth_of v + 1 = omega arith in
      record {
        fits = node_fits kinds p [] h v value.none f.0 f.1 refl;
        more = spelling kinds ps w ++ s.more;
        spelled = s.spelled ∙ append_assoc q (spelling kinds ps w) s.more
            ∙ ap (λ (x : List ℕ). x ++ (spelling kinds ps w ++ s.more)) (sym (append-nil q));
        within = s.within;
        some = s.some;
        low = omega (arith, s.low);
        small = s.small;
      }

  -- the others
  pub rest_of : (place depth : ℕ) (p : Part) (ps : List Part) (h : Head) (v w : Values)
      → Spells kinds limits bytes place depth (p ∷ ps) (value.node h v w)
      → Spells kinds limits bytes (place + length (own (kind_at kinds p.kind) h) + length
      (spelling kinds (parts (kind_at kinds p.kind) h) v)) depth ps w
  rest_of place depth p ps h v w s =
      let k : KindView = kind_at kinds p.kind in
      let f = fit_node kinds p ps h v w s.fits in
      let q : List ℕ = own k h ++ spelling kinds (parts k h) v in
      let n : ℕ = length q in
      let len : n ≡ length (own k h) + length (spelling kinds (parts k h) v) =
      length-append (own k h) (spelling kinds (parts k h) v) in
      let e : drop place bytes ≡ q ++ (spelling kinds ps w ++ s.more) =
      s.spelled ∙ append_assoc q (spelling kinds ps w) s.more in
      let far : place + n ≡ place + length (own k h) + length (spelling kinds (parts k h) v) = omega (arith, len) in
      let deep = le-max_left (depth_of w) (depth_of v + 1) in
      subst (λ (x : ℕ). Spells kinds limits bytes x depth ps w) far (record {
        fits = f.2;
        more = s.more;
        spelled = drop_behind bytes q (spelling kinds ps w ++ s.more) place n e refl;
        within = there bytes q (spelling kinds ps w ++ s.more) place n e refl s.within;
        some = s.some;
        low = omega (arith, s.low);
        small = s.small;
      })

  module _ (n : Node) (s : Stands kinds limits bytes n) where
    abbrev K : KindView
    K = kind_at kinds n.part.kind

    abbrev Own : List ℕ
    Own = own K n.head

    abbrev Inner : List ℕ
    Inner = spelling kinds (parts K n.head) n.inner

    -- its head is a legal one
    pub legal_of : IsLegal kinds K n.head
    legal_of = (fit_node kinds n.part [] n.head n.inner value.none s.fits).0

    -- its kind is one of the schema
    pub known_of : n.part.kind < length kinds
    known_of = legal_known kinds n.part.kind n.head legal_of

    -- its bytes come first
    pub whole_front : drop n.place bytes ≡ (Own ++ Inner) ++ s.more
    whole_front = s.spelled ∙ ap (λ (x : List ℕ). x ++ s.more) (append-nil (Own ++ Inner))

    -- and so do those before its parts
    pub own_front : drop n.place bytes ≡ Own ++ (Inner ++ s.more)
    own_front = whole_front ∙ append_assoc Own Inner s.more

    -- they are there
    pub own_there : n.place + length Own ≤ length bytes
    own_there = there bytes Own (Inner ++ s.more) n.place (length Own) own_front refl s.within

    pub all_there : n.place + length (Own ++ Inner) ≤ length bytes
    all_there = there bytes (Own ++ Inner) s.more n.place (length (Own ++ Inner)) whole_front refl s.within

    -- the values inside it
    pub inner_of : Spells kinds limits bytes (n.place + length Own) (n.depth + 1) (parts K n.head) n.inner
    inner_of =
        let deep = le-max_right (depth_of value.none) (depth_of n.inner + 1) in
        record {
          fits = (fit_node kinds n.part [] n.head n.inner value.none s.fits).1;
          more = s.more;
          spelled = drop_behind bytes Own (Inner ++ s.more) n.place (length Own) own_front refl;
          within = own_there;
          some = omega arith;
          low = omega (arith, s.low);
          small = s.small;
        }

    -- it is not deeper than the limit
    pub shallow_of : n.depth ≤ limits.depth
    shallow_of = let deep = le-max_right (depth_of value.none) (depth_of n.inner + 1) in omega (arith, s.low)

    -- it is a value within the limits, whose bytes begin there
    pub outcome_of : AreBounds limits.depth limits.bytes
        → Outcome kinds n.part.kind limits (drop n.place bytes) (Whole (n.head, n.inner) (length (Own ++ Inner)))
    outcome_of range =
        let v : Tree = (n.head, n.inner) in
        let deep = le-max_right (depth_of value.none) (depth_of n.inner + 1) in
        let flat : max 0 (depth_of n.inner + 1) ≡ depth_of n.inner + 1 = omega arith in
        let f : fits kinds n.part.kind v ≡ true = (both (fits kinds n.part.kind v) true s.fits).0 in
        (whole_exactly kinds n.part.kind limits (drop n.place bytes) v (length (Own ++ Inner)) range.units).1
        ((f, (omega (arith, s.low), omega (arith, s.small, all_there))), s.more, whole_front, refl)

    -- what is found to begin there has as many bytes
    pub ends_at : AreBounds limits.depth limits.bytes → (v : Tree) (used : ℕ)
        → Outcome kinds n.part.kind limits (drop n.place bytes) (Whole v used) → used ≡ length (Own ++ Inner)
    ends_at range v used o =
        let t : ℕ = n.part.kind in
        let b : List ℕ = drop n.place bytes in
        ((whole_exactly kinds t limits b v used range.units).0 o).3
        ∙ ap (λ (w : Tree). length (bytes_of kinds t w))
        (one_whole kinds t limits b v (n.head, n.inner) used (length (Own ++ Inner)) o (outcome_of range))

    -- it is a value of its kind
    pub fits_of : Fits kinds n.part.kind (n.head, n.inner)
    fits_of = (both (fits kinds n.part.kind (n.head, n.inner)) true s.fits).0

  module _ (n : Node) (kind at : ℕ) (s : StandsAs kinds limits bytes kind at n) where
    -- where all values of the kind have one size
    pub sized_end : (size : ℕ) → ((t : Tree) → Fits kinds kind t → length (bytes_of kinds kind t) ≡ size)
        → at + size ≡ at + length (bytes_of kinds kind (n.head, n.inner))
    sized_end size all =
        let f : Fits kinds kind (n.head, n.inner) =
        subst (λ (t : ℕ). Fits kinds t (n.head, n.inner)) s.2 (fits_of n s.0) in
        ap (λ (k : ℕ). at + k) (sym (all (n.head, n.inner) f))

    -- where one was found to begin there
    pub judged_end : AreBounds limits.depth limits.bytes → (v : Tree) (used : ℕ)
        → Outcome kinds kind limits (drop at bytes) (Whole v used)
        → at + used ≡ at + length (bytes_of kinds kind (n.head, n.inner))
    judged_end range v used o =
        let here : Outcome kinds n.part.kind limits (drop n.place bytes) (Whole v used) =
        subst (λ (a : ℕ). Outcome kinds n.part.kind limits (drop a bytes) (Whole v used)) (sym s.1)
        (subst (λ (t : ℕ). Outcome kinds t limits (drop at bytes) (Whole v used)) (sym s.2) o) in
        ap (λ (k : ℕ). at + k) (ends_at n s.0 range v used here
        ∙ ap (λ (t : ℕ). length (bytes_of kinds t (n.head, n.inner))) s.2)
