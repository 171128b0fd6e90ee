-- Where content, a void and a union end.
use Rattle.std.proofs.Common.{◌≡◌, ℕ, ◌+◌, ◌^◌, ◌<◌, ◌≤◌, ℤ, List, [], ◌∷◌, ◌++◌, length, take, drop, refl, sym, ap}
use Rattle.std.proofs.Common.{subst, ◌∙◌, append-nil, arith}
use Rattle.std.specs.Prelude.{Option, Some}
use Rattle.std.proofs.lemmas.Bool.{false≢true}
use Rattle.std.proofs.lemmas.List.{length-append, length-replicate, take-append-drop}
use Rattle.xdr_units.specs.Numbers.{word, pad, padded, gap, num4}
use Rattle.xdr_types.specs.Kinds as xdr
use Rattle.xdr_types.specs.Kinds.{KindView, Part, kind_at}
use Rattle.xdr_types.specs.Tree as value
use Rattle.xdr_types.specs.Tree.{Head, Values}
use Rattle.xdr_types.specs.Fits.{parts, part_in, optional_part}
use Rattle.xdr_types.specs.Outcome.{number_in}
use Rattle.xdr_types.specs.Spelling.{own, spelling, bytes_of}
use Rattle.xdr_types.specs.Within.{Bounds}
use Rattle.xdr_laws.proofs.Legal.{IsLegal}
use Rattle.xdr_paths.specs.Nodes.{Node}
use Rattle.xdr_paths.specs.Private.Own.{IsForm}
use Rattle.xdr_paths.specs.Private.Standing.{Spells, StandsAs, StandsAt, IsChoice}
use Rattle.xdr_paths.specs.declared.own.Form.TheVariants.{Counted}
use Rattle.xdr_paths.specs.declared.spot.Spot.{Spot}
use Rattle.xdr_paths.proofs.Standing.{first_of, all_there, known_of}
use Rattle.xdr_paths.proofs.OwnParts.{same_unit}
use Rattle.xdr_paths.proofs.Named.{legal_at, front_at, head_at, unit_there, choice_of, choice_at}

-- ---- content

bytes_long : (bs : List ℕ) (x : ℕ) → x ≡ length bs → length ((word (length bs) ++ padded bs) ++ []) ≡ 4 + (x + gap x)
bytes_long bs x same = omega (
  arith,
  same,
  ap (λ (n : ℕ). gap n) same,
  length-replicate {A = ℕ} (gap (length bs)) 0,
  length-append bs (pad (length bs)),
  length-append (word (length bs)) (padded bs),
  length-append (word (length bs) ++ padded bs) [],
)

-- content has its length, so many bytes, and those that fill its last unit
counted_long : (s : List KindView) (k : KindView) (h : Head) (v : Values) (x : ℕ) (c y : List ℕ) → IsForm k Counted
    → IsLegal s k h → x < 2 ^ 32 → word x ++ c ≡ own k h ++ y
    → length (own k h ++ spelling s (parts k h) v) ≡ 4 + (x + gap x)
counted_long s (xdr.opaque_up_to max) (value.bytes bs) v x c y f l less e = bytes_long bs x
    (same_unit x (length bs) c (padded bs ++ y) less l.1 e)
counted_long s (xdr.text max) (value.bytes bs) v x c y f l less e = bytes_long bs x
    (same_unit x (length bs) c (padded bs ++ y) less l.1 e)
counted_long s (xdr.opaque_up_to max) _ v x c y f l less e = absurd l
counted_long s (xdr.text max) _ v x c y f l less e = absurd l
counted_long s _ h v x c y f l less e = absurd f

-- a void has no bytes
void_long : (s : List KindView) (h : Head) (v : Values) → IsLegal s xdr.nothing h
    → length (own xdr.nothing h ++ spelling s (parts xdr.nothing h) v) ≡ 0
void_long s value.nothing v l = refl
void_long s _ v l = absurd l

-- the spot of a node
abbrev spot_of : (kind at : ℕ) → Node → Spot
spot_of kind at n = record {
  at = at;
  depth = n.depth;
  kind = record { place = kind };
  name = record { ref_ptr = (0, 0); now = n.part.name };
}

module _ (kinds : List KindView) (limits : Bounds) (bytes : List ℕ) (kind at : ℕ) (n : Node)
    (is : StandsAs kinds limits bytes kind at n) where
  stands : StandsAt kinds limits bytes (spot_of kind at n) n
  stands = (record { place = sym is.1; depth = refl; kind = sym is.2; name = refl }, is.0)

  -- its kind is one of the schema
  pub has_kind : kind < length kinds
  has_kind = subst (λ (t : ℕ). t < length kinds) is.2 (known_of kinds limits bytes n is.0)

  -- its bytes are there
  pub bytes_there : at + length (bytes_of kinds kind (n.head, n.inner)) ≤ length bytes
  bytes_there =
      subst (λ (a : ℕ). a + length (bytes_of kinds kind (n.head, n.inner)) ≤ length bytes) is.1
      (subst (λ (t : ℕ). n.place + length (bytes_of kinds t (n.head, n.inner)) ≤ length bytes) is.2
      (all_there kinds limits bytes n is.0))

  module _ (k : KindView) (ke : k ≡ kind_at kinds kind) where
    legal : IsLegal kinds k n.head
    legal = legal_at kinds limits bytes (spot_of kind at n) n stands k ke

    pub counted_end : (x : ℕ) → IsForm k Counted → x < 2 ^ 32 → word x ≡ take 4 (drop at bytes)
        → length (bytes_of kinds kind (n.head, n.inner)) ≡ 4 + (x + gap x)
    counted_end x f less unit =
        let g = front_at kinds limits bytes (spot_of kind at n) n stands k ke in
        let whole : word x ++ drop 4 (drop at bytes) ≡ own k n.head ++ g.0 =
        ap (λ (l : List ℕ). l ++ drop 4 (drop at bytes)) unit ∙ take-append-drop 4 (drop at bytes) ∙ g.1 in
        subst (λ (q : KindView). length (own q n.head ++ spelling kinds (parts q n.head) n.inner) ≡ 4 + (x + gap x)) ke
        (counted_long kinds k n.head n.inner x (drop 4 (drop at bytes)) g.0 f legal less whole)

    pub void_end : k ≡ xdr.nothing → length (bytes_of kinds kind (n.head, n.inner)) ≡ 0
    void_end void =
        let l : IsLegal kinds xdr.nothing n.head = subst (λ (q : KindView). IsLegal kinds q n.head) void legal in
        subst (λ (q : KindView). length (own q n.head ++ spelling kinds (parts q n.head) n.inner) ≡ 0) (sym void ∙ ke)
        (void_long kinds n.head n.inner l)

  -- ---- a union

  one_inside : (place depth : ℕ) (p : Part) (v : Values) → Spells kinds limits bytes place depth (p ∷ []) v
      → (m : Node) × StandsAs kinds limits bytes p.kind place m
      × (spelling kinds (p ∷ []) v ≡ bytes_of kinds p.kind (m.head, m.inner))
  one_inside place depth p value.none s = absurd (false≢true s.fits)
  one_inside place depth p (value.node h v w) s = (
    record { place = place; depth = depth; part = p; head = h; inner = v },
    (first_of kinds limits bytes place depth p [] h v w s, refl, refl),
    append-nil (bytes_of kinds p.kind (h, v)),
  )

  module _ (tag x : ℕ) (choice : IsChoice (kind_at kinds kind) tag) (less : x < 2 ^ 32)
      (unit : word x ≡ take 4 (drop at bytes)) (p : Part)
      (some : Some p ≡ part_in (kind_at kinds kind) (number_in (kind_at kinds tag) x)) where
    -- the part of its arm stands behind its discriminant, and ends where it ends
    pub arm_end : (m : Node) × StandsAs kinds limits bytes p.kind (at + 4) m
        × (length (bytes_of kinds kind (n.head, n.inner)) ≡ 4 + length (bytes_of kinds p.kind (m.head, m.inner)))
    arm_end =
        let c = choice_of kinds limits bytes (kind_at kinds kind) tag choice in
        let K : KindView = kind_at kinds kind in
        let k : KindView = xdr.choice tag c.0 c.1 in
        let z : ℤ = number_in (kind_at kinds tag) x in
        let s : Spot = spot_of kind at n in
        let h : n.head ≡ value.tag z = sym (head_at kinds limits bytes s n stands k x c.2 tt less unit).1 in
        let i = choice_at kinds limits bytes s n stands tag x choice less unit (Some p) some in
        let o = one_inside (at + 4) (n.depth + 1) p n.inner i.0 in
        let picked : part_in k z ≡ Some p = ap (λ (f : KindView). part_in f z) c.2 ∙ sym some in
        let inner : spelling kinds (parts k (value.tag z)) n.inner ≡ bytes_of kinds p.kind (o.0.head, o.0.inner) =
        ap (λ (q : Option Part). spelling kinds (optional_part q) n.inner) picked ∙ o.2 in
        let long : length (own k (value.tag z) ++ spelling kinds (parts k (value.tag z)) n.inner)
        ≡ 4 + length (bytes_of kinds p.kind (o.0.head, o.0.inner)) =
        omega (
          arith,
          length-append (num4 z) (spelling kinds (parts k (value.tag z)) n.inner),
          ap (λ (l : List ℕ). length l) inner,
        ) in (
          o.0,
          o.1,
          ap (λ (g : Head). length (own K g ++ spelling kinds (parts K g) n.inner)) h
              ∙ ap (λ (f : KindView). length (own f (value.tag z) ++ spelling kinds (parts f (value.tag z)) n.inner))
              (sym c.2)
              ∙ long,
        )

  -- the discriminant of a union is there
  pub tag_there : (tag : ℕ) → IsChoice (kind_at kinds kind) tag → at + 4 ≤ length bytes
  tag_there tag choice =
      let c = choice_of kinds limits bytes (kind_at kinds kind) tag choice in
      unit_there kinds limits bytes (spot_of kind at n) n stands (xdr.choice tag c.0 c.1) c.2 tt

  -- and so is the length of content
  pub length_there : (k : KindView) → k ≡ kind_at kinds kind → IsForm k Counted → at + 4 ≤ length bytes
  length_there k ke f = by_kind k ke f
    where
      by_kind : (k : KindView) → k ≡ kind_at kinds kind → IsForm k Counted → at + 4 ≤ length bytes
      by_kind (xdr.opaque_up_to max) ke f =
          unit_there kinds limits bytes (spot_of kind at n) n stands (xdr.opaque_up_to max) ke tt
      by_kind (xdr.text max) ke f = unit_there kinds limits bytes (spot_of kind at n) n stands (xdr.text max) ke tt
      by_kind _ ke f = absurd f
