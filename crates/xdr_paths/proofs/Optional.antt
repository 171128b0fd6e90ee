-- Optional data that is there is its item.
use Rattle.std.proofs.Common.{◌≡◌, ℕ, ◌+◌, ◌^◌, ◌<◌, List, [], ◌∷◌, refl, sym, ap, subst, ◌∙◌}
use Rattle.std.proofs.Common.{arith, take, drop}
use Rattle.std.proofs.lemmas.Bool.{false≢true}
use Rattle.xdr_units.specs.Numbers.{word}
use Rattle.xdr_types.specs.Kinds as xdr
use Rattle.xdr_types.specs.Kinds.{KindView, Part, kind_at}
use Rattle.xdr_types.specs.Tree as value
use Rattle.xdr_types.specs.Tree.{Head, Values}
use Rattle.xdr_types.specs.Fits.{item_part}
use Rattle.xdr_types.specs.Within.{Bounds}
use Rattle.xdr_laws.specs.Owed.{flag}
use Rattle.xdr_laws.proofs.Legal.{IsLegal}
use Rattle.xdr_paths.specs.Nodes.{Node, settled, settled_at, item_of}
use Rattle.xdr_paths.specs.Private.Standing.{Spells, StandsAt, IsPlain}
use Rattle.xdr_paths.specs.declared.spot.Spot.{Spot}
use Rattle.xdr_paths.proofs.Standing.{first_of}
use Rattle.xdr_paths.proofs.Named.{legal_at, head_at, inner_at}

settled_plain : (kinds : List KindView) (place depth : ℕ) (p : Part) (h : Head) (inner : Values)
    → (h ≡ value.present → ⊥)
    → settled_at kinds place depth p h inner
    ≡ record { place = place; depth = depth; part = p; head = h; inner = inner }
settled_plain kinds place depth p value.present inner not_so = absurd (not_so refl)
settled_plain kinds place depth p _ inner not_so = refl

-- only an optional's item is there
plain_absent : (kinds : List KindView) (k : KindView) → IsPlain k → IsLegal kinds k value.present → ⊥
plain_absent kinds (xdr.maybe item) plain l = plain
plain_absent kinds _ plain l = l

module _ (kinds : List KindView) (limits : Bounds) (bytes : List ℕ) (s : Spot) (n : Node)
    (st : StandsAt kinds limits bytes s n) where
  -- another kind is no optional
  pub other_settled : (k : KindView) → k ≡ kind_at kinds s.kind.place → IsPlain k → settled kinds n ≡ n
  other_settled k ke plain =
      settled_plain kinds n.place n.depth n.part n.head n.inner
      (λ e. plain_absent kinds k plain
      (subst (λ (h : Head). IsLegal kinds k h) e (legal_at kinds limits bytes s n st k ke)))

  module _ (item x : ℕ) (ke : xdr.maybe item ≡ kind_at kinds s.kind.place) (less : x < 2 ^ 32)
      (unit : word x ≡ take 4 (drop s.at bytes)) where
    -- the item is not there
    pub absent_settled : x ≡ 0 → settled kinds n ≡ n
    absent_settled none =
        let h : value.absent ≡ n.head =
        sym (ap flag none) ∙ (head_at kinds limits bytes s n st (xdr.maybe item) x ke tt less unit).1 in
        settled_plain kinds n.place n.depth n.part n.head n.inner
        (λ e. let bad : value.absent ≡ value.present = h ∙ e in absurd cc)

    -- it is
    pub present_settled : (x ≡ 0 → ⊥) → (f : Spot) → f.at ≡ s.at + 4 → f.depth ≡ s.depth + 1
        → f.kind.place ≡ item → f.name.now ≡ []
        → (m : Node) × StandsAt kinds limits bytes f m × (settled kinds m ≡ settled kinds n)
    present_settled some f at_is depth_is kind_is name_is =
        let a = head_at kinds limits bytes s n st (xdr.maybe item) x ke tt less unit in
        let one : x ≡ 1 = omega (arith, a.0, some) in
        let h : n.head ≡ value.present = sym a.1 ∙ ap flag one in
        go n.inner refl h (inner_at kinds limits bytes s n st (xdr.maybe item) value.present ke h).0
      where
        go : (inner : Values) → n.inner ≡ inner → n.head ≡ value.present
            → Spells kinds limits bytes (s.at + 4) (s.depth + 1) (item_part item ∷ []) inner
            → (m : Node) × StandsAt kinds limits bytes f m × (settled kinds m ≡ settled kinds n)
        go value.none e h sp = absurd (false≢true sp.fits)
        go (value.node g v w) e h sp =
            let m : Node =
            record { place = s.at + 4; depth = s.depth + 1; part = item_part item; head = g; inner = v } in
            let of : item_of (kind_at kinds n.part.kind) ≡ item =
            ap (λ (t : ℕ). item_of (kind_at kinds t)) (sym st.0.kind) ∙ ap item_of (sym ke) in
            let opened : settled kinds n
            ≡ settled_at kinds (n.place + 4) (n.depth + 1) (item_part (item_of (kind_at kinds n.part.kind))) g v =
            ap (λ (i : Head). settled_at kinds n.place n.depth n.part i n.inner) h
            ∙ ap (λ (i : Values). settled_at kinds n.place n.depth n.part value.present i) e in
            let moved : settled_at kinds (n.place + 4) (n.depth + 1) (item_part (item_of (kind_at kinds n.part.kind)))
            g v ≡ settled kinds m =
            ap (λ (a : ℕ). settled_at kinds (a + 4) (n.depth + 1)
            (item_part (item_of (kind_at kinds n.part.kind))) g v) (sym st.0.place)
            ∙ ap (λ (d : ℕ). settled_at kinds (s.at + 4) (d + 1)
            (item_part (item_of (kind_at kinds n.part.kind))) g v) (sym st.0.depth)
            ∙ ap (λ (t : ℕ). settled_at kinds (s.at + 4) (s.depth + 1) (item_part t) g v) of in (
              m,
              (
                record { place = at_is; depth = depth_is; kind = kind_is; name = name_is },
                first_of kinds limits bytes (s.at + 4) (s.depth + 1) (item_part item) [] g v w sp,
              ),
              sym (opened ∙ moved),
            )
