-- How holes are filled, step by step.
use Rattle.std.proofs.Common.{◌≡◌, ℕ, ◌+◌, ◌≤◌, ◌&&◌, true, false, List, [], ◌∷◌, ◌++◌, refl, ap, sym}
use Rattle.std.proofs.Common.{◌∙◌, subst, arith, append-nil, append_assoc}
use Rattle.std.proofs.lemmas.Bool.{false≢true, and_from as all}
use Rattle.xdr_types.specs.Kinds.{KindView, Part, kind_at}
use Rattle.xdr_types.specs.Tree as value
use Rattle.xdr_types.specs.Tree.{Head, Values, Tree, depth, depth_of}
use Rattle.xdr_types.specs.Fits.{Fits, fit, is_legal, parts, item_part}
use Rattle.xdr_types.specs.Spelling.{own, spelling, bytes_of}
use Rattle.xdr_types.proofs.Unique.{both}
use Rattle.xdr_writer.specs.Items.{ItemView, NodeItem, items}
use Rattle.xdr_writer.specs.ItemsOf.{own_items, node_items_in, items_of}
use Rattle.xdr_writer.proofs.Joined.{items_joined}
use Rattle.xdr_filling.specs.Holes.{Hole, hole, Fill, Filled, Goes, items_by, bytes_by}
use Rattle.xdr_filling.specs.Filled.{IsValue, root}
use Rattle.xdr_filling.specs.Private.Makes.{IsNode}

never : {A : Type 0} → false ≡ true → A
never e = absurd (false≢true e)

four : {A : Type 0} (a b c d : List A) → (a ++ (b ++ c)) ++ d ≡ a ++ (b ++ (c ++ d))
four {A} a b c d = append_assoc a (b ++ c) d ∙ ap (λ (x : List A). a ++ x) (append_assoc b c d)

module _ (s : List KindView) where
  pub stays : (hs : List Hole) → Goes s hs hs [] []
  stays hs vs f = record { values = vs; fill = f; told = refl; spelled = refl }

  pub goes_on : (a b c : List Hole) (is js : List ItemView) (x y : List ℕ) → Goes s a b is x → Goes s b c js y
      → Goes s a c (is ++ js) (x ++ y)
  goes_on a b c is js x y g h vs f =
      let k = h vs f in
      let l = g k.values k.fill in record {
        values = l.values;
        fill = l.fill;
        told = l.told ∙ ap (λ (z : List ItemView). is ++ z) k.told
            ∙ sym (append_assoc is js (items_by s c vs));
        spelled = l.spelled ∙ ap (λ (z : List ℕ). x ++ z) k.spelled ∙ sym (append_assoc x y (bytes_by s c vs));
      }

  -- nothing comes between
  pub goes_by : (a b c : List Hole) (is : List ItemView) (x : List ℕ) → Goes s a b is x → Goes s b c [] []
      → Goes s a c is x
  goes_by a b c is x g h vs f =
      let k = h vs f in
      let l = g k.values k.fill in record {
        values = l.values;
        fill = l.fill;
        told = l.told ∙ ap (λ (z : List ItemView). is ++ z) k.told;
        spelled = l.spelled ∙ ap (λ (z : List ℕ). x ++ z) k.spelled;
      }

  -- a hole without parts
  pub pops : (room : ℕ) (hs : List Hole) → Goes s (hole [] room ∷ hs) hs [] []
  pops room hs vs f = record {
    values = value.none ∷ vs;
    fill = (refl, omega arith, f);
    told = refl;
    spelled = refl;
  }

  -- and behind another
  pub drops : (h : Hole) (room : ℕ) (hs : List Hole) → Goes s (h ∷ hole [] room ∷ hs) (h ∷ hs) [] []
  drops h room hs [] f = absurd f
  drops h room hs (v ∷ vs) f = record {
    values = v ∷ value.none ∷ vs;
    fill = (f.0, f.1, (refl, omega arith, f.2));
    told = refl;
    spelled = refl;
  }

  module _ (p : Part) (ps : List Part) (room : ℕ) (hs : List Hole) (is : List ItemView) (bytes : List ℕ)
      (qs : List Part) (n : IsNode s (kind_at s p.kind) is bytes qs) where
    abbrev k : KindView
    k = kind_at s p.kind

    items_are : (w v : Values) (rest : List ItemView)
        → items (node_items_in s (p ∷ ps) (value.node n.head w v)) ++ rest
        ≡ is ++ (items (node_items_in s (parts k n.head) w) ++ (items (node_items_in s ps v) ++ rest))
    items_are w v rest =
        let inner = node_items_in s (parts k n.head) w in
        let outer = node_items_in s ps v in
        ap (λ (z : List ItemView). z ++ rest)
        (items_joined (own_items k n.head) (inner ++ outer)
        ∙ ap (λ (z : List ItemView). z ++ items (inner ++ outer)) n.told
        ∙ ap (λ (z : List ItemView). is ++ z) (items_joined inner outer))
        ∙ four is (items inner) (items outer) rest

    bytes_are : (w v : Values) (rest : List ℕ)
        → spelling s (p ∷ ps) (value.node n.head w v) ++ rest
        ≡ bytes ++ (spelling s (parts k n.head) w ++ (spelling s ps v ++ rest))
    bytes_are w v rest =
        let inner = spelling s (parts k n.head) w in
        let outer = spelling s ps v in
        ap (λ (z : List ℕ). ((z ++ inner) ++ outer) ++ rest) n.spelled
        ∙ append_assoc (bytes ++ inner) outer rest ∙ append_assoc bytes inner (outer ++ rest)

    fitting : (w v : Values) → fit s (parts k n.head) w ≡ true → fit s ps v ≡ true
        → fit s (p ∷ ps) (value.node n.head w v) ≡ true
    fitting w v f g =
        all (is_legal s k n.head && fit s (parts k n.head) w) (fit s ps v)
        (all (is_legal s k n.head) (fit s (parts k n.head) w) n.legal f) g

    -- a node that is opened, where its parts are these
    opened : (inner : ℕ) → inner + 1 ≤ room
        → Goes s (hole (p ∷ ps) room ∷ hs) (hole (parts k n.head) inner ∷ hole ps room ∷ hs) is bytes
    opened inner low [] f = absurd f
    opened inner low (w ∷ []) f = absurd f.2
    opened inner low (w ∷ v ∷ vs) f = record {
      values = value.node n.head w v ∷ vs;
      fill = (fitting w v f.0 f.2.0, omega (arith, f.1, f.2.1, low), f.2.2);
      told = items_are w v (items_by s hs vs);
      spelled = bytes_are w v (bytes_by s hs vs);
    }

    pub opens : (inner : ℕ) → inner + 1 ≤ room
        → Goes s (hole (p ∷ ps) room ∷ hs) (hole qs inner ∷ hole ps room ∷ hs) is bytes
    opens inner low =
        subst (λ (x : List Part). Goes s (hole (p ∷ ps) room ∷ hs) (hole x inner ∷ hole ps room ∷ hs) is bytes)
        n.inside (opened inner low)

    -- one without parts
    pub fills : qs ≡ [] → 1 ≤ room → Goes s (hole (p ∷ ps) room ∷ hs) (hole ps room ∷ hs) is bytes
    fills none low =
        goes_by (hole (p ∷ ps) room ∷ hs) (hole qs 0 ∷ hole ps room ∷ hs) (hole ps room ∷ hs) is bytes
        (opens 0 (omega arith))
        (subst (λ (x : List Part). Goes s (hole x 0 ∷ hole ps room ∷ hs) (hole ps room ∷ hs) [] []) (sym none)
        (pops 0 (hole ps room ∷ hs)))

  -- all is filled
  module _ (place most : ℕ) (is : List ItemView) (bytes : List ℕ) where
    one_value : (vs : List Values) → Fill s (root place most) vs
        → items_by s (root place most) vs ≡ is ++ [] → bytes_by s (root place most) vs ≡ bytes ++ []
        → IsValue s place most is bytes
    one_value [] f e g = absurd f
    one_value (value.none ∷ vs) f e g = never f.0
    one_value (value.node h w (value.node h' w' v') ∷ vs) f e g =
        never (both (is_legal s (kind_at s place) h && fit s (parts (kind_at s place) h) w) false f.0).1
    one_value (value.node h w value.none ∷ v ∷ vs) f e g = absurd f.2
    one_value (value.node h w value.none ∷ []) f e g =
        let own_is = own_items (kind_at s place) h in
        let inner = node_items_in s (parts (kind_at s place) h) w in
        let front = own (kind_at s place) h in
        let inside = spelling s (parts (kind_at s place) h) w in (
          (h, w),
          (both (is_legal s (kind_at s place) h && fit s (parts (kind_at s place) h) w) true f.0).0,
          omega (arith, f.1),
          ap (λ (z : List NodeItem). items (own_is ++ z)) (sym (append-nil inner))
              ∙ sym (append-nil (items (own_is ++ (inner ++ [])))) ∙ e ∙ append-nil is,
          sym (append-nil (front ++ inside)) ∙ sym (append-nil ((front ++ inside) ++ [])) ∙ g ∙ append-nil bytes,
        )

    pub whole : (hs : List Hole) → Goes s (root place most) hs is bytes → Goes s hs [] [] []
        → IsValue s place most is bytes
    whole hs g none =
        let k = goes_by (root place most) hs [] is bytes g none [] tt in one_value k.values k.fill k.told k.spelled
