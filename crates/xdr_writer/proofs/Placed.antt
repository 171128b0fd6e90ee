-- Each item of a value stands at its place in the layout.
use Rattle.std.proofs.Common.{◌≡◌, ℕ, ℤ, pos, negsuc, ◌+◌, ◌≤◌, ◌<◌, ◌^◌, ◌&&◌, Bool, true, false, List, [], ◌∷◌, ◌++◌}
use Rattle.std.proofs.Common.{length, refl, ap, sym, ◌∙◌, subst, arith, length-append, append-nil}
use Rattle.std.proofs.Common.{ltb-true, lt-ltb}
use Rattle.std.specs.Prelude.{Contains, ⊤}
use Rattle.std.specs.List.{AllByRecursion}
use Rattle.std.proofs.lemmas.List.Elements.{All-contains, All-from_recursion, Contains-append_left}
use Rattle.std.proofs.lemmas.List.Elements.{Contains-append_right}
use Rattle.xdr_types.specs.Kinds as xdr
use Rattle.xdr_types.specs.Kinds.{KindView, Part, kind_at}
use Rattle.xdr_types.specs.Tree as value
use Rattle.xdr_types.specs.Tree.{Head, Values, Tree, from_list}
use Rattle.xdr_types.specs.Fits.{Fits, fit, is_legal, is_tag_of, is_length, parts, item_part}
use Rattle.xdr_types.specs.Spelling.{own, spelling, bytes_of}
use Rattle.xdr_types.specs.Layout.{Entry, Role, entry, entries, layout, shown, shown_bytes, of_number, of_flag}
use Rattle.xdr_types.specs.Layout.{of_length, of_content, content as content_at}
use Rattle.xdr_types.proofs.Unique.{both as parted}
use Rattle.xdr_laws.specs.Parts.{Join}
use Rattle.xdr_laws.proofs.Parts.{join_low}
use Rattle.xdr_laws.proofs.WholeUnits.{root_fits, value_join}
use Rattle.xdr_laws.proofs.Legal.{legal_is}
use Rattle.xdr_laws.proofs.GoesOn.{legal_known}
use Rattle.xdr_units.specs.Numbers.{pad, number_of}
use Rattle.xdr_writer.specs.Items.{ItemView, number, flag, count, content, NodeItem, of_node, spelled, all_spelled}
use Rattle.xdr_writer.specs.ItemsOf.{own_items, fixed_content, node_items_in, node_items_of}
use Rattle.xdr_writer.specs.Forms.{HasForm, is_in_unit, IsInRange, IsNext}
use Rattle.xdr_writer.proofs.Joined.{joined, some_padded}
use Rattle.xdr_writer.proofs.ItemsOf.{never, spelled_all, own_spelled, items_join}

-- the item is of the entry's node, and has the form of the entry
pub record IsAt (s : List KindView) (e : Entry) (i : NodeItem) : Type 0 where
  pub kind : i.kind ≡ kind_at s e.kind
  pub known : e.kind < length s
  pub form : HasForm (kind_at s e.kind) e.role i.item
  pub range : IsInRange s (kind_at s e.kind) i.item

-- an entry of the list stands at the place and has the item's form
abbrev pub StandsAt : List KindView → List Entry → (place : ℕ) → NodeItem → Type 0
StandsAt s es place i = (e : Entry) × Contains es e × (e.at ≡ place) × (4 ≤ e.size) × IsAt s e i

-- and so for each of several items in order
abbrev pub ArePlaced : List KindView → List Entry → (place : ℕ) → List NodeItem → Type 0
ArePlaced s es place [] = ⊤
ArePlaced s es place (i ∷ is) = StandsAt s es place i × ArePlaced s es (place + length (spelled i)) is

placed_left : (s : List KindView) (es fs : List Entry) (place : ℕ) (is : List NodeItem) → ArePlaced s es place is
    → ArePlaced s (es ++ fs) place is
placed_left s es fs place [] h = tt
placed_left s es fs place (i ∷ is) h = (
  (h.0.0, Contains-append_left es fs h.0.0 h.0.1, h.0.2, h.0.3, h.0.4),
  placed_left s es fs (place + length (spelled i)) is h.1,
)

placed_right : (s : List KindView) (es fs : List Entry) (place : ℕ) (is : List NodeItem) → ArePlaced s fs place is
    → ArePlaced s (es ++ fs) place is
placed_right s es fs place [] h = tt
placed_right s es fs place (i ∷ is) h = (
  (h.0.0, Contains-append_right es fs h.0.0 h.0.1, h.0.2, h.0.3, h.0.4),
  placed_right s es fs (place + length (spelled i)) is h.1,
)

placed_then : (s : List KindView) (es : List Entry) (place : ℕ) (is js : List NodeItem) → ArePlaced s es place is
    → ArePlaced s es (place + length (all_spelled is)) js → ArePlaced s es place (is ++ js)
placed_then s es place [] js h k = subst (λ (n : ℕ). ArePlaced s es n js) (omega arith) k
placed_then s es place (i ∷ is) js h k = (
  h.0,
  placed_then s es (place + length (spelled i)) is js h.1
      (subst (λ (n : ℕ). ArePlaced s es n js) (omega (arith, length-append (spelled i) (all_spelled is))) k),
)

placed_behind : (s : List KindView) (es : List Entry) (place : ℕ) (is js : List NodeItem)
    → ArePlaced s es place (is ++ js) → ArePlaced s es (place + length (all_spelled is)) js
placed_behind s es place [] js h = subst (λ (n : ℕ). ArePlaced s es n js) (omega arith) h
placed_behind s es place (i ∷ is) js h =
    subst (λ (n : ℕ). ArePlaced s es n js) (omega (arith, length-append (spelled i) (all_spelled is)))
    (placed_behind s es (place + length (spelled i)) is js h.1)

-- ---- no entry ends behind the value

end_by : (a b : ℕ) (es : List Entry) → Join a es b → AllByRecursion (λ (e : Entry). e.at + e.size ≤ b) es
end_by a b [] j = tt
end_by a b (e ∷ es) j = (omega (arith, j.0, join_low (a + e.size) b es j.1), end_by (a + e.size) b es j.1)

pub stands_within : (s : List KindView) (t : ℕ) (v : Tree) (e : Entry) → Fits s t v → Contains (entries s t v) e
    → e.at + e.size ≤ length (bytes_of s t v)
stands_within s t v e f has =
    let end : ℕ = length (bytes_of s t v) in
    All-contains (λ (x : Entry). x.at + x.size ≤ end) (entries s t v) e
    (All-from_recursion (λ (x : Entry). x.at + x.size ≤ end) (entries s t v)
    (end_by 0 end (entries s t v) (value_join s t v f))) has

-- ---- ranges

pub truth_range : (b : Bool) → is_in_unit xdr.boolean (number_of b) ≡ true
truth_range true = refl
truth_range false = refl

pub tag_range : (k : KindView) (z : ℤ) → is_tag_of k z ≡ true → is_in_unit k z ≡ true
tag_range xdr.int z h = h
tag_range xdr.unsigned z h = h
tag_range xdr.boolean (pos n) h = let below = ltb-true n 2 h in lt-ltb n (2 ^ 32) (omega arith)
tag_range xdr.boolean (negsuc n) h = never h
tag_range (xdr.numbered constants) z h = (parted _ _ h).0
tag_range _ z h = never h

pub length_range : (most n : ℕ) → is_length most n ≡ true → n < 2 ^ 32
length_range most n h = ltb-true n (2 ^ 32) (parted _ _ h).1

module _ (s : List KindView) where
  at_entry : (place size d : ℕ) (p : Part) (role : Role) (es : List Entry) (f : KindView) (i : ItemView)
      → kind_at s p.kind ≡ f → p.kind < length s → 4 ≤ size → HasForm f role i → IsInRange s f i
      → ArePlaced s (entry place size d p role ∷ es) place (of_node f i ∷ [])
  at_entry place size d p role es f i same known some form range = (
    (
      entry place size d p role,
      (0, omega arith, refl),
      refl,
      some,
      record {
        kind = sym same;
        known = known;
        form = subst (λ (k : KindView). HasForm k role i) (sym same) form;
        range = subst (λ (k : KindView). IsInRange s k i) (sym same) range;
      },
    ),
    tt,
  )

  placed_fixed : (place d : ℕ) (p : Part) (size : ℕ) (bs : List ℕ) → kind_at s p.kind ≡ xdr.opaque size
      → p.kind < length s
      → ArePlaced s (shown_bytes place d p (xdr.opaque size) (length bs)) place (fixed_content (xdr.opaque size) bs)
  placed_fixed place d p size [] same known = tt
  placed_fixed place d p size (b ∷ bs) same known =
      let xs : List ℕ = b ∷ bs in
      at_entry place (length xs + length (pad (length xs))) d p (of_content (length xs)) [] (xdr.opaque size)
      (content xs) same known (omega (arith, length-append xs (pad (length xs)), some_padded b bs)) refl tt

  placed_own : (place d : ℕ) (p : Part) (f : KindView) (h : Head) → kind_at s p.kind ≡ f → p.kind < length s
      → is_legal s f h ≡ true
      → ArePlaced s (shown place d p f h) place (own_items f h)
  placed_own place d p xdr.int (value.int z) same known legal =
      at_entry place 4 d p of_number [] xdr.int (number z) same known (omega arith) refl legal
  placed_own place d p xdr.unsigned (value.unsigned n) same known legal =
      at_entry place 4 d p of_number [] xdr.unsigned (number (pos n)) same known (omega arith) refl legal
  placed_own place d p xdr.hyper (value.hyper z) same known legal =
      at_entry place 8 d p of_number [] xdr.hyper (number z) same known (omega arith) refl legal
  placed_own place d p xdr.unsigned_hyper (value.unsigned_hyper n) same known legal =
      at_entry place 8 d p of_number [] xdr.unsigned_hyper (number (pos n)) same known (omega arith) refl legal
  placed_own place d p xdr.boolean (value.boolean b) same known legal =
      at_entry place 4 d p of_number [] xdr.boolean (number (number_of b)) same known (omega arith) refl (truth_range b)
  placed_own place d p (xdr.numbered constants) (value.numbered z) same known legal =
      at_entry place 4 d p of_number [] (xdr.numbered constants) (number z) same known (omega arith) refl
      (parted _ _ legal).0
  placed_own place d p (xdr.opaque size) (value.bytes bs) same known legal = placed_fixed place d p size bs same known
  placed_own place d p (xdr.opaque_up_to max) (value.bytes bs) same known legal =
      at_entry place 4 d p of_length (content_at (place + 4) d p (length bs)) (xdr.opaque_up_to max)
      (content bs) same known (omega arith) refl
      (length_range max (length bs) (parted _ _ legal).0)
  placed_own place d p (xdr.text max) (value.bytes bs) same known legal =
      at_entry place 4 d p of_length (content_at (place + 4) d p (length bs)) (xdr.text max) (content bs) same known
      (omega arith) refl
      (length_range max (length bs) (parted _ _ legal).0)
  placed_own place d p (xdr.fixed item size) (value.items n) same known legal = tt
  placed_own place d p (xdr.up_to item max) (value.items n) same known legal =
      at_entry place 4 d p of_length [] (xdr.up_to item max) (count n) same known (omega arith) (refl, tt)
      (length_range max n legal)
  placed_own place d p (xdr.structure ps) value.fields same known legal = tt
  placed_own place d p (xdr.choice tag arms other) (value.tag z) same known legal =
      at_entry place 4 d p of_number [] (xdr.choice tag arms other) (number z) same known (omega arith) refl
      (tag_range (kind_at s tag) z (parted _ _ legal).0)
  placed_own place d p (xdr.maybe item) value.present same known legal =
      at_entry place 4 d p of_flag [] (xdr.maybe item) (flag true) same known (omega arith) refl tt
  placed_own place d p (xdr.maybe item) value.absent same known legal =
      at_entry place 4 d p of_flag [] (xdr.maybe item) (flag false) same known (omega arith) refl tt
  placed_own place d p xdr.nothing value.nothing same known legal = tt
  placed_own place d p _ _ same known legal = never legal

  placed_all : (place d : ℕ) (ps : List Part) (v : Values) → fit s ps v ≡ true
      → ArePlaced s (layout s place d ps v) place (node_items_in s ps v)
  placed_all place d [] value.none h = tt
  placed_all place d [] (value.node g inner rest) h = tt
  placed_all place d (p ∷ ps) value.none h = tt
  placed_all place d (p ∷ ps) (value.node g inner rest) h =
      let k : KindView = kind_at s p.kind in
      let front = parted (is_legal s k g && fit s (parts k g) inner) (fit s ps rest) h in
      let legal = parted (is_legal s k g) (fit s (parts k g) inner) front.0 in
      let known : p.kind < length s = legal_known s p.kind g (legal_is s k g legal.0) in
      let x : List NodeItem = own_items k g in
      let y : List NodeItem = node_items_in s (parts k g) inner in
      let z : List NodeItem = node_items_in s ps rest in
      let near : ℕ = place + length (own k g) in
      let far : ℕ = near + length (spelling s (parts k g) inner) in
      let mine : List Entry = shown place d p k g in
      let inside : List Entry = layout s near (d + 1) (parts k g) inner in
      let after : List Entry = layout s far d ps rest in
      let all : List Entry = mine ++ (inside ++ after) in
      let is_near : near ≡ place + length (all_spelled x) =
      ap (λ (w : List ℕ). place + length w) (sym (own_spelled s k g legal.0)) in
      let is_far : far ≡ near + length (all_spelled y) =
      ap (λ (w : List ℕ). near + length w) (sym (spelled_all s (parts k g) inner legal.1)) in
      placed_then s all place x (y ++ z)
      (placed_left s mine (inside ++ after) place x (placed_own place d p k g refl known legal.0))
      (subst (λ (n : ℕ). ArePlaced s all n (y ++ z)) is_near
      (placed_then s all near y z
      (placed_right s mine (inside ++ after) near y
      (placed_left s inside after near y (placed_all near (d + 1) (parts k g) inner legal.1)))
      (subst (λ (n : ℕ). ArePlaced s all n z) is_far
      (placed_right s mine (inside ++ after) far z
      (placed_right s inside after far z (placed_all far d ps rest front.1))))))

  -- the items of a value stand where its layout has them
  pub placed_of : (t : ℕ) (v : Tree) → Fits s t v → ArePlaced s (entries s t v) 0 (node_items_of s t v)
  placed_of t v f =
      let k : KindView = kind_at s t in
      let root : List NodeItem = own_items k v.0 in
      let inner : List NodeItem = node_items_in s (parts k v.0) v.1 in
      subst (λ (is : List NodeItem). ArePlaced s (entries s t v) 0 (root ++ is)) (append-nil inner)
      (placed_all 0 1 (item_part t ∷ []) (from_list (v ∷ [])) (root_fits s t v f))

  -- the bytes behind the first items
  pub bytes_behind : (t : ℕ) (v : Tree) (is rest : List NodeItem) → Fits s t v → node_items_of s t v ≡ is ++ rest
      → bytes_of s t v ≡ all_spelled is ++ all_spelled rest
  bytes_behind t v is rest f e =
      sym (items_join s t v f) ∙ ap (λ (xs : List NodeItem). all_spelled xs) e ∙ joined is rest

  -- where a value begins with items, the next item stands in the entry of the next unit
  pub next_stands : (t : ℕ) (v : Tree) (is : List NodeItem) (r : NodeItem) (rs : List NodeItem) → Fits s t v
      → node_items_of s t v ≡ is ++ r ∷ rs → (e : Entry) × IsNext s t (all_spelled is) e × IsAt s e r
  next_stands t v is r rs f e =
      let all = subst (λ (xs : List NodeItem). ArePlaced s (entries s t v) 0 xs) e (placed_of t v f) in
      let here = (placed_behind s (entries s t v) 0 is (r ∷ rs) all).0 in
      let at : here.0.at ≡ length (all_spelled is) = omega (arith, here.2) in
      let bytes : bytes_of s t v ≡ all_spelled is ++ all_spelled (r ∷ rs) = bytes_behind t v is (r ∷ rs) f e in (
        here.0,
        (
          (v, (f, all_spelled (r ∷ rs), bytes), here.1, omega (arith, at), omega (arith, at, here.3)),
          at,
        ),
        here.4,
      )
