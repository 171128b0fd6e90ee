-- The part that stands for a node of a kind.
use Rattle.std.proofs.Common.{◌≡◌, ℕ, ◌+◌, ◌^◌, ◌<◌, ◌≤◌, true, false, List, [], ◌∷◌, ◌++◌, length, refl, sym, ap}
use Rattle.std.proofs.Common.{subst}
use Rattle.std.proofs.Common.{◌∙◌, arith, take, drop}
use Rattle.std.proofs.lemmas.List.{length-append, take-append-drop}
use Rattle.xdr_units.specs.Numbers.{word, pad, padded}
use Rattle.xdr_types.specs.Kinds as xdr
use Rattle.xdr_types.specs.Kinds.{KindView, Part, kind_at}
use Rattle.xdr_types.specs.Tree as value
use Rattle.xdr_types.specs.Tree.{Head}
use Rattle.xdr_types.specs.Spelling.{own}
use Rattle.xdr_types.specs.Within.{Bounds}
use Rattle.xdr_types.specs.Layout.{Entry, entry, shown, of_length, of_group}
use Rattle.xdr_laws.proofs.Legal.{IsLegal}
use Rattle.xdr_laws.proofs.Numbers.{from4, from4-unit4}
use Rattle.xdr_parts.specs.Lent.{size_in, role_in}
use Rattle.xdr_parts.specs.declared.part.Role.{Role}
use Rattle.xdr_parts.specs.declared.part.Role.TheVariants.{Number, Flag, Length, Content as Bytes}
use Rattle.xdr_paths.specs.Nodes.{Node, IsOwn}
use Rattle.xdr_paths.specs.Private.Own.{IsForm, part_at}
use Rattle.xdr_paths.specs.Private.Standing.{StandsAt}
use Rattle.xdr_paths.specs.declared.own.Form.TheVariants.{Unit as OneUnit, Wide, Content, Counted, Group}
use Rattle.xdr_paths.specs.declared.spot.Spot.{Spot}
use Rattle.xdr_paths.proofs.Standing.{there}
use Rattle.xdr_paths.proofs.Named.{legal_at, front_at}

-- ---- by kind and head

-- what a head shows, and how many bytes it has before its parts at least
abbrev Shows : (a d : ℕ) → Part → KindView → Head → List Entry → (least : ℕ) → Type 0
Shows a d p k h es least = (shown a d p k h ≡ es) × (least ≤ length (own k h))

unit_shown : (s : List KindView) (a d : ℕ) (p : Part) (k : KindView) (role : Role) (h : Head) → IsForm k (OneUnit role)
    → IsLegal s k h → Shows a d p k h (entry a (size_in role 4) d p (role_in role 4) ∷ []) 4
unit_shown s a d p xdr.int Number (value.int z) f l = (refl, omega arith)
unit_shown s a d p xdr.unsigned Number (value.unsigned n) f l = (refl, omega arith)
unit_shown s a d p xdr.boolean Number (value.boolean true) f l = (refl, omega arith)
unit_shown s a d p xdr.boolean Number (value.boolean false) f l = (refl, omega arith)
unit_shown s a d p (xdr.numbered cs) Number (value.numbered z) f l = (refl, omega arith)
unit_shown s a d p (xdr.choice tag arms other) Number (value.tag z) f l = (refl, omega arith)
unit_shown s a d p (xdr.up_to item max) Length (value.items n) f l = (refl, omega arith)
unit_shown s a d p (xdr.maybe item) Flag value.present f l = (refl, omega arith)
unit_shown s a d p (xdr.maybe item) Flag value.absent f l = (refl, omega arith)
unit_shown s a d p xdr.int Number _ f l = absurd l
unit_shown s a d p xdr.unsigned Number _ f l = absurd l
unit_shown s a d p xdr.boolean Number _ f l = absurd l
unit_shown s a d p (xdr.numbered cs) Number _ f l = absurd l
unit_shown s a d p (xdr.choice tag arms other) Number _ f l = absurd l
unit_shown s a d p (xdr.up_to item max) Length _ f l = absurd l
unit_shown s a d p (xdr.maybe item) Flag _ f l = absurd l
unit_shown s a d p _ _ h f l = absurd f

wide_shown : (s : List KindView) (a d : ℕ) (p : Part) (k : KindView) (h : Head) → IsForm k Wide → IsLegal s k h
    → Shows a d p k h (entry a (size_in Number 8) d p (role_in Number 8) ∷ []) 8
wide_shown s a d p xdr.hyper (value.hyper z) f l = (refl, omega arith)
wide_shown s a d p xdr.unsigned_hyper (value.unsigned_hyper n) f l = (refl, omega arith)
wide_shown s a d p xdr.hyper _ f l = absurd l
wide_shown s a d p xdr.unsigned_hyper _ f l = absurd l
wide_shown s a d p _ h f l = absurd f

content_shown : (s : List KindView) (a d : ℕ) (p : Part) (k : KindView) (size : ℕ) (h : Head) → IsForm k (Content size)
    → IsLegal s k h → Shows a d p k h (entry a (size_in Bytes size) d p (role_in Bytes size) ∷ []) size
content_shown s a d p (xdr.opaque n) size (value.bytes bs) f l =
    let same : length bs ≡ size = l.0 ∙ f in (
      ap (λ (c : ℕ). entry a (size_in Bytes c) d p (role_in Bytes c) ∷ []) same,
      omega (arith, same, length-append bs (pad (length bs))),
    )
content_shown s a d p (xdr.opaque n) size _ f l = absurd l
content_shown s a d p _ size h f l = absurd f

group_shown : (s : List KindView) (a d : ℕ) (p : Part) (k : KindView) (h : Head) → IsForm k Group → IsLegal s k h
    → shown a d p k h ≡ entry a 0 d p of_group ∷ []
group_shown s a d p (xdr.fixed item size) (value.items n) f l = refl
group_shown s a d p (xdr.structure fields) value.fields f l = refl
group_shown s a d p xdr.nothing value.nothing f l = refl
group_shown s a d p (xdr.fixed item size) _ f l = absurd l
group_shown s a d p (xdr.structure fields) _ f l = absurd l
group_shown s a d p xdr.nothing _ f l = absurd l
group_shown s a d p _ h f l = absurd f

-- the unit that comes first is the length
pub same_unit : (x n : ℕ) (c y : List ℕ) → x < 2 ^ 32 → n < 2 ^ 32 → word x ++ c ≡ word n ++ y → x ≡ n
same_unit x n c y less small e = sym (from4-unit4 x c less) ∙ ap from4 e ∙ from4-unit4 n y small

-- content behind its length
abbrev ShowsCounted : (a d : ℕ) → Part → KindView → Head → (x : ℕ) → Type 0
ShowsCounted a d p k h x =
    (shown a d p k h
    ≡ entry a 4 d p of_length ∷ entry (a + 4) (size_in Bytes x) d p (role_in Bytes x) ∷ [])
    × (4 + x ≤ length (own k h))

bytes_shown : (a d : ℕ) (p : Part) (bs : List ℕ) (x : ℕ) (c y : List ℕ) → length bs < 2 ^ 32 → x < 2 ^ 32
    → word x ++ c ≡ (word (length bs) ++ padded bs) ++ y
    → (entry a 4 d p of_length ∷ entry (a + 4) (size_in Bytes (length bs)) d p (role_in Bytes (length bs)) ∷ []
    ≡ entry a 4 d p of_length ∷ entry (a + 4) (size_in Bytes x) d p (role_in Bytes x) ∷ [])
    × (4 + x ≤ length (word (length bs) ++ padded bs))
bytes_shown a d p bs x c y small less e =
    let same : x ≡ length bs = same_unit x (length bs) c (padded bs ++ y) less small e in (
      ap (λ (n : ℕ). entry a 4 d p of_length ∷ entry (a + 4) (size_in Bytes n) d p (role_in Bytes n) ∷ []) (sym same),
      omega (arith, same, length-append bs (pad (length bs)), length-append (word (length bs)) (padded bs)),
    )

counted_shown : (s : List KindView) (a d : ℕ) (p : Part) (k : KindView) (h : Head) (x : ℕ) (c y : List ℕ)
    → IsForm k Counted → IsLegal s k h → x < 2 ^ 32 → word x ++ c ≡ own k h ++ y → ShowsCounted a d p k h x
counted_shown s a d p (xdr.opaque_up_to max) (value.bytes bs) x c y f l less e = bytes_shown a d p bs x c y l.1 less e
counted_shown s a d p (xdr.text max) (value.bytes bs) x c y f l less e = bytes_shown a d p bs x c y l.1 less e
counted_shown s a d p (xdr.opaque_up_to max) _ x c y f l less e = absurd l
counted_shown s a d p (xdr.text max) _ x c y f l less e = absurd l
counted_shown s a d p _ h x c y f l less e = absurd f

counted_unit : (k : KindView) (h : Head) (s : List KindView) → IsForm k Counted → IsLegal s k h → 4 ≤ length (own k h)
counted_unit (xdr.opaque_up_to max) (value.bytes bs) s f l =
    omega (arith, length-append (word (length bs)) (padded bs))
counted_unit (xdr.text max) (value.bytes bs) s f l = omega (arith, length-append (word (length bs)) (padded bs))
counted_unit (xdr.opaque_up_to max) _ s f l = absurd l
counted_unit (xdr.text max) _ s f l = absurd l
counted_unit _ h s f l = absurd f

-- ---- of a spot

module _ (kinds : List KindView) (limits : Bounds) (bytes : List ℕ) (s : Spot) (n : Node)
    (st : StandsAt kinds limits bytes s n) (k : KindView) (ke : k ≡ kind_at kinds s.kind.place) where
  legal : IsLegal kinds k n.head
  legal = legal_at kinds limits bytes s n st k ke

  -- what is shown at the spot is shown of the node
  own_shown : (before : List Entry) (e : Entry) → shown s.at s.depth (part_at s) k n.head ≡ before ++ e ∷ []
      → IsOwn kinds n e
  own_shown before e is =
      let same : part_at s ≡ n.part = λ j. record { name = st.0.name j; kind = st.0.kind j } in
      let kind_same : k ≡ kind_at kinds n.part.kind = ke ∙ ap (λ (t : ℕ). kind_at kinds t) st.0.kind in (
        before,
        subst (λ (a : ℕ). shown a n.depth n.part (kind_at kinds n.part.kind) n.head ≡ before ++ e ∷ []) st.0.place
            (subst (λ (d : ℕ). shown s.at d n.part (kind_at kinds n.part.kind) n.head ≡ before ++ e ∷ []) st.0.depth
            (subst (λ (p : Part). shown s.at s.depth p (kind_at kinds n.part.kind) n.head ≡ before ++ e ∷ []) same
            (subst (λ (f : KindView). shown s.at s.depth (part_at s) f n.head ≡ before ++ e ∷ []) kind_same is))),
      )

  own_there : (least : ℕ) → least ≤ length (own k n.head) → s.at + least ≤ length bytes
  own_there least most =
      let f = front_at kinds limits bytes s n st k ke in
      let within : s.at ≤ length bytes = subst (λ (a : ℕ). a ≤ length bytes) (sym st.0.place) st.1.within in
      let long = there bytes (own k n.head) f.0 s.at (length (own k n.head)) f.1 refl within in
      omega (arith, long, most)

  pub unit_own : (role : Role) → IsForm k (OneUnit role)
      → IsOwn kinds n (entry s.at (size_in role 4) s.depth (part_at s) (role_in role 4)) × (s.at + 4 ≤ length bytes)
  unit_own role f =
      let w = unit_shown kinds s.at s.depth (part_at s) k role n.head f legal in
      (own_shown [] (entry s.at (size_in role 4) s.depth (part_at s) (role_in role 4)) w.0, own_there 4 w.1)

  pub wide_own : IsForm k Wide
      → IsOwn kinds n (entry s.at (size_in Number 8) s.depth (part_at s) (role_in Number 8))
      × (s.at + 8 ≤ length bytes)
  wide_own f =
      let w = wide_shown kinds s.at s.depth (part_at s) k n.head f legal in
      (own_shown [] (entry s.at (size_in Number 8) s.depth (part_at s) (role_in Number 8)) w.0, own_there 8 w.1)

  pub content_own : (size : ℕ) → IsForm k (Content size)
      → IsOwn kinds n (entry s.at (size_in Bytes size) s.depth (part_at s) (role_in Bytes size))
      × (s.at + size ≤ length bytes)
  content_own size f =
      let w = content_shown kinds s.at s.depth (part_at s) k size n.head f legal in
      (own_shown [] (entry s.at (size_in Bytes size) s.depth (part_at s) (role_in Bytes size)) w.0, own_there size w.1)

  pub group_own : IsForm k Group → IsOwn kinds n (entry s.at 0 s.depth (part_at s) of_group)
      × (s.at ≤ length bytes)
  group_own f = (
    own_shown [] (entry s.at 0 s.depth (part_at s) of_group)
        (group_shown kinds s.at s.depth (part_at s) k n.head f legal),
    omega (arith, own_there 0 (omega arith)),
  )

  pub counted_there : IsForm k Counted → s.at + 4 ≤ length bytes
  counted_there f = own_there 4 (counted_unit k n.head kinds f legal)

  pub counted_own : (x : ℕ) → IsForm k Counted → x < 2 ^ 32 → word x ≡ take 4 (drop s.at bytes)
      → IsOwn kinds n (entry (s.at + 4) (size_in Bytes x) s.depth (part_at s) (role_in Bytes x))
      × (s.at + (4 + x) ≤ length bytes)
  counted_own x f less unit =
      let g = front_at kinds limits bytes s n st k ke in
      let whole : word x ++ drop 4 (drop s.at bytes) ≡ own k n.head ++ g.0 =
      ap (λ (l : List ℕ). l ++ drop 4 (drop s.at bytes)) unit ∙ take-append-drop 4 (drop s.at bytes) ∙ g.1 in
      let w = counted_shown kinds s.at s.depth (part_at s) k n.head x (drop 4 (drop s.at bytes)) g.0 f legal less whole
      in (
        own_shown (entry s.at 4 s.depth (part_at s) of_length ∷ [])
            (entry (s.at + 4) (size_in Bytes x) s.depth (part_at s) (role_in Bytes x)) w.0,
        own_there (4 + x) w.1,
      )
