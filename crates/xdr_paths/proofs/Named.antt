-- Fields and arms by their names.
use Rattle.std.proofs.Common.{◌≡◌, ℕ, ◌+◌, ◌^◌, ◌<◌, ◌≤◌, ℤ, List, [], ◌∷◌, ◌++◌, length, refl, sym, ap}
use Rattle.std.proofs.Common.{subst}
use Rattle.std.proofs.Common.{◌∙◌, arith, Option, Some, None, Bool, true, false, cond, take, drop, map, bytes_eq}
use Rattle.std.specs.Prelude.{replicate, slice_get}
use Rattle.std.proofs.lemmas.Bool.{false≢true}
use Rattle.std.proofs.lemmas.List.{length-append, take-append-drop}
use Rattle.std.proofs.Math.Nat.{add-zero}
use Rattle.xdr_units.specs.Numbers.{word}
use Rattle.xdr_types.specs.Kinds as xdr
use Rattle.xdr_types.specs.Kinds.{KindView, Part, Branch, kind_at}
use Rattle.xdr_types.specs.KindViews.{part_of_member}
use Rattle.xdr_types.specs.Tree as value
use Rattle.xdr_types.specs.Tree.{Head, Values}
use Rattle.xdr_types.specs.Fits.{parts, part_in, optional_part, item_part}
use Rattle.xdr_types.specs.Outcome.{number_in}
use Rattle.xdr_types.specs.Spelling.{own, spelling, bytes_of}
use Rattle.xdr_types.specs.Within.{Bounds}
use Rattle.xdr_types.specs.declared.kind.Member.{Member}
use Rattle.xdr_laws.specs.Owed.{lead_of, IsUnitFirst, HasUnit, Accepts, head_of}
use Rattle.xdr_laws.proofs.Legal.{IsLegal}
use Rattle.xdr_laws.proofs.UnitOwed.{head_is}
use Rattle.xdr_laws.proofs.Known.{shows_first}
use Rattle.xdr_paths.specs.Nodes.{Node, nodes, inside, node_named, step_to, to_field, to_item}
use Rattle.xdr_paths.specs.Private.Standing.{Spells, StandsAs, StandsAt, Finds, IsChoice}
use Rattle.xdr_paths.specs.declared.spot.Spot.{Spot}
use Rattle.xdr_paths.proofs.Standing.{first_of, rest_of, inner_of, legal_of, known_of, shallow_of, own_front, there}

module _ (kinds : List KindView) (limits : Bounds) (bytes : List ℕ) where
  -- ---- the node of a spot

  module _ (s : Spot) (n : Node) (st : StandsAt kinds limits bytes s n) where
    abbrev K : KindView
    K = kind_at kinds s.kind.place

    kind_same : kind_at kinds n.part.kind ≡ K
    kind_same = ap (λ (t : ℕ). kind_at kinds t) (sym st.0.kind)

    -- its head is a legal one
    pub legal_at : (k : KindView) → k ≡ K → IsLegal kinds k n.head
    legal_at k e =
        subst (λ (f : KindView). IsLegal kinds f n.head) (kind_same ∙ sym e) (legal_of kinds limits bytes n st.1)

    -- its kind is one of the schema
    pub known_at : s.kind.place < length kinds
    known_at = subst (λ (t : ℕ). t < length kinds) (sym st.0.kind) (known_of kinds limits bytes n st.1)

    -- it is not deeper than the limit
    pub shallow_at : s.depth ≤ limits.depth
    shallow_at = subst (λ (d : ℕ). d ≤ limits.depth) (sym st.0.depth) (shallow_of kinds limits bytes n st.1)

    -- the values inside it, by its kind and its head
    pub inner_at : (k : KindView) (h : Head) → k ≡ K → n.head ≡ h
        → Spells kinds limits bytes (s.at + length (own k h)) (s.depth + 1) (parts k h) n.inner
        × (inside kinds n ≡ nodes kinds (s.at + length (own k h)) (s.depth + 1) (parts k h) n.inner)
    inner_at k h ke he =
        let P : KindView → Head → ℕ → ℕ → Type 0 = λ f g a d.
        Spells kinds limits bytes (a + length (own f g)) (d + 1) (parts f g) n.inner
        × (inside kinds n ≡ nodes kinds (a + length (own f g)) (d + 1) (parts f g) n.inner) in
        let base : P (kind_at kinds n.part.kind) n.head n.place n.depth = (inner_of kinds limits bytes n st.1, refl) in
        subst (λ (d : ℕ). P k h s.at d) (sym st.0.depth)
        (subst (λ (a : ℕ). P k h a n.depth) (sym st.0.place)
        (subst (λ (g : Head). P k g n.place n.depth) he
        (subst (λ (f : KindView). P f n.head n.place n.depth) (kind_same ∙ sym ke) base)))

    -- its own bytes come first
    pub front_at : (k : KindView) → k ≡ K → (c : List ℕ) × (drop s.at bytes ≡ own k n.head ++ c)
    front_at k e =
        subst (λ (a : ℕ). (c : List ℕ) × (drop a bytes ≡ own k n.head ++ c)) (sym st.0.place)
        (subst (λ (f : KindView). (c : List ℕ) × (drop n.place bytes ≡ own f n.head ++ c)) (kind_same ∙ sym e)
        (_, own_front kinds limits bytes n st.1))

    -- the unit that makes its head
    pub head_at : (k : KindView) (x : ℕ) → k ≡ K → IsUnitFirst (lead_of k) → x < 2 ^ 32
        → word x ≡ take 4 (drop s.at bytes) → Accepts kinds k x × (head_of kinds k x ≡ n.head)
    head_at k x e u less is =
        let f = front_at k e in
        let unit : drop s.at bytes ≡ word x ++ drop 4 (drop s.at bytes) =
        sym (take-append-drop 4 (drop s.at bytes)) ∙ ap (λ (l : List ℕ). l ++ drop 4 (drop s.at bytes)) (sym is) in
        head_is kinds k n.head x (drop 4 (drop s.at bytes)) f.0 u less (legal_at k e) (sym unit ∙ f.1)

    -- a first unit is there
    pub unit_there : (k : KindView) → k ≡ K → HasUnit (lead_of k) → s.at + 4 ≤ length bytes
    unit_there k e u =
        let f = front_at k e in
        let long = shows_first kinds 0 0 (record { name = []; kind = 0 }) k n.head u (legal_at k e) in
        let within : s.at ≤ length bytes = subst (λ (a : ℕ). a ≤ length bytes) (sym st.0.place) st.1.within in
        omega (arith, long.3, there_length f.0 f.1 within)
      where
        there_length : (c : List ℕ) → drop s.at bytes ≡ own k n.head ++ c → s.at ≤ length bytes
            → s.at + length (own k n.head) ≤ length bytes
        there_length c same within = there bytes (own k n.head) c s.at (length (own k n.head)) same refl within

  -- ---- names

  -- the first of several parts has the name
  pub named_first : (s : Spot) (p : Part) (ps : List Part) (vs : Values) (name : List ℕ)
      → Spells kinds limits bytes s.at s.depth (p ∷ ps) vs → s.kind.place ≡ p.kind → s.name.now ≡ p.name
      → bytes_eq p.name name ≡ true
      → Finds kinds limits bytes (Some s) (node_named name (nodes kinds s.at s.depth (p ∷ ps) vs))
  named_first s p ps value.none name sp kind_is name_is e = absurd (false≢true sp.fits)
  named_first s p ps (value.node h v w) name sp kind_is name_is e =
      let m : Node = record { place = s.at; depth = s.depth; part = p; head = h; inner = v } in
      let others : List Node = nodes kinds (s.at + length (own (kind_at kinds p.kind) h) + length
      (spelling kinds (parts (kind_at kinds p.kind) h) v)) s.depth ps w in (
        m,
        ap (λ (b : Bool). cond b (Some m) (node_named name others)) e,
        record { place = refl; depth = refl; kind = kind_is; name = name_is },
        first_of kinds limits bytes s.at s.depth p ps h v w sp,
      )

  -- it has not: the node that is first, and the others
  pub record Behind (at depth : ℕ) (p : Part) (ps : List Part) (vs : Values) (name : List ℕ) : Type 0 where
    pub first : Node
    pub is : StandsAs kinds limits bytes p.kind at first
    pub others : Values
    pub end : ℕ
    pub end_is : end ≡ at + length (bytes_of kinds p.kind (first.head, first.inner))
    pub spells : Spells kinds limits bytes end depth ps others
    pub named : bytes_eq p.name name ≡ false
        → node_named name (nodes kinds at depth (p ∷ ps) vs) ≡ node_named name (nodes kinds end depth ps others)

  pub behind_first : (at depth : ℕ) (p : Part) (ps : List Part) (vs : Values) (name : List ℕ)
      → Spells kinds limits bytes at depth (p ∷ ps) vs → Behind at depth p ps vs name
  behind_first at depth p ps value.none name s = absurd (false≢true s.fits)
  behind_first at depth p ps (value.node h v w) name s =
      let k : KindView = kind_at kinds p.kind in
      let m : Node = record { place = at; depth = depth; part = p; head = h; inner = v } in
      let end : ℕ = at + length (own k h) + length (spelling kinds (parts k h) v) in
      record {
        first = m;
        is = (first_of kinds limits bytes at depth p ps h v w s, refl, refl);
        others = w;
        end = end;
        end_is = omega (arith, length-append (own k h) (spelling kinds (parts k h) v));
        spells = rest_of kinds limits bytes at depth p ps h v w s;
        named = λ e. ap (λ (b : Bool). cond b (Some m) (node_named name (nodes kinds end depth ps w))) e;
      }

  -- no part is left
  pub none_named : (at depth : ℕ) (vs : Values) (name : List ℕ) → node_named name (nodes kinds at depth [] vs) ≡ None
  none_named at depth value.none name = refl
  none_named at depth (value.node h v w) name = refl

  -- ---- a structure

  only_fields : (ps : List Part) (h : Head) → IsLegal kinds (xdr.structure ps) h → h ≡ value.fields
  only_fields ps value.fields l = refl
  only_fields ps _ l = absurd l

  pub structure_at : (s : Spot) (n : Node) → StandsAt kinds limits bytes s n → (ps : List Part)
      → xdr.structure ps ≡ kind_at kinds s.kind.place
      → Spells kinds limits bytes s.at (s.depth + 1) ps n.inner
      × ((name : List ℕ) → step_to n.head (inside kinds n) (to_field name)
      ≡ node_named name (nodes kinds s.at (s.depth + 1) ps n.inner))
  structure_at s n st ps e =
      let h : n.head ≡ value.fields = only_fields ps n.head (legal_at s n st (xdr.structure ps) e) in
      let i = inner_at s n st (xdr.structure ps) value.fields e h in
      let Q : ℕ → Type 0 = λ a. Spells kinds limits bytes a (s.depth + 1) ps n.inner
      × (inside kinds n ≡ nodes kinds a (s.depth + 1) ps n.inner) in
      let j : Q s.at = subst Q (add-zero s.at) i in (
        j.0,
        λ name. ap (λ (g : Head). step_to g (inside kinds n) (to_field name)) h
            ∙ ap (λ (ns : List Node). node_named name ns) j.1,
      )

  -- ---- a union

  pub choice_of : (k : KindView) (tag : ℕ) → IsChoice k tag
      → (arms : List Branch) × (other : Option Part) × (xdr.choice tag arms other ≡ k)
  choice_of (xdr.choice t arms other) tag e = (arms, other, ap (λ (x : ℕ). xdr.choice x arms other) (sym e))
  choice_of _ tag e = absurd e

  pub choice_unit : (k : KindView) (tag : ℕ) → IsChoice k tag → HasUnit (lead_of k)
  choice_unit (xdr.choice t arms other) tag e = tt
  choice_unit _ tag e = absurd e

  pub choice_at : (s : Spot) (n : Node) → StandsAt kinds limits bytes s n → (tag x : ℕ)
      → IsChoice (kind_at kinds s.kind.place) tag → x < 2 ^ 32 → word x ≡ take 4 (drop s.at bytes)
      → (o : Option Part) → o ≡ part_in (kind_at kinds s.kind.place) (number_in (kind_at kinds tag) x)
      → Spells kinds limits bytes (s.at + 4) (s.depth + 1) (optional_part o) n.inner
      × ((name : List ℕ) → step_to n.head (inside kinds n) (to_field name)
      ≡ node_named name (nodes kinds (s.at + 4) (s.depth + 1) (optional_part o) n.inner))
  choice_at s n st tag x is less unit o oe =
      let c = choice_of (kind_at kinds s.kind.place) tag is in
      let k : KindView = xdr.choice tag c.0 c.1 in
      let z : ℤ = number_in (kind_at kinds tag) x in
      let h : n.head ≡ value.tag z = sym (head_at s n st k x c.2 tt less unit).1 in
      let i = inner_at s n st k (value.tag z) c.2 h in
      let same : part_in k z ≡ o = ap (λ (f : KindView). part_in f z) c.2 ∙ sym oe in
      let Q : Option Part → Type 0 = λ p.
      Spells kinds limits bytes (s.at + 4) (s.depth + 1) (optional_part p) n.inner
      × (inside kinds n ≡ nodes kinds (s.at + 4) (s.depth + 1) (optional_part p) n.inner) in
      let j : Q o = subst Q same i in (
        j.0,
        λ name. ap (λ (g : Head). step_to g (inside kinds n) (to_field name)) h
            ∙ ap (λ (ns : List Node). node_named name ns) j.1,
      )

  -- ---- an array

  only_fixed : (item size : ℕ) (h : Head) → IsLegal kinds (xdr.fixed item size) h → h ≡ value.items size
  only_fixed item size (value.items n) l = ap value.items l
  only_fixed item size _ l = absurd l

  pub fixed_at : (s : Spot) (n : Node) → StandsAt kinds limits bytes s n → (item size : ℕ)
      → xdr.fixed item size ≡ kind_at kinds s.kind.place
      → Spells kinds limits bytes s.at (s.depth + 1) (replicate size (item_part item)) n.inner
      × ((index : ℕ) → step_to n.head (inside kinds n) (to_item index)
      ≡ slice_get (nodes kinds s.at (s.depth + 1) (replicate size (item_part item)) n.inner) index)
  fixed_at s n st item size e =
      let h : n.head ≡ value.items size = only_fixed item size n.head (legal_at s n st (xdr.fixed item size) e) in
      let i = inner_at s n st (xdr.fixed item size) (value.items size) e h in
      let ps : List Part = replicate size (item_part item) in
      let Q : ℕ → Type 0 = λ a. Spells kinds limits bytes a (s.depth + 1) ps n.inner
      × (inside kinds n ≡ nodes kinds a (s.depth + 1) ps n.inner) in
      let j : Q s.at = subst Q (add-zero s.at) i in (
        j.0,
        λ index. ap (λ (g : Head). step_to g (inside kinds n) (to_item index)) h
            ∙ ap (λ (ns : List Node). slice_get ns index) j.1,
      )

  pub up_to_at : (s : Spot) (n : Node) → StandsAt kinds limits bytes s n → (item most x : ℕ)
      → xdr.up_to item most ≡ kind_at kinds s.kind.place → x < 2 ^ 32 → word x ≡ take 4 (drop s.at bytes)
      → Spells kinds limits bytes (s.at + 4) (s.depth + 1) (replicate x (item_part item)) n.inner
      × ((index : ℕ) → step_to n.head (inside kinds n) (to_item index)
      ≡ slice_get (nodes kinds (s.at + 4) (s.depth + 1) (replicate x (item_part item)) n.inner) index)
  up_to_at s n st item most x e less unit =
      let k : KindView = xdr.up_to item most in
      let h : n.head ≡ value.items x = sym (head_at s n st k x e tt less unit).1 in
      let i = inner_at s n st k (value.items x) e h in (
        i.0,
        λ index. ap (λ (g : Head). step_to g (inside kinds n) (to_item index)) h
            ∙ ap (λ (ns : List Node). slice_get ns index) i.1,
      )

  -- ---- fields one after another

  -- the fields that are left have the one that is looked for
  abbrev pub FieldsLeft : (depth : ℕ) (name : List ℕ) (fields : List Member) (at : ℕ) (left : List Member) (place : ℕ)
      → Type 0
  FieldsLeft depth name fields at left place =
      (vs : Values) → Spells kinds limits bytes at depth (map part_of_member fields) vs
      → (ws : Values) × Spells kinds limits bytes place depth (map part_of_member left) ws
      × (node_named name (nodes kinds at depth (map part_of_member fields) vs)
      ≡ node_named name (nodes kinds place depth (map part_of_member left) ws))

  module _ (depth : ℕ) (name : List ℕ) (fields : List Member) (at : ℕ) (left : List Member) (place : ℕ)
      (keeps : FieldsLeft depth name fields at left place) where
    -- a field that is left stands there
    pub field_left : (field : Member) (others : List Member) → left ≡ field ∷ others
        → (vs : Values) × Spells kinds limits bytes at depth (map part_of_member fields) vs
        → (n : Node) × StandsAs kinds limits bytes field.kind.place place n
    field_left field others is some =
        let i = keeps some.0 some.1 in
        let s : Spells kinds limits bytes place depth (part_of_member field ∷ map part_of_member others) i.0 =
        subst (λ (ms : List Member). Spells kinds limits bytes place depth (map part_of_member ms) i.0) is i.1 in
        let b = behind_first place depth (part_of_member field) (map part_of_member others) i.0 name s in
        (b.first, b.is)

    -- one is passed
    pub field_passed : (field : Member) (others : List Member) (end : ℕ) → left ≡ field ∷ others
        → bytes_eq (part_of_member field).name name ≡ false
        → ((n : Node) → StandsAs kinds limits bytes field.kind.place place n
        → end ≡ place + length (bytes_of kinds field.kind.place (n.head, n.inner)))
        → FieldsLeft depth name fields at others end
    field_passed field others end is other ends =
        λ vs sp.
        let i = keeps vs sp in
        let s : Spells kinds limits bytes place depth (part_of_member field ∷ map part_of_member others) i.0 =
        subst (λ (ms : List Member). Spells kinds limits bytes place depth (map part_of_member ms) i.0) is i.1 in
        let b = behind_first place depth (part_of_member field) (map part_of_member others) i.0 name s in
        let far : b.end ≡ end = b.end_is ∙ sym (ends b.first b.is) in (
          b.others,
          subst (λ (a : ℕ). Spells kinds limits bytes a depth (map part_of_member others) b.others) far b.spells,
          i.2 ∙ ap (λ (ms : List Member). node_named name (nodes kinds place depth (map part_of_member ms) i.0)) is
              ∙ b.named other
              ∙ ap (λ (a : ℕ). node_named name (nodes kinds a depth (map part_of_member others) b.others)) far,
        )

    -- one has the name
    pub field_found : (field : Member) (others : List Member) (s : Spot) → left ≡ field ∷ others
        → bytes_eq (part_of_member field).name name ≡ true → s.at ≡ place → s.depth ≡ depth
        → s.kind.place ≡ field.kind.place → s.name.now ≡ (part_of_member field).name
        → (vs : Values) → Spells kinds limits bytes at depth (map part_of_member fields) vs
        → Finds kinds limits bytes (Some s) (node_named name (nodes kinds at depth (map part_of_member fields) vs))
    field_found field others s is same at_is depth_is kind_is name_is vs sp =
        let i = keeps vs sp in
        let ps : List Part = part_of_member field ∷ map part_of_member others in
        let here : Spells kinds limits bytes place depth ps i.0 =
        subst (λ (ms : List Member). Spells kinds limits bytes place depth (map part_of_member ms) i.0) is i.1 in
        let there_s : Spells kinds limits bytes s.at s.depth ps i.0 =
        subst (λ (d : ℕ). Spells kinds limits bytes s.at d ps i.0) (sym depth_is)
        (subst (λ (a : ℕ). Spells kinds limits bytes a depth ps i.0) (sym at_is) here) in
        let f = named_first s (part_of_member field) (map part_of_member others) i.0 name there_s kind_is name_is same
        in (
          f.0,
          i.2 ∙ ap (λ (ms : List Member). node_named name (nodes kinds place depth (map part_of_member ms) i.0)) is
              ∙ ap (λ (a : ℕ). node_named name (nodes kinds a depth ps i.0)) (sym at_is)
              ∙ ap (λ (d : ℕ). node_named name (nodes kinds s.at d ps i.0)) (sym depth_is) ∙ f.1,
          f.2,
          f.3,
        )

    -- none is left
    pub no_field : left ≡ [] → (vs : Values) → Spells kinds limits bytes at depth (map part_of_member fields) vs
        → node_named name (nodes kinds at depth (map part_of_member fields) vs) ≡ None
    no_field none vs sp =
        let i = keeps vs sp in
        i.2 ∙ ap (λ (ms : List Member). node_named name (nodes kinds place depth (map part_of_member ms) i.0)) none
        ∙ none_named place depth i.0 name

  -- ---- the part of an arm

  module _ (s : Spot) (n : Node) (st : StandsAt kinds limits bytes s n) (tag x : ℕ)
      (is : IsChoice (kind_at kinds s.kind.place) tag) (less : x < 2 ^ 32) (unit : word x ≡ take 4 (drop s.at bytes))
      (o : Option Part) (oe : o ≡ part_in (kind_at kinds s.kind.place) (number_in (kind_at kinds tag) x)) where
    -- there is none
    pub no_arm : (name : List ℕ) → o ≡ None → step_to n.head (inside kinds n) (to_field name) ≡ None
    no_arm name none =
        let c = choice_at s n st tag x is less unit o oe in
        c.1 name ∙ ap (λ (p : Option Part). node_named name (nodes kinds (s.at + 4) (s.depth + 1) (optional_part p)
        n.inner)) none ∙ none_named (s.at + 4) (s.depth + 1) n.inner name

    -- it has another name
    pub other_arm : (p : Part) (name : List ℕ) → o ≡ Some p → bytes_eq p.name name ≡ false
        → step_to n.head (inside kinds n) (to_field name) ≡ None
    other_arm p name some other =
        let c = choice_at s n st tag x is less unit o oe in
        let sp : Spells kinds limits bytes (s.at + 4) (s.depth + 1) (p ∷ []) n.inner =
        subst (λ (q : Option Part). Spells kinds limits bytes (s.at + 4) (s.depth + 1) (optional_part q) n.inner) some
        c.0 in
        let b = behind_first (s.at + 4) (s.depth + 1) p [] n.inner name sp in
        c.1 name ∙ ap (λ (q : Option Part). node_named name (nodes kinds (s.at + 4) (s.depth + 1) (optional_part q)
        n.inner)) some ∙ b.named other ∙ none_named b.end (s.depth + 1) b.others name

    -- it has the name
    pub arm_found : (p : Part) (name : List ℕ) (f : Spot) → o ≡ Some p → bytes_eq p.name name ≡ true
        → f.at ≡ s.at + 4 → f.depth ≡ s.depth + 1 → f.kind.place ≡ p.kind → f.name.now ≡ p.name
        → Finds kinds limits bytes (Some f) (step_to n.head (inside kinds n) (to_field name))
    arm_found p name f some same at_is depth_is kind_is name_is =
        let c = choice_at s n st tag x is less unit o oe in
        let sp : Spells kinds limits bytes (s.at + 4) (s.depth + 1) (p ∷ []) n.inner =
        subst (λ (q : Option Part). Spells kinds limits bytes (s.at + 4) (s.depth + 1) (optional_part q) n.inner) some
        c.0 in
        let there_f : Spells kinds limits bytes f.at f.depth (p ∷ []) n.inner =
        subst (λ (d : ℕ). Spells kinds limits bytes f.at d (p ∷ []) n.inner) (sym depth_is)
        (subst (λ (a : ℕ). Spells kinds limits bytes a (s.depth + 1) (p ∷ []) n.inner) (sym at_is) sp) in
        let g = named_first f p [] n.inner name there_f kind_is name_is same in (
          g.0,
          c.1 name ∙ ap (λ (q : Option Part). node_named name (nodes kinds (s.at + 4) (s.depth + 1) (optional_part q)
              n.inner)) some
              ∙ ap (λ (a : ℕ). node_named name (nodes kinds a (s.depth + 1) (p ∷ []) n.inner)) (sym at_is)
              ∙ ap (λ (d : ℕ). node_named name (nodes kinds f.at d (p ∷ []) n.inner)) (sym depth_is) ∙ g.1,
          g.2,
          g.3,
        )
