-- Every value's parts can be lent from bytes that begin with its encoding.
use Rattle.std.proofs.Common.{◌≡◌, ℕ, ◌+◌, ◌≤◌, List, [], ◌∷◌, ◌++◌, length, map, take, drop, refl, sym, ap, ◌∙◌, arith}
use Rattle.std.proofs.Common.{append_assoc}
use Rattle.std.proofs.lemmas.Bool.{false≢true}
use Rattle.std.proofs.lemmas.List.{length-append, length-drop, map-append, drop-drop, drop_at, take_at}
use Rattle.xdr_units.specs.Numbers.{pad, padded, word}
use Rattle.xdr_types.specs.Kinds as xdr
use Rattle.xdr_types.specs.Kinds.{KindView, Part, kind_at}
use Rattle.xdr_types.specs.Tree as value
use Rattle.xdr_types.specs.Tree.{Head, Values, Tree, from_list}
use Rattle.xdr_types.specs.Fits.{Fits, parts, item_part}
use Rattle.xdr_types.specs.Spelling.{own, spelling, bytes_of}
use Rattle.xdr_types.specs.Layout.{Entry, layout, entries, shown}
use Rattle.xdr_laws.proofs.Legal.{FitAll, IsLegal, fit_node}
use Rattle.xdr_laws.proofs.WholeUnits.{root_fits, root_spelling}
use Rattle.xdr_parts.specs.Lent.{entry_of, IsLentFrom, AreLentFrom}
use Rattle.xdr_parts.specs.declared.part.Lent.{Lent}
use Rattle.xdr_parts.specs.declared.part.Role.{Role}
use Rattle.xdr_parts.specs.declared.part.Role.TheVariants.{Number, Flag, Length, Content, Group}
use Rattle.xdr_parts.proofs.Keeping.{lent_append}

-- these parts can be lent
pub record Lends (input : List ℕ) (es : List Entry) : Type 0 where
  pub parts : List Lent
  pub each : map entry_of parts ≡ es
  pub from : AreLentFrom input parts

-- a part of these bytes
abbrev lend : (at depth : ℕ) → Part → Role → (bytes : List ℕ) → Lent
lend at depth p role bytes = record {
  at = at;
  depth = depth;
  kind = record { place = p.kind };
  name = record { ref_ptr = (0, 0); now = p.name };
  role = role;
  bytes = record { ref_ptr = (0, 0); now = bytes };
}

lends_both : (input : List ℕ) (xs ys : List Entry) → Lends input xs → Lends input ys → Lends input (xs ++ ys)
lends_both input xs ys f g = record {
  parts = f.parts ++ g.parts;
  each = map-append entry_of f.parts g.parts ∙ ap (λ (z : List Entry). z ++ map entry_of g.parts) f.each
      ∙ ap (λ (z : List Entry). xs ++ z) g.each;
  from = lent_append input f.parts g.parts f.from g.from;
}

module _ (input : List ℕ) (place depth : ℕ) (p : Part) where
  -- bytes that stand at a place are lent from there
  stands : (at : ℕ) (role : Role) (q c : List ℕ) → drop at input ≡ q ++ c → at ≤ length input
      → IsLentFrom input (lend at depth p role q)
  stands at role q c e within = (
    omega (arith, length-drop at input, ap (λ (l : List ℕ). length l) e, length-append q c),
    sym (ap (λ (l : List ℕ). take (length q) l) e ∙ take_at q c (length q) refl),
  )

  one : (at : ℕ) (role : Role) (q c : List ℕ) → drop at input ≡ q ++ c → at ≤ length input
      → Lends input (entry_of (lend at depth p role q) ∷ [])
  one at role q c e within = record {
    parts = lend at depth p role q ∷ [];
    each = refl;
    from = (stands at role q c e within, tt);
  }

  -- content, and its zeros
  filled : (at : ℕ) (bs c : List ℕ) → drop at input ≡ padded bs ++ c → at ≤ length input
      → Lends input (entry_of (lend at depth p Content bs) ∷ [])
  filled at bs c e within = one at Content bs (pad (length bs) ++ c) (e ∙ append_assoc bs (pad (length bs)) c) within

  -- a length and its content
  counted : (bs c : List ℕ) → drop place input ≡ (word (length bs) ++ padded bs) ++ c → place ≤ length input
      → Lends input (entry_of (lend place depth p Length (word (length bs)))
      ∷ entry_of (lend (place + 4) depth p Content bs) ∷ [])
  counted bs c e within =
      let u : List ℕ = word (length bs) in
      let first : drop place input ≡ u ++ (padded bs ++ c) = e ∙ append_assoc u (padded bs) c in
      let behind : drop (place + 4) input ≡ padded bs ++ c =
      sym (drop-drop 4 place input) ∙ ap (λ (b : List ℕ). drop 4 b) first ∙ drop_at u (padded bs ++ c) 4 refl in
      let long : place + 4 ≤ length input =
      omega (arith, length-drop place input, ap (λ (l : List ℕ). length l) first, length-append u (padded bs ++ c)) in
      let a = one place Length u (padded bs ++ c) first within in
      let b = filled (place + 4) bs c behind long in
      lends_both input (entry_of (lend place depth p Length u) ∷ [])
      (entry_of (lend (place + 4) depth p Content bs) ∷ []) a b

  -- the parts of a node by itself
  node_lends : (kinds : List KindView) (f : KindView) (h : Head) → IsLegal kinds f h → (c : List ℕ)
      → drop place input ≡ own f h ++ c → place ≤ length input → Lends input (shown place depth p f h)
  node_lends kinds xdr.int (value.int z) l c e w = one place Number (own xdr.int (value.int z)) c e w
  node_lends kinds xdr.unsigned (value.unsigned n) l c e w =
      one place Number (own xdr.unsigned (value.unsigned n)) c e w
  node_lends kinds xdr.hyper (value.hyper z) l c e w = one place Number (own xdr.hyper (value.hyper z)) c e w
  node_lends kinds xdr.unsigned_hyper (value.unsigned_hyper n) l c e w =
      one place Number (own xdr.unsigned_hyper (value.unsigned_hyper n)) c e w
  node_lends kinds xdr.boolean (value.boolean b) l c e w =
      one place Number (own xdr.boolean (value.boolean b)) c e w
  node_lends kinds (xdr.numbered ms) (value.numbered z) l c e w =
      one place Number (own (xdr.numbered ms) (value.numbered z)) c e w
  node_lends kinds (xdr.opaque size) (value.bytes bs) l c e w = filled place bs c e w
  node_lends kinds (xdr.opaque_up_to max) (value.bytes bs) l c e w = counted bs c e w
  node_lends kinds (xdr.text max) (value.bytes bs) l c e w = counted bs c e w
  node_lends kinds (xdr.fixed item size) (value.items n) l c e w = one place Group [] (drop place input) refl w
  node_lends kinds (xdr.up_to item max) (value.items n) l c e w = one place Length (word n) c e w
  node_lends kinds (xdr.structure fields) value.fields l c e w = one place Group [] (drop place input) refl w
  node_lends kinds (xdr.choice tag arms other) (value.tag z) l c e w =
      one place Number (own (xdr.choice tag arms other) (value.tag z)) c e w
  node_lends kinds (xdr.maybe item) value.present l c e w =
      one place Flag (own (xdr.maybe item) value.present) c e w
  node_lends kinds (xdr.maybe item) value.absent l c e w = one place Flag (own (xdr.maybe item) value.absent) c e w
  node_lends kinds xdr.nothing value.nothing l c e w = one place Group [] (drop place input) refl w
  node_lends kinds _ _ l c e w = absurd l

-- bytes behind a stretch
behind : (input : List ℕ) (place : ℕ) (q c : List ℕ) → drop place input ≡ q ++ c → place ≤ length input
    → (drop (place + length q) input ≡ c) × (place + length q ≤ length input)
behind input place q c e within = (
  sym (drop-drop (length q) place input) ∙ ap (λ (x : List ℕ). drop (length q) x) e ∙ drop_at q c (length q) refl,
  omega (arith, length-drop place input, ap (λ (l : List ℕ). length l) e, length-append q c),
)

layout_lends : (kinds : List KindView) (input : List ℕ) (place depth : ℕ) (ps : List Part) (vs : Values) (c : List ℕ)
    → FitAll kinds ps vs → drop place input ≡ spelling kinds ps vs ++ c → place ≤ length input
    → Lends input (layout kinds place depth ps vs)
layout_lends kinds input place depth [] vs c fits e within = record { parts = []; each = refl; from = tt }
layout_lends kinds input place depth (p ∷ ps) value.none c fits e within = absurd (false≢true fits)
layout_lends kinds input place depth (p ∷ ps) (value.node h inner rest) c fits e within =
    let f : KindView = kind_at kinds p.kind in
    let o : List ℕ = own f h in
    let si : List ℕ = spelling kinds (parts f h) inner in
    let sr : List ℕ = spelling kinds ps rest in
    let fit = fit_node kinds p ps h inner rest fits in
    let here : drop place input ≡ o ++ (si ++ (sr ++ c)) =
    e ∙ append_assoc (o ++ si) sr c ∙ append_assoc o si (sr ++ c) in
    let under = behind input place o (si ++ (sr ++ c)) here within in
    let after = behind input (place + length o) si (sr ++ c) under.0 under.1 in
    let first = node_lends input place depth p kinds f h fit.0 (si ++ (sr ++ c)) here within in
    let second = layout_lends kinds input (place + length o) (depth + 1) (parts f h) inner (sr ++ c) fit.1 under.0
    under.1 in
    let third = layout_lends kinds input (place + length o + length si) depth ps rest c fit.2 after.0 after.1 in
    lends_both input (shown place depth p f h) _ first (lends_both input _ _ second third)

-- the parts of a value that begins the bytes
pub value_lends : (kinds : List KindView) (kind : ℕ) (v : Tree) (input rest : List ℕ) → Fits kinds kind v
    → input ≡ bytes_of kinds kind v ++ rest → Lends input (entries kinds kind v)
value_lends kinds kind v input rest fits e =
    layout_lends kinds input 0 1 (item_part kind ∷ []) (from_list (v ∷ [])) rest (root_fits kinds kind v fits)
    (e ∙ ap (λ (b : List ℕ). b ++ rest) (sym (root_spelling kinds kind v))) (omega arith)
