-- How many parts a value has at most, and how many bytes their names have.
use Rattle.std.proofs.Common.{◌≡◌, ℕ, ◌+◌, ◌*◌, ◌/◌, ◌≤◌, List, [], ◌∷◌, ◌++◌, length, map, refl, sym, arith}
use Rattle.std.proofs.Common.{append-nil}
use Rattle.std.proofs.lemmas.List.{length-append}
use Rattle.std.proofs.lemmas.Nat.{mul-le}
use Rattle.xdr_types.specs.Kinds as xdr
use Rattle.xdr_types.specs.Kinds.{KindView, Part, Lists, kind_at}
use Rattle.xdr_types.specs.Tree as value
use Rattle.xdr_types.specs.Tree.{Head, Values, Tree, from_list}
use Rattle.xdr_types.specs.Fits.{Fits, parts, item_part}
use Rattle.xdr_types.specs.Faults.{IsWellFormed}
use Rattle.xdr_types.specs.Sound.{IsSound}
use Rattle.xdr_types.specs.Spelling.{own, spelling, bytes_of}
use Rattle.xdr_types.specs.Layout.{Entry, layout, entries, shown, shown_bytes, shown_items}
use Rattle.xdr_laws.specs.Parts.{nodes, up_to}
use Rattle.xdr_laws.specs.Held.{Holds, content_before, count_nodes, node_count}
use Rattle.xdr_laws.proofs.Holding.{held_whole}
use Rattle.xdr_laws.proofs.WholeUnits.{value_units}
use Rattle.xdr_laws.proofs.FewNodes.{held_bounds}
use Rattle.xdr_parts.specs.Counted.{names_of}
use Rattle.xdr_parts.specs.Lent.{entry_of}
use Rattle.xdr_parts.specs.declared.part.Lent.{Lent}

-- ---- a node has two parts at most

bytes_few : (place d : ℕ) (p : Part) (k : KindView) (n : ℕ) → length (shown_bytes place d p k n) ≤ 2
bytes_few place d p (xdr.opaque size) n = omega arith
bytes_few place d p _ n = omega arith

items_few : (place d : ℕ) (p : Part) (k : KindView) → length (shown_items place d p k) ≤ 2
items_few place d p (xdr.fixed item size) = omega arith
items_few place d p _ = omega arith

shown_few : (place d : ℕ) (p : Part) (k : KindView) (h : Head) → length (shown place d p k h) ≤ 2
shown_few place d p k (value.bytes bs) = bytes_few place d p k (length bs)
shown_few place d p k (value.items n) = items_few place d p k
shown_few place d p k _ = omega arith

layout_few : (s : List KindView) (place d : ℕ) (ts : List Part) (v : Values)
    → length (layout s place d ts v) ≤ 2 * count_nodes v
layout_few s place d [] v = omega arith
layout_few s place d (t ∷ ts) value.none = omega arith
layout_few s place d (t ∷ ts) (value.node h ps rest) =
    let k : KindView = kind_at s t.kind in
    let inside : List Entry = layout s (place + length (own k h)) (d + 1) (parts k h) ps in
    let after : List Entry = layout s (place + length (own k h) + length (spelling s (parts k h) ps)) d ts rest in
    omega (
      arith,
      shown_few place d t k h,
      layout_few s (place + length (own k h)) (d + 1) (parts k h) ps,
      layout_few s (place + length (own k h) + length (spelling s (parts k h) ps)) d ts rest,
      length-append (shown place d t k h) (inside ++ after),
      length-append inside after,
    )

-- ---- and the bytes bound the nodes

product : (a b : ℕ) → a ≤ 1025 → b ≤ 4194305 → a * b ≤ 1025 * 4194305
product a b h k = mul-le a b 1025 4194305 h k

pub parts_few : (s : Lists) → IsWellFormed s → IsSound s.kinds → (t : ℕ) (v : Tree) → Fits s.kinds t v
    → length (bytes_of s.kinds t v) ≤ 16777216 → length (entries s.kinds t v) ≤ 2 * (1025 * 4194305)
parts_few s well sound t v f long =
    let q : List ℕ = bytes_of s.kinds t v in
    let es : List Entry = entries s.kinds t v in
    let u : ℕ = length q / 4 in
    let h : Holds s.kinds t q (nodes s.kinds (up_to (length q) es)) (content_before (length q) es) =
    record { value = v; begins = (f, [], sym (append-nil q)); nodes = refl; content = refl } in
    let most = (held_bounds s well sound t q u _ _ (omega (arith, value_units s.kinds t v)) h).0 in
    let all = (held_whole s.kinds t v _ _ f h).0 in
    let two = layout_few s.kinds 0 1 (item_part t ∷ []) (from_list (v ∷ [])) in
    let nodes_are : count_nodes (from_list (v ∷ [])) ≡ node_count v = omega arith in
    omega (
      arith,
      most,
      all,
      two,
      nodes_are,
      product (length s.kinds + 1) (u + 1) (omega (arith, well.few)) (omega arith),
    )

-- ---- the names of one part more

pub names_more : (ls : List Lent) (l : Lent)
    → length (names_of (map entry_of (ls ++ l ∷ []))) ≡ length (names_of (map entry_of ls)) + length l.name.now
names_more [] l = omega (arith, length-append l.name.now [])
names_more (x ∷ ls) l = omega (
  arith,
  names_more ls l,
  length-append x.name.now (names_of (map entry_of (ls ++ l ∷ []))),
  length-append x.name.now (names_of (map entry_of ls)),
)
