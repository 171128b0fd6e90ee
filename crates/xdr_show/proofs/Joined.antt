-- The lines node by node are those of the parts of the layout.
use Rattle.std.proofs.Common.{◌≡◌, ℕ, ◌+◌, List, [], ◌∷◌, ◌++◌, length, map, refl, ap, sym, ◌∙◌, append_assoc}
use Rattle.std.proofs.lemmas.List.{append-nil, map-append}
use Rattle.std.proofs.lemmas.List.Concat.{flat_map-append}
use Rattle.std.specs.List.{flat_map}
use Rattle.xdr_types.specs.Kinds as xdr
use Rattle.xdr_types.specs.Kinds.{KindView, Part, kind_at}
use Rattle.xdr_types.specs.Tree as value
use Rattle.xdr_types.specs.Tree.{Head, Values, Tree, from_list}
use Rattle.xdr_types.specs.Fits.{parts, item_part}
use Rattle.xdr_types.specs.Spelling.{own, spelling}
use Rattle.xdr_types.specs.Layout.{Entry, shown, shown_bytes, shown_items, layout, entries}
use Rattle.xdr_show.specs.Seen.{Seen, of_node, seen_layout, seen}
use Rattle.xdr_show.specs.Line.{line, line_text, content_text}
use Rattle.xdr_show.specs.Private.Lines.{node_text, node_line, lines, value_lines}
use Rattle.xdr_show.specs.Shown.{show_text}

-- without its head each part of a node is what it was
entries_of_node : (h : Head) (es : List Entry) → map (λ (s : Seen). s.entry) (of_node h es) ≡ es
entries_of_node h [] = refl
entries_of_node h (e ∷ es) = ap (λ (z : List Entry). e ∷ z) (entries_of_node h es)

entries_of_layout : (kinds : List KindView) (place depth : ℕ) (ps : List Part) (vs : Values)
    → map (λ (s : Seen). s.entry) (seen_layout kinds place depth ps vs) ≡ layout kinds place depth ps vs
entries_of_layout kinds place depth [] vs = refl
entries_of_layout kinds place depth (p ∷ ps) value.none = refl
entries_of_layout kinds place depth (p ∷ ps) (value.node h inner rest) =
    let f = kind_at kinds p.kind in
    let here = of_node h (shown place depth p f h) in
    let under = seen_layout kinds (place + length (own f h)) (depth + 1) (parts f h) inner in
    let after = seen_layout kinds (place + length (own f h) + length (spelling kinds (parts f h) inner)) depth ps rest
    in
    let first = entries_of_node h (shown place depth p f h) in
    let second = entries_of_layout kinds (place + length (own f h)) (depth + 1) (parts f h) inner in
    let third = entries_of_layout kinds (place + length (own f h) + length (spelling kinds (parts f h) inner)) depth ps
    rest in
    let entry : Seen → Entry = λ s. s.entry in
    map-append entry here (under ++ after) ∙ ap (λ (z : List Entry). map entry here ++ z) (map-append entry under after)
    ∙ cc (first, second, third)

pub entries_of_seen : (kinds : List KindView) (kind : ℕ) (v : Tree)
    → map (λ (s : Seen). s.entry) (seen kinds kind v) ≡ entries kinds kind v
entries_of_seen kinds kind v = entries_of_layout kinds 0 1 (item_part kind ∷ []) (from_list (v ∷ []))

module _ (kinds : List KindView) (place depth : ℕ) (p : Part) where
  -- the lines of parts of one node
  abbrev of_parts : Head → List Entry → List ℕ
  of_parts h es = flat_map (line kinds) (of_node h es)

  -- the line of a node that says this
  abbrev saying : List ℕ → List ℕ
  saying text = line_text depth p.name text

  content_line : (f : KindView) (bs : List ℕ) → of_parts (value.bytes bs) (shown_bytes place depth p f (length bs))
      ≡ saying (content_text (kind_at kinds p.kind) (value.bytes bs))
  content_line (xdr.opaque size) bs = append-nil _
  content_line _ bs = append-nil _

  items_line : (f : KindView) (n : ℕ) → f ≡ kind_at kinds p.kind
      → of_parts (value.items n) (shown_items place depth p f) ≡ saying (node_text kinds f (value.items n))
  items_line (xdr.fixed item size) n e = rw (← e) (append-nil _)
  items_line _ n e = append-nil _

  -- a node has one line
  one_line : (h : Head) → of_parts h (shown place depth p (kind_at kinds p.kind) h) ≡ node_line kinds depth p h
  one_line (value.int z) = append-nil _
  one_line (value.unsigned n) = append-nil _
  one_line (value.hyper z) = append-nil _
  one_line (value.unsigned_hyper n) = append-nil _
  one_line (value.boolean b) = append-nil _
  one_line (value.numbered z) = append-nil _
  one_line (value.bytes bs) = content_line (kind_at kinds p.kind) bs
  one_line (value.items n) = items_line (kind_at kinds p.kind) n refl
  one_line value.fields = append-nil _
  one_line (value.tag z) = append-nil _
  one_line value.present = append-nil _
  one_line value.absent = append-nil _
  one_line value.nothing = append-nil _

lines_of_layout : (kinds : List KindView) (place depth : ℕ) (ps : List Part) (vs : Values)
    → flat_map (line kinds) (seen_layout kinds place depth ps vs) ≡ lines kinds depth ps vs
lines_of_layout kinds place depth [] vs = refl
lines_of_layout kinds place depth (p ∷ ps) value.none = refl
lines_of_layout kinds place depth (p ∷ ps) (value.node h inner rest) =
    let f = kind_at kinds p.kind in
    let here = of_node h (shown place depth p f h) in
    let under = seen_layout kinds (place + length (own f h)) (depth + 1) (parts f h) inner in
    let after = seen_layout kinds (place + length (own f h) + length (spelling kinds (parts f h) inner)) depth ps rest
    in
    let first = one_line kinds place depth p h in
    let second = lines_of_layout kinds (place + length (own f h)) (depth + 1) (parts f h) inner in
    let third = lines_of_layout kinds (place + length (own f h) + length (spelling kinds (parts f h) inner)) depth ps
    rest in
    let joined : flat_map (line kinds) (here ++ (under ++ after))
    ≡ flat_map (line kinds) here ++ (flat_map (line kinds) under ++ flat_map (line kinds) after) =
    flat_map-append (line kinds) here (under ++ after)
    ∙ ap (λ (z : List ℕ). flat_map (line kinds) here ++ z) (flat_map-append (line kinds) under after) in
    joined ∙ sym (append_assoc (flat_map (line kinds) here) (flat_map (line kinds) under) (flat_map (line kinds) after))
    ∙ cc (first, second, third)

-- what is printed for a value is its lines
pub show_is_lines : (kinds : List KindView) (kind : ℕ) (v : Tree)
    → show_text kinds kind v ≡ value_lines kinds 1 (item_part kind) v
show_is_lines kinds kind v = lines_of_layout kinds 0 1 (item_part kind ∷ []) (from_list (v ∷ [])) ∙ append-nil _
