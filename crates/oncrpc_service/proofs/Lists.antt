-- Lists of rows as values, and their lines.
use Rattle.std.proofs.Common.{◌≡◌, ℕ, List, [], ◌∷◌, ◌++◌, true, ◌&&◌, refl, ap, sym, ◌∙◌, subst, map, flat_map}
use Rattle.std.proofs.lemmas.Bool.{false≢true}
use Rattle.xdr_types.specs.Kinds as xdr
use Rattle.xdr_types.specs.Kinds.{KindView, Part, kind_at}
use Rattle.xdr_types.specs.Named.{named}
use Rattle.xdr_types.specs.Tree as value
use Rattle.xdr_types.specs.Tree.{Head, Values, Tree, from_list}
use Rattle.xdr_types.specs.Fits.{fits, fit, is_legal, parts}
use Rattle.xdr_types.proofs.Unique.{both}
use Rattle.registry_rows.specs.Rows.{Row, row_of}
use Rattle.registry_dumps.specs.Dir.{dir_kinds}
use Rattle.registry_dumps.specs.Dumps.{content, linked, number, rpcb_list, rpcb_tree}
use Rattle.registry_answer.proofs.Begun.{none_of}
use Rattle.oncrpc_service.specs.Rows.{Mapping, mapping_tree, pmap_list, words, row_line, mapping_line}
use Rattle.oncrpc_service.specs.Private.Nodes.{field_text, fields_line, item_line, list_lines}

abbrev text_of : Tree → List ℕ
text_of t = field_text t.0

abbrev item : Tree → List ℕ
item t = item_line t.0 t.1

-- fields with a space between two of them are the words of a line
fields_words : (t : Tree) (ts : List Tree) → fields_line (from_list (t ∷ ts)) ≡ words (map text_of (t ∷ ts))
fields_words t [] = refl
fields_words t (u ∷ us) = ap (λ (z : List ℕ). text_of t ++ 32 ∷ z) (fields_words u us)

linked_lines : (ts : List Tree) → list_lines (linked ts).0 (linked ts).1 ≡ flat_map item ts
linked_lines [] = refl
linked_lines (t ∷ ts) = ap (λ (z : List ℕ). item t ++ z) (linked_lines ts)

row_words : (r : Row) → item (rpcb_tree r) ≡ row_line r
row_words r = fields_words (number r.prog)
    (number r.vers ∷ content r.netid ∷ content r.address ∷ content r.owner ∷ [])

mapping_words : (m : Mapping) → item (mapping_tree m) ≡ mapping_line m
mapping_words m = fields_words (number m.prog) (number m.vers ∷ number m.prot ∷ number m.port ∷ [])

each_row : (rs : List Row) → flat_map item (map rpcb_tree rs) ≡ flat_map row_line rs
each_row [] = refl
each_row (r ∷ rs) = ap (λ (z : List ℕ). z ++ flat_map item (map rpcb_tree rs)) (row_words r)
    ∙ ap (λ (z : List ℕ). row_line r ++ z) (each_row rs)

each_mapping : (ms : List Mapping) → flat_map item (map mapping_tree ms) ≡ flat_map mapping_line ms
each_mapping [] = refl
each_mapping (m ∷ ms) = ap (λ (z : List ℕ). z ++ flat_map item (map mapping_tree ms)) (mapping_words m)
    ∙ ap (λ (z : List ℕ). mapping_line m ++ z) (each_mapping ms)

-- the lines of rows are those of the list that they make
pub row_lines : (rs : List Row) → list_lines (rpcb_list rs).0 (rpcb_list rs).1 ≡ flat_map row_line rs
row_lines rs = linked_lines (map rpcb_tree rs) ∙ each_row rs

pub mapping_lines : (ms : List Mapping) → list_lines (pmap_list ms).0 (pmap_list ms).1 ≡ flat_map mapping_line ms
mapping_lines ms = linked_lines (map mapping_tree ms) ∙ each_mapping ms

-- ---- what fits is a list of rows

-- a node of a kind, and those after it
abbrev node_fits : KindView → List Part → (h : Head) → (i r : Values) → Type 0
node_fits k ps h i r = (is_legal dir_kinds k h && fit dir_kinds (parts k h) i) && fit dir_kinds ps r ≡ true

-- a number is the first of values that fit
record FirstWord (ps : List Part) (vs : Values) : Type 0 where
  number : ℕ
  rest : Values
  is : vs ≡ value.node (value.unsigned number) value.none rest
  fits : fit dir_kinds ps rest ≡ true

word : (ps : List Part) (h : Head) (i r : Values) → node_fits xdr.unsigned ps h i r → FirstWord ps (value.node h i r)
word ps (value.unsigned n) i r e =
    let a = both _ (fit dir_kinds ps r) e in
    let b = both _ (fit dir_kinds [] i) a.0 in
    record {
      number = n;
      rest = r;
      is = ap (λ (x : Values). value.node (value.unsigned n) x r) (none_of i b.1);
      fits = a.1;
    }
word ps _ i r e = absurd (false≢true e)

first_word : (name : List ℕ) (ps : List Part) (vs : Values) → fit dir_kinds (named name 1 ∷ ps) vs ≡ true
    → FirstWord ps vs
first_word name ps value.none e = absurd (false≢true e)
first_word name ps (value.node h i r) e = word ps h i r e

-- a text is the first of values that fit
record FirstText (ps : List Part) (vs : Values) : Type 0 where
  text : List ℕ
  rest : Values
  is : vs ≡ value.node (value.bytes text) value.none rest
  fits : fit dir_kinds ps rest ≡ true

text : (ps : List Part) (h : Head) (i r : Values) → node_fits (xdr.text 4294967295) ps h i r
    → FirstText ps (value.node h i r)
text ps (value.bytes bs) i r e =
    let a = both _ (fit dir_kinds ps r) e in
    let b = both _ (fit dir_kinds [] i) a.0 in
    record {
      text = bs;
      rest = r;
      is = ap (λ (x : Values). value.node (value.bytes bs) x r) (none_of i b.1);
      fits = a.1;
    }
text ps _ i r e = absurd (false≢true e)

first_text : (name : List ℕ) (kind : ℕ) (ps : List Part) (vs : Values)
    → kind_at dir_kinds kind ≡ xdr.text 4294967295 → fit dir_kinds (named name kind ∷ ps) vs ≡ true → FirstText ps vs
first_text name kind ps value.none k e = absurd (false≢true e)
first_text name kind ps (value.node h i r) k e =
    text ps h i r (subst (λ (x : KindView). node_fits x ps h i r) k e)

-- a row is the first of values that fit
record FirstRow (vs : Values) : Type 0 where
  row : Row
  is : vs ≡ (rpcb_tree row).1

five : (vs : Values) → fit dir_kinds (parts (kind_at dir_kinds 11) value.fields) vs ≡ true → FirstRow vs
five vs e =
    let a = first_word _ _ vs e in
    let b = first_word _ _ a.rest a.fits in
    let c = first_text _ 8 _ b.rest refl b.fits in
    let d = first_text _ 9 _ c.rest refl c.fits in
    let o = first_text _ 10 _ d.rest refl d.fits in
    record {
      row = row_of a.number b.number c.text d.text o.text;
      is = a.is ∙ ap (λ (x : Values). value.node (value.unsigned a.number) value.none x)
          (b.is ∙ ap (λ (x : Values). value.node (value.unsigned b.number) value.none x)
          (c.is ∙ ap (λ (x : Values). value.node (value.bytes c.text) value.none x)
          (d.is ∙ ap (λ (x : Values). value.node (value.bytes d.text) value.none x)
          (o.is ∙ ap (λ (x : Values). value.node (value.bytes o.text) value.none x) (none_of o.rest o.fits)))));
    }

a_row : (h : Head) (i : Values) → fits dir_kinds 11 (h, i) ≡ true → (r : Row) × ((h, i) ≡ rpcb_tree r)
a_row value.fields i e = let f = five i e in (f.row, ap (λ (x : Values). (value.fields, x)) f.is)
a_row _ i e = absurd (false≢true e)

pub record AreRows (t : Tree) : Type 0 where
  pub rows : List Row
  pub is : t ≡ rpcb_list rows

one_more : (r : Row) (t : Tree) → AreRows t → AreRows (
  value.present,
  value.node value.fields
      (value.node (rpcb_tree r).0 (rpcb_tree r).1 (value.node t.0 t.1 value.none)) value.none,
)
one_more r t more = record {
  rows = r ∷ more.rows;
  is = ap (λ (x : Tree). (
    value.present,
    value.node value.fields
        (value.node (rpcb_tree r).0 (rpcb_tree r).1 (value.node x.0 x.1 value.none)) value.none,
  )) more.is;
}

-- what fits an `rpcblist` is one of rows
pub are_rows : (h : Head) (vs : Values) → fits dir_kinds 14 (h, vs) ≡ true → AreRows (h, vs)
are_rows value.absent value.none e = record { rows = []; is = refl }
are_rows value.absent (value.node g i r) e = absurd (false≢true e)
are_rows value.present value.none e = absurd (false≢true e)
are_rows value.present (value.node value.fields (value.node g i (value.node h vs r)) rest) e =
    let all = both _ (fit dir_kinds [] rest) e in
    let row = both (fits dir_kinds 11 (g, i)) _ all.0 in
    let next = both (fits dir_kinds 14 (h, vs)) (fit dir_kinds [] r) row.1 in
    let more = are_rows h vs next.0 in
    let first = a_row g i row.0 in
    subst AreRows (ap (λ (t : Tree). (
      value.present,
      value.node value.fields
          (value.node t.0 t.1 (value.node h vs value.none)) value.none,
    )) (sym first.1)
    ∙ ap (λ (x : Values). (value.present, value.node value.fields (value.node g i (value.node h vs x)) value.none))
    (sym (none_of r next.1))
    ∙ ap (λ (x : Values). (value.present, value.node value.fields (value.node g i (value.node h vs r)) x))
    (sym (none_of rest all.1))) (one_more first.0 (h, vs) more)
are_rows value.present (value.node value.fields (value.node g i value.none) rest) e =
    absurd (false≢true ((both (fits dir_kinds 11 (g, i)) _ (both _ (fit dir_kinds [] rest) e).0).1))
are_rows value.present (value.node value.fields value.none rest) e = absurd (false≢true e)
are_rows value.present (value.node _ i rest) e = absurd (false≢true e)
are_rows _ vs e = absurd (false≢true e)

-- ---- the same for version 2

record FirstMapping (vs : Values) : Type 0 where
  mapping : Mapping
  is : vs ≡ (mapping_tree mapping).1

four : (vs : Values) → fit dir_kinds (parts (kind_at dir_kinds 15) value.fields) vs ≡ true → FirstMapping vs
four vs e =
    let a = first_word _ _ vs e in
    let b = first_word _ _ a.rest a.fits in
    let c = first_word _ _ b.rest b.fits in
    let d = first_word _ _ c.rest c.fits in
    let m : Mapping = record { prog = a.number; vers = b.number; prot = c.number; port = d.number } in
    record {
      mapping = m;
      is = a.is ∙ ap (λ (x : Values). value.node (value.unsigned a.number) value.none x)
          (b.is ∙ ap (λ (x : Values). value.node (value.unsigned b.number) value.none x)
          (c.is ∙ ap (λ (x : Values). value.node (value.unsigned c.number) value.none x)
          (d.is ∙ ap (λ (x : Values). value.node (value.unsigned d.number) value.none x) (none_of d.rest d.fits))));
    }

a_mapping : (h : Head) (i : Values) → fits dir_kinds 15 (h, i) ≡ true → (m : Mapping) × ((h, i) ≡ mapping_tree m)
a_mapping value.fields i e = let f = four i e in (f.mapping, ap (λ (x : Values). (value.fields, x)) f.is)
a_mapping _ i e = absurd (false≢true e)

pub record AreMappings (t : Tree) : Type 0 where
  pub rows : List Mapping
  pub is : t ≡ pmap_list rows

one_mapping_more : (m : Mapping) (t : Tree) → AreMappings t → AreMappings (
  value.present,
  value.node value.fields
      (value.node (mapping_tree m).0 (mapping_tree m).1 (value.node t.0 t.1 value.none)) value.none,
)
one_mapping_more m t more = record {
  rows = m ∷ more.rows;
  is = ap (λ (x : Tree). (
    value.present,
    value.node value.fields
        (value.node (mapping_tree m).0 (mapping_tree m).1 (value.node x.0 x.1 value.none)) value.none,
  )) more.is;
}

-- what fits a `pmaplist` is one of mappings
pub are_mappings : (h : Head) (vs : Values) → fits dir_kinds 18 (h, vs) ≡ true → AreMappings (h, vs)
are_mappings value.absent value.none e = record { rows = []; is = refl }
are_mappings value.absent (value.node g i r) e = absurd (false≢true e)
are_mappings value.present value.none e = absurd (false≢true e)
are_mappings value.present (value.node value.fields (value.node g i (value.node h vs r)) rest) e =
    let all = both _ (fit dir_kinds [] rest) e in
    let row = both (fits dir_kinds 15 (g, i)) _ all.0 in
    let next = both (fits dir_kinds 18 (h, vs)) (fit dir_kinds [] r) row.1 in
    let more = are_mappings h vs next.0 in
    let first = a_mapping g i row.0 in
    subst AreMappings (ap (λ (t : Tree). (
      value.present,
      value.node value.fields
          (value.node t.0 t.1 (value.node h vs value.none)) value.none,
    )) (sym first.1)
    ∙ ap (λ (x : Values). (value.present, value.node value.fields (value.node g i (value.node h vs x)) value.none))
    (sym (none_of r next.1))
    ∙ ap (λ (x : Values). (value.present, value.node value.fields (value.node g i (value.node h vs r)) x))
    (sym (none_of rest all.1))) (one_mapping_more first.0 (h, vs) more)
are_mappings value.present (value.node value.fields (value.node g i value.none) rest) e =
    absurd (false≢true ((both (fits dir_kinds 15 (g, i)) _ (both _ (fit dir_kinds [] rest) e).0).1))
are_mappings value.present (value.node value.fields value.none rest) e = absurd (false≢true e)
are_mappings value.present (value.node _ i rest) e = absurd (false≢true e)
are_mappings _ vs e = absurd (false≢true e)
