-- What a call for parts says of the worked value.
use Rattle.std.proofs.Common.{◌≡◌, ℕ, List, [], ◌∷◌, ◌++◌, length, take, drop, refl, ap, ◌∙◌, subst, Option}
use Rattle.std.proofs.Common.{Some, None, arith, length-append, inl, inr, sym}
use Rattle.std.proofs.lemmas.Option.{none-some}
use Rattle.std.specs.Prelude.{◌+◌, codes}
use Rattle.xdr_types.specs.Kinds.{KindView, kind_at}
use Rattle.xdr_types.specs.Layout.{Entry, entries}
use Rattle.xdr_types.specs.Spelling.{bytes_of}
use Rattle.xdr_types.specs.Fits.{Fits}
use Rattle.xdr_types.specs.Tree as value
use Rattle.xdr_types.specs.Tree.{Tree, from_list}
use Rattle.xdr_types.proofs.Unique.{one}
use Rattle.xdr_types.specs.Named.{place_named}
use Rattle.xdr_parts.specs.Counted.{names_of}
use Rattle.xdr_parts.specs.declared.counting.PartCounts.{PartCounts}
use Rattle.xdr_lang.specs.Declarations.{Declared}
use Rattle.oncrpc_kinds.specs.Naming as naming
use Rattle.c_values.specs.declared.listed.Listed.{Listed}
use Rattle.c_values.specs.declared.listed.Listed.TheVariants as listed
use Rattle.c_values.specs.declared.part.ValuePart.{ValuePart}
use Rattle.c_values.specs.Answers.{question}
use Rattle.c_values.specs.Pair.{pair_kinds, HoldsPair, pair_bytes, pair_part, pair_parts, pair_outcome}
use Rattle.c_values.specs.Parts.{AreEach, IsPart, count_in, role_number, type_number}
use Rattle.c_values.specs.Parted.{Buffers, AreParts, ArePut, IsPartedByHeld, parts_status, parts_outcome}
use Rattle.c_values.specs.Private.Parting.{part_of, parts_from}

-- a part of C is determined by the part that it is and the names before it
part_made : (kinds : List KindView) (e : Entry) (at count name_at name_count depth kind xdr_type role n : ℕ)
    → at ≡ e.at → count ≡ count_in e.role e.size → name_at ≡ n → name_count ≡ length e.name → depth ≡ e.depth
    → kind ≡ e.kind → xdr_type ≡ type_number (kind_at kinds e.kind) → role ≡ role_number e.role
    → pair_part at count name_at name_count depth kind xdr_type role ≡ part_of kinds n e
part_made kinds e at count name_at name_count depth kind xdr_type role n a b c d f g h i = cc (a, b, c, d, f, g, h, i)

part_only : (kinds : List KindView) (input names before : List ℕ) (e : Entry) (p : ValuePart)
    → IsPart kinds input names before e p → p ≡ part_of kinds (length before) e
part_only kinds input names before e p is =
    part_made kinds e p.at p.count p.name_at p.name_count p.depth p.kind p.xdr_type p.role (length before)
    is.at is.count is.name_at is.name_count is.depth is.kind is.xdr_type is.role

-- and so are several
each_only : (kinds : List KindView) (input names before : List ℕ) (es : List Entry) (ps : List ValuePart)
    → AreEach kinds input names before es ps → ps ≡ parts_from kinds (length before) es
each_only kinds input names before [] [] each = refl
each_only kinds input names before [] (p ∷ ps) each = absurd each
each_only kinds input names before (e ∷ es) [] each = absurd each
each_only kinds input names before (e ∷ es) (p ∷ ps) each =
    let first = part_only kinds input names before e p each.0 in
    let rest = each_only kinds input names (before ++ e.name) es ps each.1 in
    let more : ps ≡ parts_from kinds (length before + length e.name) es =
    rest ∙ ap (λ (n : ℕ). parts_from kinds n es) (length-append before e.name) in
    cc (first, more)

-- the worked value
abbrev pair : Tree
pair = (value.fields, from_list ((value.unsigned 5, value.none) ∷ (value.bytes (codes "abc"), value.none) ∷ []))

-- no other value spells its bytes
that_pair : (kinds : List KindView) (place : ℕ) (v : Tree) → kinds ≡ pair_kinds → place ≡ 2 → Fits kinds place v
    → bytes_of kinds place v ≡ pair_bytes → v ≡ pair
that_pair kinds place v is at fits spelled =
    let there : Fits pair_kinds 2 v =
    subst (λ (n : ℕ). Fits pair_kinds n v) at (subst (λ (k : List KindView). Fits k place v) is fits) in
    let bytes : bytes_of pair_kinds 2 v ≡ pair_bytes =
    subst (λ (n : ℕ). bytes_of pair_kinds n v ≡ pair_bytes) at
    (subst (λ (k : List KindView). bytes_of k place v ≡ pair_bytes) is spelled) in
    (one pair_kinds 2 v pair [] [] there refl (ap (λ (b : List ℕ). b ++ []) bytes)).0

-- the lists of its parts
module _ (d : Declared) (is : d.schema.kinds ≡ pair_kinds) (place : ℕ) (at : place ≡ 2) (ps : List ValuePart)
    (names : List ℕ) (c : PartCounts) (whole : c.used ≡ 12)
    (are : AreParts (question d place 2 12) pair_bytes ps names c) where
  same_entries : entries d.schema.kinds place are.begins.value ≡ entries pair_kinds 2 pair
  same_entries =
      let spelled : bytes_of d.schema.kinds place are.begins.value ≡ pair_bytes =
      are.begins.spelled ∙ ap (λ (n : ℕ). take n pair_bytes) whole in
      let v = that_pair d.schema.kinds place are.begins.value is at are.begins.fits.0 spelled in
      ap (λ (k : List KindView). entries k place are.begins.value) is
      ∙ ap (λ (n : ℕ). entries pair_kinds n are.begins.value) at ∙ ap (λ (t : Tree). entries pair_kinds 2 t) v

  listed_parts : ps ≡ pair_parts
  listed_parts =
      each_only d.schema.kinds pair_bytes names [] (entries d.schema.kinds place are.begins.value) ps are.each
      ∙ ap (λ (es : List Entry). parts_from d.schema.kinds 0 es) same_entries
      ∙ ap (λ (k : List KindView). parts_from k 0 (entries pair_kinds 2 pair)) is

  listed_names : names ≡ codes "idnamename"
  listed_names = are.joined ∙ ap (λ (es : List Entry). names_of es) same_entries

  pub reported_counts : parts_outcome (listed.Whole c) ≡ pair_outcome
  reported_counts =
      let parts : c.parts ≡ 4 = are.count ∙ ap (λ (x : List ValuePart). length x) listed_parts in
      let bytes : c.names ≡ 10 = are.bytes ∙ ap (λ (x : List ℕ). length x) listed_names in
      cc (whole, parts, bytes)

  pub reported_buffers : (old new : Buffers) → ArePut ps names old new
      → (take 4 new.parts ≡ pair_parts) × (take 10 new.names ≡ codes "idnamename")
  reported_buffers old new put = (
    ap (λ (x : List ValuePart). take 4 x) put.parts_front
        ∙ ap (λ (x : List ValuePart). take 4 (x ++ drop (length x) old.parts)) listed_parts,
    ap (λ (x : List ℕ). take 10 x) put.names_front
        ∙ ap (λ (x : List ℕ). take 10 (x ++ drop (length x) old.names)) listed_names,
  )

named_two : (d : Declared) (place : ℕ) → place_named d.schema.names (codes "pair") ≡ Some 2
    → naming.Names (codes "pair") d place → place ≡ 2
named_two d place two (inl is) = cc (two, is)
named_two d place two (inr part) = absurd (none-some 2 (sym part.0 ∙ two))

-- what status 0 says of it
pub pair_listed : (held : Option Declared) → HoldsPair held → (old new : Buffers) (a : Listed)
    → IsPartedByHeld held (codes "pair") 2 12 pair_bytes old new a → 0 ≡ parts_status a
    → (take 4 new.parts ≡ pair_parts) × (take 10 new.names ≡ codes "idnamename") × (parts_outcome a ≡ pair_outcome)
pair_listed None holds old new a r e = absurd holds
pair_listed (Some d) holds old new (listed.Whole c) r e =
    let at : r.place ≡ 2 = named_two d r.place holds.1 r.names.named in
    let list = r.parted.0 in
    let buffers = reported_buffers d holds.0 r.place at list.0 list.1 c r.parted.1 list.2 old new list.3 in
    (buffers.0, buffers.1, reported_counts d holds.0 r.place at list.0 list.1 c r.parted.1 list.2)
pair_listed (Some d) holds old new (listed.Followed c) r e = absurd (omega (arith, e))
pair_listed (Some d) holds old new (listed.Refused f) r e = absurd (omega (arith, e))
pair_listed (Some d) holds old new listed.NoKind r e = absurd (omega (arith, e))
pair_listed (Some d) holds old new listed.BadLimits r e = absurd (omega (arith, e))
pair_listed (Some d) holds old new listed.NoMemory r e = absurd (omega (arith, e))
pair_listed (Some d) holds old new listed.NoDeclarations r e = absurd (omega (arith, e))
pair_listed (Some d) holds old new (listed.NoRoom c) r e = absurd (omega (arith, e))
