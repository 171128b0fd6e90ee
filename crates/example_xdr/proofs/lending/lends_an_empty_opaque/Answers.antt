use Rattle.std.proofs.Common.{◌≡◌, ◌++◌, ◌<◌, [], ◌∷◌, ℕ, List, subst, sym, refl, ◌∙◌, IfOk, inl, inr, length, map}
use Rattle.std.proofs.lemmas.Bool.{cases_lt}
use Rattle.std.proofs.lemmas.List.{get_or_past}
use Rattle.xdr_types.specs.Kinds.{KindView, kind_at, opaque_up_to, unknown}
use Rattle.xdr_types.specs.Layout.{Entry, entry, entries, of_length, of_content}
use Rattle.xdr_types.specs.Spelling.{bytes_of}
use Rattle.xdr_types.specs.Within.{FitsWithin}
use Rattle.xdr_parts.specs.Lent.{entry_of}
use Rattle.example_xdr.specs.Rfc.{content, part}
use Rattle.example_xdr.specs.Lent.{bytes_of_each}
use Rattle.example_xdr.proofs.LentBytes.{given, lent_bytes, only_memory, cut}
use Rattle.example_xdr.proofs.lending.lends_an_empty_opaque.Goals as goal

not_unknown : (n : ℕ) → unknown ≡ opaque_up_to n → ⊥
not_unknown n e = cc

-- the place of a kind is one of the list
known : (s : List KindView) (t n : ℕ) → kind_at s t ≡ opaque_up_to n → t < length s
known s t n e = elim (cases_lt t (length s)) [
  | inl within ↦ within
  | inr past ↦ absurd (not_unknown n (sym (get_or_past s t unknown past) ∙ e))
]

pub parts-requires : goal.parts-requires
parts-requires c = known c.args.schema.now.kinds c.args.kind.place 4294967295 c.requires.kind

pub returns-clause-parts : goal.returns-clause-parts
returns-clause-parts c =
    let S = c.args.schema.now.kinds in
    let place = c.args.kind.place in
    let bytes : bytes_of S place (content []) ++ (0 ∷ 0 ∷ 0 ∷ 42 ∷ [])
    ≡ 0 ∷ 0 ∷ 0 ∷ 0 ∷ 0 ∷ 0 ∷ 0 ∷ 42 ∷ [] = rw c.requires.kind refl in
    let range = c.depth-in_range.ensures.range in
    let fit : FitsWithin S place c.args.limits (content []) =
    rw c.requires.kind (refl, (range.least_depth, range.least_bytes)) in
    let all : entries S place (content [])
    ≡ entry 0 4 1 (part [] place) of_length ∷ entry 4 0 1 (part [] place) (of_content 0) ∷ [] =
    rw c.requires.kind refl in
    subst (λ (es : List Entry). IfOk c.parts.result (λ ls. map entry_of ls.items ≡ es)) all
    (given S place c.args.limits c.depth-in_range.ensures.range.units c.args.input.now (content [])
    (0 ∷ 0 ∷ 0 ∷ 42 ∷ []) fit (c.requires.input ∙ sym bytes) c.parts.result c.parts.ensures.outcome)

pub returns-clause-bytes : goal.returns-clause-bytes
returns-clause-bytes c =
    let S = c.args.schema.now.kinds in
    let place = c.args.kind.place in
    let es : List Entry = entry 0 4 1 (part [] place) of_length ∷ entry 4 0 1 (part [] place) (of_content 0) ∷ [] in
    let bytes : bytes_of S place (content []) ++ (0 ∷ 0 ∷ 0 ∷ 42 ∷ [])
    ≡ 0 ∷ 0 ∷ 0 ∷ 0 ∷ 0 ∷ 0 ∷ 0 ∷ 42 ∷ [] = rw c.requires.kind refl in
    let range = c.depth-in_range.ensures.range in
    let fit : FitsWithin S place c.args.limits (content []) =
    rw c.requires.kind (refl, (range.least_depth, range.least_bytes)) in
    let all : entries S place (content []) ≡ es = rw c.requires.kind refl in
    let parts = subst (λ (x : List Entry). IfOk c.parts.result (λ ls. map entry_of ls.items ≡ x)) all
    (given S place c.args.limits c.depth-in_range.ensures.range.units c.args.input.now (content [])
    (0 ∷ 0 ∷ 0 ∷ 42 ∷ []) fit (c.requires.input ∙ sym bytes) c.parts.result c.parts.ensures.outcome) in
    subst (λ (b : List ℕ). IfOk c.parts.result (λ ls. bytes_of_each ls.items ≡ cut b es)) c.requires.input
    (lent_bytes c.args.input.now es c.parts.result parts c.parts.ensures.lent)

pub returns-clause-taken : goal.returns-clause-taken
returns-clause-taken c =
    let S = c.args.schema.now.kinds in
    let place = c.args.kind.place in
    let bytes : bytes_of S place (content []) ++ (0 ∷ 0 ∷ 0 ∷ 42 ∷ [])
    ≡ 0 ∷ 0 ∷ 0 ∷ 0 ∷ 0 ∷ 0 ∷ 0 ∷ 42 ∷ [] = rw c.requires.kind refl in
    let range = c.depth-in_range.ensures.range in
    let fit : FitsWithin S place c.args.limits (content []) =
    rw c.requires.kind (refl, (range.least_depth, range.least_bytes)) in
    only_memory S place c.args.limits c.depth-in_range.ensures.range.units c.args.input.now (content [])
    (0 ∷ 0 ∷ 0 ∷ 42 ∷ []) fit (c.requires.input ∙ sym bytes) c.parts.result c.parts.ensures.fault
