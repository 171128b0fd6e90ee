-- What is told at a place of right ranges, and so the lines of the file.
use Rattle.std.proofs.Common.{◌≡◌, ℕ, negsuc, zero, suc, ◌<◌, List, [], ◌∷◌, ◌++◌, length, Option, Some, None}
use Rattle.std.proofs.Common.{IfSome, refl, ap, ◌∙◌, subst, arith}
use Rattle.std.specs.Fmt.{digits}
use Rattle.std.specs.Prelude.{codes, slice_get}
use Rattle.xdr_types.specs.Kinds.{KindView, kind_at}
use Rattle.xdr_lang.specs.Declarations.{Declared}
use Rattle.xdr_bounds.specs.Bounds.{AreRanges, IsRange}
use Rattle.xdr_bounds.specs.declared.greatest.Greatest.TheVariants as greatest
use Rattle.xdr_bounds.specs.declared.range.Range.{Range}
use Rattle.json.specs.Json as json
use Rattle.json.specs.Json.{member, no_items, no_members}
use Rattle.json.specs.Print.{escape_byte, print, print_from}
use Rattle.json.specs.Tree.{json_tokens}
use Rattle.json.specs.Value.{items_of}
use Rattle.xdr_listing.specs.JsonListing.{constant_json, json_listing, named_json, range_members}
use Rattle.xdr_listing.specs.Listing.{IsListing, line, listing, text_of}
use Rattle.xdr_listing.specs.Words.{kind_word, range_word}
use Rattle.example_values.specs.Declarations.{file_declared, file_json}
use Rattle.example_values.specs.Rfc.{file_kinds}
use Rattle.example_values.proofs.File.{file_least, file_most}
use Rattle.example_values.proofs.Only.{IsAt, is_greatest, is_least, told}

behind : (x : Range) (xs : List Range) (i : ℕ) (o : Option Range) → IsAt xs i o → IsAt (x ∷ xs) (suc i) o
behind x xs i None h = omega (arith, h)
behind x xs i (Some r) h = (omega (arith, h.0), h.1)

gets : (xs : List Range) (i : ℕ) → i < length xs → IsAt xs i (slice_get xs i)
gets [] i h = absurd (omega (arith, h))
gets (x ∷ xs) zero h = (h, refl)
gets (x ∷ xs) (suc i) h = behind x xs i (slice_get xs i) (gets xs i (omega (arith, h)))

right : (ks : List KindView) (xs : List Range) (i : ℕ) (o : Option Range) → IsAt xs i o → AreRanges ks xs
    → IfSome o (IsRange ks i)
right ks xs i None h are = tt
right ks xs i (Some r) h are = are.each i r h.0 h.1

file_range : (ranges : List Range) → AreRanges file_kinds ranges
    → slice_get ranges 6 ≡ Some (record { least = Some 16; greatest = greatest.Bytes 66100 })
file_range ranges are =
    let at = gets ranges 6 (omega (arith, are.lengths)) in
    told file_kinds ranges 6 (Some 16) (greatest.Bytes 66100) (slice_get ranges 6) are (omega arith)
    (λ b h. is_least file_kinds 6 16 b file_least (omega arith) h)
    (λ g h. is_greatest file_kinds 6 66100 g file_most (omega arith) h) at
    (λ ks a. right ks ranges 6 (slice_get ranges 6) at a)

pub file_lines : (d : Declared) (text : List ℕ) → d ≡ file_declared → IsListing listing d text
    → text ≡ codes "const LEAST -7\ntype file struct 16..66100\n"
unfolding digits
file_lines d text is w =
    let are = subst (λ (e : Declared). AreRanges e.schema.kinds w.ranges) is w.right in
    w.printed ∙ ap (λ (e : Declared). listing e (record { schema = e.schema; ranges = w.ranges })) is
    ∙ ap (λ (o : Option Range). text_of (codes "const LEAST -7" ∷ line (codes "type") (codes "file")
    (kind_word (kind_at file_kinds 6) ++ codes " " ++ range_word o) ∷ [])) (file_range w.ranges are)

-- the same as JSON, by what is told of the file
abbrev with_range : Option Range → List ℕ
with_range o =
    print (json_tokens (json.object (member (codes "constants")
    (json.array (items_of (constant_json (record { name = codes "LEAST"; value = negsuc 6 }) ∷ [])))
    (member (codes "types") (json.array (items_of (named_json (codes "file")
    (member (codes "kind") (json.string (codes "struct")) (range_members o)) ∷ [])))
    (member (codes "programs") (json.array no_items) no_members))))) ++ codes "\n"

pub file_as_json : (d : Declared) (text : List ℕ) → d ≡ file_declared → IsListing json_listing d text
    → text ≡ file_json
unfolding digits print_from escape_byte
file_as_json d text is w =
    let are = subst (λ (e : Declared). AreRanges e.schema.kinds w.ranges) is w.right in
    w.printed ∙ ap (λ (e : Declared). json_listing e (record { schema = e.schema; ranges = w.ranges })) is
    ∙ ap with_range (file_range w.ranges are)
