-- An array of JSON as its brackets, commas and strings divide a text, whatever its items are (RFC 8259 section 5).
use Rattle.std.specs.Prelude.{◌≡◌, ◌≢◌, ℕ, ◌+◌, ◌==◌, Bool, true, false, ◌||◌, List, [], ◌∷◌, ◌++◌, length}
use Rattle.std.specs.Prelude.{if◌then◌else◌}
use Rattle.std.specs.List.{flat_map, list_all}
use Rattle.oncrpc_encode.specs.declared.item.Item.{Item}
use Rattle.oncrpc_encode.specs.declared.mark.Mark.{Mark}
use Rattle.oncrpc_encode.specs.declared.mark.Mark.TheVariants as mark

-- white space (RFC 8259 section 2)
abbrev pub is_space : ℕ → Bool
is_space b = b == 32 || b == 9 || b == 10 || b == 13

-- what a byte is in a text of JSON (RFC 8259 sections 2 and 7). Brackets are of both kinds, and either closes either
abbrev pub mark_of : ℕ → Mark
mark_of b =
    if b == 34 then mark.Quote
    else if b == 92 then mark.Backslash
    else if b == 44 then mark.Comma
    else if b == 91 || b == 123 then mark.Opening
    else if b == 93 || b == 125 then mark.Closing
    else mark.Other

-- What stands between two quotes: each quote and each backslash in it stands behind a backslash (RFC 8259 section 7).
pub data IsContent : List ℕ → Type 0 where
  nothing : IsContent []
  byte : (b : ℕ) (bs : List ℕ) → mark_of b ≢ mark.Quote → mark_of b ≢ mark.Backslash → IsContent bs
      → IsContent (b ∷ bs)
  escape : (b c : ℕ) (bs : List ℕ) → mark_of b ≡ mark.Backslash → IsContent bs → IsContent (b ∷ c ∷ bs)

-- whether a byte stands by itself outside of strings, where a comma may or may not
abbrev pub is_single : (comma : Bool) → Mark → Bool
is_single comma mark.Quote = false
is_single comma mark.Backslash = true
is_single comma mark.Comma = comma
is_single comma mark.Opening = false
is_single comma mark.Closing = false
is_single comma mark.Other = true

-- Strings are whole, and brackets are closed. Within brackets a comma may stand, and outside of them where it may.
pub data IsBalanced : (comma : Bool) → List ℕ → Type 0 where
  nothing : (comma : Bool) → IsBalanced comma []
  byte : (comma : Bool) (b : ℕ) (bs : List ℕ) → is_single comma (mark_of b) ≡ true → IsBalanced comma bs
      → IsBalanced comma (b ∷ bs)
  string : (comma : Bool) (b : ℕ) (content : List ℕ) (c : ℕ) (bs : List ℕ) → mark_of b ≡ mark.Quote
      → IsContent content → mark_of c ≡ mark.Quote → IsBalanced comma bs
      → IsBalanced comma (b ∷ (content ++ c ∷ bs))
  brackets : (comma : Bool) (b : ℕ) (inner : List ℕ) (c : ℕ) (bs : List ℕ) → mark_of b ≡ mark.Opening
      → IsBalanced true inner → mark_of c ≡ mark.Closing → IsBalanced comma bs
      → IsBalanced comma (b ∷ (inner ++ c ∷ bs))

-- an item with the white space in front of it
pub record Piece : Type 0 where
  pub space : List ℕ
  pub body : List ℕ

abbrev pub begins_with_space : List ℕ → Bool
begins_with_space [] = false
begins_with_space (b ∷ bs) = is_space b

-- White space is in front, and none begins the item. No comma of the item stands outside of its strings and brackets.
pub record IsPiece (p : Piece) : Type 0 where
  pub space : list_all is_space p.space ≡ true
  pub body : IsBalanced false p.body
  pub begins : begins_with_space p.body ≡ false

abbrev pub text_of : Piece → List ℕ
text_of p = p.space ++ p.body

-- each of these is an item
abbrev pub ArePieces : List Piece → Type 0
ArePieces [] = Unit {0}
ArePieces (p ∷ ps) = IsPiece p × ArePieces ps

-- The text is an array of these items, of which there is one at least: `[`, the items with a comma between two of them,
-- `]`, and white space on both sides (RFC 8259 section 5).
pub record IsArray (text front : List ℕ) (first : Piece) (others : List Piece) : Type 0 where
  pub back : List ℕ
  pub before : list_all is_space front ≡ true
  pub behind : list_all is_space back ≡ true
  pub pieces : ArePieces (first ∷ others)
  pub joined : text ≡ front ++ 91 ∷ (text_of first ++ flat_map (λ p. 44 ∷ text_of p) others ++ 93 ∷ back)

-- where the items are that begin at a place, one comma behind another
abbrev pub places : (at : ℕ) → List Piece → List Item
places at [] = []
places at (p ∷ ps) =
    let begin = at + length p.space in
    record { begin = begin; end = begin + length p.body } ∷ places (begin + length p.body + 1) ps

-- The text is an array of so many items, which are at these places.
pub record AreItems (text : List ℕ) (count : ℕ) (items : List Item) : Type 0 where
  pub front : List ℕ
  pub first : Piece
  pub others : List Piece
  pub array : IsArray text front first others
  pub counted : count ≡ length (first ∷ others)
  pub placed : items ≡ places (length front + 1) (first ∷ others)

-- a text is an array in one way at most
abbrev pub OneReading : Type 0
OneReading =
    (text : List ℕ) (count other : ℕ) (items others : List Item) → AreItems text count items
    → AreItems text other others → items ≡ others
