-- How the end of an item is looked for.
use Rattle.std.specs.Prelude.{ℕ, suc, zero, ◌+◌, ◌-◌, ◌==◌, Bool, true, false, List, [], ◌∷◌, Option, None, Some}
use Rattle.std.specs.Prelude.{if◌then◌else◌, drop, length, slice_index, option_map}
use Rattle.oncrpc_encode.specs.declared.item.Item.{Item}
use Rattle.oncrpc_encode.specs.declared.mark.Mark.{Mark}
use Rattle.oncrpc_encode.specs.declared.mark.Mark.TheVariants as mark
use Rattle.oncrpc_encode.specs.declared.scan.Reading.{Reading}
use Rattle.oncrpc_encode.specs.declared.scan.Reading.TheVariants as reading
use Rattle.oncrpc_encode.specs.declared.scan.Scan.{Scan}
use Rattle.oncrpc_encode.specs.Arrays.{mark_of, is_space}

-- between two strings, so many brackets deep
abbrev pub plain : ℕ → Scan
plain depth = record { reading = reading.Plain; depth = depth }

abbrev pub quoted : ℕ → Scan
quoted depth = record { reading = reading.Quoted; depth = depth }

abbrev pub escaped : ℕ → Scan
escaped depth = record { reading = reading.Escaped; depth = depth }

abbrev pub after_plain : ℕ → Mark → Option Scan
after_plain depth mark.Quote = Some (quoted depth)
after_plain depth mark.Backslash = Some (plain depth)
after_plain depth mark.Comma = if depth == 0 then None else Some (plain depth)
after_plain depth mark.Opening = Some (plain (depth + 1))
after_plain depth mark.Closing = if depth == 0 then None else Some (plain (depth - 1))
after_plain depth mark.Other = Some (plain depth)

abbrev pub after_quoted : ℕ → Mark → Scan
after_quoted depth mark.Quote = plain depth
after_quoted depth mark.Backslash = escaped depth
after_quoted depth mark.Comma = quoted depth
after_quoted depth mark.Opening = quoted depth
after_quoted depth mark.Closing = quoted depth
after_quoted depth mark.Other = quoted depth

abbrev pub after_in : Reading → ℕ → Mark → Option Scan
after_in reading.Plain depth m = after_plain depth m
after_in reading.Quoted depth m = Some (after_quoted depth m)
after_in reading.Escaped depth m = Some (quoted depth)

-- what the next byte leads to; nothing where the item ends before it
abbrev pub after : Scan → Mark → Option Scan
after s m = after_in s.reading s.depth m

-- where the item ends that goes on here
unfoldable pub end_from : (at : ℕ) → Scan → List ℕ → Option ℕ
end_from at s [] = None
end_from at s (b ∷ bs) = elim (after s (mark_of b)) [ None ↦ Some at | Some t ↦ end_from (at + 1) t bs ]

-- the place behind the white space that begins here
unfoldable pub past_spaces : (at : ℕ) → List ℕ → ℕ
past_spaces at [] = at
past_spaces at (b ∷ bs) = elim (is_space b) [ true ↦ past_spaces (at + 1) bs | false ↦ at ]

-- the item that begins and ends so, where it ends before this byte
abbrev pub chosen : (text : List ℕ) → (closing begin : ℕ) → (end : Option ℕ) → Option Item
chosen text closing begin None = None
chosen text closing begin (Some end) =
    if slice_index text end == closing then Some (record { begin = begin; end = end }) else None

-- the item that begins here or behind white space, where it ends before this byte
abbrev pub item_at : (text : List ℕ) → (at closing : ℕ) → Option Item
item_at text at closing =
    let begin = past_spaces at (drop at text) in chosen text closing begin (end_from begin (plain 0) (drop begin text))

-- whether nothing but white space is left
abbrev pub is_blank : (text : List ℕ) → (at : ℕ) → Bool
is_blank text at = past_spaces at (drop at text) == length text

-- the item, where nothing but white space is behind the byte before which it ends
abbrev pub ended : (text : List ℕ) → Option Item → Option Item
ended text None = None
ended text (Some i) = if is_blank text (i.end + 1) then Some i else None

-- the item that begins here and is the last of an array
abbrev pub last_at : (text : List ℕ) → (at : ℕ) → Option Item
last_at text at = ended text (item_at text at 93)

-- the items that begin here: so many before the last
unfoldable pub items_from : (more : ℕ) → (text : List ℕ) → (at : ℕ) → Option (List Item)
items_from zero text at = option_map (λ i. i ∷ []) (last_at text at)
items_from (suc more) text at =
    elim (item_at text at 44) [ None ↦ None | Some i ↦ option_map (λ is. i ∷ is) (items_from more text (i.end + 1)) ]

-- the place behind the bracket with which an array begins
abbrev pub opened : (text : List ℕ) → Option ℕ
opened text =
    let begin = past_spaces 0 text in if slice_index text begin == 91 then Some (begin + 1) else None

-- the items that begin behind the bracket
abbrev pub items_behind : (more : ℕ) → (text : List ℕ) → Option ℕ → Option (List Item)
items_behind more text None = None
items_behind more text (Some at) = items_from more text at

-- the items of an array of so many
abbrev pub items_in : (text : List ℕ) → (count : ℕ) → Option (List Item)
items_in text zero = None
items_in text (suc more) = items_behind more text (opened text)
