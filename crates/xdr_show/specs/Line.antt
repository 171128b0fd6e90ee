-- The line that is printed for a part of a value.
use Rattle.std.specs.Prelude.{ℕ, ◌-◌, ◌*◌, ℤ, pos, Bool, true, false, not, ◌&&◌, ◌||◌, ◌==◌, nat_le, List, [], ◌∷◌}
use Rattle.std.specs.Prelude.{◌++◌, replicate, flat_map, codes, decimal, if◌then◌else◌}
use Rattle.std.specs.Fmt.{signed_decimal}
use Rattle.std.specs.Ordering.{int_eq}
use Rattle.hex.specs.Hex.{encode_lower}
use Rattle.xdr_types.specs.Kinds as xdr
use Rattle.xdr_types.specs.Kinds.{KindView, Part, Constant, kind_at}
use Rattle.xdr_types.specs.Tree as value
use Rattle.xdr_types.specs.Tree.{Head}
use Rattle.xdr_types.specs.Layout.{Role, of_number, of_flag, of_length, of_content, of_group}
use Rattle.xdr_show.specs.Seen.{Seen}

-- two spaces for each level below the first
abbrev pub indent : (depth : ℕ) → List ℕ
indent depth = replicate (2 * (depth - 1)) 32

-- a name with a colon and a space after it, where there is a name
abbrev pub label : (name : List ℕ) → List ℕ
label [] = []
label (b ∷ bs) = (b ∷ bs) ++ codes ": "

-- a boolean (RFC 4506 section 4.4)
abbrev pub flag_text : Bool → List ℕ
flag_text true = codes "TRUE"
flag_text false = codes "FALSE"

-- the name of the first member that has the number (RFC 4506 section 4.3)
abbrev pub name_of_number : List Constant → ℤ → List ℕ
name_of_number [] z = []
name_of_number (c ∷ cs) z = if int_eq c.number z then c.name else name_of_number cs z

-- a number of an enumeration, after its name (RFC 4506 section 4.3)
abbrev pub numbered_text : List Constant → ℤ → List ℕ
numbered_text members z = name_of_number members z ++ codes " = " ++ signed_decimal z

-- a number of a discriminant of this kind (RFC 4506 section 4.15)
abbrev pub tag_text : KindView → ℤ → List ℕ
tag_text xdr.boolean z = flag_text (int_eq z (pos 1))
tag_text (xdr.numbered members) z = numbered_text members z
tag_text f z = signed_decimal z

-- a number: in decimal, or by its word or name; a discriminant after the word case (RFC 4506 sections 4.1 to 4.5, 4.15)
abbrev pub number_text : List KindView → KindView → Head → List ℕ
number_text kinds f (value.int z) = signed_decimal z
number_text kinds f (value.unsigned n) = decimal n
number_text kinds f (value.hyper z) = signed_decimal z
number_text kinds f (value.unsigned_hyper n) = decimal n
number_text kinds f (value.boolean b) = flag_text b
number_text kinds (xdr.numbered members) (value.numbered z) = numbered_text members z
number_text kinds (xdr.choice tag arms other) (value.tag z) = codes "case " ++ tag_text (kind_at kinds tag) z
number_text kinds _ _ = []

-- whether an optional item is there (RFC 4506 section 4.19)
abbrev pub optional_text : Head → List ℕ
optional_text value.present = codes "present"
optional_text _ = codes "absent"

-- how many items a list has (RFC 4506 section 4.13)
abbrev pub count_text : Head → List ℕ
count_text (value.items n) = codes "list of " ++ decimal n
count_text _ = []

-- a byte of a text that stands for itself: 0x20 to 0x7e, save the quotation mark and the backslash
abbrev pub is_plain : ℕ → Bool
is_plain b = (nat_le 32 b && nat_le b 126) && not (b == 34 || b == 92)

-- a byte of a text: itself, or a backslash, x and two hexadecimal digits
abbrev pub escaped : ℕ → List ℕ
escaped b = if is_plain b then b ∷ [] else codes "\\x" ++ encode_lower (b ∷ [])

-- bytes of a text between quotation marks (RFC 4506 section 4.11)
abbrev pub quoted : List ℕ → List ℕ
quoted bs = codes "\"" ++ flat_map escaped bs ++ codes "\""

-- content: a text in quotation marks, an opaque as hexadecimal after 0x (RFC 4506 sections 4.9 to 4.11)
abbrev pub content_text : KindView → Head → List ℕ
content_text (xdr.text max) (value.bytes bs) = quoted bs
content_text f (value.bytes bs) = codes "0x" ++ encode_lower bs
content_text _ _ = []

-- what has no bytes of its own: a structure, an array of fixed size, a void (RFC 4506 sections 4.12, 4.14, 4.16)
abbrev pub group_text : KindView → List ℕ
group_text (xdr.structure fields) = codes "struct"
group_text (xdr.fixed item size) = codes "array of " ++ decimal size
group_text f = codes "void"

-- what a part says, by its role, and by the kind and the head of its node
abbrev pub part_text : List KindView → KindView → Role → Head → List ℕ
part_text kinds f of_number h = number_text kinds f h
part_text kinds f of_flag h = optional_text h
part_text kinds f of_length h = count_text h
part_text kinds f (of_content n) h = content_text f h
part_text kinds f of_group h = group_text f

-- every part has a line but the length of an opaque or a string, whose content follows it (RFC 4506 sections 4.10,
-- 4.11)
abbrev pub has_line : Role → Head → Bool
has_line of_length (value.bytes bs) = false
has_line role h = true

-- a line: its indentation, the name, what the part says, and a line feed
abbrev pub line_text : (depth : ℕ) → (name text : List ℕ) → List ℕ
line_text depth name text = indent depth ++ label name ++ text ++ codes "\n"

-- the line of a part, where it has one
abbrev pub line : List KindView → Seen → List ℕ
line kinds s =
    if has_line s.entry.role s.head then line_text s.entry.depth s.entry.name
    (part_text kinds (kind_at kinds s.entry.kind) s.entry.role s.head) else []
