-- The layout of a value: its parts with their places, in the order of their bytes, a parent before its own parts.
use Rattle.std.specs.Prelude.{ℕ, ◌+◌, List, [], ◌∷◌, ◌++◌, length}
use Rattle.xdr_types.specs.Kinds as xdr
use Rattle.xdr_types.specs.Kinds.{KindView, Part, kind_at}
use Rattle.xdr_types.specs.Tree as value
use Rattle.xdr_types.specs.Tree.{Head, Values, Tree, from_list}
use Rattle.xdr_units.specs.Numbers.{pad}
use Rattle.xdr_types.specs.Fits.{parts, item_part}
use Rattle.xdr_types.specs.Spelling.{own, spelling}

-- what stands in the bytes of a part (RFC 4506 section 4)
pub data Role : Type 0 where
  -- the number of an integer, a boolean, an enumeration or a discriminant (sections 4.1 to 4.5, 4.15)
  of_number : Role
  -- whether an optional item is there (section 4.19)
  of_flag : Role
  -- how many bytes or items follow (sections 4.10, 4.11, 4.13)
  of_length : Role
  -- so many bytes, and the zeros after them (section 3, sections 4.9 to 4.11)
  of_content : (count : ℕ) → Role
  -- no bytes of its own: a structure, a fixed array, a void (sections 4.12, 4.14, 4.16)
  of_group : Role

-- a part of a value: size bytes of its encoding, from the place at on, with the depth, the kind and the name of the
-- node that it belongs to
pub record Entry : Type 0 where
  pub at : ℕ
  pub size : ℕ
  pub depth : ℕ
  pub kind : ℕ
  pub name : List ℕ
  pub role : Role

-- the part of so many bytes at a place, for a node of this depth that stands for a named part
abbrev pub entry : (place size depth : ℕ) → Part → Role → Entry
entry place size depth p role = record {
  at = place;
  size = size;
  depth = depth;
  kind = p.kind;
  name = p.name;
  role = role;
}

-- n bytes of content with the zeros that fill their last unit (RFC 4506 section 3)
abbrev pub content : (place depth : ℕ) → Part → (n : ℕ) → List Entry
content place depth p n = entry place (n + length (pad n)) depth p (of_content n) ∷ []

-- n bytes of content: after their length, save where it is fixed (RFC 4506 sections 4.9 to 4.11)
abbrev pub shown_bytes : (place depth : ℕ) → Part → KindView → (n : ℕ) → List Entry
shown_bytes place depth p (xdr.opaque size) n = content place depth p n
shown_bytes place depth p f n = entry place 4 depth p of_length ∷ content (place + 4) depth p n

-- an array: its length, save where it is fixed (RFC 4506 sections 4.12, 4.13)
abbrev pub shown_items : (place depth : ℕ) → Part → KindView → List Entry
shown_items place depth p (xdr.fixed item size) = entry place 0 depth p of_group ∷ []
shown_items place depth p f = entry place 4 depth p of_length ∷ []

-- the parts that a node has by itself, before those inside it: their bytes are the node's own (RFC 4506 sections 4.1 to
-- 4.19)
abbrev pub shown : (place depth : ℕ) → Part → KindView → Head → List Entry
shown place depth p f (value.int z) = entry place 4 depth p of_number ∷ []
shown place depth p f (value.unsigned n) = entry place 4 depth p of_number ∷ []
shown place depth p f (value.hyper z) = entry place 8 depth p of_number ∷ []
shown place depth p f (value.unsigned_hyper n) = entry place 8 depth p of_number ∷ []
shown place depth p f (value.boolean b) = entry place 4 depth p of_number ∷ []
shown place depth p f (value.numbered z) = entry place 4 depth p of_number ∷ []
shown place depth p f (value.bytes bs) = shown_bytes place depth p f (length bs)
shown place depth p f (value.items n) = shown_items place depth p f
shown place depth p f value.fields = entry place 0 depth p of_group ∷ []
shown place depth p f (value.tag z) = entry place 4 depth p of_number ∷ []
shown place depth p f value.present = entry place 4 depth p of_flag ∷ []
shown place depth p f value.absent = entry place 4 depth p of_flag ∷ []
shown place depth p f value.nothing = entry place 0 depth p of_group ∷ []

-- the parts of one value for each named part, the first of which begins at this place: a node's own, those inside it,
-- those after it
abbrev pub layout : List KindView → (place depth : ℕ) → List Part → Values → List Entry
layout kinds place depth (p ∷ ps) (value.node h inner rest) =
    shown place depth p (kind_at kinds p.kind) h
    ++ (layout kinds (place + length (own (kind_at kinds p.kind) h)) (depth + 1) (parts (kind_at kinds p.kind) h) inner
    ++ layout kinds (place + length (own (kind_at kinds p.kind) h) + length
    (spelling kinds (parts (kind_at kinds p.kind) h) inner)) depth ps rest)
layout kinds place depth _ _ = []

-- the parts of a value of the kind, which itself begins at 0, has depth 1 and no name
abbrev pub entries : List KindView → (kind : ℕ) → Tree → List Entry
entries kinds kind v = layout kinds 0 1 (item_part kind ∷ []) (from_list (v ∷ []))
