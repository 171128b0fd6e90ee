-- What the bytes of a lent part show of its node, and the line that says it.
use Rattle.std.specs.Prelude.{◌≡◌, ℕ, ◌<◌, List, [], length, Option, None, Some, MatchOption, true, false, ⊤}
use Rattle.std.specs.Int.{w32, from_be_bytes}
use Rattle.xdr_types.specs.Kinds as xdr
use Rattle.xdr_types.specs.Kinds.{KindView, kind_at}
use Rattle.xdr_types.specs.Tree as value
use Rattle.xdr_types.specs.Tree.{Head}
use Rattle.xdr_types.specs.Fits.{is_legal}
use Rattle.xdr_types.specs.Outcome.{signed, number_in}
use Rattle.xdr_laws.specs.Owed.{flag, truth, silent_head}
use Rattle.xdr_stream.specs.Sees.{make_wide}
use Rattle.xdr_parts.specs.declared.part.Lent.{Lent}
use Rattle.xdr_parts.specs.declared.part.Role.{Role}
use Rattle.xdr_parts.specs.declared.part.Role.TheVariants.{Number, Flag, Length, Content, Group}
use Rattle.xdr_show.specs.Line.{line_text}
use Rattle.xdr_show.specs.Private.Lines.{node_text}

-- a number of the kind, of one unit or of two (RFC 4506 sections 4.1 to 4.5, 4.15)
abbrev pub number_shown : List KindView → KindView → (bytes : List ℕ) → Head
number_shown kinds xdr.int bs = value.int (signed (from_be_bytes w32 bs))
number_shown kinds xdr.unsigned bs = value.unsigned (from_be_bytes w32 bs)
number_shown kinds xdr.hyper bs = make_wide true bs
number_shown kinds xdr.unsigned_hyper bs = make_wide false bs
number_shown kinds xdr.boolean bs = truth (from_be_bytes w32 bs)
number_shown kinds (xdr.numbered members) bs = value.numbered (signed (from_be_bytes w32 bs))
number_shown kinds (xdr.choice tag arms other) bs = value.tag (number_in (kind_at kinds tag) (from_be_bytes w32 bs))
number_shown kinds f bs = value.nothing

-- a count of items; no head, where content follows that has a line of its own (RFC 4506 sections 4.10, 4.11, 4.13)
abbrev pub length_shown : KindView → (bytes : List ℕ) → Option Head
length_shown (xdr.up_to item max) bs = Some (value.items (from_be_bytes w32 bs))
length_shown f bs = None

-- what the bytes of a part show (RFC 4506 sections 4.1 to 4.19)
abbrev pub shown_in : List KindView → KindView → Role → (bytes : List ℕ) → Option Head
shown_in kinds f Number bs = Some (number_shown kinds f bs)
shown_in kinds f Flag bs = Some (flag (from_be_bytes w32 bs))
shown_in kinds f Length bs = length_shown f bs
shown_in kinds f Content bs = Some (value.bytes bs)
shown_in kinds f Group bs = Some (silent_head f)

-- the line of a node, where there is one
abbrev pub line_in : List KindView → KindView → (depth : ℕ) → (name : List ℕ) → Option Head → List ℕ
line_in kinds f depth name None = []
line_in kinds f depth name (Some h) = line_text depth name (node_text kinds f h)

-- the line of a part
abbrev pub line_lent : List KindView → Lent → List ℕ
line_lent kinds l =
    line_in kinds (kind_at kinds l.kind.place) l.depth l.name.now
    (shown_in kinds (kind_at kinds l.kind.place) l.role l.bytes.now)

-- how many bytes a number has (RFC 4506 sections 4.1 to 4.5)
abbrev pub number_size : KindView → ℕ
number_size xdr.hyper = 8
number_size xdr.unsigned_hyper = 8
number_size f = 4

-- a part has as many bytes as its role and kind want (RFC 4506 section 4)
abbrev pub IsSized : KindView → Role → (size : ℕ) → Type 0
IsSized f Number n = n ≡ number_size f
IsSized f Flag n = n ≡ 4
IsSized f Length n = n ≡ 4
IsSized f Content n = ⊤
IsSized f Group n = ⊤

-- a part can be read: its kind is one of the list, it has the bytes that it wants, and a head that they show is legal
pub record IsReadable (kinds : List KindView) (l : Lent) : Type 0 where
  pub known : l.kind.place < length kinds
  pub sized : IsSized (kind_at kinds l.kind.place) l.role (length l.bytes.now)
  pub legal : MatchOption (shown_in kinds (kind_at kinds l.kind.place) l.role l.bytes.now) ⊤
      (λ h. is_legal kinds (kind_at kinds l.kind.place) h ≡ true)
