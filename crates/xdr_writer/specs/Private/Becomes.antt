-- What becomes of an item where a part of some kind and role is due.
use Rattle.std.specs.Prelude.{◌≡◌, ℕ, ℤ, ◌≤◌, ◌<◌, ◌^◌, Bool, true, false, List, length, Result, Ok, Err, ⊤}
use Rattle.xdr_units.specs.Numbers.{num4}
use Rattle.xdr_types.specs.Kinds as xdr
use Rattle.xdr_types.specs.Kinds.{KindView, kind_at}
use Rattle.xdr_types.specs.Fits.{is_signed, is_unsigned}
use Rattle.xdr_types.specs.Layout.{Entry, Role}
use Rattle.xdr_writer.specs.Items.{ItemView, number, spelled_as}
use Rattle.xdr_writer.specs.Forms.{HasForm, is_in_unit, is_in_range, IsInRange, HasRange, IsNext}
use Rattle.xdr_writer.specs.Private.Bytes.{coded_bytes}
use Rattle.xdr_writer.specs.declared.refusal.Why.{Why}
use Rattle.xdr_writer.specs.declared.refusal.Why.TheVariants as why
use Rattle.xdr_writer.specs.declared.units.Coded.{Coded}

-- a number of one unit, signed or not
abbrev pub in_word : (signed : Bool) → ℤ → Bool
in_word true z = is_signed (2 ^ 31) z
in_word false z = is_unsigned (2 ^ 32) z

-- a number of two units, signed or not
abbrev pub in_wide : (signed : Bool) → ℤ → Bool
in_wide true z = is_signed (2 ^ 63) z
in_wide false z = is_unsigned (2 ^ 64) z

-- the numbers of the kind have one unit, signed or not
pub record HasWords (kinds : List KindView) (kind : KindView) (signed : Bool) : Type 0 where
  pub range : (z : ℤ) → is_in_range kinds kind z ≡ in_word signed z
  pub bytes : (z : ℤ) → spelled_as kind (number z) ≡ num4 z

-- the numbers of a discriminant of this kind have one unit, signed or not
abbrev pub HasTags : KindView → (signed : Bool) → Type 0
HasTags kind signed = (z : ℤ) → is_in_unit kind z ≡ in_word signed z

-- the kind is content behind its length
abbrev pub IsCountedContent : KindView → Type 0
IsCountedContent (xdr.opaque_up_to max) = ⊤
IsCountedContent (xdr.text max) = ⊤
IsCountedContent _ = ⊥

-- an item at a part of this kind and role: its bytes, or why it is none there
abbrev pub Becomes : List KindView → KindView → Role → ItemView → Result Coded Why → Type 0
Becomes kinds kind role i (Ok u) =
    HasForm kind role i × HasRange kinds kind i × (coded_bytes u ≡ spelled_as kind i) × (4 ≤ length (coded_bytes u))
Becomes kinds kind role i (Err why.WrongItem) = HasForm kind role i → ⊥
Becomes kinds kind role i (Err why.NotInRange) = HasForm kind role i × (IsInRange kinds kind i → ⊥)
Becomes kinds kind role i (Err _) = ⊥

-- the next unit begins this part, in which some item stands, and its kind is one of the list
pub record IsPlace (kinds : List KindView) (root : ℕ) (b : List ℕ) (e : Entry) : Type 0 where
  pub next : IsNext kinds root b e
  pub known : e.kind < length kinds
  pub item : ItemView
  pub form : HasForm (kind_at kinds e.kind) e.role item
