-- A kind of XDR without where it lies in memory, and the lists of a schema. Kinds name one another by place.
use Rattle.std.specs.Prelude.{ℕ, ℤ, List, Option, slice_index_or}

-- a named part: a field of a structure, or the part of an arm (RFC 4506 sections 4.14, 4.15)
pub record Part : Type 0 where
  pub name : List ℕ
  pub kind : ℕ

-- an arm of a union: the cases that it stands under, and its part (RFC 4506 section 4.15)
pub record Branch : Type 0 where
  pub cases : List ℤ
  pub part : Part

-- a member of an enumeration (RFC 4506 section 4.3)
pub record Constant : Type 0 where
  pub name : List ℕ
  pub number : ℤ

-- the kinds (RFC 4506 sections 4.1 to 4.19)
pub data KindView : Type 0 where
  int : KindView
  unsigned : KindView
  hyper : KindView
  unsigned_hyper : KindView
  boolean : KindView
  numbered : (members : List Constant) → KindView
  opaque : (size : ℕ) → KindView
  opaque_up_to : (max : ℕ) → KindView
  text : (max : ℕ) → KindView
  fixed : (item size : ℕ) → KindView
  up_to : (item max : ℕ) → KindView
  structure : (fields : List Part) → KindView
  choice : (tag : ℕ) → (arms : List Branch) → (other : Option Part) → KindView
  maybe : (item : ℕ) → KindView
  nothing : KindView
  -- no kind: what stands at a place outside the list
  unknown : KindView

-- a schema: kinds that name one another by place, and names for some of them
pub record Lists : Type 0 where
  pub kinds : List KindView
  pub names : List Part

-- the kind at a place
abbrev pub kind_at : List KindView → ℕ → KindView
kind_at kinds place = slice_index_or kinds place unknown
