-- A handle of any crate for C: what its type is made of, so that its code is walked once. Assumes `Logic`.
use Rattle.std.proofs.Common.{◌≡◌, List, [], ◌∷◌, Option}
use mathlib.Core.Bool.{Bool}
use mir.Syntax.{Sym, Ty, Local, local, value_local, ty_struct, ty_ptr, ty_bool, tcons, tnil}
use mir.Val.{Val}
use base.Fml.{Fml, ftrue}
use denote.Exit.{Last, left, yes}
use denote.RattleType.{RattleType}
use denote.RawPtr.{Ptr}
use Rattle.std.specs.contracts.alloc.Global as heap
use Rattle.std.proofs.alloc.Global.TheLaws as heap_laws
use Rattle.std.specs.contracts.impls.GlobalAllocator.TheImpl.{ghosts}
use Rattle.c_handles.proofs.Handles.{handle_owns}
use Rattle.c_handles.proofs.Values.{Loose}
pub mod None
pub mod Of
pub mod Opened

-- a type with a pointer and a `bool`, which owns what a handle of these owns
pub record Slot (R : RattleType) : Type 1 where
  pub name : Sym
  pub row : RattleType
  pub at : row.Denot → Ptr
  pub live : row.Denot → Bool
  pub held : row.Denot → Option R.Denot
  pub make : Ptr → Bool → Option R.Denot → row.Denot
  pub holds : (p : Ptr) (l : Bool) (x : Option R.Denot) → held (make p l x) ≡ x
  pub owns : (d : row.Denot) (vs : List Val) → row.own_val d vs ≡ handle_owns R (at d) (live d) (held d) vs
  pub owns_made : (p : Ptr) (l : Bool) (x : Option R.Denot) (vs : List Val)
      → row.own_val (make p l x) vs ≡ handle_owns R p l x vs
  pub silent : (d : row.Denot) (f : Last (row.exit yes) d) → left (row.exit yes) d f ≡ ftrue

abbrev pub one_local : Ty → Local
one_local t = local t value_local

-- where such a type stands in the code
abbrev pub slot_local : Sym → Local
slot_local name = one_local (ty_struct name (tcons ty_ptr (tcons ty_bool tnil)))

-- the box as its pointer, on the heap
abbrev pub Held : RattleType → RattleType
Held R = Loose R heap.the_row heap_laws.the_row_laws ghosts
