-- Why a text was not read.
use Rattle.std.specs.Prelude.{◌≤◌, ℕ, List, ⊤}
use Rattle.xdr_lang.specs.Declarations.{Declared}
use Rattle.xdr_lang.specs.Means.{Means}
use Rattle.xdr_lang.specs.Refusals.{IsInner}
use Rattle.xdr_lang.specs.declared.lang_fault.LangFault.{LangFault}
use Rattle.c_values.specs.declared.unread.Unread.{Unread}
use Rattle.c_values.specs.declared.unread.Unread.TheVariants as unread

-- The text means nothing, and the numbers of the fault are in their ranges (RFC 4506 section 6).
pub record IsUndeclared (text : List ℕ) (f : LangFault) : Type 0 where
  pub none : (d : Declared) → Means text d → ⊥
  pub least : 1 ≤ f.number
  pub most : f.number ≤ 12
  pub inner : IsInner f.number f.inner
  pub line : 1 ≤ f.line
  pub column : 1 ≤ f.column

-- that memory was refused says nothing of the text
abbrev pub IsUnread : (text : List ℕ) → Unread → Type 0
IsUnread text (unread.Undeclared f) = IsUndeclared text f
IsUnread text unread.NoMemory = ⊤
