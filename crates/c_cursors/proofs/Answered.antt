-- What statuses say of a part and of parts that are passed over.
use Rattle.std.proofs.Common.{◌≡◌, ◌≢◌, ℕ, ◌+◌, ◌≤◌, List, length, Option, None, Some, Result, Ok, Err, refl}
use Rattle.std.proofs.Common.{ap, true, arith}
use Rattle.xdr_lang.specs.Declarations.{Declared}
use Rattle.xdr_cursor.specs.declared.cursor.Cursor.{Cursor}
use Rattle.xdr_cursor.specs.declared.fault.CursorFault.{CursorFault}
use Rattle.xdr_cursor.specs.declared.fault.CursorFault.TheVariants as fault
use Rattle.c_values.specs.declared.part.ValuePart.{ValuePart}
use Rattle.c_cursors.specs.declared.given.Given.{Given}
use Rattle.c_cursors.specs.declared.given.Given.TheVariants as given
use Rattle.c_cursors.specs.Given.{IsStuck, given_status}
use Rattle.c_cursors.specs.Giving.{Lends, IsGivenByHeld}
use Rattle.c_cursors.specs.Passing.{IsPassedByHeld}
use Rattle.c_cursors.proofs.Parts.{done_astray, memory_astray}

-- ---- parts that are passed over

passed_bad : {x : Unit} {f : CursorFault} → ◌≡◌ {A = Result Unit CursorFault} (Ok x) (Err f) → ⊥
passed_bad e = cc

wanting_bad : ◌≡◌ {A = Result Unit CursorFault} (Err fault.NoMemory) (Err fault.Astray) → ⊥
wanting_bad e = cc

-- how an answer is told
abbrev told : Result Unit CursorFault → Given
told (Ok x) = given.Done
told (Err fault.NoMemory) = given.NoMemory
told (Err fault.Astray) = given.Astray

-- what the cursor says of a place that is lost
abbrev IsLosing : (c c' : Cursor) → Result Unit CursorFault → Type 0
IsLosing c c' r = (r ≡ Err fault.Astray → c'.lost ≡ true) × (c.lost ≡ true → r ≡ Err fault.Astray)

pub passed_stuck : (c c' : Cursor) (r : Result Unit CursorFault) → IsLosing c c' r → IsStuck c c' (told r)
passed_stuck c c' (Ok x) is = ((λ e. absurd (done_astray e)), (λ e. absurd (passed_bad (is.1 e))))
passed_stuck c c' (Err fault.NoMemory) is = ((λ e. absurd (memory_astray e)), (λ e. absurd (wanting_bad (is.1 e))))
passed_stuck c c' (Err fault.Astray) is = ((λ e. is.0 refl), (λ e. refl))

-- ---- statuses

module _ (input : List ℕ) (old new : Lends) where
  -- a part that is given lies in the input
  pub lies : (held : Option Declared) (before left : Option Cursor) (a : Given)
      → IsGivenByHeld held input before left old new a → 0 ≡ given_status a
      → new.part.at + new.part.count ≤ length input
  lies None before left a g e = absurd (omega (arith, e, ap given_status g.0))
  lies (Some d) None left a g e = absurd (omega (arith, e, ap given_status g.0))
  lies (Some d) (Some c) left given.Done g e = g.2.put
  lies (Some d) (Some c) left given.NoMemory g e = absurd (omega (arith, e))
  lies (Some d) (Some c) left given.NoDeclarations g e = absurd (omega (arith, e))
  lies (Some d) (Some c) left given.NoRoom g e = absurd (omega (arith, e))
  lies (Some d) (Some c) left given.NoPart g e = absurd (omega (arith, e))
  lies (Some d) (Some c) left given.NoCursor g e = absurd (omega (arith, e))
  lies (Some d) (Some c) left given.Astray g e = absurd (omega (arith, e))

  -- at any other status but that of a buffer that is too small, nothing is put
  pub stays : (held : Option Declared) (before left : Option Cursor) (a : Given)
      → IsGivenByHeld held input before left old new a → given_status a ≢ 0 → given_status a ≢ 8 → new ≡ old
  stays None before left a g some room = g.2
  stays (Some d) None left a g some room = g.2
  stays (Some d) (Some c) left given.Done g some room = absurd (some refl)
  stays (Some d) (Some c) left given.NoMemory g some room = g.2.put
  stays (Some d) (Some c) left given.NoDeclarations g some room = absurd g.2.put
  stays (Some d) (Some c) left given.NoRoom g some room = absurd (room refl)
  stays (Some d) (Some c) left given.NoPart g some room = g.2.put
  stays (Some d) (Some c) left given.NoCursor g some room = absurd g.2.put
  stays (Some d) (Some c) left given.Astray g some room = g.2.put

  -- where the buffer is too small, the place stays
  pub place_stays : (held : Option Declared) (before left : Option Cursor) (a : Given)
      → IsGivenByHeld held input before left old new a → 8 ≡ given_status a → new.part.at ≡ old.part.at
  place_stays None before left a g e = absurd (omega (arith, e, ap given_status g.0))
  place_stays (Some d) None left a g e = absurd (omega (arith, e, ap given_status g.0))
  place_stays (Some d) (Some c) left given.Done g e = absurd (omega (arith, e))
  place_stays (Some d) (Some c) left given.NoMemory g e = absurd (omega (arith, e))
  place_stays (Some d) (Some c) left given.NoDeclarations g e = absurd (omega (arith, e))
  place_stays (Some d) (Some c) left given.NoRoom g e = ap (λ (p : ValuePart). p.at) g.2.put.part
  place_stays (Some d) (Some c) left given.NoPart g e = absurd (omega (arith, e))
  place_stays (Some d) (Some c) left given.NoCursor g e = absurd (omega (arith, e))
  place_stays (Some d) (Some c) left given.Astray g e = absurd (omega (arith, e))

  -- where no cursor is held none is given
  pub none_given : (held : Option Declared) (left : Option Cursor) (a : Given)
      → IsGivenByHeld held input None left old new a
      → (given_status a ≢ 0) × (left ≡ None) × (new ≡ old)
  none_given None left a g = ((λ e. omega (arith, e, ap given_status g.0)), g.1, g.2)
  none_given (Some d) left a g = ((λ e. omega (arith, e, ap given_status g.0)), g.1, g.2)

-- nor are parts passed over
pub none_passed : (input : List ℕ) (depth : ℕ) (held : Option Declared) (left : Option Cursor) (a : Given)
    → IsPassedByHeld held input depth None left a → given_status a ≢ 0
none_passed input depth None left a g = λ e. omega (arith, e, ap given_status g.0)
none_passed input depth (Some d) left a g = λ e. omega (arith, e, ap given_status g.0)
