-- What a status says of the answer.
use Rattle.std.proofs.Common.{◌≡◌, ℕ, ◌<◌, ◌≤◌, ◌⊎◌, List, Option, None, Some, refl, ap, subst, arith, length}
use Rattle.xdr_lang.specs.Declarations.{Declared}
use Rattle.c_values.specs.declared.answer.Answer.{Answer}
use Rattle.c_values.specs.declared.answer.Answer.TheVariants as answer
use Rattle.c_values.specs.Answers.{IsRightByText}
use Rattle.c_values.specs.Held.{IsReading, IsRightByHeld}
use Rattle.c_values.specs.Normal.{IsMarked}
use Rattle.c_values.specs.Shown.{IsShownByHeld}
use Rattle.c_values.specs.Parted.{Buffers, AreRetained, IsPartedByHeld, parts_status, parts_outcome}
use Rattle.c_values.specs.declared.listed.Listed.{Listed}
use Rattle.c_values.specs.declared.listed.Listed.TheVariants as listed
use Rattle.c_answers.specs.Outcomes.{only_at}
use Rattle.c_values.specs.Statuses.{status_of, outcome_of}

pub whole_reported : (text name : List ℕ) (depth bytes : ℕ) (input : List ℕ) (a : Answer)
    → IsRightByText text name depth bytes input a → 0 ≡ status_of a → outcome_of a ≡ only_at (length input)
whole_reported text name depth bytes input (answer.Whole used) r e = ap only_at r.2.judged.1
whole_reported text name depth bytes input (answer.Followed used) r e = absurd (omega (arith, e))
whole_reported text name depth bytes input (answer.Refused f) r e = absurd (omega (arith, e))
whole_reported text name depth bytes input (answer.Undeclared f) r e = absurd (omega (arith, e))
whole_reported text name depth bytes input answer.NoKind r e = absurd (omega (arith, e))
whole_reported text name depth bytes input answer.BadLimits r e = absurd (omega (arith, e))
whole_reported text name depth bytes input answer.NoMemory r e = absurd (omega (arith, e))
whole_reported text name depth bytes input answer.NoDeclarations r e = absurd (omega (arith, e))
whole_reported text name depth bytes input (answer.NoRoom n) r e = absurd (omega (arith, e))
whole_reported text name depth bytes input (answer.BadItem f) r e = absurd (omega (arith, e))

pub memory_reported : (a : Answer) → 6 ≡ status_of a → outcome_of a ≡ only_at 0
memory_reported (answer.Whole used) e = absurd (omega (arith, e))
memory_reported (answer.Followed used) e = absurd (omega (arith, e))
memory_reported (answer.Refused f) e = absurd (omega (arith, e))
memory_reported (answer.Undeclared f) e = absurd (omega (arith, e))
memory_reported answer.NoKind e = refl
memory_reported answer.BadLimits e = refl
memory_reported answer.NoMemory e = refl
memory_reported answer.NoDeclarations e = refl
memory_reported (answer.NoRoom n) e = absurd (omega (arith, e))
memory_reported (answer.BadItem f) e = absurd (omega (arith, e))

-- a text that was read is held
read_holds : (text : List ℕ) (held : Option Declared) (a : Answer) → IsReading text held a → 0 ≡ status_of a
    → (d : Declared) × (held ≡ Some d)
read_holds text held (answer.Whole used) r e = (r.1, r.3)
read_holds text held (answer.Followed used) r e = absurd r
read_holds text held (answer.Refused f) r e = absurd r
read_holds text held (answer.Undeclared f) r e = absurd (omega (arith, e))
read_holds text held answer.NoKind r e = absurd r
read_holds text held answer.BadLimits r e = absurd r
read_holds text held answer.NoMemory r e = absurd (omega (arith, e))
read_holds text held answer.NoDeclarations r e = absurd r
read_holds text held (answer.NoRoom n) r e = absurd r
read_holds text held (answer.BadItem f) r e = absurd r

held_answers : (d : Declared) (name : List ℕ) (depth bytes : ℕ) (input : List ℕ) (a : Answer)
    → IsRightByHeld (Some d) name depth bytes input a → 7 ≡ status_of a → ⊥
held_answers d name depth bytes input (answer.Whole used) r e = omega (arith, e)
held_answers d name depth bytes input (answer.Followed used) r e = omega (arith, e)
held_answers d name depth bytes input (answer.Refused f) r e = omega (arith, e)
held_answers d name depth bytes input (answer.Undeclared f) r e = omega (arith, e)
held_answers d name depth bytes input answer.NoKind r e = omega (arith, e)
held_answers d name depth bytes input answer.BadLimits r e = omega (arith, e)
held_answers d name depth bytes input answer.NoMemory r e = omega (arith, e)
held_answers d name depth bytes input answer.NoDeclarations r e = r.judged
held_answers d name depth bytes input (answer.NoRoom n) r e = omega (arith, e)
held_answers d name depth bytes input (answer.BadItem f) r e = omega (arith, e)

pub held_reported : (text : List ℕ) (held : Option Declared) (a : Answer) → IsReading text held a → 0 ≡ status_of a
    → (name : List ℕ) (depth bytes : ℕ) (input : List ℕ) (b : Answer) → IsRightByHeld held name depth bytes input b
    → 7 ≡ status_of b → ⊥
held_reported text held a read e name depth bytes input b r reported =
    let h = read_holds text held a read e in
    held_answers h.0 name depth bytes input b
    (subst (λ (x : Option Declared). IsRightByHeld x name depth bytes input b) h.1 r) reported

pub buffer_reported : (limit : ℕ) (input old new : List ℕ) (written : ℕ) (a : Answer)
    → IsMarked limit input old new written a → 8 ≡ status_of a → (new ≡ old) × (written ≡ 0)
buffer_reported limit input old new written (answer.Whole used) r e = absurd (omega (arith, e))
buffer_reported limit input old new written (answer.Followed used) r e = absurd r
buffer_reported limit input old new written (answer.Refused f) r e = absurd (omega (arith, e))
buffer_reported limit input old new written (answer.Undeclared f) r e = absurd r
buffer_reported limit input old new written answer.NoKind r e = absurd r
buffer_reported limit input old new written answer.BadLimits r e = r.1
buffer_reported limit input old new written answer.NoMemory r e = r
buffer_reported limit input old new written answer.NoDeclarations r e = absurd r
buffer_reported limit input old new written (answer.NoRoom n) r e = r.1
buffer_reported limit input old new written (answer.BadItem f) r e = absurd r

pub shown_reported : (held : Option Declared) (name : List ℕ) (depth bytes : ℕ) (input old new : List ℕ) (written : ℕ)
    (a : Answer) → IsShownByHeld held name depth bytes input old new written a → 8 ≡ status_of a
    → (new ≡ old) × (written ≡ 0)
shown_reported None name depth bytes input old new written a r e = r.1
shown_reported (Some d) name depth bytes input old new written (answer.Whole used) r e = absurd (omega (arith, e))
shown_reported (Some d) name depth bytes input old new written (answer.Followed used) r e = absurd (omega (arith, e))
shown_reported (Some d) name depth bytes input old new written (answer.Refused f) r e = absurd (omega (arith, e))
shown_reported (Some d) name depth bytes input old new written (answer.Undeclared f) r e = absurd (omega (arith, e))
shown_reported (Some d) name depth bytes input old new written answer.NoKind r e = r.1
shown_reported (Some d) name depth bytes input old new written answer.BadLimits r e = r.2
shown_reported (Some d) name depth bytes input old new written answer.NoMemory r e = absurd (omega (arith, e))
shown_reported (Some d) name depth bytes input old new written answer.NoDeclarations r e = absurd (omega (arith, e))
shown_reported (Some d) name depth bytes input old new written (answer.NoRoom n) r e = r.shown.1
shown_reported (Some d) name depth bytes input old new written (answer.BadItem f) r e = absurd (omega (arith, e))

-- what status 8 says of a call for parts
pub small_reported : (held : Option Declared) (name : List ℕ) (depth bytes : ℕ) (input : List ℕ) (old new : Buffers)
    (a : Listed) → IsPartedByHeld held name depth bytes input old new a → 8 ≡ parts_status a
    → AreRetained old new
    × ((length old.parts < (parts_outcome a).parts) ⊎ (length old.names < (parts_outcome a).names))
small_reported None name depth bytes input old new a r e = absurd (omega (arith, e, ap parts_status r.0))
small_reported (Some d) name depth bytes input old new (listed.Whole c) r e = absurd (omega (arith, e))
small_reported (Some d) name depth bytes input old new (listed.Followed c) r e = absurd (omega (arith, e))
small_reported (Some d) name depth bytes input old new (listed.Refused f) r e = absurd (omega (arith, e))
small_reported (Some d) name depth bytes input old new listed.NoKind r e = absurd (omega (arith, e))
small_reported (Some d) name depth bytes input old new listed.BadLimits r e = absurd (omega (arith, e))
small_reported (Some d) name depth bytes input old new listed.NoMemory r e = absurd (omega (arith, e))
small_reported (Some d) name depth bytes input old new listed.NoDeclarations r e = absurd (omega (arith, e))
small_reported (Some d) name depth bytes input old new (listed.NoRoom c) r e = (r.parted.4, r.parted.3)

-- what status 2 says of it
pub refusal_reported : (held : Option Declared) (name : List ℕ) (depth bytes : ℕ) (input : List ℕ) (old new : Buffers)
    (a : Listed) → IsPartedByHeld held name depth bytes input old new a → 2 ≡ parts_status a
    → AreRetained old new × ((parts_outcome a).parts ≡ 0) × ((parts_outcome a).names ≡ 0)
    × ((parts_outcome a).at ≤ length input)
refusal_reported None name depth bytes input old new a r e = absurd (omega (arith, e, ap parts_status r.0))
refusal_reported (Some d) name depth bytes input old new (listed.Whole c) r e = absurd (omega (arith, e))
refusal_reported (Some d) name depth bytes input old new (listed.Followed c) r e = absurd (omega (arith, e))
refusal_reported (Some d) name depth bytes input old new (listed.Refused f) r e =
    (r.parted.1, refl, refl, r.parted.0.within)
refusal_reported (Some d) name depth bytes input old new listed.NoKind r e = absurd (omega (arith, e))
refusal_reported (Some d) name depth bytes input old new listed.BadLimits r e = absurd (omega (arith, e))
refusal_reported (Some d) name depth bytes input old new listed.NoMemory r e = absurd (omega (arith, e))
refusal_reported (Some d) name depth bytes input old new listed.NoDeclarations r e = absurd (omega (arith, e))
refusal_reported (Some d) name depth bytes input old new (listed.NoRoom c) r e = absurd (omega (arith, e))
