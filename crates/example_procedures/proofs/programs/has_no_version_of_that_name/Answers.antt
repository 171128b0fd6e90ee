-- The second part is the name of no version.
use Rattle.std.proofs.Common.{◌≡◌, ◌<◌, ℕ, List, None, Some, Option, Result, Ok, Err, IfOk, IfErr, MatchResult, codes}
use Rattle.std.proofs.Common.{refl, ap, sym, ◌∙◌, arith, inl, inr, lit<, true, false, true≢false}
use Rattle.std.specs.Char.{digit_value}
use Rattle.oncrpc_procedures.specs.Programs.{IsProgramCut, MeansNoProgram, NamesNoProgram, NamesProgram, ProgramParts}
use Rattle.oncrpc_procedures.specs.Programs.{program_called, version_called}
use Rattle.oncrpc_procedures.specs.declared.program.NamedProgram.{NamedProgram}
use Rattle.oncrpc_procedures.specs.declared.unnamed_program.UnnamedProgram.{UnnamedProgram}
use Rattle.oncrpc_procedures.specs.declared.unnamed_program.UnnamedProgram.TheVariants as unnamed
use Rattle.example_procedures.specs.Mount.{programs}
use Rattle.example_procedures.proofs.Decimals.{mount_text}
use Rattle.example_procedures.proofs.Numbered.{by_its_number, named_by, no_name, refused_by}
use Rattle.example_procedures.proofs.Texts.{a_name, a_number, has_no_dot}
use Rattle.example_procedures.proofs.programs.has_no_version_of_that_name.Goals as goal

abbrev text : List ℕ
text = codes "100005.MOUNT_V4"

abbrev parts : ProgramParts
parts = record { program = codes "100005"; version = Some (codes "MOUNT_V4") }

cut : IsProgramCut parts.program parts.version text
cut = (has_no_dot (codes "100005") refl, has_no_dot (codes "MOUNT_V4") refl, refl)

no_digit : digit_value 77 < 10 → ⊥
no_digit small = omega (arith, small)

uncalled : (program : ℕ) → program ≡ 100005 → version_called (codes "MOUNT_V4") program programs ≡ None
uncalled program is = ap (λ (n : ℕ). version_called (codes "MOUNT_V4") n programs) is

only : (why : UnnamedProgram) → MeansNoProgram parts programs why → why ≡ unnamed.NoVersion
only unnamed.NotTwoParts h = absurd h
only (unnamed.NotANumber k) (inl first) =
    absurd (a_number (codes "100005") 100005 (lit< tt) (sym mount_text) first.1)
only (unnamed.NotANumber k) (inr second) = absurd (a_name (codes "MOUNT_V4") refl second.2)
only unnamed.NoProgram h = let digit : true ≡ false = h.1.0 in absurd (true≢false digit)
only unnamed.NoVersion h = refl

told : (r : Result NamedProgram UnnamedProgram) → IfOk r (λ n. NamesProgram text programs n)
    → IfErr r (λ why. NamesNoProgram text programs why) → MatchResult r (λ n. ⊥) (λ why. why ≡ unnamed.NoVersion)
told (Ok x) found refused =
    let means = named_by text programs parts cut x found in
    let program = by_its_number (codes "100005") (program_called (codes "100005") programs) 100005 x.program
    (lit< tt) (sym mount_text) refl means.0 in
    no_name 77 (codes "OUNT_V4") (version_called (codes "MOUNT_V4") x.program programs) means.1.0 no_digit
    (uncalled x.program program) means.1.2
told (Err why) found refused = only why (refused_by text programs parts cut why refused)

pub returns : goal.returns
returns c =
    told c.program_named.result (rw c.requires at c.program_named.ensures.found)
    (rw c.requires at c.program_named.ensures.refused)
