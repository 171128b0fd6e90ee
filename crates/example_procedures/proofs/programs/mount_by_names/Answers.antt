-- Both parts are names, of one program and one version.
use Rattle.std.proofs.Common.{◌≡◌, ◌<◌, ℕ, List, None, Some, Option, Result, Ok, Err, IfOk, IfErr, MatchResult, codes}
use Rattle.std.proofs.Common.{refl, ap, sym, ◌∙◌, arith, inl, inr}
use Rattle.std.specs.Char.{digit_value}
use Rattle.oncrpc_procedures.specs.Programs.{IsProgramCut, MeansNoProgram, NamesNoProgram, NamesProgram, ProgramParts}
use Rattle.oncrpc_procedures.specs.Programs.{program_called, version_called}
use Rattle.oncrpc_procedures.specs.declared.program.NamedProgram.{NamedProgram}
use Rattle.oncrpc_procedures.specs.declared.unnamed_program.UnnamedProgram.{UnnamedProgram}
use Rattle.oncrpc_procedures.specs.declared.unnamed_program.UnnamedProgram.TheVariants as unnamed
use Rattle.example_procedures.specs.Mount.{programs}
use Rattle.example_procedures.proofs.Numbered.{by_its_name, named_by, refused_by}
use Rattle.example_procedures.proofs.Texts.{a_name, has_no_dot}
use Rattle.example_procedures.proofs.programs.mount_by_names.Goals as goal

abbrev text : List ℕ
text = codes "MOUNT_PROGRAM.MOUNT_V3"

abbrev parts : ProgramParts
parts = record { program = codes "MOUNT_PROGRAM"; version = Some (codes "MOUNT_V3") }

cut : IsProgramCut parts.program parts.version text
cut = (has_no_dot (codes "MOUNT_PROGRAM") refl, has_no_dot (codes "MOUNT_V3") refl, refl)

no_digit : digit_value 77 < 10 → ⊥
no_digit small = omega (arith, small)

third : (program : ℕ) → program ≡ 100005 → version_called (codes "MOUNT_V3") program programs ≡ Some 3
third program is = ap (λ (n : ℕ). version_called (codes "MOUNT_V3") n programs) is

never : (why : UnnamedProgram) → MeansNoProgram parts programs why → ⊥
never unnamed.NotTwoParts h = h
never (unnamed.NotANumber k) (inl first) = a_name (codes "MOUNT_PROGRAM") refl first.1
never (unnamed.NotANumber k) (inr second) = a_name (codes "MOUNT_V3") refl second.2
never unnamed.NoProgram h = let none : ◌≡◌ {A = Option ℕ} (Some 100005) None = h.1.1 in cc
never unnamed.NoVersion h =
    let program = by_its_name 77 (codes "OUNT_PROGRAM") (program_called (codes "MOUNT_PROGRAM") programs) 100005
    h.1.program no_digit refl h.1.means in
    let none : ◌≡◌ {A = Option ℕ} (Some 3) None = sym (third h.1.program program) ∙ h.1.none.1 in cc

told : (r : Result NamedProgram UnnamedProgram) → IfOk r (λ n. NamesProgram text programs n)
    → IfErr r (λ why. NamesNoProgram text programs why)
    → MatchResult r (λ n. (n.program ≡ 100005) × (n.version ≡ Some 3)) (λ why. ⊥)
told (Ok x) found refused =
    let means = named_by text programs parts cut x found in
    let program = by_its_name 77 (codes "OUNT_PROGRAM") (program_called (codes "MOUNT_PROGRAM") programs) 100005
    x.program no_digit refl means.0 in
    let version = by_its_name 77 (codes "OUNT_V3") (version_called (codes "MOUNT_V3") x.program programs) 3
    means.1.0 no_digit (third x.program program) means.1.2 in
    (program, means.1.1 ∙ ap Some version)
told (Err why) found refused = never why (refused_by text programs parts cut why refused)

pub returns : goal.returns
returns c =
    told c.program_named.result (rw c.requires at c.program_named.ensures.found)
    (rw c.requires at c.program_named.ensures.refused)
