-- The one part is a number.
use Rattle.std.proofs.Common.{◌≡◌, ℕ, List, None, Some, Option, Result, Ok, Err, IfOk, IfErr, MatchResult, codes}
use Rattle.std.proofs.Common.{decimal}
use Rattle.std.proofs.Common.{refl, sym, inl, inr, lit<, true, false, true≢false}
use Rattle.std.proofs.lemmas.Fmt.{decimal_digit}
use Rattle.xdr_lang.specs.Declarations.{Program}
use Rattle.xdr_lang.specs.Views.{declared_of}
use Rattle.oncrpc_procedures.specs.Programs.{IsProgramCut, MeansNoProgram, NamesNoProgram, NamesProgram, ProgramParts}
use Rattle.oncrpc_procedures.specs.Programs.{program_called}
use Rattle.oncrpc_procedures.specs.declared.program.NamedProgram.{NamedProgram}
use Rattle.oncrpc_procedures.specs.declared.unnamed_program.UnnamedProgram.{UnnamedProgram}
use Rattle.oncrpc_procedures.specs.declared.unnamed_program.UnnamedProgram.TheVariants as unnamed
use Rattle.example_procedures.proofs.Numbered.{by_its_number, named_by, refused_by}
use Rattle.example_procedures.proofs.Texts.{a_number, has_no_dot}
use Rattle.example_procedures.proofs.programs.seven.Goals as goal

abbrev parts : ProgramParts
parts = record { program = codes "7"; version = None }

cut : IsProgramCut parts.program parts.version (codes "7")
cut = (has_no_dot (codes "7") refl, refl)

spelled : codes "7" ≡ decimal 7
spelled = sym (decimal_digit 7 (lit< tt))

module _ (ps : List Program) where
  never : (why : UnnamedProgram) → MeansNoProgram parts ps why → ⊥
  never unnamed.NotTwoParts h = h
  never (unnamed.NotANumber k) (inl first) = a_number (codes "7") 7 (lit< tt) spelled first.1
  never (unnamed.NotANumber k) (inr second) = second.2
  never unnamed.NoProgram h = let digit : true ≡ false = h.1.0 in true≢false digit
  never unnamed.NoVersion h = h.1.none

  told : (r : Result NamedProgram UnnamedProgram) → IfOk r (λ n. NamesProgram (codes "7") ps n)
      → IfErr r (λ why. NamesNoProgram (codes "7") ps why)
      → MatchResult r (λ n. (n.program ≡ 7) × (n.version ≡ None)) (λ why. ⊥)
  told (Ok x) found refused =
      let means = named_by (codes "7") ps parts cut x found in
      (by_its_number (codes "7") (program_called (codes "7") ps) 7 x.program (lit< tt) spelled refl means.0, means.1)
  told (Err why) found refused = never why (refused_by (codes "7") ps parts cut why refused)

pub returns : goal.returns
returns c =
    told (declared_of c.args.declared.now).programs c.program_named.result c.program_named.ensures.found
    c.program_named.ensures.refused
