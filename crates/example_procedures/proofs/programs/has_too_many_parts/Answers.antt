-- There are two dots.
use Rattle.std.proofs.Common.{◌≡◌, ℕ, List, Option, Result, Ok, Err, IfOk, IfErr, MatchResult, codes, refl}
use Rattle.xdr_lang.specs.Declarations.{Program}
use Rattle.xdr_lang.specs.Views.{declared_of}
use Rattle.oncrpc_procedures.specs.Programs.{IsProgramCut, NamesNoProgram, NamesProgram}
use Rattle.oncrpc_procedures.specs.declared.program.NamedProgram.{NamedProgram}
use Rattle.oncrpc_procedures.specs.declared.unnamed_program.UnnamedProgram.{UnnamedProgram}
use Rattle.oncrpc_procedures.specs.declared.unnamed_program.UnnamedProgram.TheVariants as unnamed
use Rattle.oncrpc_procedures.proofs.ProgramCuts.{two_dots}
use Rattle.example_procedures.proofs.Texts.{has_no_dot}
use Rattle.example_procedures.proofs.programs.has_too_many_parts.Goals as goal

none : (program : List ℕ) (version : Option (List ℕ)) → IsProgramCut program version (codes "1.2.3") → ⊥
none program version cut =
    two_dots (codes "1.2.3") (codes "1") (codes "2.3") (codes "2") (codes "3") (has_no_dot (codes "1") refl) refl refl
    program version cut

module _ (ps : List Program) where
  only : (why : UnnamedProgram) → NamesNoProgram (codes "1.2.3") ps why → why ≡ unnamed.NotTwoParts
  only unnamed.NotTwoParts h = refl
  only (unnamed.NotANumber k) h = absurd (none h.0.program h.0.version h.1)
  only unnamed.NoProgram h = absurd (none h.0.program h.0.version h.1)
  only unnamed.NoVersion h = absurd (none h.0.program h.0.version h.1)

  told : (r : Result NamedProgram UnnamedProgram) → IfOk r (λ n. NamesProgram (codes "1.2.3") ps n)
      → IfErr r (λ why. NamesNoProgram (codes "1.2.3") ps why)
      → MatchResult r (λ n. ⊥) (λ why. why ≡ unnamed.NotTwoParts)
  told (Ok x) found refused = none found.parts.program found.parts.version found.cut
  told (Err why) found refused = only why refused

pub returns : goal.returns
returns c =
    told (declared_of c.args.declared.now).programs c.program_named.result c.program_named.ensures.found
    c.program_named.ensures.refused
