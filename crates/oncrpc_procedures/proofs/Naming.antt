-- What is found is named, and where nothing is found nothing is.
use Rattle.std.proofs.Common.{◌≡◌, ℕ, List, Option, None, Some, Bor, MatchOption, refl, sym, subst}
use Rattle.std.specs.Option.{IsSomeAnd, option_map}
use Rattle.xdr_lang.specs.Declarations.{Program}
use Rattle.oncrpc_procedures.specs.Private.Cut.{HasNoProgramParts, program_parts_of}
use Rattle.oncrpc_procedures.specs.Programs.{AreRead, IsProgramCut, IsUncalled, MeansNumber, MeansVersion}
use Rattle.oncrpc_procedures.specs.Programs.{NamesNoProgram}
use Rattle.oncrpc_procedures.specs.Programs.{NamesProgram, program_called, version_called}
use Rattle.oncrpc_procedures.specs.declared.program_parts.ProgramParts as declared
use Rattle.oncrpc_procedures.specs.declared.unnamed_program.UnnamedProgram.{UnnamedProgram}
use Rattle.oncrpc_procedures.specs.declared.unnamed_program.UnnamedProgram.TheVariants as unnamed

-- where there is none
pub at_none : {P : Type 0} (Q : ℕ → Type 0) (o : Option ℕ) → o ≡ None → MatchOption o P Q → P
at_none Q None is h = h
at_none Q (Some n) is h = cc

module _ (text : List ℕ) (ps : List Program) (q : declared.ProgramParts)
    (cut : IsProgramCut (program_parts_of q).program (program_parts_of q).version text) where
  abbrev now : Option (Bor (List ℕ)) → Option (List ℕ)
  now o = option_map (λ (b : Bor (List ℕ)). b.now) o

  module _ (n : ℕ) (means : MeansNumber q.program.now (program_called q.program.now ps) n) where
    -- a program alone
    pub named_alone : q.version ≡ None → NamesProgram text ps (record { program = n; version = None })
    named_alone is = record {
      parts = program_parts_of q;
      cut = cut;
      program = means;
      version = subst (λ (o : Option (Bor (List ℕ))). MeansVersion (now o) n ps None) (sym is) refl;
    }

    -- and with a version
    pub named_both : (part : Bor (List ℕ)) (v : ℕ) → q.version ≡ Some part
        → MeansNumber part.now (version_called part.now n ps) v
        → NamesProgram text ps (record { program = n; version = Some v })
    named_both part v is own = record {
      parts = program_parts_of q;
      cut = cut;
      program = means;
      version =
          subst (λ (o : Option (Bor (List ℕ))). MeansVersion (now o) n ps (Some v)) (sym is) (v, refl, own);
    }

    -- no version
    pub no_version : (part : Bor (List ℕ)) → AreRead (program_parts_of q) → q.version ≡ Some part
        → IsUncalled part.now (version_called part.now n ps) → NamesNoProgram text ps unnamed.NoVersion
    no_version part read is none = (
      program_parts_of q,
      cut,
      (
        read,
        record {
          program = n;
          means = means;
          none =
              subst (λ (o : Option (Bor (List ℕ))). IsSomeAnd (now o)
              (λ own. IsUncalled own (version_called own n ps))) (sym is) none;
        },
      ),
    )

  -- no program
  pub no_program : AreRead (program_parts_of q) → IsUncalled q.program.now (program_called q.program.now ps)
      → NamesNoProgram text ps unnamed.NoProgram
  no_program read none = (program_parts_of q, cut, (read, none))
