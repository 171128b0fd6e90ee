-- What the contract says of a program's name whose parts are known.
use Rattle.std.proofs.Common.{◌≡◌, ◌≢◌, ℕ, ◌<◌, ◌^◌, true, false, List, [], ◌∷◌, decimal, codes, Option, None, Some}
use Rattle.std.proofs.Common.{Result}
use Rattle.std.proofs.Common.{Ok, Err, IfOk, IfErr, MatchResult, refl, ap, sym, ◌∙◌, subst, arith, inl, inr, true≢false}
use Rattle.std.specs.Char.{digit_value}
use Rattle.std.specs.Str.Parse.{AllDigits}
use Rattle.std.proofs.lemmas.Fmt.{decimal_injective, decimal_is_IsNumeral}
use Rattle.xdr_lang.specs.Declarations.{Program}
use Rattle.oncrpc_procedures.specs.Meant.{begins_with_digit}
use Rattle.oncrpc_procedures.specs.Names.{IsNoNumber}
use Rattle.oncrpc_procedures.specs.Programs.{IsProgramCut, IsUnreadAt, MeansNoProgram, MeansNumber, MeansVersion}
use Rattle.oncrpc_procedures.specs.Programs.{NamesNoProgram, NamesProgram, ProgramParts, program_called, version_called}
use Rattle.oncrpc_procedures.specs.declared.program.NamedProgram.{NamedProgram}
use Rattle.oncrpc_procedures.specs.declared.unnamed_program.UnnamedProgram.{UnnamedProgram}
use Rattle.oncrpc_procedures.specs.declared.unnamed_program.UnnamedProgram.TheVariants as unnamed
use Rattle.oncrpc_procedures.proofs.ProgramCuts.{one_cut}

first_digit : (b : ℕ) (bs : List ℕ) (n : ℕ) → n < 2 ^ 32 → b ∷ bs ≡ decimal n → digit_value b < 10
first_digit b bs n small e =
    let wide : n < 2 ^ 64 = omega (arith, small) in
    (subst (AllDigits 10) (sym e) (decimal_is_IsNumeral n wide).0.1).0

-- a name means what is called so
pub by_its_name : (b : ℕ) (bs : List ℕ) (called : Option ℕ) (n m : ℕ) → (digit_value b < 10 → ⊥) → called ≡ Some n
    → MeansNumber (b ∷ bs) called m → m ≡ n
by_its_name b bs called n m other is (MeansNumber.number small spelled) =
    absurd (other (first_digit b bs m small spelled))
by_its_name b bs called n m other is (MeansNumber.name begins found) =
    let both : Some n ≡ Some m = sym is ∙ found in cc

-- where nothing is, it means nothing
pub no_name : (b : ℕ) (bs : List ℕ) (called : Option ℕ) (m : ℕ) → (digit_value b < 10 → ⊥) → called ≡ None
    → MeansNumber (b ∷ bs) called m → ⊥
no_name b bs called m other is (MeansNumber.number small spelled) = other (first_digit b bs m small spelled)
no_name b bs called m other is (MeansNumber.name begins found) =
    let both : ◌≡◌ {A = Option ℕ} None (Some m) = sym is ∙ found in cc

-- a number means itself
pub by_its_number : (part : List ℕ) (called : Option ℕ) (n m : ℕ) → n < 2 ^ 32 → part ≡ decimal n
    → begins_with_digit part ≡ true → MeansNumber part called m → m ≡ n
by_its_number part called n m small is digit (MeansNumber.number below spelled) =
    decimal_injective m n (omega (arith, below)) (omega (arith, small)) (sym spelled ∙ is)
by_its_number part called n m small is digit (MeansNumber.name begins found) =
    absurd (true≢false (sym digit ∙ begins))

module _ (text : List ℕ) (ps : List Program) (p : ProgramParts) (cut : IsProgramCut p.program p.version text) where
  of_these : (Said : ProgramParts → Type 0) (q : ProgramParts) → IsProgramCut q.program q.version text → Said q → Said p
  of_these Said q own said =
      let same = one_cut text q.program p.program q.version p.version own cut in
      let parts : q ≡ p = λ j. record { program = same.0 j; version = same.1 j } in subst Said parts said

  -- what is named is what these parts mean
  pub named_by : (x : NamedProgram) → NamesProgram text ps x
      → MeansNumber p.program (program_called p.program ps) x.program × MeansVersion p.version x.program ps x.version
  named_by x n =
      of_these (λ q. MeansNumber q.program (program_called q.program ps) x.program
      × MeansVersion q.version x.program ps x.version) n.parts n.cut (n.program, n.version)

  -- and a refusal says why they mean nothing
  pub refused_by : (why : UnnamedProgram) → NamesNoProgram text ps why → MeansNoProgram p ps why
  refused_by unnamed.NotTwoParts h = h p cut
  refused_by (unnamed.NotANumber k) h = of_these (λ q. MeansNoProgram q ps (unnamed.NotANumber k)) h.0 h.1 h.2
  refused_by unnamed.NoProgram h = of_these (λ q. MeansNoProgram q ps unnamed.NoProgram) h.0 h.1 h.2
  refused_by unnamed.NoVersion h = of_these (λ q. MeansNoProgram q ps unnamed.NoVersion) h.0 h.1 h.2
