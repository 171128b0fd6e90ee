-- What the contract says of a text whose parts are known.
use Rattle.std.proofs.Common.{◌≡◌, ◌≢◌, ℕ, List, [], ◌∷◌, Result, Ok, Err, IfOk, IfErr, MatchResult, refl, sym, subst}
use Rattle.std.proofs.Common.{◌∙◌, ap, inl, inr}
use Rattle.xdr_lang.specs.Declarations.{Program}
use Rattle.oncrpc_procedures.specs.Meant.{Parts, Target, procedures_meant, programs_meant, versions_meant}
use Rattle.oncrpc_procedures.specs.Names.{AreReadable, IsCut, IsNoNumber, Names, OneReading}
use Rattle.oncrpc_procedures.specs.Unnamed.{IsFirstUnread, NamesNone}
use Rattle.oncrpc_procedures.specs.View.{target_of}
use Rattle.oncrpc_procedures.specs.declared.named.Named.{Named}
use Rattle.oncrpc_procedures.specs.declared.unnamed.Unnamed.{Unnamed}
use Rattle.oncrpc_procedures.specs.declared.unnamed.Unnamed.TheVariants as unnamed

module _ (one : OneReading) (p : Parts) (text : List ℕ) (cut : IsCut p text) (ps : List Program) where
  -- what stands for parts of the text stands for these
  of_these : (Said : Parts → Type 0) (q : Parts) → IsCut q text → Said q → Said p
  of_these Said q own said = subst Said (one q p text own cut) said

  -- the parts mean one procedure alone
  module _ (u : Target) (meant : procedures_meant p ps ≡ u ∷ []) (known : programs_meant p ps ≢ [])
      (versioned : versions_meant p ps ≢ []) (numbers : (k : ℕ) → IsFirstUnread k p → ⊥) where
    one_target : (t : Target) → Names text ps t → t ≡ u
    one_target t n =
        let first = of_these (λ q. procedures_meant q ps ≡ t ∷ n.others) n.parts n.cut n.meant in
        let both : u ∷ [] ≡ t ∷ n.others = sym meant ∙ first in cc

    not_none : (why : Unnamed) → NamesNone text ps why → ⊥
    not_none unnamed.NotThreeParts h = h p cut
    not_none (unnamed.NotANumber k) h = numbers k (of_these (IsFirstUnread k) h.0 h.1 h.2)
    not_none unnamed.NoProgram h = known (of_these (λ q. programs_meant q ps ≡ []) h.0 h.1 h.2.1)
    not_none unnamed.NoVersion h = versioned (of_these (λ q. versions_meant q ps ≡ []) h.0 h.1 h.2.2)
    not_none unnamed.NoProcedure h =
        let none = of_these (λ q. procedures_meant q ps ≡ []) h.0 h.1 h.2.2 in
        let both : u ∷ [] ≡ [] = sym meant ∙ none in cc

    pub is_named : (r : Result Named Unnamed) → IfOk r (λ n. Names text ps (target_of n))
        → IfErr r (λ why. NamesNone text ps why) → MatchResult r (λ n. target_of n ≡ u) (λ why. ⊥)
    is_named (Ok n) found refused = one_target (target_of n) found
    is_named (Err why) found refused = not_none why refused

  nothing_named : (t : Target) → procedures_meant p ps ≡ [] → Names text ps t → ⊥
  nothing_named t none n =
      let first = of_these (λ q. procedures_meant q ps ≡ t ∷ n.others) n.parts n.cut n.meant in
      let both : [] ≡ t ∷ n.others = sym none ∙ first in cc

  -- the parts mean a program, and no version of it
  module _ (known : programs_meant p ps ≢ []) (none : versions_meant p ps ≡ [])
      (nothing : procedures_meant p ps ≡ []) (numbers : (k : ℕ) → IsFirstUnread k p → ⊥) where
    unversioned : (why : Unnamed) → NamesNone text ps why → why ≡ unnamed.NoVersion
    unversioned unnamed.NotThreeParts h = absurd (h p cut)
    unversioned (unnamed.NotANumber k) h = absurd (numbers k (of_these (IsFirstUnread k) h.0 h.1 h.2))
    unversioned unnamed.NoProgram h = absurd (known (of_these (λ q. programs_meant q ps ≡ []) h.0 h.1 h.2.1))
    unversioned unnamed.NoVersion h = refl
    unversioned unnamed.NoProcedure h =
        absurd (of_these (λ q. versions_meant q ps ≢ []) h.0 h.1 h.2.1 none)

    pub has_no_version : (r : Result Named Unnamed) → IfOk r (λ n. Names text ps (target_of n))
        → IfErr r (λ why. NamesNone text ps why) → MatchResult r (λ n. ⊥) (λ why. why ≡ unnamed.NoVersion)
    has_no_version (Ok n) found refused = nothing_named (target_of n) nothing found
    has_no_version (Err why) found refused = unversioned why refused

  -- the second part is the first that is no number
  module _ (readable : IsNoNumber p.program → ⊥) (bad : IsNoNumber p.version) where
    at_two : (k : ℕ) → IsFirstUnread k p → unnamed.NotANumber k ≡ unnamed.NotANumber 2
    at_two k (inl first) = absurd (readable first.1)
    at_two k (inr (inl second)) = ap unnamed.NotANumber second.0
    at_two k (inr (inr third)) = absurd (third.2 bad)

    second : (why : Unnamed) → NamesNone text ps why → why ≡ unnamed.NotANumber 2
    second unnamed.NotThreeParts h = absurd (h p cut)
    second (unnamed.NotANumber k) h = at_two k (of_these (IsFirstUnread k) h.0 h.1 h.2)
    second unnamed.NoProgram h = absurd ((of_these AreReadable h.0 h.1 h.2.0).version bad)
    second unnamed.NoVersion h = absurd ((of_these AreReadable h.0 h.1 h.2.0).version bad)
    second unnamed.NoProcedure h = absurd ((of_these AreReadable h.0 h.1 h.2.0).version bad)

    pub is_no_number : (r : Result Named Unnamed) → IfOk r (λ n. Names text ps (target_of n))
        → IfErr r (λ why. NamesNone text ps why) → MatchResult r (λ n. ⊥) (λ why. why ≡ unnamed.NotANumber 2)
    is_no_number (Ok n) found refused = (of_these AreReadable found.parts found.cut found.readable).version bad
    is_no_number (Err why) found refused = second why refused

-- the text has no three parts
module _ (text : List ℕ) (ps : List Program) (none : (p : Parts) → IsCut p text → ⊥) where
  cut_short : (why : Unnamed) → NamesNone text ps why → why ≡ unnamed.NotThreeParts
  cut_short unnamed.NotThreeParts h = refl
  cut_short (unnamed.NotANumber k) h = absurd (none h.0 h.1)
  cut_short unnamed.NoProgram h = absurd (none h.0 h.1)
  cut_short unnamed.NoVersion h = absurd (none h.0 h.1)
  cut_short unnamed.NoProcedure h = absurd (none h.0 h.1)

  pub is_cut_short : (r : Result Named Unnamed) → IfOk r (λ n. Names text ps (target_of n))
      → IfErr r (λ why. NamesNone text ps why) → MatchResult r (λ n. ⊥) (λ why. why ≡ unnamed.NotThreeParts)
  is_cut_short (Ok n) found refused = none found.parts found.cut
  is_cut_short (Err why) found refused = cut_short why refused
