-- A program's name is cut at its dot in one way.
use Rattle.std.proofs.Common.{◌≡◌, ℕ, List, ◌∷◌, ◌++◌, Option, None, Some, MatchOption, refl, ap, sym, ◌∙◌, subst}
use Rattle.xdr_units.specs.Texts.{HasNoDot}
use Rattle.xdr_units.proofs.Cutting.{no_cut, same_cut}
use Rattle.oncrpc_procedures.specs.Private.Cut.{program_parts_of}
use Rattle.oncrpc_procedures.specs.Programs.{IsProgramCut, ProgramParts}
use Rattle.oncrpc_procedures.specs.declared.program_parts.ProgramParts as declared

pub one_cut : (text p q : List ℕ) (v w : Option (List ℕ)) → IsProgramCut p v text → IsProgramCut q w text
    → (p ≡ q) × (v ≡ w)
one_cut text p q None None a b = (sym a.1 ∙ b.1, refl)
one_cut text p q None (Some w) a b = absurd (no_cut q w text (subst HasNoDot (sym a.1) a.0) b.2)
one_cut text p q (Some v) None a b = absurd (no_cut p v text (subst HasNoDot (sym b.1) b.0) a.2)
one_cut text p q (Some v) (Some w) a b =
    let same = same_cut p q v w a.0 b.0 (sym a.2 ∙ b.2) in (same.0, ap Some same.1)

-- a text with more than one dot
pub two_dots : (text program rest front behind : List ℕ) → HasNoDot program → text ≡ program ++ 46 ∷ rest
    → rest ≡ front ++ 46 ∷ behind
    → (q : List ℕ) (v : Option (List ℕ)) → IsProgramCut q v text → ⊥
two_dots text program rest front behind own joined again q None cut =
    no_cut program rest text (subst HasNoDot (sym cut.1) cut.0) joined
two_dots text program rest front behind own joined again q (Some v) cut =
    let same = same_cut program q rest v own cut.0 (sym joined ∙ cut.2) in
    no_cut front behind v cut.1 (sym same.1 ∙ again)

-- what is behind the first dot has none, or the text has no such parts
pub behind_dot : (text program rest : List ℕ) → HasNoDot program → text ≡ program ++ 46 ∷ rest
    → (r : Option declared.ProgramParts)
    → MatchOption r ((front : List ℕ) × (behind : List ℕ) × (rest ≡ front ++ 46 ∷ behind))
    (λ p. HasNoDot rest × (program_parts_of p ≡ record { program = program; version = Some rest }))
    → MatchOption r ((p : ProgramParts) → IsProgramCut p.program p.version text → ⊥)
    (λ p. IsProgramCut (program_parts_of p).program (program_parts_of p).version text)
behind_dot text program rest own joined None h =
    λ p cut. two_dots text program rest h.0 h.1 own joined h.2 p.program p.version cut
behind_dot text program rest own joined (Some p) h =
    subst (λ (q : ProgramParts). IsProgramCut q.program q.version text) (sym h.1) (own, h.0, joined)
