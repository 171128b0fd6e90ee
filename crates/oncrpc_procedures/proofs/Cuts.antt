-- A text is cut at its dots in one way.
use Rattle.std.proofs.Common.{◌≡◌, ℕ, List, ◌∷◌, ◌++◌, ap, sym, ◌∙◌}
use Rattle.xdr_units.specs.Texts.{HasNoDot}
use Rattle.xdr_units.proofs.Cutting.{no_cut, same_cut}
use Rattle.oncrpc_procedures.specs.Meant.{Parts}
use Rattle.oncrpc_procedures.specs.Names.{IsCut}

pub one_reading : (p q : Parts) (text : List ℕ) → IsCut p text → IsCut q text → p ≡ q
one_reading p q text a b =
    let front = same_cut p.program q.program (p.version ++ 46 ∷ p.procedure) (q.version ++ 46 ∷ q.procedure)
    a.program b.program (sym a.joined ∙ b.joined) in
    let back = same_cut p.version q.version p.procedure q.procedure a.version b.version front.1 in
    λ j. record { program = front.0 j; version = back.0 j; procedure = back.1 j }

-- a text without a dot
pub no_first : (text : List ℕ) → HasNoDot text → (p : Parts) → IsCut p text → ⊥
no_first text dotless p cut = no_cut p.program (p.version ++ 46 ∷ p.procedure) text dotless cut.joined

module _ (text program rest : List ℕ) (own : HasNoDot program) (joined : text ≡ program ++ 46 ∷ rest) where
  behind : (p : Parts) → IsCut p text → rest ≡ p.version ++ 46 ∷ p.procedure
  behind p cut =
      (same_cut program p.program rest (p.version ++ 46 ∷ p.procedure) own cut.program (sym joined ∙ cut.joined)).1

  -- a text with one dot
  pub no_second : HasNoDot rest → (p : Parts) → IsCut p text → ⊥
  no_second dotless p cut = no_cut p.version p.procedure rest dotless (behind p cut)

  module _ (version procedure : List ℕ) (second : HasNoDot version)
      (again : rest ≡ version ++ 46 ∷ procedure) where
    -- a text with more than two
    pub no_more : (front more : List ℕ) → procedure ≡ front ++ 46 ∷ more → (p : Parts) → IsCut p text → ⊥
    no_more front more third p cut =
        let same = same_cut version p.version procedure p.procedure second cut.version
        (sym again ∙ behind p cut) in
        no_cut front more p.procedure cut.procedure (sym same.1 ∙ third)

    -- a text with two
    pub is_cut : HasNoDot procedure
        → IsCut (record { program = program; version = version; procedure = procedure }) text
    is_cut dotless = record {
      program = own;
      version = second;
      procedure = dotless;
      joined = joined ∙ ap (λ (z : List ℕ). program ++ 46 ∷ z) again;
    }
