-- The first of the texts that has a program declares it.
use Rattle.std.proofs.Common.{◌≡◌, ℕ, ◌+◌, ◌<◌, true, false, List, ◌∷◌, length, get_or, drop, sym, ap, ◌∙◌, subst}
use Rattle.std.specs.Prelude.{Bool, if◌then◌else◌}
use Rattle.std.proofs.lemmas.List.{at_drop_more}
use Rattle.xdr_lang.specs.Declarations.{Declared}
use Rattle.xdr_lang.specs.Views.{declared_of}
use Rattle.xdr_lang.specs.declared.declarations.Declared as code
use Rattle.oncrpc_watch.specs.Terms.{first_declaring, each_declared, has_program}

module _ (d : Declared) (ds : List code.Declared) (i : ℕ) (x : code.Declared) (program : ℕ) (some : i < length ds)
    (is : x ≡ get_or ds i x) where
  split : first_declaring d (each_declared (drop i ds)) program
      ≡ first_declaring d (each_declared (x ∷ drop (i + 1) ds)) program
  split = at_drop_more (λ k. first_declaring d (each_declared k) program) ds i x some
      ∙ ap (λ k. first_declaring d (each_declared (k ∷ drop (i + 1) ds)) program) (sym is)

  chosen : (b : Bool) → has_program program (declared_of x) ≡ b
      → first_declaring d (each_declared (x ∷ drop (i + 1) ds)) program
      ≡ (if b then declared_of x else first_declaring d (each_declared (drop (i + 1) ds)) program)
  chosen b e = ap (λ (t : Bool). if t then declared_of x
      else first_declaring d (each_declared (drop (i + 1) ds)) program) e

  pub is_first : has_program program (declared_of x) ≡ true
      → first_declaring d (each_declared (drop i ds)) program ≡ declared_of x
  is_first e = split ∙ chosen true e

  pub is_later : has_program program (declared_of x) ≡ false
      → first_declaring d (each_declared (drop i ds)) program
      ≡ first_declaring d (each_declared (drop (i + 1) ds)) program
  is_later e = split ∙ chosen false e
