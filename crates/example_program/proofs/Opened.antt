-- A name is its own name.
use Rattle.std.proofs.Common.{◌≡◌, ℕ, List, false, refl, sym, ◌∙◌}
use Rattle.std.specs.Str.{bytes_eq}
use Rattle.std.proofs.lemmas.Bool.{false≢true}
use Rattle.std.proofs.lemmas.Slice.Eq.{bytes_eq-Decides}

pub own_name : (name : List ℕ) → bytes_eq name name ≡ false → ⊥
own_name name is = false≢true (sym is ∙ (bytes_eq-Decides name name).1 refl)
