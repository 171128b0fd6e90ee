-- A source that has ended.
use Rattle.std.proofs.Common.{◌≡◌, ℕ, List, ◌++◌, Option, Some, None, ap, ◌∙◌}
use Rattle.std.proofs.lemmas.List.{append-nil}
use Rattle.std.specs.Io.KnownBytes.{Consumes, IsAtEnd}

-- a source that reported its bytes and has ended gave all of them
pub all_read : (bytes input : List ℕ) (left : Option (List ℕ)) → Consumes (Some bytes) left input → IsAtEnd left
    → bytes ≡ input
all_read bytes input None c e = absurd c
all_read bytes input (Some rest) c e = c ∙ ap (λ k. input ++ k) e ∙ append-nil input
