-- What stood at the front of bytes still stands there, one write after another.
use Rattle.std.proofs.Common.{ℕ, ◌≤◌, List, length, take, sym, ap, ◌∙◌, arith}
use Rattle.std.proofs.lemmas.List.{take-take, length-take}
use Rattle.std.specs.Io.{StartsWith}

pub begins_then : (a b c : List ℕ) → StartsWith b a → StartsWith c b → StartsWith c a
begins_then a b c p q =
    let short : length a ≤ length b = omega (arith, ap length p, length-take (length a) b) in
    sym (take-take (length a) (length b) c short) ∙ ap (take (length a)) q ∙ p
