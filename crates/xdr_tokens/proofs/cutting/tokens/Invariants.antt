use Rattle.std.proofs.Common.{◌≡◌, ◌≤◌, List, length, ◌++◌}
use Rattle.xdr_tokens.specs.Tokens.{Lexeme, lexemes}
use Rattle.xdr_tokens.specs.Text.{Tokens}
use Rattle.xdr_tokens.proofs.cutting.tokens.Given as goal

abbrev pub invariant-loop-rest : goal.invariant-loop-rest
invariant-loop-rest l = record {
  sound : (ts : List Lexeme) → Tokens l.rest ts → Tokens l.text (lexemes l.found.items ++ ts);
  complete : (ts : List Lexeme) → Tokens l.text ts
      → (others : List Lexeme) × Tokens l.rest others × (ts ≡ lexemes l.found.items ++ others);
  within : length l.rest ≤ length l.text;
}

abbrev pub decreases-loop-rest : goal.decreases-loop-rest
decreases-loop-rest l = length l.rest
