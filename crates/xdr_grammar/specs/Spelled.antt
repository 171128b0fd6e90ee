-- What tokens declare.
use Rattle.std.specs.Prelude.{◌≡◌, ◌≤◌, List}
use Rattle.xdr_tokens.specs.Tokens.{Lexeme}
use Rattle.xdr_grammar.specs.Tree.{Definition, depth}
use Rattle.xdr_grammar.specs.Grammar.{specification}
use Rattle.xdr_grammar.specs.Outline.{Outline, outlined, nothing}

-- The tokens spell definitions, with at most 32 bodies inside one another, which declare v.
pub record IsOutline (ts : List Lexeme) (v : Outline) : Type 0 where
  pub tree : List Definition
  pub spelled : ts ≡ specification tree
  pub nested : depth tree ≤ 32
  pub outlined : v ≡ outlined tree nothing
