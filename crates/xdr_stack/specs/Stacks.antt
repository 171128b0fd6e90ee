-- What a contract sees of a stack.
use Rattle.std.specs.Prelude.{List}

-- the items, the lowest first
pub record Items (T : Type 0) : Type 0 where
  pub items : List T
