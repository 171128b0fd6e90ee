-- The places of tokens alone.
use Rattle.std.specs.Prelude.{ℕ, List, map}
use Rattle.xdr_dialect.specs.Dialect.{Placed}

-- how many bytes there are from each to the end
abbrev pub lefts : List Placed → List ℕ
lefts ps = map (λ (p : Placed). p.left) ps
