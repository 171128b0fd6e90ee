-- Arguments as they lie in the bytes of a call.
use Rattle.std.specs.Prelude.{◌≡◌, ℕ, ◌<◌, ◌^◌, List, ◌++◌, length}
use Rattle.xdr_units.specs.Numbers.{word, padded}
use Rattle.xdr_types.specs.Tree.{Tree}
use Rattle.registry_dumps.specs.Dir.{rpcb_kind}
use Rattle.registry_dumps.specs.Dumps.{mapping_of, rpcb_tree}
use Rattle.registry_rows.specs.Rows.{Row, row_of}
use Rattle.registry_answer.specs.Answer.{AreArguments}
use Rattle.registry_answer.specs.declared.arguments.Mapping.{Mapping}
use Rattle.registry_answer.specs.declared.arguments.Rpcb.{Rpcb}

-- a text: its length, its bytes, and zeros (RFC 4506 section 4.11)
abbrev pub text : List ℕ → List ℕ
text bs = word (length bs) ++ padded bs

-- no text begins the bytes
abbrev pub HasNoText : List ℕ → Type 0
HasNoText bytes = (bs rest : List ℕ) → length bs < 2 ^ 32 → bytes ≡ text bs ++ rest → ⊥

-- the value of a `mapping`
abbrev pub mapping_value : Mapping → Tree
mapping_value m = mapping_of m.prog m.vers m.prot m.port

-- the row that an `rpcb` spells, with some owner
abbrev pub row_in : Rpcb → List ℕ → Row
row_in r owner = row_of r.prog r.vers r.netid.now r.address.now owner

-- The arguments begin with this `rpcb`.
pub record AreRpcb (args : List ℕ) (r : Rpcb) : Type 0 where
  pub owner : List ℕ
  pub are : AreArguments rpcb_kind args (rpcb_tree (row_in r owner))
