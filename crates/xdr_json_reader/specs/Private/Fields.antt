-- The members of an object, beside the fields of a structure.
use Rattle.std.specs.Prelude.{◌≡◌, ℕ, List, map, true, false, Option, MatchOption}
use Rattle.std.specs.Borrow.{Bor}
use Rattle.json.specs.Json.{Json, Members}
use Rattle.xdr_types.specs.Kinds.{Part}
use Rattle.xdr_json.specs.Spelled.{has_key, at_key}
use Rattle.xdr_json_reader.specs.Tape.{json_in}
use Rattle.xdr_json_reader.specs.declared.tape.Key.{Key}
use Rattle.xdr_json_reader.specs.declared.tape.Node.{Node}

-- the keys, in their order
abbrev pub keys : List (Key × Node) → List (List ℕ)
keys ms = map (λ (m : Key × Node). m.0.name.now) ms

-- the values, in their order
abbrev pub nodes : List (Key × Node) → List Json
nodes ms = map (λ (m : Key × Node). json_in m.1) ms

-- the names of fields, in their order
abbrev pub names : List Part → List (List ℕ)
names ps = map (λ (p : Part). p.name) ps

-- the values of the fields, in the order of the fields
abbrev pub at_each : List Part → Members → List Json
at_each ps ms = map (λ (p : Part). at_key ms p.name) ps

-- a node under a key, or none where no member has it
abbrev pub Finds : Option (Bor Node) → Members → List ℕ → Type 0
Finds o ms key =
    MatchOption o (has_key ms key ≡ false) (λ n. (has_key ms key ≡ true) × (at_key ms key ≡ json_in n.now))
