-- How much stands in the nodes at work.
use Rattle.std.specs.Prelude.{ℕ, ◌+◌, List, [], ◌∷◌, length}
use Rattle.xdr_types.specs.Tree.{from_list}
use Rattle.xdr_laws.specs.Held.{count_nodes, count_bytes}
use Rattle.xdr_stream.specs.Trace.{Level, Trace}

-- the nodes at work and those of their finished parts; what stands around the root counts as one
abbrev pub nodes_in : List Level → ℕ
nodes_in [] = 0
nodes_in (l ∷ ls) = 1 + (count_nodes (from_list l.done) + nodes_in ls)

-- the bytes of content of their finished parts
abbrev pub bytes_in_parts : List Level → ℕ
bytes_in_parts [] = 0
bytes_in_parts (l ∷ ls) = count_bytes (from_list l.done) + bytes_in_parts ls

-- the bytes of content of finished parts and of the content so far (RFC 4506 sections 4.9 to 4.11)
abbrev pub bytes_retained : Trace → ℕ
bytes_retained t = bytes_in_parts t.levels + length t.content
