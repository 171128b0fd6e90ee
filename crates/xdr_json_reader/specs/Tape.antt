-- The JSON value that a node of a tree in memory stands for (RFC 8259 section 3).
use Rattle.std.specs.Prelude.{List, [], ◌∷◌}
use Rattle.json.specs.Json.{Json, null, boolean, number, string, array, object, Members, no_members, member}
use Rattle.json.specs.Value.{items_of}
use Rattle.xdr_json_reader.specs.declared.tape.Key.{Key}
use Rattle.xdr_json_reader.specs.declared.tape.Node.{Node, fold-Node}
use Rattle.xdr_json_reader.specs.declared.tape.Node.TheOpen.{Node-F}

-- keys with their values, as members of an object (RFC 8259 section 4)
abbrev pub members_of : List (Key × Json) → Members
members_of [] = no_members
members_of (m ∷ ms) = member m.0.name.now m.1 (members_of ms)

-- one level, with each node inside already seen as its JSON value; the places are no part of it
abbrev pub json_step : Node-F Json → Json
json_step (Node-F.Null at) = null
json_step (Node-F.Flag flag at) = boolean flag
json_step (Node-F.Number text at) = number text.now
json_step (Node-F.Text text at) = string text.now
json_step (Node-F.Array items at) = array (items_of items.items)
json_step (Node-F.Object members at) = object (members_of members.items)

-- the JSON value of a node
abbrev pub json_in : Node → Json
json_in = fold-Node Json json_step
