-- What is due, of the nodes that are kept: the next one is the last of them.
use Rattle.std.specs.Prelude.{List, map, reverse}
use Rattle.xdr_json_reader.specs.Tape.{json_in}
use Rattle.xdr_json_reader.specs.Nodes.{Due}
use Rattle.xdr_json_reader.specs.declared.reading_entry.Entry.{Entry}

-- a node for a kind
abbrev pub due_of : Entry → Due
due_of e = (e.kind.place, json_in e.node.now)

-- all of them, the next one first
abbrev pub dues : List Entry → List Due
dues es = reverse (map due_of es)
