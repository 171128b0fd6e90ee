-- The JSON value that is looked at.
use Rattle.std.specs.Prelude.{List, map}
use Rattle.json.specs.Json as json
use Rattle.json.specs.Json.{Json}
use Rattle.json.specs.Value.{items_of}
use Rattle.xdr_json_reader.specs.Tape.{json_in, members_of}
use Rattle.xdr_json_reader.specs.declared.tape.Key.{Key}
use Rattle.xdr_json_reader.specs.declared.tape.Node.{Node}
use Rattle.xdr_json_reader.specs.declared.reading_look.Shape.{Shape}
use Rattle.xdr_json_reader.specs.declared.reading_look.Shape.TheVariants as look

-- keys, each with the JSON value of its node
abbrev pub pairs : List (Key × Node) → List (Key × Json)
pairs ms = map (λ (m : Key × Node). (m.0, json_in m.1)) ms

-- the value
abbrev pub seen : Shape → Json
seen look.Null = json.null
seen (look.Flag b) = json.boolean b
seen (look.Number s) = json.number s.now
seen (look.Text s) = json.string s.now
seen (look.Array v) = json.array (items_of (map json_in v.now.items))
seen (look.Object v) = json.object (members_of (pairs v.now.items))
