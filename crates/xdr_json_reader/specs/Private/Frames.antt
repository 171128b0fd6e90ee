-- The arrays and objects that are open while a text is read, and what the rest of the text makes of them.
use Rattle.std.specs.Prelude.{ℕ, suc, ◌-◌, reverse, List, [], ◌∷◌, ◌++◌, length, map, Option, Some}
use Rattle.std.specs.Prelude.{option_and_then}
use Rattle.json.specs.Token.{Token}
use Rattle.json.specs.Json as json
use Rattle.json.specs.Json.{Json, Items, no_items, item, Members, no_members, member, Parse, parse_map, items}
use Rattle.json.specs.Json.{members}
use Rattle.xdr_json_reader.specs.Tape.{json_in}
use Rattle.xdr_json_reader.specs.declared.tape.Key.{Key}
use Rattle.xdr_json_reader.specs.declared.tape.Node.{Node}
use Rattle.xdr_json_reader.specs.declared.tape_frames.Open.{Open}
use Rattle.xdr_json_reader.specs.declared.tape_stack.Frames.{Frames}
use Rattle.xdr_json_reader.specs.declared.tape_frames.Open.TheVariants as held

-- an open array or object: the key under which it stands itself, and what was read of it
pub data Frame : Type 0 where
  array_of : (key : List ℕ) → (done : List Json) → Frame
  object_of : (key : List ℕ) → (done : List (List ℕ × Json)) → Frame

-- the key under which it stands
abbrev pub key_of : Frame → List ℕ
key_of (array_of key done) = key
key_of (object_of key done) = key

-- one more value in it, under a key that matters to an object alone
abbrev pub put : Frame → (key : List ℕ) → Json → Frame
put (array_of k done) key j = array_of k (done ++ j ∷ [])
put (object_of k done) key j = object_of k (done ++ (key, j) ∷ [])

-- items before others
abbrev pub before_items : List Json → Items → Items
before_items [] js = js
before_items (d ∷ ds) js = item d (before_items ds js)

-- members before others
abbrev pub before_members : List (List ℕ × Json) → Members → Members
before_members [] ms = ms
before_members (d ∷ ds) ms = member d.0 d.1 (before_members ds ms)

-- the value that it is if it ends here
abbrev pub closed : Frame → Json
closed (array_of key done) = json.array (before_items done no_items)
closed (object_of key done) = json.object (before_members done no_members)

-- what the tokens that follow make of it, with values inside nested no deeper than the number
abbrev pub inner : ℕ → Frame → Parse Json
inner depth (array_of key done) ts =
    parse_map (λ js. json.array (before_items done js)) (items (json.value depth) (length ts) ts)
inner depth (object_of key done) ts =
    parse_map (λ ms. json.object (before_members done ms)) (members (json.value depth) (length ts) ts)

-- what they make of the frames around a value that is whole, innermost first
abbrev pub after : ℕ → List Frame → (key : List ℕ) → Json × List Token → Option (Json × List Token)
after depth [] key p = Some p
after depth (f ∷ fs) key p = option_and_then (after (suc depth) fs (key_of f)) (inner depth (put f key p.0) p.1)

-- what they make of the innermost frame and those around it
abbrev pub rest : ℕ → Frame → List Frame → Parse Json
rest depth f fs ts = option_and_then (after (suc depth) fs (key_of f)) (inner depth f ts)

-- ---- the frames that the reader holds

-- a key and the value of its node
abbrev pub pair_of : Key × Node → List ℕ × Json
pair_of m = (m.0.name.now, json_in m.1)

-- the frame that is held
abbrev pub frame_of : Open → Frame
frame_of (held.Array key items at) = array_of key.name.now (map json_in items.items)
frame_of (held.Object key members at) = object_of key.name.now (map pair_of members.items)

-- what the tokens make of all frames that are held, with values nested no deeper than the number within the outermost
abbrev pub made : (depth : ℕ) → Frames → Parse Json
made depth frames =
    rest (depth - length frames.outer.items) (frame_of frames.top) (reverse (map frame_of frames.outer.items))
