-- What begins with the next token, and how an open array or object goes on with it.
use Rattle.std.specs.Prelude.{◌≡◌, ℕ, suc, List, Some, None, option_and_then}
use Rattle.json.specs.Token.{Token}
use Rattle.json.specs.Json.{value}
use Rattle.xdr_json_reader.specs.Tape.{json_in}
use Rattle.xdr_json_reader.specs.declared.tape_frames.Open.{Open}
use Rattle.xdr_json_reader.specs.declared.tape_frames.Begun.{Begun}
use Rattle.xdr_json_reader.specs.declared.tape_frames.Begun.TheVariants as begun
use Rattle.xdr_json_reader.specs.Private.Frames.{Frame, frame_of, key_of, put, inner}

-- an array or an object was opened under the key: from here it goes on inside, one level deeper
pub record IsOpened (key : List ℕ) (old : List Token) (o : Open) (new : List Token) : Type 0 where
  pub named : key_of (frame_of o) ≡ key
  pub inside : (d : ℕ) → value (suc d) old ≡ inner d (frame_of o) new
  pub deepest : value 0 old ≡ None

-- what stands at the front of the tokens
abbrev pub Begins : (key : List ℕ) → List Token → Begun → List Token → Type 0
Begins key old (begun.Whole node) new = (d : ℕ) → value d old ≡ Some (json_in node, new)
Begins key old (begun.Opened o) new = IsOpened key old o new

-- one more value under a key: at the tokens where it begins stands what begins
pub record Goes (f : Frame) (key : List ℕ) (old : List Token) (b : Begun) (new : List Token) : Type 0 where
  pub at : List Token
  pub turn : (d : ℕ) → inner d f old ≡ option_and_then (λ p. inner d (put f key p.0) p.1) (value d at)
  pub begins : Begins key at b new
