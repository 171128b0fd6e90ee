-- What a step of the reader leads to.
use Rattle.std.specs.Prelude.{◌≡◌, ◌⊎◌, ℕ, ◌≤◌, List, [], ◌∷◌, ◌++◌, length, Some}
use Rattle.json.specs.Token.{Token}
use Rattle.xdr_json_reader.specs.Tape.{json_in}
use Rattle.xdr_json_reader.specs.declared.fault.JsonReason.{JsonReason}
use Rattle.xdr_json_reader.specs.declared.fault.JsonReason.TheVariants.{NoMemory, TooDeep, NotJson}
use Rattle.xdr_json_reader.specs.declared.tape.Node.{Node}
use Rattle.xdr_json_reader.specs.declared.tape_frames.Open.{Open}
use Rattle.xdr_json_reader.specs.declared.tape_stack.Frames.{Frames}
use Rattle.xdr_json_reader.specs.declared.tape_stack.Step.{Step}
use Rattle.xdr_json_reader.specs.declared.tape_stack.Step.TheVariants as step
use Rattle.xdr_json_reader.specs.Private.Frames.{frame_of, key_of, put, closed, made}

-- around the innermost frame lie at most so many
abbrev pub AreFew : Frames → Type 0
AreFew frames = length frames.outer.items ≤ 4095

-- however deep values nest: inside the outermost one as many levels as are read, or more
abbrev pub Deep : (ℕ → Type 0) → Type 0
Deep Claim = (depth : ℕ) → 4095 ≤ depth → Claim depth

-- the whole value, or frames of which the tokens that are left make the same
abbrev pub Steps : Frames → List Token → Step → List Token → Type 0
Steps frames old (step.Done node) new = Deep (λ d. made d frames old ≡ Some (json_in node, new))
Steps frames old (step.On next) new = Deep (λ d. made d frames old ≡ made d next new) × AreFew next

-- why nothing is read: memory was refused, or nothing that nests no deeper, or nothing however deep
abbrev pub NoneRead : JsonReason → (ℕ → Type 0) → Type 0
NoneRead w Never = (w ≡ NoMemory) ⊎ (((w ≡ TooDeep) × Never 4095) ⊎ ((w ≡ NotJson) × Deep Never))

-- the innermost frame became a value in the one around it
pub record IsClosed (frames next : Frames) : Type 0 where
  pub parent : Open
  pub outer : frames.outer.items ≡ next.outer.items ++ parent ∷ []
  pub top : frame_of next.top ≡ put (frame_of parent) (key_of (frame_of frames.top)) (closed (frame_of frames.top))

-- the innermost frame is closed
abbrev pub Closes : Frames → Step → Type 0
Closes frames (step.Done node) = (frames.outer.items ≡ []) × (json_in node ≡ closed (frame_of frames.top))
Closes frames (step.On next) = IsClosed frames next

-- another frame is the innermost one
abbrev pub Opens : Frames → Open → Step → Type 0
Opens frames o (step.Done node) = ⊥
Opens frames o (step.On next) =
    (next.top ≡ o) × (next.outer.items ≡ frames.outer.items ++ frames.top ∷ []) × AreFew next

-- a whole value was put into the innermost frame under a key
abbrev pub Puts : Frames → List ℕ → Node → Step → Type 0
Puts frames key n (step.Done node) = ⊥
Puts frames key n (step.On next) =
    (frame_of next.top ≡ put (frame_of frames.top) key (json_in n)) × (next.outer.items ≡ frames.outer.items)
