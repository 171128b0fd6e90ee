-- Which bytes a record reader's fields stand for.
use Rattle.std.specs.Prelude.{◌≡◌, ℕ, ◌+◌, ◌^◌, ◌<◌, ◌≤◌, Bool, List, [], ◌∷◌, ◌++◌, length}
use Rattle.rpc_record.specs.Marked.{header}
use Rattle.rpc_record.specs.Reading.{Upto, IsWhole, Faulty, capped}
use Rattle.rpc_record.specs.declared.place.Begun.{Begun}
use Rattle.rpc_record.specs.declared.place.Begun.TheVariants as begun
use Rattle.rpc_record.specs.declared.place.Place.{Place}
use Rattle.rpc_record.specs.declared.place.Place.TheVariants as place
use Rattle.rpc_record.specs.declared.fault.RecordFault.{RecordFault}

-- the bytes of a header that has begun
abbrev pub begun_bytes : Begun → List ℕ
begun_bytes begun.Nothing = []
begun_bytes (begun.One a) = a ∷ []
begun_bytes (begun.Two a b) = a ∷ b ∷ []
begun_bytes (begun.Three a b c) = a ∷ b ∷ c ∷ []

-- a header has begun at this place
pub record InHeader (limit : ℕ) (rs : List (List ℕ)) (content : List ℕ) (at : ℕ) (part bytes : List ℕ) : Type 0 where
  pub before : List ℕ
  pub upto : Upto limit rs content before
  pub place : at ≡ capped (length before)
  pub spelled : bytes ≡ before ++ part

-- a fragment has begun, of which some bytes are still to come
pub record InContent (limit : ℕ) (rs : List (List ℕ)) (content : List ℕ) (last : Bool) (left : ℕ)
    (bytes : List ℕ) : Type 0 where
  pub before : List ℕ
  pub first : List ℕ
  pub part : List ℕ
  pub upto : Upto limit rs first before
  pub joined : content ≡ first ++ part
  pub spelled : bytes ≡ before ++ (header last (length part + left) ++ part)
  pub counted : length part + left < 2 ^ 31
  pub fits : length content + left ≤ limit

-- what the fields stand for at each place
abbrev pub StandsAt : ℕ → Place → List ℕ → ℕ → List ℕ → List (List ℕ) → Type 0
StandsAt limit place.Between content taken bytes rs =
    (content ≡ []) × IsWhole limit rs bytes × (taken ≡ capped (length bytes))
StandsAt limit (place.Header at part) content taken bytes rs =
    ((h : InHeader limit rs content at (begun_bytes part) bytes)
    × (0 < length h.upto.firsts + length (begun_bytes part))) × (taken ≡ capped (length bytes))
StandsAt limit (place.Content f) content taken bytes rs =
    InContent limit rs content f.last f.left bytes × (taken ≡ capped (length bytes))
StandsAt limit place.Whole content taken bytes rs =
    IsWhole limit (rs ++ content ∷ []) bytes × (taken ≡ capped (length bytes))
StandsAt limit (place.Broken f) content taken bytes rs = Faulty limit rs f bytes

-- how many bytes of the fragment at work are to come
abbrev pub left_of : Place → ℕ
left_of (place.Content f) = f.left
left_of _ = 0

-- bytes are being taken
abbrev pub IsTakingAt : Place → Type 0
IsTakingAt place.Between = Unit {0}
IsTakingAt (place.Header at part) = Unit {0}
IsTakingAt (place.Content f) = Unit {0}
IsTakingAt _ = ⊥

abbrev pub IsBrokenAt : Place → RecordFault → Type 0
IsBrokenAt (place.Broken f) g = f ≡ g
IsBrokenAt _ g = ⊥
