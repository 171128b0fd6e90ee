-- What becomes of a node without parts.
use Rattle.std.specs.Prelude.{◌≡◌, ◌⊎◌, ◌&&◌, ℕ, pos, List, [], ◌++◌, length, true, false, Result, MatchResult}
use Rattle.json.specs.Json.{Json}
use Rattle.xdr_types.specs.Kinds.{KindView}
use Rattle.xdr_types.specs.Tree.{Head}
use Rattle.xdr_types.specs.Fits.{parts, is_length, are_bytes}
use Rattle.xdr_units.specs.Numbers.{num4, padded}
use Rattle.xdr_types.specs.Spelling.{own}
use Rattle.xdr_json_reader.specs.Nodes.{Shows}
use Rattle.xdr_json_reader.specs.Reasons.{Wrong}
use Rattle.xdr_json_reader.specs.declared.fault.JsonReason.{JsonReason}
use Rattle.xdr_json_reader.specs.declared.fault.JsonReason.TheVariants.{NoMemory, WrongLength}

-- it was read: its bytes are written
pub record LeafTook (f : KindView) (j : Json) (out new : List ℕ) : Type 0 where
  pub head : Head
  pub shows : (kinds : List KindView) → Shows kinds f j head
  pub bytes : new ≡ out ++ own f head
  pub alone : parts f head ≡ []

-- it is read, or memory was refused, or the JSON value stands for no node of the kind
abbrev pub LeafRead : {A : Type 0} → KindView → Json → List ℕ → List ℕ → Result A JsonReason → Type 0
LeafRead f j out new r =
    MatchResult r (λ _. LeafTook f j out new)
    (λ w. (w ≡ NoMemory) ⊎ ((kinds : List KindView) → Wrong kinds f j w))

-- bytes of a string: written, or memory was refused, or too many
abbrev pub TextRead : {A : Type 0} → ℕ → List ℕ → List ℕ → List ℕ → Result A JsonReason → Type 0
TextRead max bs out new r =
    MatchResult r
    (λ _. ((is_length max (length bs) && are_bytes bs) ≡ true) × (new ≡ out ++ (num4 (pos (length bs)) ++ padded bs)))
    (λ w. (w ≡ NoMemory) ⊎ ((is_length max (length bs) ≡ false) × (w ≡ WrongLength)))
