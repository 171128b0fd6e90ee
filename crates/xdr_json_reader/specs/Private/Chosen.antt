-- The arm of a union that an object tells.
use Rattle.std.specs.Prelude.{◌≡◌, ℕ, ℤ, List, [], ◌∷◌, true, Option, Some}
use Rattle.json.specs.Json as json
use Rattle.json.specs.Json.{Members}
use Rattle.xdr_types.specs.Kinds.{KindView, Part, Branch, kind_at}
use Rattle.xdr_types.specs.Fits.{is_tag_of, part_of}
use Rattle.xdr_json.specs.Mapping.{case_key}
use Rattle.xdr_json.specs.Spelled.{is_tag_json, has_key, at_key, under_arm}
use Rattle.xdr_json_reader.specs.Tape.{json_in}
use Rattle.xdr_json_reader.specs.Reasons.{has_arm_alone}
use Rattle.xdr_json_reader.specs.declared.reading_union.Chosen.{Chosen}

-- the discriminant is told, the arm under it is there, and nothing else
pub record IsChosen (kinds : List KindView) (tag : ℕ) (arms : List Branch) (other : Option Part) (ms : Members)
    (c : Chosen) : Type 0 where
  pub part : Part
  pub legal : is_tag_of (kind_at kinds tag) c.number ≡ true
  pub is : part_of arms other c.number ≡ Some part
  pub named : has_key ms case_key ≡ true
  pub shown : is_tag_json (kind_at kinds tag) c.number (at_key ms case_key) ≡ true
  pub alone : has_arm_alone kinds part ms ≡ true
  pub kind : c.kind.place ≡ part.kind
  pub node : under_arm kinds (part ∷ []) (json.object ms) ≡ json_in c.node.now ∷ []

-- the discriminant is told, and its arm
pub record IsTold (kinds : List KindView) (tag : ℕ) (arms : List Branch) (other : Option Part) (ms : Members)
    (number : ℤ) (part : Part) : Type 0 where
  pub legal : is_tag_of (kind_at kinds tag) number ≡ true
  pub is : part_of arms other number ≡ Some part
  pub named : has_key ms case_key ≡ true
  pub shown : is_tag_json (kind_at kinds tag) number (at_key ms case_key) ≡ true
