-- A JSON value for a kind, and the JSON values of its parts (RFC 4506 section 4; own).
use Rattle.std.specs.Prelude.{◌≡◌, ℕ, List, [], ◌∷◌, true}
use Rattle.json.specs.Json.{Json}
use Rattle.xdr_types.specs.Kinds.{KindView, Part, kind_at}
use Rattle.xdr_types.specs.Tree.{Head}
use Rattle.xdr_types.specs.Fits.{is_legal, parts}
use Rattle.xdr_json.specs.Spelled.{shows, under}

-- the place of a kind, and a JSON value for it
abbrev pub Due : Type 0
Due = ℕ × Json

-- one for each part
abbrev pub each : List Part → List Json → List Due
each (p ∷ ps) (j ∷ js) = (p.kind, j) ∷ each ps js
each _ _ = []

-- the JSON value stands for a node of the kind with this head
pub record Shows (kinds : List KindView) (f : KindView) (j : Json) (h : Head) : Type 0 where
  pub legal : is_legal kinds f h ≡ true
  pub shown : shows kinds f h j ≡ true

-- it stands for no node of the kind
abbrev pub ShowsNone : List KindView → KindView → Json → Type 0
ShowsNone kinds f j = (h : Head) → Shows kinds f j h → ⊥

-- what is due for the parts of a node
abbrev pub inside : List KindView → Due → Head → List Due
inside kinds d h = each (parts (kind_at kinds d.0) h) (under kinds (kind_at kinds d.0) h d.1)
