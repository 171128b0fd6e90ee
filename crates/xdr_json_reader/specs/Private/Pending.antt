-- The nodes that are still to be read, each for a kind, and the bytes that values for them have.
use Rattle.std.specs.Prelude.{◌≡◌, ◌⊎◌, ℕ, ◌+◌, ◌*◌, List, [], ◌∷◌, ◌++◌, Result, MatchResult, Vec}
use Rattle.std.specs.declared.alloc.Global.{Global}
use Rattle.xdr_json_reader.specs.declared.fault.JsonFault.{JsonFault}
use Rattle.xdr_json_reader.specs.declared.fault.JsonReason.TheVariants.{NoMemory}
use Rattle.json.specs.Json as json
use Rattle.json.specs.Json.{Json, Items, no_items, item, Members, no_members, member}
use Rattle.xdr_types.specs.Kinds as xdr
use Rattle.xdr_types.specs.Kinds.{KindView, kind_at}
use Rattle.xdr_types.specs.Tree.{Head}
use Rattle.xdr_types.specs.Fits.{parts}
use Rattle.xdr_types.specs.Spelling.{own}
use Rattle.xdr_json.specs.Spelled.{under}
use Rattle.xdr_json_reader.specs.Nodes.{Due, each, Shows}

-- the bytes are those of values for all that is due, one after another
pub data Means (kinds : List KindView) : List Due → List ℕ → Type 0 where
  all : Means kinds [] []
  one : (place : ℕ) (j : Json) (h : Head) (more : List Due) (bs : List ℕ) → Shows kinds (kind_at kinds place) j h
      → Means kinds (each (parts (kind_at kinds place) h) (under kinds (kind_at kinds place) h j) ++ more) bs
      → Means kinds ((place, j) ∷ more) (own (kind_at kinds place) h ++ bs)

-- after the bytes that are written, what is due leads to the very bytes that the root stands for
pub record Stands (kinds : List KindView) (root : List Due) (out : List ℕ) (due : List Due) : Type 0 where
  pub sound : (bs : List ℕ) → Means kinds due bs → Means kinds root (out ++ bs)
  pub whole : (bs : List ℕ) → Means kinds root bs → (rest : List ℕ) × (bs ≡ out ++ rest) × Means kinds due rest

-- a node was read: its own bytes are written, and its parts are due next
pub record Took (kinds : List KindView) (f : KindView) (j : Json) (out new : List ℕ) (due next : List Due)
    : Type 0 where
  pub head : Head
  pub shows : Shows kinds f j head
  pub bytes : new ≡ out ++ own f head
  pub parts : next ≡ each (parts f head) (under kinds f head j) ++ due

-- ---- what is left of the work

abbrev mutual
  -- how many values and members a JSON value has
  pub size : Json → ℕ
  size json.null = 1
  size (json.boolean b) = 1
  size (json.number s) = 1
  size (json.string s) = 1
  size (json.array js) = 1 + items_size js
  size (json.object ms) = 1 + members_size ms

  pub items_size : Items → ℕ
  items_size no_items = 0
  items_size (item j js) = (1 + size j) + items_size js

  pub members_size : Members → ℕ
  members_size no_members = 0
  members_size (member k j ms) = (1 + size j) + members_size ms

-- an optional item is read in a step of its own
abbrev pub is_optional : KindView → ℕ
is_optional (xdr.maybe inner) = 1
is_optional _ = 0

-- what is due, as a count that falls with each step
abbrev pub work : List KindView → List Due → ℕ
work kinds [] = 0
work kinds (d ∷ ds) = (2 * size d.1 + is_optional (kind_at kinds d.0)) + work kinds ds

-- the bytes are those that the root stands for, and no others are; or memory was refused, or it stands for none
abbrev pub BytesRead : List KindView → Due → Result (Vec ℕ Global) JsonFault → Type 0
BytesRead kinds root r =
    MatchResult r (λ v. Means kinds (root ∷ []) v.items × ((bs : List ℕ) → Means kinds (root ∷ []) bs → bs ≡ v.items))
    (λ f. (f.why ≡ NoMemory) ⊎ ((bs : List ℕ) → Means kinds (root ∷ []) bs → ⊥))
