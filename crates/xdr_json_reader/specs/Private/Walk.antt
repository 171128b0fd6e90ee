-- What a step of the walk in the order of the text leads to.
use Rattle.std.specs.Prelude.{◌≡◌, ◌⊎◌, ◌<◌, List, [], ◌∷◌, ◌++◌, Option, Some, None, Result}
use Rattle.std.specs.Prelude.{MatchOption, MatchResult}
use Rattle.json.specs.Json.{Members}
use Rattle.xdr_types.specs.Kinds.{KindView, Part}
use Rattle.xdr_json_reader.specs.Nodes.{Due}
use Rattle.xdr_json_reader.specs.Reasons.{Fault, AllPass, IsRight, IsMissing, values, front, refused_key}
use Rattle.xdr_json_reader.specs.Private.Pending.{work}
use Rattle.xdr_json_reader.specs.declared.fault.JsonFault.{JsonFault}
use Rattle.xdr_json_reader.specs.declared.fault.JsonReason.{JsonReason}
use Rattle.xdr_json_reader.specs.declared.fault.JsonReason.TheVariants.{NoMemory, MissingMember}

-- the first fault of what is due
abbrev pub First : List KindView → List Due → JsonReason → Type 0
First kinds = Fault kinds (IsRight kinds)

-- the first fault of a value, whatever is due behind it
abbrev pub FirstIn : List KindView → Due → JsonReason → Type 0
FirstIn kinds d w = (ds : List Due) → First kinds (d ∷ ds) w

-- what stands in a value is due before all else: its first fault is the value's, and it is right where all of it is
pub record Opens (kinds : List KindView) (d : Due) (old new : List Due) : Type 0 where
  pub parts : List Due
  pub due : new ≡ parts ++ old
  pub first : (w : JsonReason) → First kinds parts w → FirstIn kinds d w
  pub right : AllPass (IsRight kinds) parts → IsRight kinds d
  pub less : work kinds new < work kinds (d ∷ old)

-- what stands in a value before a fault is all that is due: its first fault is the value's, and where all of it is
-- right, that fault is
pub record Turns (kinds : List KindView) (d : Due) (old new : List Due) (w : JsonReason) : Type 0 where
  pub first : (v : JsonReason) → First kinds new v → FirstIn kinds d v
  pub last : AllPass (IsRight kinds) new → FirstIn kinds d w
  pub less : work kinds new < work kinds (d ∷ old)

-- a value was judged: its parts are due, or those before a fault; or memory was refused, or its first fault is told
abbrev pub Judged : List KindView → Due → (old new : List Due) → Result (Option JsonFault) JsonFault → Type 0
Judged kinds d old new r =
    MatchResult r (λ o. MatchOption o (Opens kinds d old new) (λ f. Turns kinds d old new f.why))
    (λ f. (f.why ≡ NoMemory) ⊎ FirstIn kinds d f.why)

-- the members of an object that is to have these: their values are due, or those before a member that is refused by
-- its key; or memory was refused, or one is missing
abbrev pub MembersMet : List Part → Members → (old new : List Due) → Result (Option JsonFault) JsonFault → Type 0
MembersMet ps ms old new r =
    MatchResult r
    (λ o. MatchOption o
    ((new ≡ values ps (front ps [] ms) ++ old) × (refused_key ps [] ms ≡ None) × (IsMissing ps ms → ⊥))
    (λ f. (new ≡ values ps (front ps [] ms)) × (refused_key ps [] ms ≡ Some f.why)))
    (λ f. (f.why ≡ NoMemory) ⊎ ((f.why ≡ MissingMember) × IsMissing ps ms))

-- the walk so far: the first fault of what is due is the root's; where all of it is right, what is told is the root's
-- first fault, or the root is right
pub record Walks (kinds : List KindView) (root : Due) (due : List Due) (told : JsonReason) : Type 0 where
  pub first : (w : JsonReason) → First kinds due w → First kinds (root ∷ []) w
  pub last : AllPass (IsRight kinds) due → First kinds (root ∷ []) told ⊎ IsRight kinds root
