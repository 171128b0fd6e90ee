-- The members that an object is to have, as the walk in the order of the text holds them.
use Rattle.std.specs.Prelude.{◌≡◌, ◌≤◌, ◌<◌, ℕ, List, [], ◌∷◌, map, take, length, Option, MatchOption}
use Rattle.std.specs.BTreeMap.{BTreeMap, get_by}
use Rattle.std.specs.Borrow.{Bor}
use Rattle.std.specs.Cmp.Lexicographic.{slice_cmp}
use Rattle.std.specs.Ordering.{nat_cmp}
use Rattle.json.specs.Json.{Json}
use Rattle.xdr_types.specs.Kinds as xdr
use Rattle.xdr_types.specs.Kinds.{KindView, Part, kind_at}
use Rattle.xdr_types.specs.KindViews.{part_of_member}
use Rattle.xdr_json.specs.Mapping.{case_key, arm_key}
use Rattle.xdr_json_reader.specs.Tape.{members_of}
use Rattle.xdr_json_reader.specs.Reasons.{Wrong, WantsNone, kind_under, refused_key, front}
use Rattle.xdr_json_reader.specs.Private.Look.{pairs}
use Rattle.xdr_json_reader.specs.declared.fault.JsonReason.{JsonReason}
use Rattle.xdr_json_reader.specs.declared.first_members.Front.{Front}
use Rattle.xdr_json_reader.specs.declared.first_wanted.Wanted.{Wanted}
use Rattle.xdr_json_reader.specs.declared.first_wanted.Wanted.TheVariants as held
use Rattle.xdr_json_reader.specs.declared.tape.Key.{Key}
use Rattle.xdr_json_reader.specs.declared.tape.Node.{Node}

-- ---- tables of fields

-- the table of the fields of a structure: the place of each one's kind, by its name
abbrev pub IsFieldTable : List Part → BTreeMap (Bor (List ℕ)) ℕ → Type 0
IsFieldTable ps m = (name : List ℕ) → get_by (λ k. slice_cmp nat_cmp name k.now) m ≡ kind_under ps name

-- the same of one that may be there
abbrev pub MayBeFieldTable : List Part → Option (Bor (BTreeMap (Bor (List ℕ)) ℕ)) → Type 0
MayBeFieldTable ps o = MatchOption o (Unit {0}) (λ m. IsFieldTable ps m.now)

-- the fields of a structure; none of another kind
abbrev pub fields_of : KindView → List Part
fields_of (xdr.structure ps) = ps
fields_of _ = []

-- each table is that of the structure at its place
abbrev pub AreFieldTables : List KindView → BTreeMap ℕ (BTreeMap (Bor (List ℕ)) ℕ) → Type 0
AreFieldTables kinds ts =
    (place : ℕ) → MatchOption (get_by (nat_cmp place) ts) (Unit {0})
    (λ m. IsFieldTable (fields_of (kind_at kinds place)) m)

-- ---- what an object is to have

-- the discriminant, and an arm that is not void, as members
abbrev pub case_part : (tag : ℕ) → Part
case_part tag = record { name = case_key; kind = tag }

abbrev pub arm_part : Part → Part
arm_part p = record { name = arm_key p.name; kind = p.kind }

-- what is held stands for these members
abbrev pub IsWanted : Wanted → List Part → Type 0
IsWanted (held.Fields fields places) ps = (ps ≡ map part_of_member fields.now.items) × MayBeFieldTable ps places
IsWanted (held.Case tag) ps = ps ≡ case_part tag.place ∷ []
IsWanted (held.CaseAndArm tag arm) ps = ps ≡ case_part tag.place ∷ arm_part (part_of_member arm.now) ∷ []

-- a value is refused, and none of its members is wanted by name
abbrev pub IsLoneWrong : List KindView → KindView → Json → JsonReason → Type 0
IsLoneWrong kinds f j w = WantsNone kinds f j × Wrong kinds f j w

-- ---- the members with which an object begins

-- so many members stand before the first that is refused by its key; none is, where they are all
pub record IsFront (ps : List Part) (ms : List (Key × Node)) (f : Front) : Type 0 where
  pub is : front ps [] (members_of (pairs ms)) ≡ members_of (pairs (take f.count ms))
  pub why : refused_key ps [] (members_of (pairs ms)) ≡ f.why

-- there are so many members, and one more where one is refused
pub record IsOf (ms : List (Key × Node)) (f : Front) : Type 0 where
  pub few : f.count ≤ length ms
  pub there : MatchOption f.why (Unit {0}) (λ w. f.count < length ms)
