-- The kinds that an outline declares (RFC 4506 sections 4 and 6.4).
use Rattle.std.specs.Prelude.{ℕ, ℤ, List, [], ◌∷◌, ◌++◌, Option, Some, None}
use Rattle.xdr_grammar.specs.Outline.{Late, Field, Arm, Draft, DNumbered, DOpaque, DOpaqueUpTo, DText, DFixed, DUpTo}
use Rattle.xdr_grammar.specs.Outline.{DStructure, DChoice, DMaybe}
use Rattle.xdr_types.specs.Kinds as xdr
use Rattle.xdr_tokens.specs.Options.{◌>>=◌}
use Rattle.xdr_constants.specs.Constants.{Known, looked_up, size, limit, member_number, case_number}
use Rattle.xdr_lang.specs.LookUp.{place_of}

-- f of each in order, after those before; where each has one
unfoldable pub each_onto : {A B : Type 0} → (A → Option B) → List A → List B → Option (List B)
each_onto f [] before = Some before
each_onto f (a ∷ rest) before = f a >>= λ b. each_onto f rest (before ++ b ∷ [])

-- f of each, where each has one
abbrev pub each : {A B : Type 0} → (A → Option B) → List A → Option (List B)
each f rest = each_onto f rest []

-- f of what is there
unfoldable pub where_given : {A B : Type 0} → (A → Option B) → Option A → Option (Option B)
where_given f None = Some None
where_given f (Some a) = f a >>= λ b. Some (Some b)

-- a member of an enum with its number
unfoldable pub one_member : List Known → List ℕ × Late → Option xdr.Constant
one_member ks m = looked_up ks m.1 >>= λ v. member_number v >>= λ n. Some (record { name = m.0; number = n })

-- a case of a union
unfoldable pub one_case : List Known → Late → Option ℤ
one_case ks v = looked_up ks v >>= case_number

-- a field, an arm or a type
unfoldable pub one_field : List Field → Field → Option xdr.Part
one_field types f = place_of types f.part >>= λ k. Some (record { name = f.name; kind = k })

-- an arm with its cases
unfoldable pub one_arm : List Known → List Field → Arm → Option xdr.Branch
one_arm ks types a = do
  cs ← each (one_case ks) a.cases
  m ← one_field types a.member
  Some (record { cases = cs; part = m })

-- a kind
unfoldable pub one_kind : List Known → List Field → Draft → Option xdr.KindView
one_kind ks types (DNumbered ms) = each (one_member ks) ms >>= λ all. Some (xdr.numbered all)
one_kind ks types (DOpaque v) = size ks v >>= λ n. Some (xdr.opaque n)
one_kind ks types (DOpaqueUpTo v) = limit ks v >>= λ n. Some (xdr.opaque_up_to n)
one_kind ks types (DText v) = limit ks v >>= λ n. Some (xdr.text n)
one_kind ks types (DFixed p v) = place_of types p >>= λ k. size ks v >>= λ n. Some (xdr.fixed k n)
one_kind ks types (DUpTo p v) = place_of types p >>= λ k. limit ks v >>= λ n. Some (xdr.up_to k n)
one_kind ks types (DStructure fs) = each (one_field types) fs >>= λ all. Some (xdr.structure all)
one_kind ks types (DChoice t cs d) = place_of types t >>= λ k. each (one_arm ks types) cs >>= λ all. where_given
    (one_field types) d >>= λ other. Some (xdr.choice k all other)
one_kind ks types (DMaybe p) = place_of types p >>= λ k. Some (xdr.maybe k)
