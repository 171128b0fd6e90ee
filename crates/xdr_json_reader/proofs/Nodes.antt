-- A node for a kind of a schema: from what becomes of its form to what becomes of it at its place.
use Rattle.std.proofs.Common.{◌≡◌, ℕ, ℤ, ◌≤◌, inl, inr, List, ◌∷◌, ◌++◌, length, ap}
use Rattle.std.proofs.Common.{sym, ◌∙◌, subst, refl}
use Rattle.std.proofs.Common.{Result, Ok, Err, MatchResult}
use Rattle.std.proofs.lemmas.Bool.{false≢true}
use Rattle.json.specs.Json.{Json}
use Rattle.xdr_types.specs.Kinds.{KindView, kind_at}
use Rattle.xdr_units.specs.Numbers.{num4}
use Rattle.xdr_json.specs.Spelled.{under}
use Rattle.xdr_json_reader.specs.Nodes.{Due, each}
use Rattle.xdr_json_reader.specs.Reasons.{Wrong, tag_reason}
use Rattle.xdr_json_reader.specs.Private.Pending.{Took}
use Rattle.xdr_json_reader.specs.Private.Leaves.{LeafRead}
use Rattle.xdr_json_reader.specs.Private.Groups.{NodeRead, ReadAmong, ReadAt, Placed}
use Rattle.xdr_json_reader.specs.declared.fault.JsonFault.{JsonFault}
use Rattle.xdr_json_reader.specs.declared.fault.JsonReason.{JsonReason}
use Rattle.xdr_json_reader.specs.declared.fault.JsonReason.TheVariants.{NoMemory, WrongType}
use Rattle.xdr_json.proofs.Apart.{outside}

move : {A : Type 0} (kinds : List KindView) (f g : KindView) (j k : Json) (out new : List ℕ) (due next : List Due)
    (r : Result A JsonFault) → g ≡ f → j ≡ k → ReadAt kinds f j out new due next r → ReadAt kinds g k out new due next r
move kinds f g j k out new due next r e i h =
    subst (λ (x : Json). ReadAt kinds g x out new due next r) i
    (subst (λ (x : KindView). ReadAt kinds x j out new due next r) (sym e) h)

pub among_at : {A B : Type 0} (kinds : List KindView) (f g : KindView) (j k : Json) (out new : List ℕ)
    (due next : List Due) (r : Result A JsonReason) (s : Result B JsonFault) → g ≡ f → j ≡ k
    → ReadAmong kinds f j out new due next r → Placed r s → ReadAt kinds g k out new due next s
among_at kinds f g j k out new due next (Ok x) (Ok y) e i h p =
    move kinds f g j k out new due next (Ok y) e i h
among_at kinds f g j k out new due next (Ok x) (Err w) e i h p = absurd p
among_at kinds f g j k out new due next (Err w) (Ok y) e i h p = absurd p
among_at {A} {B} kinds f g j k out new due next (Err w) (Err v) e i (inl m) p = inl (p ∙ m)
among_at {A} {B} kinds f g j k out new due next (Err w) (Err v) e i (inr n) p =
    inr (subst (λ (x : JsonReason). Wrong kinds g k x) (sym p)
    (subst (λ (x : Json). Wrong kinds g x w) i (subst (λ (x : KindView). Wrong kinds x j w) (sym e) n)))

node_among : {A : Type 0} (kinds : List KindView) (f : KindView) (j : Json) (out new : List ℕ) (due next : List Due)
    (r : Result A JsonReason) → NodeRead f j out new due next r → ReadAmong kinds f j out new due next r
node_among kinds f j out new due next (Ok x) h = h kinds
node_among kinds f j out new due next (Err w) (inl m) = inl m
node_among kinds f j out new due next (Err w) (inr n) = inr (n kinds)

pub node_at : {A B : Type 0} (kinds : List KindView) (f g : KindView) (j k : Json) (out new : List ℕ)
    (due next : List Due) (r : Result A JsonReason) (s : Result B JsonFault) → g ≡ f → j ≡ k
    → NodeRead f j out new due next r → Placed r s → ReadAt kinds g k out new due next s
node_at kinds f g j k out new due next r s e i h p =
    among_at kinds f g j k out new due next r s e i (node_among kinds f j out new due next r h) p

leaf_among : {A : Type 0} (kinds : List KindView) (f : KindView) (j : Json) (out new : List ℕ) (due : List Due)
    (r : Result A JsonReason) → LeafRead f j out new r → ReadAmong kinds f j out new due due r
leaf_among kinds f j out new due (Ok x) l = record {
  head = l.head;
  shows = l.shows kinds;
  bytes = l.bytes;
  parts = sym (ap (λ ps. each ps (under kinds f l.head j) ++ due) l.alone);
}
leaf_among kinds f j out new due (Err w) (inl m) = inl m
leaf_among kinds f j out new due (Err w) (inr n) = inr (n kinds)

pub leaf_at : {A B : Type 0} (kinds : List KindView) (f g : KindView) (j k : Json) (out new : List ℕ) (due : List Due)
    (r : Result A JsonReason) (s : Result B JsonFault) → g ≡ f → j ≡ k → LeafRead f j out new r → Placed r s
    → ReadAt kinds g k out new due due s
leaf_at kinds f g j k out new due r s e i h p =
    among_at kinds f g j k out new due due r s e i (leaf_among kinds f j out new due r h) p

pub unknown_at : (kinds : List KindView) (place : ℕ) (j : Json) → length kinds ≤ place
    → Wrong kinds (kind_at kinds place) j WrongType
unknown_at kinds place j h =
    subst (λ (f : KindView). Wrong kinds f j WrongType) (sym (outside kinds place h))
    (record { none = λ head s. false≢true s.legal; tells = refl })

-- a discriminant of no kind
pub unknown_tag : (kinds : List KindView) (place : ℕ) (j : Json) → length kinds ≤ place
    → WrongType ≡ tag_reason (kind_at kinds place) j
unknown_tag kinds place j h =
    subst (λ (f : KindView). WrongType ≡ tag_reason f j) (sym (outside kinds place h)) refl

pub took_as : (kinds : List KindView) (f g : KindView) (j k : Json) (out new : List ℕ) (due next : List Due) → g ≡ f
    → j ≡ k → Took kinds f j out new due next → Took kinds g k out new due next
took_as kinds f g j k out new due next e i t =
    subst (λ (x : Json). Took kinds g x out new due next) i
    (subst (λ (x : KindView). Took kinds x j out new due next) (sym e) t)

-- an arm was begun, or memory was refused
pub put_among : {A : Type 0} (kinds : List KindView) (g : KindView) (j : Json) (out new : List ℕ) (due next : List Due)
    (number : ℤ) (place : ℕ) (k : Json) (r : Result A JsonFault)
    → (new ≡ out ++ num4 number → next ≡ (place, k) ∷ due → Took kinds g j out new due next)
    → MatchResult r (λ _. (new ≡ out ++ num4 number) × (next ≡ (place, k) ∷ due)) (λ f. f.why ≡ NoMemory)
    → ReadAt kinds g j out new due next r
put_among kinds g j out new due next number place k (Ok x) t h = t h.0 h.1
put_among kinds g j out new due next number place k (Err f) t h = inl h
