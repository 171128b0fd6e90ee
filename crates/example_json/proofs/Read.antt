-- What is read of a text that spells a value.
use Rattle.std.proofs.Common.{◌≡◌, ℕ, ◌⊎◌, inl, inr, List, Some, Result, Ok, Err}
use Rattle.std.proofs.Common.{MatchResult, IfOk, IfErr, sym, subst, true}
use Rattle.std.proofs.lemmas.Str.{IsUtf8-from_is_utf8}
use Rattle.std.specs.Str.{is_utf8}
use Rattle.json.specs.Json.{Json}
use Rattle.xdr_types.specs.Kinds.{KindView}
use Rattle.xdr_types.specs.Tree.{Tree}
use Rattle.xdr_types.specs.View.{tree}
use Rattle.xdr_types.specs.Within.{Bounds, FitsWithin}
use Rattle.xdr_types.specs.declared.value.Value.{Value}
use Rattle.xdr_json.specs.Spelled.{spells}
use Rattle.xdr_json.specs.Text.{IsSpelling, SpellsNone, json_text}
use Rattle.xdr_json_reader.specs.declared.fault.JsonFault.{JsonFault}
use Rattle.xdr_json_reader.specs.declared.fault.JsonReason.TheVariants.{NoMemory}

-- it is the value, or memory was refused
pub read_as : (kinds : List KindView) (place : ℕ) (limits : Bounds) (text : List ℕ) (t : Tree)
    (r : Result Value JsonFault) → IsSpelling kinds place limits text t
    → IfOk r (λ v. (u : Tree) → IsSpelling kinds place limits text u → u ≡ tree v)
    → IfErr r (λ f. (f.why ≡ NoMemory) ⊎ SpellsNone kinds place limits text)
    → MatchResult r (λ v. tree v ≡ t) (λ f. f.why ≡ NoMemory)
read_as kinds place limits text t (Ok v) s only refused = sym (only t s)
read_as kinds place limits text t (Err f) s only refused = elim refused [ inl m ↦ m | inr n ↦ absurd (n t s) ]

-- a text that is known, and what it spells among kinds that are known
pub spelled : (kinds ks : List KindView) (place : ℕ) (limits : Bounds) (text bs : List ℕ) (j : Json) (t : Tree)
    → kinds ≡ ks → text ≡ bs → is_utf8 bs ≡ true → json_text bs ≡ Some j → spells ks place j t ≡ true
    → FitsWithin ks place limits t → IsSpelling kinds place limits text t
spelled kinds ks place limits text bs j t e h u is s w =
    subst (λ (x : List KindView). IsSpelling x place limits text t) (sym e)
    (subst (λ (x : List ℕ). IsSpelling ks place limits x t) (sym h)
    (record { utf8 = IsUtf8-from_is_utf8 bs u; tree = j; is = is; spells = s; within = w }))
