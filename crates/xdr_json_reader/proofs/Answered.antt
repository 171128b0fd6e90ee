-- The value that bytes have, and the text that spells it.
use Rattle.std.proofs.Common.{◌≡◌, ℕ, ◌⊎◌, inl, inr, List, [], ◌∷◌, ◌++◌, take, drop, true, refl}
use Rattle.std.proofs.Common.{ap, sym, ◌∙◌, subst}
use Rattle.std.proofs.Common.{Option, Some, None, is_some}
use Rattle.std.proofs.lemmas.Bool.{true≢false}
use Rattle.std.proofs.lemmas.List.{append-nil, take-append-drop}
use Rattle.std.specs.Str.{IsUtf8}
use Rattle.json.specs.Json.{Json}
use Rattle.xdr_types.specs.Kinds.{KindView}
use Rattle.xdr_types.specs.Tree.{Tree}
use Rattle.xdr_types.specs.Fits.{Fits}
use Rattle.xdr_types.specs.Laws.{EachSpellingIsOneValue}
use Rattle.xdr_types.specs.Spelling.{bytes_of}
use Rattle.xdr_types.specs.Within.{Bounds, FitsWithin}
use Rattle.xdr_json.specs.Spelled.{spells}
use Rattle.xdr_json.specs.Text.{json_text, IsSpelling, SpellsNone}
use Rattle.xdr_json_reader.specs.Private.Pending.{Means}
use Rattle.xdr_stream.specs.declared.fault.Reason.{Reason}
use Rattle.xdr_stream.specs.declared.fault.Reason.TheVariants as reason
use Rattle.xdr_codec.specs.Refused.{HasNoneWithin, IsRefused}
use Rattle.xdr_json_reader.specs.declared.fault.JsonReason.{JsonReason}
use Rattle.xdr_json_reader.specs.declared.fault.JsonReason.TheVariants.{NoMemory}
use Rattle.xdr_json_reader.proofs.Meant.{root_spelled, root_means}

some-is : {A : Type 0} (x y : A) → Some x ≡ Some y → x ≡ y
some-is {A} x y e = ap from e
  where
    from : Option A → A
    from None = x
    from (Some z) = z

-- a text that is no JSON spells nothing
pub none_spelled : (kinds : List KindView) (place : ℕ) (limits : Bounds) (text : List ℕ) → json_text text ≡ None
    → SpellsNone kinds place limits text
none_spelled kinds place limits text none t s = true≢false (ap is_some (sym s.is ∙ none))

pub not_utf8 : (kinds : List KindView) (place : ℕ) (limits : Bounds) (text : List ℕ) → (IsUtf8 text → ⊥)
    → SpellsNone kinds place limits text
not_utf8 kinds place limits text never t s = never s.utf8

-- what spells the same JSON has the root's bytes
pub spelled_bytes : (kinds : List KindView) (place : ℕ) (limits : Bounds) (text : List ℕ) (j : Json) (t : Tree)
    → json_text text ≡ Some j → IsSpelling kinds place limits text t
    → Means kinds ((place, j) ∷ []) (bytes_of kinds place t)
spelled_bytes kinds place limits text j t e s =
    root_means kinds place j t
    (subst (λ (k : Json). spells kinds place k t ≡ true) (some-is s.tree j (sym s.is ∙ e)) s.spells)

-- no bytes, no value
pub no_bytes : (kinds : List KindView) (place : ℕ) (limits : Bounds) (text : List ℕ) (j : Json)
    → json_text text ≡ Some j → ((bs : List ℕ) → Means kinds ((place, j) ∷ []) bs → ⊥)
    → SpellsNone kinds place limits text
no_bytes kinds place limits text j e none t s =
    none (bytes_of kinds place t) (spelled_bytes kinds place limits text j t e s)

-- a value that has the bytes is spelled
pub is_spelled : (kinds : List KindView) → EachSpellingIsOneValue kinds → (place : ℕ) → (limits : Bounds)
    (text : List ℕ) (j : Json) (u : Tree) (n : ℕ) (out : List ℕ) → IsUtf8 text → json_text text ≡ Some j
    → ((t : Tree) → spells kinds place j t ≡ true → Fits kinds place t) → Means kinds ((place, j) ∷ []) out
    → FitsWithin kinds place limits u → bytes_of kinds place u ≡ take n out → IsSpelling kinds place limits text u
is_spelled kinds law place limits text j u n out utf8 e fits m within b =
    let r = root_spelled kinds place j out m in
    let same = (law place r.0 u [] (drop n out) (fits r.0 r.1) within.0
    (append-nil (bytes_of kinds place r.0) ∙ r.2 ∙ sym (take-append-drop n out)
    ∙ ap (λ (z : List ℕ). z ++ drop n out) (sym b))).0 in
    record {
      utf8 = utf8;
      tree = j;
      is = e;
      spells = subst (λ (t : Tree). spells kinds place j t ≡ true) same r.1;
      within = within;
    }

-- bytes that are refused within the limits
pub no_value : (kinds : List KindView) (place : ℕ) (limits : Bounds) (text : List ℕ) (j : Json) (out : List ℕ)
    → json_text text ≡ Some j → ((bs : List ℕ) → Means kinds ((place, j) ∷ []) bs → bs ≡ out)
    → ((t : Tree) (x : List ℕ) → FitsWithin kinds place limits t → bytes_of kinds place t ++ x ≡ out ++ [] → ⊥)
    → SpellsNone kinds place limits text
no_value kinds place limits text j out e only none t s =
    none t [] s.within
    (ap (λ (z : List ℕ). z ++ []) (only (bytes_of kinds place t) (spelled_bytes kinds place limits text j t e s)))

-- why they are refused: memory was refused, or there is no value
pub refused_bytes : (kinds : List KindView) (place : ℕ) (limits : Bounds) (text : List ℕ) (j : Json) (out : List ℕ)
    (w : Reason) (v : JsonReason) → (w ≡ reason.NoMemory → v ≡ NoMemory) → json_text text ≡ Some j
    → ((bs : List ℕ) → Means kinds ((place, j) ∷ []) bs → bs ≡ out)
    → IsRefused (HasNoneWithin kinds place limits) w out → (v ≡ NoMemory) ⊎ SpellsNone kinds place limits text
refused_bytes kinds place limits text j out w v h e only = by_case w h
  where
    none : HasNoneWithin kinds place limits (out ++ []) → SpellsNone kinds place limits text
    none n = no_value kinds place limits text j out e only n

    by_case : (w : Reason) → (w ≡ reason.NoMemory → v ≡ NoMemory)
        → IsRefused (HasNoneWithin kinds place limits) w out → (v ≡ NoMemory) ⊎ SpellsNone kinds place limits text
    by_case reason.BadBool h r = inr (none (r [] tt))
    by_case reason.BadNumbered h r = inr (none (r [] tt))
    by_case reason.BadCase h r = inr (none (r [] tt))
    by_case reason.TooLong h r = inr (none (r [] tt))
    by_case reason.BadPadding h r = inr (none (r [] tt))
    by_case reason.TooDeep h r = inr (none (r [] tt))
    by_case reason.TooLarge h r = inr (none (r [] tt))
    by_case reason.Truncated h r = inr (none (r [] refl))
    by_case reason.NoMemory h r = inl (h refl)
