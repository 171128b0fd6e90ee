-- Values one behind another, as they are judged and printed (RFC 4506 section 4; RFC 5531 section 12.2).
use Rattle.std.specs.Prelude.{◌≡◌, ◌≢◌, ◌⊎◌, ℕ, ◌+◌, ◌<◌, Bool, true, false, List, [], ◌∷◌, ◌++◌, length, codes}
use Rattle.json.specs.Tree.{json_tokens}
use Rattle.xdr_types.specs.Kinds.{KindView}
use Rattle.xdr_types.specs.Spelling.{bytes_of}
use Rattle.xdr_types.specs.Tree.{Tree}
use Rattle.xdr_types.specs.Within.{Bounds, FitsWithin}
use Rattle.xdr_stream.specs.Finish.{EndsWith}
use Rattle.xdr_stream.specs.declared.fault.DecodeFault.{DecodeFault}
use Rattle.xdr_stream.specs.declared.fault.Reason.TheVariants as reason
use Rattle.xdr_show.specs.Shown.{show_text}
use Rattle.xdr_json.specs.Mapping.{json_of}
use Rattle.xdr_json.specs.Written.{text_of}
use Rattle.xdr_json.specs.declared.output.Layout.TheVariants.{Compact}
use Rattle.oncrpc_messages.specs.declared.form.Form.{Form}
use Rattle.oncrpc_messages.specs.declared.form.Form.TheVariants as form
use Rattle.oncrpc_messages.specs.declared.refusal.Why.{Why}
use Rattle.oncrpc_messages.specs.declared.refusal.Why.TheVariants as why

-- what is printed of a value: its lines, or its JSON without white space
abbrev pub shown_in : Form → List KindView → (place : ℕ) → Tree → List ℕ
shown_in form.Lines kinds place v = show_text kinds place v
shown_in form.Json kinds place v = text_of Compact (json_tokens (json_of kinds place v))

-- what stands between a value and the one before it
abbrev pub between : Form → (first : Bool) → List ℕ
between form.Json false = codes ","
between _ _ = []

-- the bytes are values of these kinds within the limits, one behind another and nothing after, and this is printed of
-- them
abbrev pub AreShown : Form → List KindView → Bounds → (first : Bool) → (places : List ℕ) → (bytes text : List ℕ)
    → Type 0
AreShown form kinds limits first [] bytes text = (bytes ≡ []) × (text ≡ [])
AreShown form kinds limits first (k ∷ ks) bytes text =
    (v : Tree) × (rest : List ℕ) × (more : List ℕ) × FitsWithin kinds k limits v × (bytes ≡ bytes_of kinds k v ++ rest)
    × (text ≡ between form first ++ (shown_in form kinds k v ++ more)) × AreShown form kinds limits false ks rest more

-- the outcome of the bytes as a value of the kind is this reason at this place
pub record IsBroken (kinds : List KindView) (limits : Bounds) (place : ℕ) (bytes : List ℕ) (w : Why) (at : ℕ)
    : Type 0 where
  pub fault : DecodeFault
  pub known : fault.why ≢ reason.NoMemory
  pub ends : EndsWith kinds place limits bytes fault
  pub why_is : w ≡ why.Bytes fault.why
  pub at_is : at ≡ fault.at

-- the bytes are no such values: behind some, one is refused for the reason and at the place of its outcome, or bytes
-- follow the last
abbrev pub AreRefused : List KindView → Bounds → (places : List ℕ) → (bytes : List ℕ) → Why → (at : ℕ) → Type 0
AreRefused kinds limits [] bytes w at = (w ≡ why.MoreFollows) × (at ≡ 0) × (0 < length bytes)
AreRefused kinds limits (k ∷ ks) bytes w at =
    IsBroken kinds limits k bytes w at
    ⊎ ((v : Tree) × (rest : List ℕ) × (n : ℕ) × FitsWithin kinds k limits v × (bytes ≡ bytes_of kinds k v ++ rest)
    × (at ≡ length (bytes_of kinds k v) + n) × AreRefused kinds limits ks rest w n)
