-- What is printed of the arguments of a call and of the results of a reply, and of a credential.
use Rattle.std.specs.Prelude.{◌≡◌, ◌≢◌, ℕ, ◌+◌, ◌==◌, true, false, Bool, List, [], ◌∷◌, ◌++◌, length, codes, decimal}
use Rattle.std.specs.Prelude.{Option, None, Some}
use Rattle.xdr_types.specs.Kinds.{KindView}
use Rattle.rpc_message.specs.Message.{AuthView}
use Rattle.oncrpc_messages.specs.declared.form.Form.{Form}
use Rattle.oncrpc_messages.specs.declared.form.Form.TheVariants as form
use Rattle.oncrpc_messages.specs.declared.refusal.Refusal.{Refusal}
use Rattle.oncrpc_messages.specs.declared.refusal.Verdict.{Verdict}
use Rattle.oncrpc_messages.specs.declared.refusal.Verdict.TheVariants as verdict
use Rattle.oncrpc_messages.specs.Settings.{Settings}
use Rattle.oncrpc_messages.specs.Values.{AreRefused, AreShown}

-- which values they are: the arguments of a call or the results of a reply
abbrev pub values_key : (call : Bool) → List ℕ
values_key true = codes ",\"arguments\":["
values_key false = codes ",\"results\":["

-- values in their place: below the line of the message, or as a member of its object
abbrev pub values_text : Form → (call : Bool) → (values : List ℕ) → List ℕ
values_text form.Lines call values = codes "\n" ++ values
values_text form.Json call values = values_key call ++ values ++ codes "]"

-- so many bytes that no declared kind judges
abbrev pub unjudged_text : Form → (count : ℕ) → List ℕ
unjudged_text form.Lines count = codes ", " ++ decimal count ++ codes " bytes\n"
unjudged_text form.Json count = codes ",\"bytes\":" ++ decimal count

-- nothing more of a message
abbrev pub nothing_text : Form → List ℕ
nothing_text form.Lines = codes "\n"
nothing_text form.Json = []

-- values in their place, or nothing more, where messages are printed in brief
abbrev pub body_text : (brief : Bool) → Form → (call : Bool) → (values : List ℕ) → List ℕ
body_text true form call values = nothing_text form
body_text false form call values = values_text form call values

-- what is printed of bytes that begin at a place of the message: values of these kinds, or why they are none; without
-- kinds their count, and they are not judged
abbrev pub TellsBody : Settings → (call : Bool) → (places : Option (List ℕ)) → (start : ℕ) → (bytes text : List ℕ)
    → Verdict → Type 0
TellsBody s call None start bytes text verdict.Unjudged = text ≡ unjudged_text s.form (length bytes)
TellsBody s call (Some places) start bytes text verdict.Canonical =
    (values : List ℕ)
    × AreShown s.form s.declared.schema.kinds s.limits true places bytes values
    × (text ≡ body_text s.brief s.form call values)
TellsBody s call (Some places) start bytes text (verdict.Refused r) =
    (at : ℕ) × AreRefused s.declared.schema.kinds s.limits places bytes r.why at × (r.at ≡ start + at)
    × (text ≡ nothing_text s.form)
TellsBody s call _ start bytes text _ = ⊥

-- the fields of a credential as JSON: of AUTH_SYS those of its body, or why that is none (RFC 5531 appendix A); of
-- another flavor none
abbrev pub TellsFields : Settings → (start : ℕ) → AuthView → (fields : Option (List ℕ)) → Option Refusal → Type 0
TellsFields s start a None None = a.flavor ≢ 1
TellsFields s start a None (Some r) =
    (a.flavor ≡ 1)
    × ((at : ℕ) × AreRefused s.heads.kinds s.limits (s.heads.auth_sys ∷ []) a.body r.why at × (r.at ≡ start + at))
TellsFields s start a (Some fields) None =
    (a.flavor ≡ 1) × AreShown form.Json s.heads.kinds s.limits true (s.heads.auth_sys ∷ []) a.body fields
TellsFields s start a (Some fields) (Some r) = ⊥
