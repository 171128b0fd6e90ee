-- A message closed, with what is refused of it.
use Rattle.std.specs.Prelude.{ℕ, List, [], ◌++◌, codes, decimal}
use Rattle.oncrpc_messages.specs.declared.form.Form.{Form}
use Rattle.oncrpc_messages.specs.declared.form.Form.TheVariants as form
use Rattle.oncrpc_messages.specs.declared.refusal.Verdict.{Verdict}
use Rattle.oncrpc_messages.specs.declared.refusal.Verdict.TheVariants as verdict
use Rattle.oncrpc_messages.specs.declared.refusal.Why.{Why}
use Rattle.oncrpc_messages.specs.Refusals.{why_name}

-- the reason, and the place in the stream
abbrev pub refusal_text : Form → Why → (place : ℕ) → List ℕ
refusal_text form.Lines why place = codes "refused " ++ why_name why ++ codes " at " ++ decimal place ++ codes "\n"
refusal_text form.Json why place =
    codes ",\"refused\":\"" ++ why_name why ++ codes "\",\"at\":" ++ decimal place

-- what is refused, where something is
abbrev pub refused_part : Form → Verdict → (place : ℕ) → List ℕ
refused_part form (verdict.Refused r) place = refusal_text form r.why place
refused_part form _ place = []

-- the end of a message
abbrev pub end_text : Form → List ℕ
end_text form.Lines = []
end_text form.Json = codes "}\n"

-- the whole text of a message
abbrev pub closed : Form → (text : List ℕ) → Verdict → (place : ℕ) → List ℕ
closed form text v place = text ++ (refused_part form v place ++ end_text form)
