-- The closing line of counts.
use Rattle.std.specs.Prelude.{ℕ, List, ◌++◌, codes, decimal}
use Rattle.oncrpc_messages.specs.declared.form.Form.{Form}
use Rattle.oncrpc_messages.specs.declared.form.Form.TheVariants as form
use Rattle.oncrpc_watch.specs.declared.counts.Counts.{Counts}

-- how many messages there were, each count behind its name
abbrev pub messages_text : Form → Counts → List ℕ
messages_text form.Lines c =
    codes "calls " ++ decimal c.calls ++ codes " replies " ++ decimal c.replies ++ codes " others " ++ decimal c.others
messages_text form.Json c =
    codes "{\"type\":\"counts\",\"calls\":" ++ decimal c.calls ++ codes ",\"replies\":" ++ decimal c.replies
    ++ codes ",\"others\":" ++ decimal c.others

-- what they were found to be
abbrev pub found_text : Form → Counts → List ℕ
found_text form.Lines c =
    codes " refused " ++ decimal c.refused ++ codes " unjudged " ++ decimal c.unjudged
    ++ codes " unasked " ++ decimal c.unasked ++ codes "\n"
found_text form.Json c =
    codes ",\"refused\":" ++ decimal c.refused ++ codes ",\"unjudged\":" ++ decimal c.unjudged
    ++ codes ",\"unasked\":" ++ decimal c.unasked ++ codes "}\n"

-- the closing line
abbrev pub counts_line : Form → Counts → List ℕ
counts_line form c = messages_text form c ++ found_text form c
