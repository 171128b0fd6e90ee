-- What writes a layout.
use Rattle.std.specs.Prelude.{◌≡◌, [], ⊤}
use Rattle.xdr_json.specs.Written.{Written}
use Rattle.xdr_json.specs.declared.output.Form.{Form}
use Rattle.xdr_json.specs.declared.output.Form.TheVariants as form
use Rattle.xdr_json.specs.declared.output.Layout.TheVariants.{Compact, Indented}

-- the layout, and the tokens so far
abbrev pub written_by : Form → Written
written_by (form.Compact w) = record { layout = Compact; tokens = w.tokens }
written_by (form.Indented ts) = record { layout = Indented; tokens = ts }

-- nothing stands before the tokens
abbrev pub begins_empty : Form → Type 0
begins_empty (form.Compact w) = w.before ≡ []
begins_empty (form.Indented ts) = ⊤
