-- What is printed of the results of a call (RFC 4506 section 4; RFC 5531 section 9).
use Rattle.std.specs.Prelude.{◌≡◌, ◌≢◌, ℕ, ◌<◌, ◌≤◌, List, [], ◌∷◌, ◌++◌, length}
use Rattle.hex.specs.Hex.{encode_lower}
use Rattle.json.specs.Tree.{json_tokens}
use Rattle.xdr_types.specs.Kinds.{KindView}
use Rattle.xdr_types.specs.Tree.{Tree}
use Rattle.xdr_types.specs.Spelling.{bytes_of}
use Rattle.xdr_types.specs.Within.{FitsWithin}
use Rattle.xdr_stream.specs.Finish.{EndsWith}
use Rattle.xdr_stream.specs.declared.fault.DecodeFault.{DecodeFault}
use Rattle.xdr_stream.specs.declared.fault.Reason.TheVariants as reason
use Rattle.xdr_codec.specs.Refused.{HasNoneWithin, IsRefused}
use Rattle.xdr_show.specs.Shown.{show_text}
use Rattle.xdr_json.specs.Mapping.{json_of}
use Rattle.xdr_json.specs.Written.{text_of}
use Rattle.oncrpc_call.specs.Asked.{Wanted}
use Rattle.oncrpc_call.specs.Lines.{follows_line, refused_line}
use Rattle.oncrpc_call.specs.declared.asked.Form.{Form}
use Rattle.oncrpc_call.specs.declared.asked.Form.TheVariants as form

-- what is printed of a value: its bytes in hexadecimal, its lines, or its JSON
abbrev pub shown_in : Form → List KindView → (place : ℕ) → Tree → List ℕ
shown_in form.Hex kinds place v = encode_lower (bytes_of kinds place v) ++ 10 ∷ []
shown_in form.Lines kinds place v = show_text kinds place v
shown_in (form.Json layout) kinds place v = text_of layout (json_tokens (json_of kinds place v)) ++ 10 ∷ []

-- The results are, to the last byte, a value of the kind within the limits, and this text is what is printed of it.
pub record ShowsResults (w : Wanted) (results text : List ℕ) : Type 0 where
  pub value : Tree
  pub fits : FitsWithin w.kinds w.place w.limits value
  pub whole : results ≡ bytes_of w.kinds w.place value
  pub printed : text ≡ shown_in w.form w.kinds w.place value

-- The line of results that are no such value: bytes follow one, or none begins them, for the reason and at the place of
-- their outcome.
pub data RefusesResults (w : Wanted) (results : List ℕ) : (line : List ℕ) → Type 0 where
  follows : (v : Tree) (more : List ℕ) → FitsWithin w.kinds w.place w.limits v
      → results ≡ bytes_of w.kinds w.place v ++ more → 0 < length more
      → RefusesResults w results (follows_line (length (bytes_of w.kinds w.place v)))
  refused : (f : DecodeFault) → f.why ≢ reason.NoMemory → EndsWith w.kinds w.place w.limits results f
      → IsRefused (HasNoneWithin w.kinds w.place w.limits) f.why results → f.at ≤ length results
      → RefusesResults w results (refused_line f)
