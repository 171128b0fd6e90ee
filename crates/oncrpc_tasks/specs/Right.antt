-- Which answer is right for an input (RFC 4506: the bytes of a value, and what follows them).
use Rattle.std.specs.Prelude.{◌≡◌, ℕ, ◌<◌, ◌≤◌, Bool, true, false, List, [], ◌++◌, length, Option, None, Some, Ok, ⊤}
use Rattle.std.specs.Prelude.{◌∷◌}
use Rattle.json.specs.Tree.{json_tokens}
use Rattle.hex.specs.Hex.{decode_of}
use Rattle.xdr_types.specs.Kinds.{KindView}
use Rattle.xdr_types.specs.Tree.{Tree}
use Rattle.xdr_types.specs.Spelling.{bytes_of}
use Rattle.xdr_types.specs.Within.{Bounds, FitsWithin}
use Rattle.xdr_types.specs.Outcome.{Ending, Outcome, Pending, Whole}
use Rattle.xdr_show.specs.Shown.{show_text}
use Rattle.xdr_stream.specs.declared.fault.Reason.{Reason}
use Rattle.xdr_stream.specs.declared.fault.Reason.TheVariants as reason
use Rattle.xdr_stream.specs.Sees.{Ends}
use Rattle.xdr_json.specs.Mapping.{json_of}
use Rattle.xdr_json.specs.Written.{text_of}
use Rattle.oncrpc_tasks.specs.declared.question.Form.{Form}
use Rattle.oncrpc_tasks.specs.declared.question.Form.TheVariants as form
use Rattle.oncrpc_tasks.specs.declared.question.Question as declared
use Rattle.oncrpc_answers.specs.declared.answer.Answer.{Answer}
use Rattle.oncrpc_answers.specs.declared.answer.Answer.TheVariants as answer
use Rattle.oncrpc_tasks.specs.Hexadecimal.{digits, IsBadHex}
use Rattle.oncrpc_tasks.specs.declared.hexadecimal.TheConstants.{MOST_TEXT}

-- what is asked: the kinds, the place of the value's kind, the limits, and what is printed of the value
pub record Question : Type 0 where
  pub kinds : List KindView
  pub place : ℕ
  pub limits : Bounds
  pub form : Form

-- what a question of the code asks
abbrev pub asked_of : declared.Question → Question
asked_of q = record { kinds = q.schema.now.kinds; place = q.kind.place; limits = q.limits; form = q.form }

-- the kind that it asks for is one of its schema's
abbrev pub IsKnown : declared.Question → Type 0
IsKnown q = q.kind.place < length q.schema.now.kinds

-- what is shown of a value: nothing, its lines, or its JSON and a line feed
abbrev pub shown_in : Form → List KindView → (place : ℕ) → Tree → List ℕ
shown_in form.Outcome kinds place v = []
shown_in form.Lines kinds place v = show_text kinds place v
shown_in (form.Json layout) kinds place v = text_of layout (json_tokens (json_of kinds place v)) ++ 10 ∷ []

-- what is shown of the value that is asked for
abbrev pub shown_of : Question → Tree → List ℕ
shown_of q v = shown_in q.form q.kinds q.place v

-- The bytes begin with a value within the limits, of which this is shown, and then these follow.
pub record BeginsWithValue (q : Question) (bytes : List ℕ) (used : ℕ) (more shown : List ℕ) : Type 0 where
  pub value : Tree
  pub fits : FitsWithin q.kinds q.place q.limits value
  pub joined : bytes ≡ bytes_of q.kinds q.place value ++ more
  pub counted : used ≡ length (bytes_of q.kinds q.place value)
  pub lines : shown ≡ shown_of q value

-- The bytes begin with no value within the limits.
abbrev pub HasNoValue : Question → List ℕ → Type 0
HasNoValue q bytes = (used : ℕ) (more shown : List ℕ) → BeginsWithValue q bytes used more shown → ⊥

-- this is the outcome of decoding the bytes: the first event at the least place that has one (RFC 4506 sections 3 and
-- 4)
abbrev pub HasOutcome : Question → List ℕ → Ending → Type 0
HasOutcome q bytes e = Outcome q.kinds q.place q.limits bytes e

-- The outcome is a whole value, of which this is shown, and these bytes follow it.
abbrev pub IsWhole : Question → List ℕ → (used : ℕ) → (more shown : List ℕ) → Type 0
IsWhole q bytes used more shown =
    (b : BeginsWithValue q bytes used more shown) × HasOutcome q bytes (Whole b.value used)

-- The reason and the place are those of the outcome. A value that the end of the input cuts, whose outcome is pending,
-- is refused at that end. Every other outcome stands whatever bytes follow. No value begins the bytes.
abbrev pub IsRefusal : Question → List ℕ → Reason → ℕ → Type 0
IsRefusal q bytes reason.NoMemory at = ⊥
IsRefusal q bytes reason.Truncated at = HasOutcome q bytes Pending × (at ≡ length bytes) × HasNoValue q bytes
IsRefusal q bytes why at =
    (more : List ℕ) → Ends q.kinds q.place q.limits why (bytes ++ more) at × HasNoValue q (bytes ++ more)

-- The answer is right for these bytes, and so is what is shown before it: of a refusal nothing.
abbrev pub IsRight : Question → List ℕ → Answer → (shown : List ℕ) → Type 0
IsRight q bytes (answer.Whole used) shown = IsWhole q bytes used [] shown
IsRight q bytes (answer.MoreFollows used) shown =
    (more : List ℕ) × (0 < length more) × IsWhole q bytes used more shown
IsRight q bytes (answer.Refused f) shown = IsRefusal q bytes f.why f.at × (shown ≡ [])
IsRight q bytes _ shown = ⊥

-- The answer is right for a text of hexadecimal. Too long is decided first, white space counted.
abbrev pub IsRightForText : Question → List ℕ → Answer → (shown : List ℕ) → Type 0
IsRightForText q text answer.HexTooLong shown = (MOST_TEXT < length text) × (shown ≡ [])
IsRightForText q text answer.BadHex shown = (length text ≤ MOST_TEXT) × IsBadHex text × (shown ≡ [])
IsRightForText q text a shown =
    (length text ≤ MOST_TEXT) × ((bytes : List ℕ) × (decode_of (digits text) ≡ Ok bytes) × IsRight q bytes a shown)

-- the answer is right for an input, read as hexadecimal or as it is, where its bytes are reported
abbrev pub IsRightFor : Question → Bool → Option (List ℕ) → Answer → (shown : List ℕ) → Type 0
IsRightFor q hex None a shown = ⊤
IsRightFor q true (Some text) a shown = IsRightForText q text a shown
IsRightFor q false (Some bytes) a shown = IsRight q bytes a shown
