-- From the bytes that were read to the text that is reported.
use Rattle.std.proofs.Common.{◌≡◌, ◌⊎◌, ℕ, ◌+◌, ◌<◌, ◌≤◌, List, [], ◌++◌, length, Option, None, Some, Result, Ok, Err}
use Rattle.std.proofs.Common.{IfOk, ap, arith, inl, inr, length-append, subst, sym, ◌∙◌}
use Rattle.std.proofs.lemmas.List.{append-nil}
use Rattle.std.specs.Io.KnownBytes.{Consumes, IsAtEnd}
use Rattle.xdr_io.specs.Reported.{MovesAtMost}
use Rattle.xdr_types.specs.Spelling.{bytes_of}
use Rattle.xdr_types.specs.Tree.{Tree}
use Rattle.xdr_json.specs.Text.{IsSpelling, SpellsNone}
use Rattle.xdr_json_reader.specs.Reasons.{Tells}
use Rattle.xdr_json_reader.specs.declared.fault.JsonReason.{JsonReason}
use Rattle.xdr_json_reader.specs.declared.fault.JsonReason.TheVariants.{NoMemory}
use Rattle.oncrpc_answers.specs.declared.failure.Failure.{Failure}
use Rattle.oncrpc_encode.specs.Encoding.{Sought, IsEncoding, IsRight, IsRightFor, IsRightRefusal, most_text}
use Rattle.oncrpc_encode.specs.Private.Refused.{IsRefusedFor}
use Rattle.oncrpc_encode.specs.declared.encoded.Encoded.{Encoded}
use Rattle.oncrpc_encode.specs.declared.encoded.Encoded.TheVariants as encoded
use Rattle.oncrpc_encode.specs.declared.refusal.Refusal.{Refusal}
use Rattle.oncrpc_encode.specs.declared.refusal.Refusal.TheVariants as refusal

-- A text that is not too long was read to its end.
pub all_read : (text rest bytes : List ℕ) → text ≡ bytes ++ rest → rest ≡ [] → bytes ≡ text
all_read text rest bytes is none = sym (is ∙ ap (λ (x : List ℕ). bytes ++ x) none ∙ append-nil bytes)

right_read : (s : Sought) (left left' : Option (List ℕ)) (bytes : List ℕ) (e : Encoded) → Consumes left left' bytes
    → IsAtEnd left' → IsRight s bytes e → IsRightFor s left e
right_read s None left' bytes e read end right = tt
right_read s (Some text) None bytes e read end right = absurd read
right_read s (Some text) (Some rest) bytes e read end right =
    subst (λ (x : List ℕ). IsRight s x e) (all_read text rest bytes read end) right

-- what is right for the bytes that were read is right for the input
pub answer_read : (s : Sought) (left left' : Option (List ℕ)) (bytes : List ℕ) (r : Result Encoded Failure)
    → Consumes left left' bytes → IsAtEnd left' → IfOk r (λ e. IsRight s bytes e) → IfOk r (λ e. IsRightFor s left e)
answer_read s left left' bytes (Ok e) read end right = right_read s left left' bytes e read end right
answer_read s left left' bytes (Err f) read end right = tt

-- an input with more bytes than a text may have is too long
pub too_long : (s : Sought) (left left' : Option (List ℕ)) (bytes : List ℕ) → Consumes left left' bytes
    → most_text s < length bytes → IsRightFor s left (encoded.Refused refusal.TooLong)
too_long s None left' bytes read long = tt
too_long s (Some text) None bytes read long = absurd read
too_long s (Some text) (Some rest) bytes read long =
    let counts : length text ≡ length bytes + length rest = ap length read ∙ length-append bytes rest in
    omega arith

-- a fault of a text that is not too long says that it spells nothing, and why
pub refused_right : (s : Sought) (text : List ℕ) (why : JsonReason) (at : ℕ) (r : Refusal)
    → length text ≤ most_text s → at ≤ length text → (why ≡ NoMemory) ⊎ SpellsNone s.kinds s.place s.limits text
    → Tells s.kinds s.place s.limits text why → IsRefusedFor text why at r → IsRightRefusal s text r
refused_right s text why at (refusal.At w line column) short within none tells h = elim none [
  | inl is ↦ absurd (h.1 is)
  | inr spells ↦
      let told = subst (λ (v : JsonReason). Tells s.kinds s.place s.limits text v) (sym h.0) tells in
      (short, spells, ((λ is. h.1 (sym h.0 ∙ is)), told), (at, within, h.2))
]
refused_right s text why at refusal.TooLong short within none tells h = absurd h

-- the bytes of the value that a text spells alone
pub encoded_right : (s : Sought) (text : List ℕ) (v : Tree) (bytes : List ℕ) → length text ≤ most_text s
    → IsSpelling s.kinds s.place s.limits text v → ((t : Tree) → IsSpelling s.kinds s.place s.limits text t → t ≡ v)
    → bytes ≡ bytes_of s.kinds s.place v → (length text ≤ most_text s) × IsEncoding s text bytes
encoded_right s text v bytes short spelled only are =
    (short, record { value = v; spelled = spelled; only = only; bytes_are = are })

-- what moves few bytes moves no more than many
pub moved_by : (few many : ℕ) (old new : Option (List ℕ)) → MovesAtMost few old new → few ≤ many
    → MovesAtMost many old new
moved_by few many old new moved less =
    record { input = moved.input; few = omega (arith, moved.few, less); read = moved.read }
