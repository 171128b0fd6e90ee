-- What is printed of the records that a text of hexadecimal spells.
use Rattle.std.proofs.Common.{◌≡◌, ℕ, List, [], ◌∷◌, ◌++◌, Option, Some, None, IfSome, Ok, subst, sym, ◌∙◌, ap}
use Rattle.std.proofs.lemmas.List.{append-nil}
use Rattle.std.specs.Io.KnownBytes.{Appends, Consumes, IsAtEnd}
use Rattle.hex.specs.Hex.{decode_of, encode_lower}
use Rattle.rpc_record.specs.Marked.{normal}
use Rattle.rpc_record.specs.Reading.{IsWhole}
use Rattle.oncrpc_tasks.specs.Hexadecimal.{digits}
use Rattle.oncrpc_tasks.specs.Records.{MarksAsText}
use Rattle.oncrpc_tasks.specs.declared.records.Marking.TheVariants as marking

-- all that was there was read
all_read : (bytes input : List ℕ) (rest : Option (List ℕ)) → Consumes (Some bytes) rest input → IsAtEnd rest
    → input ≡ bytes
all_read bytes input None read end = absurd read
all_read bytes input (Some left) read end =
    sym (append-nil input) ∙ ap (λ (x : List ℕ). input ++ x) (sym end) ∙ sym read

pub normal_printed : (limit : ℕ) (left taken taken' : Option (List ℕ))
    → MarksAsText limit left taken taken' marking.Whole
    → IfSome left (λ text. (bytes : List ℕ) × (records : List (List ℕ)) × (decode_of (digits text) ≡ Ok bytes)
    × IsWhole limit records bytes × Appends taken taken' (encode_lower (normal records) ++ 10 ∷ []))
normal_printed limit None taken taken' h = tt
normal_printed limit (Some text) taken taken' h =
    let done = h.marks.1 in (
      h.bytes,
      done.rs,
      h.spelled,
      subst (λ (b : List ℕ). IsWhole limit done.rs b) (all_read h.bytes done.input h.rest done.read done.end)
          done.whole,
      subst (λ (f : List ℕ). Appends taken taken' (encode_lower f ++ 10 ∷ [])) done.written h.written,
    )
