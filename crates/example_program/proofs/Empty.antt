-- What is answered to an input of no bytes.
use Rattle.std.proofs.Common.{◌≡◌, ℕ, ◌+◌, ◌<◌, false, List, [], ◌++◌, length, Option, Some, sym, ap, ◌∙◌, arith}
use Rattle.std.proofs.Common.{length-append, subst}
use Rattle.std.specs.Io.KnownBytes.{Appends}
use Rattle.xdr_types.specs.Spelling.{bytes_of}
use Rattle.oncrpc_answers.specs.declared.answer.Answer.{Answer}
use Rattle.oncrpc_answers.specs.declared.answer.Answer.TheVariants as answer
use Rattle.oncrpc_tasks.specs.Checked.{Answers, printed_in}
use Rattle.oncrpc_tasks.specs.Devices.{Stream}
use Rattle.oncrpc_tasks.specs.declared.question.Form.{Form}
use Rattle.oncrpc_tasks.specs.declared.question.Form.TheVariants as form
use Rattle.oncrpc_answers.specs.Lines.{line, line_status}
use Rattle.oncrpc_tasks.specs.Right.{Question, IsRight, IsRightFor, BeginsWithValue}

-- no byte follows a value in it
no_more : (q : Question) (used : ℕ) (more shown : List ℕ) → 0 < length more → BeginsWithValue q [] used more shown → ⊥
no_more q used more shown some b =
    let bytes = bytes_of q.kinds q.place b.value in
    let none : 0 ≡ length bytes + length more = ap (λ (x : List ℕ). length x) b.joined ∙ length-append bytes more in
    omega (arith, none, some)

-- At status 0 its line is that of a value with nothing behind it.
pub ends_whole : {F : Type 0} (q : Question) (left taken taken' : Option (List ℕ)) (stream : Stream F) (f f' : F)
    (status : ℕ) → q.form ≡ form.Lines → left ≡ Some [] → status ≡ 0
    → Answers q false left taken taken' stream f f' status
    → (shown : List ℕ) × (used : ℕ) × Appends taken taken' (shown ++ line (answer.Whole used))
ends_whole q left taken taken' stream f f' status lines empty zero w =
    by w.answer (subst (λ (l : Option (List ℕ)). IsRightFor q false l w.answer w.shown) empty w.right)
    (sym zero ∙ w.status)
    (subst (λ (x : Form). Appends taken taken' (printed_in x w.shown w.answer)) lines w.written)
  where
    by : (a : Answer) → IsRight q [] a w.shown → 0 ≡ line_status a → Appends taken taken' (w.shown ++ line a)
        → (shown : List ℕ) × (used : ℕ) × Appends taken taken' (shown ++ line (answer.Whole used))
    by (answer.Whole used) r s h = (w.shown, used, h)
    by (answer.MoreFollows used) r s h = absurd (no_more q used r.0 w.shown r.1 r.2.0)
    by (answer.Refused f) r s h = absurd (omega (arith, s))
    by answer.BadHex r s h = absurd r
    by answer.HexTooLong r s h = absurd r
