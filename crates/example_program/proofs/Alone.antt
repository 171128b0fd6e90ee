-- What is printed as JSON, and what is said beside it.
use Rattle.std.proofs.Common.{◌≡◌, ℕ, Bool, false, List, [], Option, Some, subst, sym, ◌∙◌, arith}
use Rattle.std.specs.Io.KnownBytes.{Appends}
use Rattle.oncrpc_answers.specs.declared.answer.Answer.{Answer}
use Rattle.oncrpc_answers.specs.declared.answer.Answer.TheVariants as answer
use Rattle.oncrpc_answers.specs.Lines.{line_status}
use Rattle.xdr_json.specs.declared.output.Layout.{Layout}
use Rattle.oncrpc_tasks.specs.Checked.{Answers, Says, printed_in}
use Rattle.oncrpc_tasks.specs.Devices.{Stream}
use Rattle.oncrpc_tasks.specs.declared.question.Form.{Form}
use Rattle.oncrpc_tasks.specs.declared.question.Form.TheVariants as form
use Rattle.oncrpc_tasks.specs.Right.{Question, IsRight, IsRightFor}

module _ {F : Type 0} (q : Question) (layout : Layout) (json : q.form ≡ form.Json layout) (hex : Bool)
    (left taken taken' : Option (List ℕ)) (stream : Stream F) (f f' : F) (status : ℕ)
    (w : Answers q hex left taken taken' stream f f' status) where
  -- what is shown is printed alone
  pub printed_alone : Appends taken taken' w.shown
  printed_alone = subst (λ (x : Form). Appends taken taken' (printed_in x w.shown w.answer)) json w.written

  -- nothing is said of a value that is all of the input
  said_nothing : (a : Answer) (used : ℕ) → a ≡ answer.Whole used → Says (form.Json layout) stream f f' a → f' ≡ f
  said_nothing a used is s = subst (λ (x : Answer). Says (form.Json layout) stream f f' x) is s

  pub silent_where_whole : (used : ℕ) → w.answer ≡ answer.Whole used → f' ≡ f
  silent_where_whole used is =
      said_nothing w.answer used is (subst (λ (x : Form). Says x stream f f' w.answer) json w.said)

-- of a refusal nothing is shown
none_shown : (q : Question) (bytes : List ℕ) (a : Answer) (shown : List ℕ) → 1 ≡ line_status a
    → IsRight q bytes a shown → shown ≡ []
none_shown q bytes (answer.Whole used) shown one right = absurd (omega (arith, one))
none_shown q bytes (answer.MoreFollows used) shown one right = absurd (omega (arith, one))
none_shown q bytes (answer.Refused f) shown one right = right.1
none_shown q bytes answer.BadHex shown one right = absurd right
none_shown q bytes answer.HexTooLong shown one right = absurd right

pub nothing_of_refused : {F : Type 0} (q : Question) (layout : Layout) (json : q.form ≡ form.Json layout)
    (bytes : List ℕ) (left taken taken' : Option (List ℕ)) (stream : Stream F) (f f' : F) (status : ℕ)
    → left ≡ Some bytes → status ≡ 1 → Answers q false left taken taken' stream f f' status → Appends taken taken' []
nothing_of_refused q layout json bytes left taken taken' stream f f' status is one w =
    let right : IsRight q bytes w.answer w.shown =
    subst (λ (l : Option (List ℕ)). IsRightFor q false l w.answer w.shown) is w.right in
    subst (λ (x : List ℕ). Appends taken taken' x) (none_shown q bytes w.answer w.shown (sym one ∙ w.status) right)
    (printed_alone q layout json false left taken taken' stream f f' status w)
