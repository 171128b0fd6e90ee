-- What status 26 says of the items.
use Rattle.std.proofs.Common.{◌≡◌, ℕ, ◌≤◌, List, Option, None, Some, ap, arith, length}
use Rattle.xdr_lang.specs.Declarations.{Declared}
use Rattle.xdr_stream.specs.Reasons.{reason_number}
use Rattle.xdr_stream.specs.declared.fault.Reason.{Reason}
use Rattle.xdr_stream.specs.declared.fault.Reason.TheVariants as reason
use Rattle.xdr_writer.specs.declared.refusal.Why.{Why}
use Rattle.xdr_writer.specs.declared.refusal.Why.TheVariants as why
use Rattle.c_answers.specs.Buffers.{IsRetained}
use Rattle.c_values.specs.declared.answer.Answer.{Answer}
use Rattle.c_values.specs.declared.answer.Answer.TheVariants as answer
use Rattle.c_values.specs.declared.item.ItemWhy.{ItemWhy}
use Rattle.c_values.specs.declared.item.ItemWhy.TheVariants as fault
use Rattle.c_values.specs.Answers.{Question}
use Rattle.c_values.specs.Items.{Given, why_number}
use Rattle.c_values.specs.Statuses.{status_of, outcome_of}
use Rattle.c_values.specs.Written.{AreBad, IsWrittenByHeld}

-- a reason of decoding has a number from 1 to 9
reason_within : (r : Reason) → (1 ≤ reason_number r) × (reason_number r ≤ 9)
reason_within reason.BadBool = (omega arith, omega arith)
reason_within reason.BadNumbered = (omega arith, omega arith)
reason_within reason.BadCase = (omega arith, omega arith)
reason_within reason.TooLong = (omega arith, omega arith)
reason_within reason.BadPadding = (omega arith, omega arith)
reason_within reason.TooDeep = (omega arith, omega arith)
reason_within reason.TooLarge = (omega arith, omega arith)
reason_within reason.Truncated = (omega arith, omega arith)
reason_within reason.NoMemory = (omega arith, omega arith)

-- what the number of a reason says of its place
abbrev Numbered : Given → (at number : ℕ) → Type 0
Numbered g at n = (1 ≤ n) × (n ≡ 12 → at ≡ length g.items)

refused_numbered : (q : Question) (g : Given) (at : ℕ) (w : Why) → AreBad q g at (fault.Refused w)
    → Numbered g at (why_number (fault.Refused w))
refused_numbered q g at (why.Refused f) r =
    let k = reason_within f.why in (k.0, λ e. absurd (omega (arith, e, k.1)))
refused_numbered q g at why.PastLimit r = (omega arith, λ e. absurd (omega (arith, e)))
refused_numbered q g at why.WrongItem r = (omega arith, λ e. absurd (omega (arith, e)))
refused_numbered q g at why.NotInRange r = (omega arith, λ e. absurd (omega (arith, e)))
refused_numbered q g at why.PastEnd r = (omega arith, λ e. absurd (omega (arith, e)))
refused_numbered q g at why.Unfinished r = absurd r.why.3
refused_numbered q g at why.NoMemory r = absurd r.why.2

numbered : (q : Question) (g : Given) (at : ℕ) (w : ItemWhy) → AreBad q g at w → Numbered g at (why_number w)
numbered q g at (fault.Refused w) r = refused_numbered q g at w r
numbered q g at fault.NoForm r = (omega arith, λ e. absurd (omega (arith, e)))
numbered q g at fault.NoNumber r = (omega arith, λ e. absurd (omega (arith, e)))
numbered q g at fault.Unfinished r = (omega arith, λ e. r.place)
numbered q g at fault.Outside r = (omega arith, λ e. absurd (omega (arith, e)))

pub items_reported : (held : Option Declared) (name : List ℕ) (depth bytes : ℕ) (g : Given) (old new : List ℕ)
    (written : ℕ) (a : Answer) → IsWrittenByHeld held name depth bytes g old new written a → 26 ≡ status_of a
    → Numbered g (outcome_of a).at (outcome_of a).why × IsRetained old new written
items_reported None name depth bytes g old new written a r e = absurd (omega (arith, e, ap status_of r.0))
items_reported (Some d) name depth bytes g old new written (answer.Whole used) r e = absurd (omega (arith, e))
items_reported (Some d) name depth bytes g old new written (answer.Followed used) r e = absurd (omega (arith, e))
items_reported (Some d) name depth bytes g old new written (answer.Refused f) r e = absurd (omega (arith, e))
items_reported (Some d) name depth bytes g old new written (answer.Undeclared f) r e = absurd (omega (arith, e))
items_reported (Some d) name depth bytes g old new written answer.NoKind r e = absurd (omega (arith, e))
items_reported (Some d) name depth bytes g old new written answer.BadLimits r e = absurd (omega (arith, e))
items_reported (Some d) name depth bytes g old new written answer.NoMemory r e = absurd (omega (arith, e))
items_reported (Some d) name depth bytes g old new written answer.NoDeclarations r e = absurd (omega (arith, e))
items_reported (Some d) name depth bytes g old new written (answer.NoRoom n) r e = absurd (omega (arith, e))
items_reported (Some d) name depth bytes g old new written (answer.BadItem f) r e =
    (numbered _ g f.at f.why r.right.0, r.right.1)
