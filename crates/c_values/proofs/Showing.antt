-- The value that begins an input is one, and its lines are its own.
use Rattle.std.proofs.Common.{◌≡◌, ℕ, ◌%◌, List, [], ◌++◌, ◌<◌, length, drop, true, false, refl, sym, ap, ◌∙◌}
use Rattle.std.proofs.Common.{append-nil, Some}
use Rattle.std.proofs.lemmas.Bool.{false≢true}
use Rattle.std.proofs.lemmas.List.{take-append-drop}
use Rattle.xdr_types.specs.Tree.{Tree}
use Rattle.xdr_types.specs.Outcome.{Outcome, Whole}
use Rattle.xdr_show.specs.Shown.{show_text}
use Rattle.xdr_laws.proofs.OneOutcome.{one_whole}
use Rattle.xdr_stream.specs.Finish.{EndsWith}
use Rattle.xdr_stream.specs.declared.fault.DecodeFault.{DecodeFault}
use Rattle.xdr_stream.specs.declared.fault.Reason.{Reason}
use Rattle.xdr_stream.specs.declared.fault.Reason.TheVariants as reason
use Rattle.xdr_codec.specs.Refused.{MayFollow}
use Rattle.xdr_codec.proofs.Outcomes.{refused}
use Rattle.c_values.specs.declared.answer.Answer.{Answer}
use Rattle.c_values.specs.declared.answer.Answer.TheVariants as answer
use Rattle.xdr_types.specs.Within.{AreBounds}
use Rattle.xdr_lang.specs.Declarations.{Declared}
use Rattle.c_values.specs.Answers.{Question, BeginsWithValue, IsJudged, Names, question}
use Rattle.c_answers.specs.Buffers.{IsRetained}
use Rattle.c_values.specs.Buffer.{IsPut}
use Rattle.c_values.specs.Shown.{IsShown, IsShownBy, IsShownByHeld, HaveNoRoom}
use Rattle.c_values.specs.Statuses.{reports_value}

-- one value begins the input
pub same_value : (q : Question) (b : List ℕ) (used : ℕ) (begins : BeginsWithValue q b used) (v : Tree) (n : ℕ)
    → Outcome q.kinds q.place q.limits b (Whole v n) → v ≡ begins.value
same_value q b used begins v n o =
    one_whole q.kinds q.place q.limits b v begins.value n used o begins.outcome

-- lines of a value that begins the input are those of each
pub same_lines : (q : Question) (b : List ℕ) (used : ℕ) (begins : BeginsWithValue q b used) (v : Tree) (n : ℕ)
    (text : List ℕ) → Outcome q.kinds q.place q.limits b (Whole v n) → text ≡ show_text q.kinds q.place v
    → text ≡ show_text q.kinds q.place begins.value
same_lines q b used begins v n text o is =
    is ∙ ap (λ (x : Tree). show_text q.kinds q.place x) (same_value q b used begins v n o)

-- any refusal but an allocation failure is of these bytes and no more
pub nothing_follows : (why : Reason) → (why ≡ reason.NoMemory → ⊥) → MayFollow why []
nothing_follows reason.BadBool known = tt
nothing_follows reason.BadNumbered known = tt
nothing_follows reason.BadCase known = tt
nothing_follows reason.TooLong known = tt
nothing_follows reason.BadPadding known = tt
nothing_follows reason.TooDeep known = tt
nothing_follows reason.TooLarge known = tt
nothing_follows reason.Truncated known = refl
nothing_follows reason.NoMemory known = known refl

-- where a value begins the bytes, no fault but an allocation failure stands against it
pub no_fault : (q : Question) → q.limits.bytes % 4 ≡ 0 → (b : List ℕ) (used : ℕ) → BeginsWithValue q b used
    → (f : DecodeFault) → EndsWith q.kinds q.place q.limits b f → (f.why ≡ reason.NoMemory → ⊥) → ⊥
no_fault q units b used begins f ends known =
    (refused q.kinds q.place q.limits units f b ends).0 [] (nothing_follows f.why known) begins.value (drop used b)
    begins.fits
    (ap (λ (z : List ℕ). z ++ drop used b) begins.spelled ∙ take-append-drop used b ∙ sym (append-nil b))

module _ (q : Question) (b : List ℕ) where
  -- the value that an answer tells of
  pub value_reported : (a : Answer) → IsJudged q b a → reports_value a ≡ true → (used : ℕ) × BeginsWithValue q b used
  value_reported (answer.Whole used) j e = (used, j.0)
  value_reported (answer.Followed used) j e = (used, j.0)
  value_reported (answer.Refused f) j e = absurd (false≢true e)
  value_reported (answer.Undeclared f) j e = absurd j
  value_reported answer.NoKind j e = absurd j
  value_reported answer.BadLimits j e = absurd j
  value_reported answer.NoMemory j e = absurd (false≢true e)
  value_reported answer.NoDeclarations j e = absurd j
  value_reported (answer.NoRoom n) j e = absurd j
  value_reported (answer.BadItem f) j e = absurd j

  -- nothing is shown of bytes that begin with no value
  pub nothing_shown : (old new : List ℕ) (written : ℕ) (a : Answer) → IsJudged q b a → reports_value a ≡ false
      → IsRetained old new written → IsShown q b old new written a
  nothing_shown old new written (answer.Whole used) j e k = absurd (false≢true (sym e))
  nothing_shown old new written (answer.Followed used) j e k = absurd (false≢true (sym e))
  nothing_shown old new written (answer.Refused f) j e k = (j, k)
  nothing_shown old new written (answer.Undeclared f) j e k = absurd j
  nothing_shown old new written answer.NoKind j e k = absurd j
  nothing_shown old new written answer.BadLimits j e k = absurd j
  nothing_shown old new written answer.NoMemory j e k = k
  nothing_shown old new written answer.NoDeclarations j e k = absurd j
  nothing_shown old new written (answer.NoRoom n) j e k = absurd j
  nothing_shown old new written (answer.BadItem f) j e k = absurd j

  module _ (lines : List ℕ)
      (reported : (used : ℕ) (begins : BeginsWithValue q b used) → lines ≡ show_text q.kinds q.place begins.value) where
    -- the lines stand in the buffer
    pub lines_shown : (old new : List ℕ) (written : ℕ) (a : Answer) → IsJudged q b a → reports_value a ≡ true
        → IsPut lines old new written → IsShown q b old new written a
    lines_shown old new written (answer.Whole used) j e p =
        (lines, record { begins = j.0; shown = reported used j.0 }, j.1, p)
    lines_shown old new written (answer.Followed used) j e p =
        (lines, record { begins = j.0; shown = reported used j.0 }, j.1, p)
    lines_shown old new written (answer.Refused f) j e p = absurd (false≢true e)
    lines_shown old new written (answer.Undeclared f) j e p = absurd j
    lines_shown old new written answer.NoKind j e p = absurd j
    lines_shown old new written answer.BadLimits j e p = absurd j
    lines_shown old new written answer.NoMemory j e p = absurd (false≢true e)
    lines_shown old new written answer.NoDeclarations j e p = absurd j
    lines_shown old new written (answer.NoRoom n) j e p = absurd j
    lines_shown old new written (answer.BadItem f) j e p = absurd j

    -- they do not go into it
    pub no_space : (old : List ℕ) (a : Answer) → IsJudged q b a → reports_value a ≡ true → length old < length lines
        → HaveNoRoom q b old (length lines)
    no_space old a j e small =
        let v = value_reported a j e in record {
          lines = lines;
          used = v.0;
          right = record { begins = v.1; shown = reported v.0 v.1 };
          count = refl;
          more = small;
        }

-- what is shown by a kind that the name names
module _ (d : Declared) (name : List ℕ) (depth bytes : ℕ) (input old new : List ℕ) (written place : ℕ)
    (names : Names d name place) (in_range : AreBounds depth bytes) where
  by_name : (a : Answer) → IsShown (question d place depth bytes) input old new written a
      → IsShownBy d name depth bytes input old new written a
  by_name a h = record { place = place; names = names; in_range = in_range; shown = h }

  pub shown_by : (a : Answer) → IsShown (question d place depth bytes) input old new written a
      → IsShownByHeld (Some d) name depth bytes input old new written a
  shown_by (answer.Whole used) h = by_name (answer.Whole used) h
  shown_by (answer.Followed used) h = by_name (answer.Followed used) h
  shown_by (answer.Refused f) h = by_name (answer.Refused f) h
  shown_by (answer.Undeclared f) h = absurd h
  shown_by answer.NoKind h = absurd h
  shown_by answer.BadLimits h = absurd h
  shown_by answer.NoMemory h = by_name answer.NoMemory h
  shown_by answer.NoDeclarations h = absurd h
  shown_by (answer.NoRoom n) h = by_name (answer.NoRoom n) h
  shown_by (answer.BadItem f) h = absurd h
