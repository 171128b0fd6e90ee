-- Results that are refused have one line.
use Rattle.std.proofs.Common.{◌≡◌, ◌≢◌, ℕ, List, [], ◌++◌, length, refl, sym, ap, subst, ◌∙◌}
use Rattle.std.proofs.lemmas.List.{append-nil}
use Rattle.xdr_types.specs.Kinds.{KindView}
use Rattle.xdr_types.specs.Laws.{EachSpellingIsOneValue}
use Rattle.xdr_types.specs.Outcome as outcome
use Rattle.xdr_types.specs.Outcome.{Ending, Outcome}
use Rattle.xdr_types.specs.Spelling.{bytes_of}
use Rattle.xdr_types.specs.Tree.{Tree}
use Rattle.xdr_types.specs.Within.{Bounds}
use Rattle.xdr_laws.specs.Laws.{OneOutcome}
use Rattle.xdr_stream.specs.Finish.{EndsWith}
use Rattle.xdr_stream.specs.declared.fault.DecodeFault.{DecodeFault}
use Rattle.xdr_stream.specs.declared.fault.Reason.{Reason}
use Rattle.xdr_stream.specs.declared.fault.Reason.TheVariants as reason
use Rattle.oncrpc_call.specs.Asked.{Wanted}
use Rattle.oncrpc_call.specs.Lines.{follows_line, refused_line}
use Rattle.oncrpc_call.specs.Results.{RefusesResults, follows, refused}
use Rattle.oncrpc_call.proofs.Behind.{none_begins}

-- the ending of which a reason at a place speaks; an allocation failure speaks of none
abbrev ending_of : Reason → (at : ℕ) → Ending
ending_of reason.BadBool at = outcome.Broken outcome.bad_bool at
ending_of reason.BadNumbered at = outcome.Broken outcome.bad_numbered at
ending_of reason.BadCase at = outcome.Broken outcome.bad_case at
ending_of reason.TooLong at = outcome.Broken outcome.too_long at
ending_of reason.BadPadding at = outcome.Broken outcome.bad_padding at
ending_of reason.TooDeep at = outcome.TooDeep at
ending_of reason.TooLarge at = outcome.TooLarge at
ending_of reason.Truncated at = outcome.Pending
ending_of reason.NoMemory at = outcome.Pending

-- the reason of an ending, and its place, which of a pending one is the count of bytes
abbrev reason_of : Ending → Reason
reason_of (outcome.Broken outcome.bad_bool at) = reason.BadBool
reason_of (outcome.Broken outcome.bad_numbered at) = reason.BadNumbered
reason_of (outcome.Broken outcome.bad_case at) = reason.BadCase
reason_of (outcome.Broken outcome.too_long at) = reason.TooLong
reason_of (outcome.Broken outcome.bad_padding at) = reason.BadPadding
reason_of (outcome.TooDeep at) = reason.TooDeep
reason_of (outcome.TooLarge at) = reason.TooLarge
reason_of outcome.Pending = reason.Truncated
reason_of (outcome.Whole v at) = reason.NoMemory

abbrev place_of : (count : ℕ) → Ending → ℕ
place_of count (outcome.Broken why at) = at
place_of count (outcome.TooDeep at) = at
place_of count (outcome.TooLarge at) = at
place_of count (outcome.Whole v at) = at
place_of count outcome.Pending = count

reason_back : (w : Reason) (at : ℕ) → w ≢ reason.NoMemory → reason_of (ending_of w at) ≡ w
reason_back reason.BadBool at known = refl
reason_back reason.BadNumbered at known = refl
reason_back reason.BadCase at known = refl
reason_back reason.TooLong at known = refl
reason_back reason.BadPadding at known = refl
reason_back reason.TooDeep at known = refl
reason_back reason.TooLarge at known = refl
reason_back reason.Truncated at known = refl
reason_back reason.NoMemory at known = absurd (known refl)

module _ (kinds : List KindView) (kind : ℕ) (limits : Bounds) (b : List ℕ) where
  -- the outcome that an ending is
  here : (e : Ending) → Outcome kinds kind limits (b ++ []) e → Outcome kinds kind limits b e
  here e o = subst (λ (x : List ℕ). Outcome kinds kind limits x e) (append-nil b) o

  outcome_of : (w : Reason) (at : ℕ) → w ≢ reason.NoMemory → EndsWith kinds kind limits b (record { why = w; at = at })
      → Outcome kinds kind limits b (ending_of w at)
  outcome_of reason.BadBool at known h = here (ending_of reason.BadBool at) ((h.1 (λ e. cc)).0 [])
  outcome_of reason.BadNumbered at known h = here (ending_of reason.BadNumbered at) ((h.1 (λ e. cc)).0 [])
  outcome_of reason.BadCase at known h = here (ending_of reason.BadCase at) ((h.1 (λ e. cc)).0 [])
  outcome_of reason.TooLong at known h = here (ending_of reason.TooLong at) ((h.1 (λ e. cc)).0 [])
  outcome_of reason.BadPadding at known h = here (ending_of reason.BadPadding at) ((h.1 (λ e. cc)).0 [])
  outcome_of reason.TooDeep at known h = here (ending_of reason.TooDeep at) ((h.1 (λ e. cc)).0 [])
  outcome_of reason.TooLarge at known h = here (ending_of reason.TooLarge at) ((h.1 (λ e. cc)).0 [])
  outcome_of reason.Truncated at known h = (h.0 refl).0
  outcome_of reason.NoMemory at known h = absurd (known refl)

  place_back : (w : Reason) (at : ℕ) → w ≢ reason.NoMemory → EndsWith kinds kind limits b (record { why = w; at = at })
      → place_of (length b) (ending_of w at) ≡ at
  place_back reason.BadBool at known h = refl
  place_back reason.BadNumbered at known h = refl
  place_back reason.BadCase at known h = refl
  place_back reason.TooLong at known h = refl
  place_back reason.BadPadding at known h = refl
  place_back reason.TooDeep at known h = refl
  place_back reason.TooLarge at known h = refl
  place_back reason.Truncated at known h = sym (h.0 refl).1
  place_back reason.NoMemory at known h = absurd (known refl)

  -- two faults at the end of the bytes are one
  pub one_fault : OneOutcome kinds → (f g : DecodeFault) → f.why ≢ reason.NoMemory → g.why ≢ reason.NoMemory
      → EndsWith kinds kind limits b f → EndsWith kinds kind limits b g → (f.why ≡ g.why) × (f.at ≡ g.at)
  one_fault one f g fk gk fe ge =
      let same : ending_of f.why f.at ≡ ending_of g.why g.at =
      one kind limits b (ending_of f.why f.at) (ending_of g.why g.at) (outcome_of f.why f.at fk fe)
      (outcome_of g.why g.at gk ge) in (
        sym (reason_back f.why f.at fk) ∙ ap reason_of same ∙ reason_back g.why g.at gk,
        sym (place_back f.why f.at fk fe) ∙ ap (place_of (length b)) same ∙ place_back g.why g.at gk ge,
      )

module _ (one : (kinds : List KindView) → EachSpellingIsOneValue kinds)
    (ends : (kinds : List KindView) → OneOutcome kinds) (w : Wanted) (results : List ℕ) where
  pub one_line : (line other : List ℕ) → RefusesResults w results line → RefusesResults w results other
      → line ≡ other
  one_line line other (follows v more fits joined some) (follows u rest within is longer) =
      let same = one w.kinds w.place v u more rest fits.0 within.0 (sym joined ∙ is) in
      ap (λ (t : Tree). follows_line (length (bytes_of w.kinds w.place t))) same.0
  one_line line other (follows v more fits joined some) (refused g known ge none place) =
      absurd (none_begins w.kinds w.place w.limits results g.why known none v more fits joined)
  one_line line other (refused f known fe none place) (follows v more fits joined some) =
      absurd (none_begins w.kinds w.place w.limits results f.why known none v more fits joined)
  one_line line other (refused f fk fe none place) (refused g gk ge nothing at) =
      let same = one_fault w.kinds w.place w.limits results (ends w.kinds) f g fk gk fe ge in
      λ j. refused_line (record { why = same.0 j; at = same.1 j })
