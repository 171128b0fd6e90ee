-- What a text means, computed.
use Rattle.std.proofs.Common.{◌≡◌, ◌≢◌, ◌≤◌, ◌<◌, arith, ℕ, inl, inr, eqb}
use Rattle.std.proofs.Common.{List, length, Option, Some, None, refl, sym, ap, ◌∙◌}
use Rattle.std.proofs.Common.{Result, Ok, Err, IfOk, IfErr}
use Rattle.std.specs.Prelude.{option_and_then, is_ok, true, false, Bool}
use Rattle.std.proofs.lemmas.Bool.{false≢true}
use Rattle.xdr_tokens.proofs.Options.{some_is, some_is_not, bind_some}
use Rattle.xdr_grammar.specs.Outline.{nothing}
use Rattle.xdr_grammar.specs.Private.Reading.{definitions_at}
use Rattle.xdr_grammar.proofs.Outlining.{outline_again}
use Rattle.xdr_lang.specs.declared.declarations.Declared.{Declared as Made}
use Rattle.xdr_lang.specs.declared.lang_fault.LangFault.{LangFault}
use Rattle.xdr_lang.specs.Declarations.{Declared}
use Rattle.xdr_lang.specs.Means.{Means}
use Rattle.xdr_lang.specs.Views.{declared_of}
use Rattle.xdr_lang.specs.Private.Meaning.{distinct_meaning}
use Rattle.xdr_lang.proofs.Distinctly.{joined, parted}
use Rattle.xdr_types.specs.Faults.{IsWellFormed}
use Rattle.xdr_types.specs.Sound.{IsSound}
use Rattle.example_language.proofs.Cutting.{cut, cut_is, cut_found}
use Rattle.example_language.proofs.Outlining.{outline_found}
use Rattle.xdr_types.proofs.Heighting.{same_or_not}

-- what a text means, as far as its kinds are a schema
unfoldable pub reported : List ℕ → Option Declared
reported text =
    option_and_then
    (λ ts. option_and_then (λ o. distinct_meaning o) (definitions_at (length ts) nothing ts))
    (cut (length text) text)

pub reported_is : (text : List ℕ) (d : Declared) → Means text d → reported text ≡ Some d
unfolding reported
reported_is text d m =
    rw (cut_is text m.tokens m.cut, outline_again m.tokens m.outline m.spelled)
    (joined m.outline d m.meant.distinct m.meant.meant)

-- what is read from a text is what the text means
pub reports : {A : Type 0} (text : List ℕ) (d : Declared) (f : Declared → A) (r : Result Made LangFault) → Means text d
    → IfOk r (λ v. Means text (declared_of v)) → IfOk r (λ v. f (declared_of v) ≡ f d)
reports text d f (Ok v) means found =
    ap f (some_is (declared_of v) d (sym (reported_is text (declared_of v) found) ∙ reported_is text d means))
reports text d f (Err e) means found = tt

-- a text that is read means something
pub read_means : (text : List ℕ) (r : Result Made LangFault) → IfOk r (λ v. Means text (declared_of v))
    → is_ok r ≡ true → (d : Declared) × Means text d
read_means text (Ok v) found is = (declared_of v, found)
read_means text (Err e) found is = absurd (false≢true is)

-- one that means nothing is not
pub not_read : (text : List ℕ) (b : Bool) → reported text ≡ None → (b ≡ true → (d : Declared) × Means text d)
    → b ≡ false
not_read text false none means = refl
not_read text true none means =
    let read = means refl in
    absurd (some_is_not read.0 (sym (reported_is text read.0 read.1) ∙ none))

-- nor is one that is too long
pub not_short : (text : List ℕ) (b : Bool) → 262144 < length text → (b ≡ true → (d : Declared) × Means text d)
    → b ≡ false
not_short text false lt means = refl
not_short text true lt means =
    let read = means refl in
    let short = read.1.short in
    absurd (omega (arith, lt, short))

-- a text that is reported means it, where its kinds are a schema
pub reported_means : (text : List ℕ) (d : Declared) → reported text ≡ Some d → length text ≤ 262144
    → IsWellFormed d.schema → IsSound d.schema.kinds → Means text d
unfolding reported
reported_means text d e short ok sound =
    let ts = bind_some (cut (length text) text) _ d e in
    let o = bind_some (definitions_at (length ts.0) nothing ts.0) _ d ts.2 in
    let p = parted o.0 d o.2 in
    record {
      short = short;
      tokens = ts.0;
      cut = cut_found (length text) text ts.0 ts.1;
      outline = o.0;
      spelled = outline_found ts.0 o.0 o.1;
      meant = record { distinct = p.0; meant = p.1; well_formed = ok; sound = sound };
    }

-- only an allocation failure refuses a text that means something
pub memory_of_text : (text : List ℕ) (d : Declared) (r : Result Made LangFault) → Means text d
    → IfErr r (λ e. e.number ≢ 13 → (d : Declared) → Means text d → ⊥) → IfErr r (λ e. e.number ≡ 13)
memory_of_text text d (Ok v) means refused = tt
memory_of_text text d (Err e) means refused =
    elim (same_or_not e.number 13 (eqb e.number 13) refl) [
      | inl same ↦ same
      | inr other ↦ absurd (refused other d means)
    ]
