-- What the decoder says of results, as what is printed of them.
use Rattle.std.proofs.Common.{◌≡◌, ◌≢◌, ℕ, ◌<◌, ◌≤◌, List, ◌++◌, length, drop, sym, subst, ◌∙◌, ap}
use Rattle.std.proofs.Common.{arith}
use Rattle.std.proofs.Common.{length-drop}
use Rattle.std.proofs.lemmas.List.{length-take-le, take-append-drop, take_all}
use Rattle.xdr_parts.specs.Coming.{IsOneValue}
use Rattle.xdr_types.specs.Spelling.{bytes_of}
use Rattle.xdr_stream.specs.Finish.{EndsWith}
use Rattle.xdr_stream.specs.declared.fault.DecodeFault.{DecodeFault}
use Rattle.xdr_stream.specs.declared.fault.Reason.TheVariants as reason
use Rattle.xdr_codec.specs.Refused.{HasNoneWithin, IsRefused}
use Rattle.oncrpc_call.specs.Asked.{Wanted}
use Rattle.oncrpc_call.specs.Lines.{follows_line, refused_line}
use Rattle.oncrpc_call.specs.Private.Told.{Begins, IsRefusal, TellsResults}
use Rattle.oncrpc_call.specs.Results.{RefusesResults, ShowsResults, follows, refused, shown_in}
use Rattle.oncrpc_call.specs.declared.page.Page.{Page}
use Rattle.oncrpc_call.specs.declared.page.Page.TheVariants as page

module _ (w : Wanted) (results : List ℕ) (n : ℕ) (b : Begins w results n) where
  -- the value is all of the results
  pub whole : length results ≤ n → IsOneValue w.kinds w.place w.limits results b.value
  whole all = (b.fits, sym (b.spelled ∙ take_all n results all))

  pub shown_whole : (text : List ℕ) → length results ≤ n → text ≡ shown_in w.form w.kinds w.place b.value
      → ShowsResults w results text
  shown_whole text all is =
      record { value = b.value; fits = b.fits; whole = sym (b.spelled ∙ take_all n results all); printed = is }

  -- or bytes follow it
  pub followed : (line : List ℕ) → n < length results → line ≡ follows_line n → RefusesResults w results line
  followed line some is =
      let own : List ℕ = bytes_of w.kinds w.place b.value in
      let counted : length own ≡ n =
      ap (λ (x : List ℕ). length x) b.spelled ∙ length-take-le n results b.within in
      let joined : results ≡ own ++ drop n results =
      sym (take-append-drop n results) ∙ ap (λ (x : List ℕ). x ++ drop n results) (sym b.spelled) in
      subst (λ (x : List ℕ). RefusesResults w results x) (ap follows_line counted ∙ sym is)
      (follows b.value (drop n results) b.fits joined (omega (arith, length-drop n results, some)))

-- no value begins the results
pub refused_page : (w : Wanted) (results : List ℕ) (f : DecodeFault) (p : Page) → f.why ≢ reason.NoMemory
    → EndsWith w.kinds w.place w.limits results f
    → IsRefused (HasNoneWithin w.kinds w.place w.limits) f.why results → f.at ≤ length results
    → IsRefusal (refused_line f) p → TellsResults w results p
refused_page w results f (page.Value text) known ends none place is = absurd is
refused_page w results f (page.Refusal line) known ends none place is =
    subst (λ (x : List ℕ). RefusesResults w results x) (sym is) (refused f known ends none place)
