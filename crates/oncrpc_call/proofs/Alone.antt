-- Results that are a value to their last byte are not refused, and have one text.
use Rattle.std.proofs.Common.{◌≡◌, ℕ, List, [], ◌++◌, length, refl, sym, ap, ◌∙◌, arith}
use Rattle.std.proofs.lemmas.List.{append-nil}
use Rattle.xdr_types.specs.Kinds.{KindView}
use Rattle.xdr_types.specs.Laws.{EachSpellingIsOneValue}
use Rattle.xdr_types.specs.Spelling.{bytes_of}
use Rattle.xdr_types.specs.Tree.{Tree}
use Rattle.oncrpc_call.specs.Asked.{Wanted}
use Rattle.oncrpc_call.specs.Results.{RefusesResults, ShowsResults, follows, refused, shown_in}
use Rattle.oncrpc_call.proofs.Behind.{none_first}

module _ (one : (kinds : List KindView) → EachSpellingIsOneValue kinds) (w : Wanted) (results : List ℕ) where
  pub one_ending : (text line : List ℕ) → ShowsResults w results text → RefusesResults w results line → ⊥
  one_ending text line s (follows v more fits joined some) =
      let own : bytes_of w.kinds w.place s.value ++ [] ≡ bytes_of w.kinds w.place v ++ more =
      append-nil (bytes_of w.kinds w.place s.value) ∙ sym s.whole ∙ joined in
      let same = one w.kinds w.place s.value v [] more s.fits.0 fits.0 own in
      let none : 0 ≡ length more = ap (λ (x : List ℕ). length x) same.1 in
      omega (arith, none, some)
  one_ending text line s (refused f known ends none place) =
      none_first w.kinds w.place [] w.limits results f.why known none
      (s.value, [], s.fits, s.whole ∙ sym (append-nil (bytes_of w.kinds w.place s.value)), refl)

  pub one_text : (text other : List ℕ) → ShowsResults w results text → ShowsResults w results other → text ≡ other
  one_text text other s t =
      let own : bytes_of w.kinds w.place s.value ++ [] ≡ bytes_of w.kinds w.place t.value ++ [] =
      ap (λ (x : List ℕ). x ++ []) (sym s.whole ∙ t.whole) in
      let same = one w.kinds w.place s.value t.value [] [] s.fits.0 t.fits.0 own in
      s.printed ∙ ap (λ (v : Tree). shown_in w.form w.kinds w.place v) same.0 ∙ sym t.printed
