-- The number 2049 as a value of the basic schema, and what is printed of it.
use Rattle.std.proofs.Common.{◌≡◌, ℕ, ◌≤◌, List, [], ◌∷◌, ◌++◌, length, refl, sym, ap, ◌∙◌, subst, arith}
use Rattle.hex.specs.Hex.{encode_lower}
use Rattle.xdr_types.specs.Kinds.{KindView}
use Rattle.xdr_types.specs.Named.{basic}
use Rattle.xdr_types.specs.Spelling.{bytes_of}
use Rattle.xdr_types.specs.Tree as value
use Rattle.xdr_types.specs.Tree.{Tree}
use Rattle.xdr_types.specs.Within.{Bounds, FitsWithin}
use Rattle.oncrpc_call.specs.Asked.{Wanted}
use Rattle.oncrpc_call.specs.Lines.{follows_line}
use Rattle.oncrpc_call.specs.Results.{RefusesResults, ShowsResults, follows, shown_in}
use Rattle.oncrpc_call.specs.declared.asked.Form.{Form}
use Rattle.oncrpc_call.specs.declared.asked.Form.TheVariants as form

-- as hexadecimal the bytes are printed
pub hex_printed : (w : Wanted) (results text : List ℕ) → w.form ≡ form.Hex → ShowsResults w results text
    → text ≡ encode_lower results ++ 10 ∷ []
hex_printed w results text h s =
    s.printed ∙ ap (λ (f : Form). shown_in f w.kinds w.place s.value) h
    ∙ ap (λ (b : List ℕ). encode_lower b ++ 10 ∷ []) (sym s.whole)

abbrev pub tree : Tree
tree = (value.unsigned 2049, value.none)

basic_fits : (limits : Bounds) → 1 ≤ limits.depth → 4 ≤ limits.bytes → FitsWithin basic.kinds 1 limits tree
basic_fits limits deep long = (refl, (omega (arith, deep), omega (arith, long)))

module _ (w : Wanted) (kinds : w.kinds ≡ basic.kinds) (place : w.place ≡ 1) (deep : 1 ≤ w.limits.depth)
    (long : 4 ≤ w.limits.bytes) where
  number_fits : FitsWithin w.kinds w.place w.limits tree
  number_fits =
      subst (λ (k : List KindView). FitsWithin k w.place w.limits tree) (sym kinds)
      (subst (λ (p : ℕ). FitsWithin basic.kinds p w.limits tree) (sym place) (basic_fits w.limits deep long))

  number_bytes : bytes_of w.kinds w.place tree ≡ 0 ∷ 0 ∷ 8 ∷ 1 ∷ []
  number_bytes =
      ap (λ (k : List KindView). bytes_of k w.place tree) kinds
      ∙ ap (λ (p : ℕ). bytes_of basic.kinds p tree) place

  pub number_shown : ShowsResults w (0 ∷ 0 ∷ 8 ∷ 1 ∷ []) (shown_in w.form w.kinds w.place tree)
  number_shown = record { value = tree; fits = number_fits; whole = sym number_bytes; printed = refl }

  pub number_followed : RefusesResults w (0 ∷ 0 ∷ 8 ∷ 1 ∷ 0 ∷ [])
      (follows_line (length (bytes_of w.kinds w.place tree)))
  number_followed =
      follows tree (0 ∷ []) number_fits (ap (λ (b : List ℕ). b ++ 0 ∷ []) (sym number_bytes)) (omega arith)
