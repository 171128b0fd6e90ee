-- What is written for tokens of JSON, in each layout.
use Rattle.std.specs.Prelude.{◌≡◌, List, ℕ, Bool, true, false, if◌then◌else◌, refl}
use Rattle.std.specs.Coded.{Coded, code_by, coded×, coded_bool}
use Rattle.json.specs.Token.{Token, tokens_code}
use Rattle.json.specs.Print.{print}
use Rattle.json.specs.Layout.{pretty}
use Rattle.xdr_json.specs.declared.output.Layout.{Layout}
use Rattle.xdr_json.specs.declared.output.Layout.TheVariants.{Compact, Indented}

-- the text of tokens: without spaces, or a line for each item and each member (RFC 8259 section 2; own)
abbrev pub text_of : Layout → List Token → List ℕ
text_of Compact ts = print ts
text_of Indented ts = pretty ts

-- what has been written: the layout, and the tokens so far
pub record Written : Type 0 where
  pub layout : Layout
  pub tokens : List Token

-- ---- how the logic stores it

abbrev is_indented : Layout → Bool
is_indented Compact = false
is_indented Indented = true

abbrev layout_from : Bool → Layout
layout_from b = if b then Indented else Compact

pub layout_from-is_indented : (l : Layout) → layout_from (is_indented l) ≡ l
layout_from-is_indented Compact = refl
layout_from-is_indented Indented = refl

abbrev layout_code : Coded Layout
layout_code = code_by Bool coded_bool is_indented layout_from layout_from-is_indented

abbrev pub written_code : Coded Written
written_code =
    code_by (Layout × List Token) (coded× layout_code tokens_code) (λ w. (w.layout, w.tokens))
    (λ p. record { layout = p.0; tokens = p.1 }) (λ _. refl)
