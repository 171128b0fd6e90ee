-- The text spells the hyper -5, and no other value.
use Rattle.std.proofs.Common.{◌≡◌, ◌≢◌, ◌≤◌, ℕ, List, [], ◌∷◌, Some, codes, true, refl, rules, negsuc, subst, sym, ◌∙◌}
use Rattle.std.proofs.Common.{ap, arith, length}
use Rattle.std.specs.Char.{encode_utf8}
use Rattle.std.specs.Fmt.{digits}
use Rattle.std.specs.Str.{chars, is_utf8}
use Rattle.json.proofs.OnLiterals.{json_on_literals}
use Rattle.json.specs.Json as json
use Rattle.json.specs.Json.{Json}
use Rattle.xdr_types.specs.Kinds as xdr
use Rattle.xdr_types.specs.Kinds.{KindView}
use Rattle.xdr_types.specs.Spelling.{bytes_of}
use Rattle.xdr_types.specs.Tree as value
use Rattle.xdr_types.specs.Tree.{Tree}
use Rattle.xdr_types.specs.Within.{FitsWithin}
use Rattle.xdr_json.specs.Spelled.{spells}
use Rattle.xdr_json.specs.Text.{IsSpelling, json_text}
use Rattle.oncrpc_encode.specs.Encoding.{most_text, sought_of}
use Rattle.example_json.proofs.Read.{spelled}
use Rattle.example_program.proofs.Spelling.{bytes_written, not_refused}
use Rattle.example_program.proofs.encoded.the_bytes_alone_are_written.Goals as goal

abbrev kinds : List KindView
kinds = xdr.hyper ∷ []

abbrev text : List ℕ
text = codes "\"-5\""

abbrev said : Json
said = json.string (codes "-5")

abbrev meant : Tree
meant = (value.hyper (negsuc 4), value.none)

abbrev bytes : List ℕ
bytes = 255 ∷ 255 ∷ 255 ∷ 255 ∷ 255 ∷ 255 ∷ 255 ∷ 251 ∷ []

text_utf8 : is_utf8 text ≡ true
unfolding is_utf8 chars encode_utf8
text_utf8 = refl

text_said : json_text text ≡ Some said
unfolding json_on_literals
text_said = refl

text_spelled : spells kinds 0 said meant ≡ true
unfolding digits
text_spelled = refl

-- in a schema of this one kind
bytes_are : (ks : List KindView) (place : ℕ) → ks ≡ kinds → place ≡ 0 → bytes_of ks place meant ≡ bytes
bytes_are ks place e h =
    ap (λ (x : List KindView). bytes_of x place meant) e ∙ ap (λ (p : ℕ). bytes_of kinds p meant) h

pub returns : goal.returns
returns g c =
    let limits = c.args.target.now.limits in
    let within : FitsWithin kinds 0 limits meant = search rules in
    let first = spelled c.args.target.now.schema.kinds kinds 0 limits c.args.text.now text said meant
    c.requires.kind.0 c.requires.text text_utf8 text_said text_spelled within in
    let spelling = subst (λ (p : ℕ). IsSpelling c.args.target.now.schema.kinds p limits c.args.text.now meant)
    (sym c.requires.kind.1) first in
    let counts : length c.args.text.now ≡ 4 = ap length c.requires.text in
    record {
      written = λ zero. bytes_written (sought_of c.args.target.now) c.args.text.now _ c.new-input.ensures.left _ _ meant
          bytes spelling (bytes_are _ _ c.requires.kind.0 c.requires.kind.1)
          (c.encode_value_over.ensures.writes zero);
      taken = λ one. not_refused (sought_of c.args.target.now) c.args.text.now _ c.new-input.ensures.left _ _ _ meant
          (omega (arith, counts)) spelling (c.encode_value_over.ensures.refuses one);
    }
