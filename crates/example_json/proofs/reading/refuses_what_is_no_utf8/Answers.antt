use Rattle.std.proofs.Common.{◌≡◌, ◌∙◌, ◌⊎◌, inl, inr, ℕ, List, [], ◌∷◌, Some, None, is_some, false, refl, sym, ap}
use Rattle.std.proofs.Common.{subst}
use Rattle.std.proofs.lemmas.Bool.{false≢true, true≢false}
use Rattle.std.proofs.lemmas.Str.{is_utf8-from_IsUtf8}
use Rattle.std.specs.Char.{encode_utf8}
use Rattle.std.specs.Str.{IsUtf8, chars, is_utf8}
use Rattle.json.proofs.OnLiterals.{json_on_literals}
use Rattle.json.specs.Json as json
use Rattle.json.specs.Json.{Json}
use Rattle.xdr_types.specs.Kinds.{KindView}
use Rattle.xdr_types.specs.Tree.{Tree}
use Rattle.xdr_types.specs.Within.{Bounds}
use Rattle.xdr_json.specs.Text.{IsSpelling, json_text}
use Rattle.xdr_json_reader.specs.Reasons.{Tells}
use Rattle.xdr_json_reader.specs.declared.fault.JsonReason.{JsonReason}
use Rattle.xdr_json_reader.specs.declared.fault.JsonReason.TheVariants as why
use Rattle.example_json.proofs.Told.{is_refused, why_of}
use Rattle.example_json.proofs.reading.refuses_what_is_no_utf8.Goals as goal

abbrev text : List ℕ
text = 34 ∷ 255 ∷ 34 ∷ []

no_utf8 : is_utf8 text ≡ false
unfolding is_utf8 chars encode_utf8
no_utf8 = refl

never : (t : List ℕ) → t ≡ text → IsUtf8 t → ⊥
never t h u = false≢true (sym no_utf8 ∙ is_utf8-from_IsUtf8 text (subst (λ (x : List ℕ). IsUtf8 x) h u))

text_said : json_text text ≡ Some (json.string (255 ∷ []))
unfolding json_on_literals
text_said = refl

not_none : (t : List ℕ) → t ≡ text → json_text t ≡ None → ⊥
not_none t h e = true≢false (ap is_some (sym text_said ∙ (ap json_text (sym h) ∙ e)))

told : (kinds : List KindView) (limits : Bounds) (t : List ℕ) → t ≡ text → (w : JsonReason)
    → Tells kinds 0 limits t w → (w ≡ why.NotJson) ⊎ (w ≡ why.NoMemory)
told kinds limits t h why.NoMemory s = inr refl
told kinds limits t h why.NotJson s = inl refl
told kinds limits t h why.TooDeep (inl n) = absurd (not_none t h n)
told kinds limits t h why.TooDeep (inr b) = absurd (never t h b.is.utf8)
told kinds limits t h why.TooLarge b = absurd (never t h b.is.utf8)
told kinds limits t h w s = absurd (never t h s.1.utf8)

pub returns-clause-refused : goal.returns-clause-refused
returns-clause-refused c =
    let kinds = c.args.schema.now.kinds in
    is_refused (λ (t : Tree). IsSpelling kinds 0 c.args.limits c.args.text.now t) c.read_json.result
    (λ t s. never c.args.text.now c.requires.text s.utf8) c.read_json.ensures.value

pub returns-clause-why : goal.returns-clause-why
returns-clause-why c =
    let kinds = c.args.schema.now.kinds in
    why_of (λ (w : JsonReason). Tells kinds 0 c.args.limits c.args.text.now w)
    (λ (w : JsonReason). (w ≡ why.NotJson) ⊎ (w ≡ why.NoMemory)) c.read_json.result
    (told kinds c.args.limits c.args.text.now c.requires.text) c.read_json.ensures.why
