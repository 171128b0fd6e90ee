use Rattle.std.proofs.Common.{◌≡◌, ◌⊎◌, inl, inr, ℕ, List, [], ◌∷◌, Some, true, false, codes, refl, sym, ap, ◌∙◌}
use Rattle.std.proofs.Common.{◌&&◌, subst}
use Rattle.std.proofs.lemmas.Bool.{false≢true, and_parts as both}
use Rattle.std.proofs.lemmas.Str.{IsUtf8-from_is_utf8}
use Rattle.std.specs.Char.{encode_utf8}
use Rattle.std.specs.Str.{chars, is_utf8}
use Rattle.json.proofs.OnLiterals.{json_on_literals}
use Rattle.json.specs.Json as json
use Rattle.json.specs.Json.{Json, member, no_members}
use Rattle.xdr_types.specs.Kinds as xdr
use Rattle.xdr_types.specs.Kinds.{KindView, Part}
use Rattle.xdr_types.specs.Tree as value
use Rattle.xdr_types.specs.Tree.{Head, Tree, Values}
use Rattle.xdr_types.specs.Fits.{is_legal, parts}
use Rattle.xdr_types.specs.Within.{Bounds}
use Rattle.xdr_json.specs.Spelled.{shows, under, spell, spells}
use Rattle.xdr_json.specs.Text.{IsSpelling, json_text}
use Rattle.xdr_json_reader.specs.Nodes.{ShowsNone}
use Rattle.xdr_json_reader.specs.Reasons.{IsFirst, Tells}
use Rattle.xdr_json_reader.specs.declared.fault.JsonReason.{JsonReason}
use Rattle.xdr_json_reader.specs.declared.fault.JsonReason.TheVariants.{NoMemory, NotWhole}
use Rattle.example_json.specs.Files.{part}
use Rattle.example_json.proofs.First.{of_values}
use Rattle.example_json.proofs.Told.{alone, unspelled, some-is, first_told, no_int_head, no_flag, no_fraction}
use Rattle.example_json.proofs.Told.{is_refused, why_of}
use Rattle.example_json.proofs.reading.tells_the_first_fault.Goals as goal

abbrev text : List ℕ
text = codes "{\"b\":1.5,\"a\":true}"

abbrev fraction : Json
fraction = json.number (codes "1.5")

abbrev flag : Json
flag = json.boolean true

abbrev said : Json
said = json.object (member (codes "b") fraction (member (codes "a") flag no_members))

abbrev fields : List Part
fields = part (codes "a") 0 ∷ part (codes "b") 0 ∷ []

abbrev pair : KindView
pair = xdr.structure fields

abbrev kinds : List KindView
kinds = xdr.int ∷ pair ∷ []

text_utf8 : is_utf8 text ≡ true
unfolding is_utf8 chars encode_utf8
text_utf8 = refl

text_said : json_text text ≡ Some said
unfolding json_on_literals
text_said = refl

-- ---- the text spells no value

head_is : (h : Head) → is_legal kinds pair h ≡ true → h ≡ value.fields
head_is value.fields e = refl
head_is _ e = absurd (false≢true e)

no_values : (vs : Values) → spell kinds fields (flag ∷ fraction ∷ []) vs ≡ true → ⊥
no_values value.none e = false≢true e
no_values (value.node h inner rest) e =
    let one = both ((is_legal kinds xdr.int h && shows kinds xdr.int h flag)
    && spell kinds (parts xdr.int h) (under kinds xdr.int h flag) inner)
    (spell kinds (part (codes "b") 0 ∷ []) (fraction ∷ []) rest) e in
    let two = both (is_legal kinds xdr.int h && shows kinds xdr.int h flag)
    (spell kinds (parts xdr.int h) (under kinds xdr.int h flag) inner) one.0 in
    let three = both (is_legal kinds xdr.int h) (shows kinds xdr.int h flag) two.0 in
    no_int_head kinds flag no_flag h (record { legal = three.0; shown = three.1 })

not_spelled : (t : Tree) → spells kinds 1 said t ≡ true → ⊥
not_spelled t e =
    let one = both (is_legal kinds pair t.0 && shows kinds pair t.0 said)
    (spell kinds (parts pair t.0) (under kinds pair t.0 said) t.1) e in
    let two = both (is_legal kinds pair t.0) (shows kinds pair t.0 said) one.0 in
    no_values t.1
    (subst (λ (h : Head). spell kinds (parts pair h) (under kinds pair h said) t.1 ≡ true) (head_is t.0 two.0) one.1)

never : (ks : List KindView) (limits : Bounds) (bs : List ℕ) → ks ≡ kinds → bs ≡ text → (t : Tree)
    → IsSpelling ks 1 limits bs t → ⊥
never ks limits bs e h t s =
    not_spelled t
    (subst (λ (j : Json). spells kinds 1 j t ≡ true) (some-is s.tree said (sym s.is ∙ ap json_text h ∙ text_said))
    (subst (λ (x : List KindView). spells x 1 s.tree t ≡ true) e s.spells))

-- ---- its first fault is that of the member that stands first

no_head : ShowsNone kinds xdr.int fraction
no_head = no_int_head kinds fraction no_fraction

first : (w : JsonReason) → IsFirst kinds (1, said) w → w ≡ NotWhole
first w f =
    alone kinds (0, fraction) ((0, flag) ∷ []) w (λ ps n. n) no_head (λ r. unspelled kinds 0 fraction no_head r.0 r.1)
    (of_values kinds (1, said) fields w (λ ps e. e) (λ n. n fields refl) refl refl (λ r. not_spelled r.0 r.1) f)

told : (ks : List KindView) (limits : Bounds) (bs : List ℕ) → ks ≡ kinds → bs ≡ text → (w : JsonReason)
    → Tells ks 1 limits bs w → (w ≡ NotWhole) ⊎ (w ≡ NoMemory)
told ks limits bs e h w t =
    elim (first_told kinds 1 limits text said (IsUtf8-from_is_utf8 text text_utf8) text_said not_spelled w
    (subst (λ (x : List KindView). Tells x 1 limits text w) e
    (subst (λ (x : List ℕ). Tells ks 1 limits x w) h t))) [
      | inl f ↦ inl (first w f)
      | inr m ↦ inr m
    ]

pub returns-clause-refused : goal.returns-clause-refused
returns-clause-refused c =
    let ks = c.args.schema.now.kinds in
    is_refused (λ (t : Tree). IsSpelling ks 1 c.args.limits c.args.text.now t) c.read_json.result
    (never ks c.args.limits c.args.text.now c.requires.kinds c.requires.text) c.read_json.ensures.value

pub returns-clause-why : goal.returns-clause-why
returns-clause-why c =
    let ks = c.args.schema.now.kinds in
    why_of (λ (w : JsonReason). Tells ks 1 c.args.limits c.args.text.now w)
    (λ (w : JsonReason). (w ≡ NotWhole) ⊎ (w ≡ NoMemory)) c.read_json.result
    (told ks c.args.limits c.args.text.now c.requires.kinds c.requires.text) c.read_json.ensures.why
