-- What a value that is looked at says of a number, a flag, a name or content.
use Rattle.std.proofs.Common.{◌≡◌, ℕ, ℤ, pos, negsuc, ◌<◌, ◌≤◌, ◌^◌, inl, inr, List, []}
use Rattle.std.proofs.Common.{◌∷◌, length, map}
use Rattle.std.proofs.Common.{Bool, true, false, ◌&&◌, ◌||◌, ◌==◌, refl, ap, sym, ◌∙◌, arith}
use Rattle.std.proofs.Common.{Option, Some, None, Result, Ok, Err}
use Rattle.std.proofs.Common.{decimal, codes, is_some, lt-ltb, Vec, Global, Bor, is_ok, get_or}
use Rattle.std.proofs.Common.{if◌then◌else◌}
use Rattle.std.specs.Option.{unwrap_or}
use Rattle.std.specs.Result.{result_ok}
use Rattle.std.specs.Bool.{then_some}
use Rattle.std.specs.Int.{w64}
use Rattle.std.specs.Fmt.{signed_decimal}
use Rattle.std.specs.Ordering.{int_eq}
use Rattle.std.specs.Str.{bytes_eq}
use Rattle.std.specs.Str.Parse.{ParsesUnsigned, ParsesSigned}
use Rattle.std.proofs.lemmas.Bool.{true≢false, false≢true, and_parts as both, and_from, or_cases, or_left}
use Rattle.std.proofs.lemmas.Bool.{or_right, ltb-true, and_left}
use Rattle.std.proofs.lemmas.Bool.{ne_eqb}
use Rattle.std.proofs.lemmas.Bool.Decides.{Decides-int_eq}
use Rattle.std.proofs.lemmas.Fmt.{parse-decimal, parse-signed_decimal}
use Rattle.std.proofs.lemmas.Slice.Eq.{bytes_eq-Decides}
use Rattle.json.specs.Json as json
use Rattle.json.specs.Json.{Json, Members}
use Rattle.xdr_types.specs.Fits.{is_signed, is_constant, is_numbered}
use Rattle.xdr_types.specs.Kinds as xdr
use Rattle.xdr_types.specs.Kinds.{KindView, Part, Branch, Constant}
use Rattle.xdr_json_reader.specs.Tape.{json_in, members_of}
use Rattle.xdr_json_reader.specs.Private.Look.{pairs}
use Rattle.xdr_json_reader.specs.declared.tape.Key.{Key}
use Rattle.xdr_json_reader.specs.declared.tape.Node.{Node}
use Rattle.xdr_json.specs.Spelled.{is_flag, is_hex, is_text, is_numbered_json, is_empty, is_list, is_group}
use Rattle.xdr_json.specs.Spelled.{is_choice, is_null, is_name}
use Rattle.xdr_json.specs.Spelled.{is_decimal_of, is_number}
use Rattle.xdr_json_reader.specs.Private.Look.{seen}
use Rattle.xdr_json_reader.specs.Reasons.{number_reason, name_reason, hex_reason, text_reason, list_reason, void_reason}
use Rattle.xdr_json_reader.specs.Reasons.{NodeTells}
use Rattle.xdr_json_reader.specs.declared.fault.JsonReason.{JsonReason}
use Rattle.xdr_json_reader.specs.declared.fault.JsonReason.TheVariants.{WrongType}
use Rattle.xdr_json_reader.specs.declared.reading_look.Shape.{Shape}
use Rattle.xdr_json_reader.specs.declared.reading_look.Shape.TheVariants as look
use Rattle.xdr_json.proofs.Numerals.{IsSmall, one_decimal}
use Rattle.xdr_json_reader.proofs.Fields.{many}
use Rattle.xdr_json.specs.Mapping.{hex_key}
use Rattle.xdr_json.specs.Spelled.{count, has_key, at_key}

small : (z : ℤ) → is_signed (2 ^ 63) z ≡ true → IsSmall z
small (pos n) h = omega (arith, ltb-true n (2 ^ 63) h)
small (negsuc n) h = omega (arith, ltb-true n (2 ^ 63) h)

-- ---- decimal texts

zero_is : (s : List ℕ) → s ≡ codes "-0" → is_decimal_of (pos 0) s ≡ true
zero_is s e =
    or_right (bytes_eq s (signed_decimal (pos 0))) (int_eq (pos 0) (pos 0) && bytes_eq s (codes "-0"))
    (and_from (int_eq (pos 0) (pos 0)) (bytes_eq s (codes "-0")) ((Decides-int_eq (pos 0) (pos 0)).1 refl)
    ((bytes_eq-Decides s (codes "-0")).1 e))

pub signed_zero : (s : List ℕ) → s ≡ codes "-0" → (z : ℤ) → is_signed (2 ^ 63) z ≡ true → is_decimal_of z s ≡ true
    → Some (pos 0) ≡ Some z
signed_zero s e z h k = ap Some (one_decimal (pos 0) z s (omega arith) (small z h) (zero_is s e) k)

pub unsigned_zero : (s : List ℕ) → s ≡ codes "-0" → (n : ℕ) → n < 2 ^ 64 → is_decimal_of (pos n) s ≡ true
    → Some 0 ≡ Some n
unsigned_zero s e n h k = ap Some (ap up (one_decimal (pos 0) (pos n) s (omega arith) h (zero_is s e) k))
  where
    up : ℤ → ℕ
    up (pos m) = m
    up (negsuc m) = m

plain : (z : ℤ) (s : List ℕ) → (s ≡ codes "-0" → ⊥) → is_decimal_of z s ≡ true → s ≡ signed_decimal z
plain z s other h =
    elim (or_cases (bytes_eq s (signed_decimal z)) (int_eq z (pos 0) && bytes_eq s (codes "-0")) h) [
      | inl e ↦ (bytes_eq-Decides s (signed_decimal z)).0 e
      | inr e ↦ absurd (other ((bytes_eq-Decides s (codes "-0")).0 (both (int_eq z (pos 0)) (bytes_eq s (codes "-0"))
          e).1))
    ]

parsed : {E : Type 0} (s : List ℕ) (r : Result ℤ E) (z : ℤ) → is_signed (2 ^ 63) z ≡ true → s ≡ signed_decimal z
    → ParsesSigned w64 10 s r → r ≡ Ok z
parsed s r (pos n) h e p =
    let less = ltb-true n (2 ^ 63) h in parse-signed_decimal w64 (pos n) s r (record { sfits = less }) less e p
parsed s r (negsuc n) h e p =
    let less = ltb-true n (2 ^ 63) h in parse-signed_decimal w64 (negsuc n) s r (record { sfits = less }) less e p

no_value : {A E : Type 0} (r : Result A E) (x : A) → r ≡ Ok x → result_ok r ≡ None → ⊥
no_value r x e f = true≢false (ap is_some (sym (ap result_ok e) ∙ f))

pub signed_none : {E : Type 0} (s : List ℕ) (r : Result ℤ E) → ParsesSigned w64 10 s r → result_ok r ≡ None
    → (s ≡ codes "-0" → ⊥) → (z : ℤ) → is_signed (2 ^ 63) z ≡ true → is_decimal_of z s ≡ true → ⊥
signed_none s r p none other z h k = no_value r z (parsed s r z h (plain z s other k) p) none

pub signed_only : {E : Type 0} (s : List ℕ) (r : Result ℤ E) (m : ℤ) (b : Bool) → ParsesSigned w64 10 s r
    → result_ok r ≡ Some m → b ≡ bytes_eq (signed_decimal m) s → (s ≡ codes "-0" → ⊥) → (z : ℤ)
    → is_signed (2 ^ 63) z ≡ true → is_decimal_of z s ≡ true → then_some b m ≡ Some z
signed_only s r m b p is eq other z h k =
    let e = plain z s other k in
    let same : m ≡ z = ap (λ (o : Option ℤ). unwrap_or o (pos 0)) (sym is ∙ ap result_ok (parsed s r z h e p)) in
    let t : b ≡ true =
    eq ∙ (bytes_eq-Decides (signed_decimal m) s).1 (ap signed_decimal same ∙ sym e) in
    ap (λ c. then_some c m) t ∙ ap Some same

pub signed_found : (s : List ℕ) (m z : ℤ) (b : Bool) → b ≡ bytes_eq (signed_decimal m) s → then_some b m ≡ Some z
    → is_decimal_of z s ≡ true
signed_found s m z true eq e =
    let same : m ≡ z = ap (λ (o : Option ℤ). unwrap_or o (pos 0)) e in
    let text : bytes_eq s (signed_decimal z) ≡ true =
    (bytes_eq-Decides s (signed_decimal z)).1
    (sym ((bytes_eq-Decides (signed_decimal m) s).0 (sym eq)) ∙ ap signed_decimal same) in
    or_left (bytes_eq s (signed_decimal z)) (int_eq z (pos 0) && bytes_eq s (codes "-0")) text
signed_found s m z false eq e = absurd (true≢false (ap is_some (sym e)))

parsed_unsigned : {E : Type 0} (s : List ℕ) (r : Result ℕ E) (n : ℕ) → n < 2 ^ 64 → s ≡ decimal n
    → ParsesUnsigned 64 10 s r → r ≡ Ok n
parsed_unsigned s r n h e p = parse-decimal 64 n s r h h e p

pub unsigned_none : {E : Type 0} (s : List ℕ) (r : Result ℕ E) → ParsesUnsigned 64 10 s r → result_ok r ≡ None
    → (s ≡ codes "-0" → ⊥) → (n : ℕ) → n < 2 ^ 64 → is_decimal_of (pos n) s ≡ true → ⊥
unsigned_none s r p none other n h k = no_value r n (parsed_unsigned s r n h (plain (pos n) s other k) p) none

pub unsigned_only : {E : Type 0} (s : List ℕ) (r : Result ℕ E) (m : ℕ) (b : Bool) → ParsesUnsigned 64 10 s r
    → result_ok r ≡ Some m → b ≡ bytes_eq (decimal m) s → (s ≡ codes "-0" → ⊥) → (n : ℕ) → n < 2 ^ 64
    → is_decimal_of (pos n) s ≡ true → then_some b m ≡ Some n
unsigned_only s r m b p is eq other n h k =
    let e = plain (pos n) s other k in
    let same : m ≡ n = ap (λ (o : Option ℕ). unwrap_or o 0) (sym is ∙ ap result_ok (parsed_unsigned s r n h e p)) in
    let t : b ≡ true = eq ∙ (bytes_eq-Decides (decimal m) s).1 (ap decimal same ∙ sym e) in
    ap (λ c. then_some c m) t ∙ ap Some same

pub unsigned_found : (s : List ℕ) (m n : ℕ) (b : Bool) → b ≡ bytes_eq (decimal m) s → then_some b m ≡ Some n
    → is_decimal_of (pos n) s ≡ true
unsigned_found s m n true eq e =
    let same : m ≡ n = ap (λ (o : Option ℕ). unwrap_or o 0) e in
    let text : bytes_eq s (decimal n) ≡ true =
    (bytes_eq-Decides s (decimal n)).1
    (sym ((bytes_eq-Decides (decimal m) s).0 (sym eq)) ∙ ap decimal same) in
    or_left (bytes_eq s (decimal n)) (int_eq (pos n) (pos 0) && bytes_eq s (codes "-0")) text
unsigned_found s m n false eq e = absurd (true≢false (ap is_some (sym e)))

-- ---- forms that are no number

pub no_number : (l : Shape) (z : ℤ) → ((s : Bor (List ℕ)) → l ≡ look.Number s → ⊥)
    → ((s : Bor (List ℕ)) → l ≡ look.Text s → ⊥) → is_number z (seen l) ≡ true → ⊥
no_number (look.Number s) z p q h = p s refl
no_number (look.Text s) z p q h = q s refl
no_number _ z p q h = false≢true h

-- ---- the reason where the JSON is of another form

pub number_form : (l : Shape) → ((s : Bor (List ℕ)) → l ≡ look.Number s → ⊥)
    → ((s : Bor (List ℕ)) → l ≡ look.Text s → ⊥) → WrongType ≡ number_reason (seen l)
number_form (look.Number s) p q = absurd (p s refl)
number_form (look.Text s) p q = absurd (q s refl)
number_form _ p q = refl

pub name_form : (l : Shape) → ((s : Bor (List ℕ)) → l ≡ look.Text s → ⊥)
    → ((s : Bor (List ℕ)) → l ≡ look.Number s → ⊥) → WrongType ≡ name_reason (seen l)
name_form (look.Text s) p q = absurd (p s refl)
name_form (look.Number s) p q = absurd (q s refl)
name_form _ p q = refl

pub hex_form : (l : Shape) → ((s : Bor (List ℕ)) → l ≡ look.Text s → ⊥) → WrongType ≡ hex_reason (seen l)
hex_form (look.Text s) p = absurd (p s refl)
hex_form _ p = refl

pub text_form : (l : Shape) → ((s : Bor (List ℕ)) → l ≡ look.Text s → ⊥)
    → ((v : Bor (Vec (Key × Node) Global)) → l ≡ look.Object v → ⊥) → WrongType ≡ text_reason (seen l)
text_form (look.Text s) p q = absurd (p s refl)
text_form (look.Object v) p q = absurd (q v refl)
text_form _ p q = refl

pub list_form : (l : Shape) → ((v : Bor (Vec Node Global)) → l ≡ look.Array v → ⊥) → WrongType ≡ list_reason (seen l)
list_form (look.Array v) p = absurd (p v refl)
list_form _ p = refl

pub void_form : (l : Shape) → ((v : Bor (Vec (Key × Node) Global)) → l ≡ look.Object v → ⊥)
    → WrongType ≡ void_reason (seen l)
void_form (look.Object v) p = absurd (p v refl)
void_form _ p = refl

pub group_form : (l : Shape) (kinds : List KindView) (ps : List Part)
    → ((v : Bor (Vec (Key × Node) Global)) → l ≡ look.Object v → ⊥)
    → NodeTells kinds (xdr.structure ps) (seen l) WrongType
group_form (look.Object v) kinds ps p = absurd (p v refl)
group_form _ kinds ps p = refl

pub choice_form : (l : Shape) (kinds : List KindView) (tag : ℕ) (arms : List Branch) (other : Option Part)
    → ((v : Bor (Vec (Key × Node) Global)) → l ≡ look.Object v → ⊥)
    → NodeTells kinds (xdr.choice tag arms other) (seen l) WrongType
choice_form (look.Object v) kinds tag arms other p = absurd (p v refl)
choice_form _ kinds tag arms other p = refl

-- ---- ranges

wide : (z : ℤ) → is_signed (2 ^ 31) z ≡ true → is_signed (2 ^ 63) z ≡ true
wide (pos n) h = lt-ltb n (2 ^ 63) (omega (arith, ltb-true n (2 ^ 31) h))
wide (negsuc n) h = lt-ltb n (2 ^ 63) (omega (arith, ltb-true n (2 ^ 31) h))

abbrev Only : Result ℤ JsonReason → Json → Type 0
Only r j = (z : ℤ) → is_signed (2 ^ 63) z ≡ true → is_number z j ≡ true → r ≡ Ok z

abbrev value_in : Result ℤ JsonReason → ℤ
value_in (Ok z) = z
value_in (Err w) = pos 0

pub not_narrow : (r : Result ℤ JsonReason) (j : Json) (m : ℤ) → Only r j → r ≡ Ok m → is_signed (2 ^ 31) m ≡ false
    → (z : ℤ) → is_signed (2 ^ 31) z ≡ true → is_number z j ≡ true → ⊥
not_narrow r j m only is out z h k =
    let same : m ≡ z = ap value_in (sym is ∙ only z (wide z h) k) in
    false≢true (sym out ∙ ap (is_signed (2 ^ 31)) same ∙ h)

pub not_read : (r : Result ℤ JsonReason) (j : Json) (w : JsonReason) → Only r j → r ≡ Err w → (z : ℤ)
    → is_signed (2 ^ 31) z ≡ true → is_number z j ≡ true → ⊥
not_read r j w only is z h k = true≢false (ap is_ok (sym (only z (wide z h) k) ∙ is))

-- ---- forms that are nothing of a kind

pub no_flag : (l : Shape) (b : Bool) → ((c : Bool) → l ≡ look.Flag c → ⊥) → is_flag b (seen l) ≡ true → ⊥
no_flag (look.Flag c) b p h = p c refl
no_flag _ b p h = false≢true h

pub no_hex : (l : Shape) (bs : List ℕ) → ((s : Bor (List ℕ)) → l ≡ look.Text s → ⊥) → is_hex bs (seen l) ≡ true → ⊥
no_hex (look.Text s) bs p h = p s refl
no_hex _ bs p h = false≢true h

pub no_text_form : (l : Shape) (bs : List ℕ) → ((s : Bor (List ℕ)) → l ≡ look.Text s → ⊥)
    → ((v : Bor (Vec (Key × Node) Global)) → l ≡ look.Object v → ⊥) → is_text bs (seen l) ≡ true → ⊥
no_text_form (look.Text s) bs p q h = p s refl
no_text_form (look.Object v) bs p q h = q v refl
no_text_form _ bs p q h = false≢true h

pub no_name_form : (l : Shape) (cs : List Constant) (z : ℤ) → ((s : Bor (List ℕ)) → l ≡ look.Text s → ⊥)
    → ((s : Bor (List ℕ)) → l ≡ look.Number s → ⊥) → is_numbered_json cs z (seen l) ≡ true → ⊥
no_name_form (look.Text s) cs z p q h = p s refl
no_name_form (look.Number s) cs z p q h = q s refl
no_name_form _ cs z p q h = false≢true h

pub no_empty_form : (l : Shape) → ((v : Bor (Vec (Key × Node) Global)) → l ≡ look.Object v → ⊥)
    → is_empty (seen l) ≡ true → ⊥
no_empty_form (look.Object v) p h = p v refl
no_empty_form _ p h = false≢true h

pub empty_object : (ms : List (Key × Node)) → length ms ≡ 0 → is_empty (json.object (members_of (pairs ms))) ≡ true
empty_object [] e = refl
empty_object (m ∷ ms) e = absurd (omega (arith, e))

pub full_object : (ms : List (Key × Node)) → (length ms ≡ 0 → ⊥)
    → is_empty (json.object (members_of (pairs ms))) ≡ true → ⊥
full_object [] e h = e refl
full_object (m ∷ ms) e h = false≢true h

pub no_array : (l : Shape) (n : ℕ) → ((v : Bor (Vec Node Global)) → l ≡ look.Array v → ⊥)
    → is_list n (seen l) ≡ true → ⊥
no_array (look.Array v) n p h = p v refl
no_array _ n p h = false≢true h

pub no_group_form : (l : Shape) (ps : List Part) → ((v : Bor (Vec (Key × Node) Global)) → l ≡ look.Object v → ⊥)
    → is_group ps (seen l) ≡ true → ⊥
no_group_form (look.Object v) ps p h = p v refl
no_group_form _ ps p h = false≢true h

pub no_choice_form : (l : Shape) (kinds : List KindView) (f : KindView) (z : ℤ) (ps : List Part)
    → ((v : Bor (Vec (Key × Node) Global)) → l ≡ look.Object v → ⊥) → is_choice kinds f z ps (seen l) ≡ true → ⊥
no_choice_form (look.Object v) kinds f z ps p h = p v refl
no_choice_form _ kinds f z ps p h = false≢true h

pub some_form : (l : Shape) → (l ≡ look.Null → ⊥) → is_null (seen l) ≡ false
some_form look.Null p = absurd (p refl)
some_form _ p = refl

-- ---- names

pub named_constant : (cs : List Constant) (z : ℤ) (s : List ℕ) → is_name cs z s ≡ true → is_constant cs z ≡ true
named_constant [] z s h = absurd (false≢true h)
named_constant (c ∷ cs) z s h =
    elim (or_cases (bytes_eq c.name s && int_eq c.number z) (is_name cs z s) h) [
      | inl e ↦ or_left (int_eq c.number z) (is_constant cs z) (both (bytes_eq c.name s) (int_eq c.number z) e).1
      | inr e ↦ or_right (int_eq c.number z) (is_constant cs z) (named_constant cs z s e)
    ]

pub names_first : (c : Constant) (cs : List Constant) (s : List ℕ) → bytes_eq c.name s ≡ true
    → is_name (c ∷ cs) c.number s ≡ true
names_first c cs s h =
    or_left (bytes_eq c.name s && int_eq c.number c.number) (is_name cs c.number s)
    (and_from (bytes_eq c.name s) (int_eq c.number c.number) h ((Decides-int_eq c.number c.number).1 refl))

pub names_other : (c : Constant) (cs : List Constant) (z : ℤ) (s : List ℕ) → bytes_eq c.name s ≡ false
    → is_name (c ∷ cs) z s ≡ is_name cs z s
names_other c cs z s h = ap (λ (b : Bool). (b && int_eq c.number z) || is_name cs z s) h

-- ---- an object of one member

pub one_member : (ms : List (Key × Node)) (m : Key × Node) → length ms ≡ 1 → m ≡ get_or ms 0 m → ms ≡ m ∷ []
one_member [] m e f = absurd (omega (arith, e))
one_member (n ∷ []) m e f = ap (λ (x : Key × Node). x ∷ []) (sym f)
one_member (n ∷ (k ∷ ms)) m e f = absurd (omega (arith, e))

pub other_many : (ms : List (Key × Node)) (b : Bool) → (length ms ≡ 1 → ⊥)
    → (count (members_of (pairs ms)) == 1 && b) ≡ false
other_many ms b other =
    and_left (count (members_of (pairs ms)) == 1) b
    (ne_eqb (count (members_of (pairs ms))) 1 (λ e. other (sym (many ms) ∙ e)))

pub hex_named : (ms : List (Key × Node)) (m : Key × Node) → ms ≡ m ∷ [] → bytes_eq m.0.name.now hex_key ≡ true
    → ((count (members_of (pairs ms)) == 1 && has_key (members_of (pairs ms)) hex_key) ≡ true)
    × (at_key (members_of (pairs ms)) hex_key ≡ json_in m.1)
hex_named ms m e h = (
  ap (λ (ks : List (Key × Node)). count (members_of (pairs ks)) == 1 && has_key (members_of (pairs ks)) hex_key) e
      ∙ ap (λ (b : Bool). true && (b || false)) h,
  ap (λ (ks : List (Key × Node)). at_key (members_of (pairs ks)) hex_key) e
      ∙ ap (λ (b : Bool). if b then json_in m.1 else json.null) h,
)

pub hex_other : (ms : List (Key × Node)) (m : Key × Node) → ms ≡ m ∷ [] → bytes_eq m.0.name.now hex_key ≡ false
    → (count (members_of (pairs ms)) == 1 && has_key (members_of (pairs ms)) hex_key) ≡ false
hex_other ms m e h =
    ap (λ (ks : List (Key × Node)). count (members_of (pairs ks)) == 1 && has_key (members_of (pairs ks)) hex_key) e
    ∙ ap (λ (b : Bool). true && (b || false)) h

pub hex_shown : (ms : Members) (bs : List ℕ) (j : Json) → (count ms == 1 && has_key ms hex_key) ≡ true
    → at_key ms hex_key ≡ j → is_hex bs j ≡ true → is_text bs (json.object ms) ≡ true
hex_shown ms bs j h e k =
    and_from (count ms == 1 && has_key ms hex_key) (is_hex bs (at_key ms hex_key)) h (ap (is_hex bs) e ∙ k)

pub text_shown : (s : List ℕ) → is_text s (json.string s) ≡ true
text_shown s = (bytes_eq-Decides s s).1 refl

pub one_item : (ns : List Node) (n : Node) → 1 ≤ length ns → length ns < 2 → n ≡ get_or ns 0 n
    → map json_in ns ≡ json_in n ∷ []
one_item [] n h k e = absurd (omega (arith, h))
one_item (m ∷ []) n h k e = ap (λ (x : Node). json_in x ∷ []) (sym e)
one_item (m ∷ (k ∷ ns)) n h l e = absurd (omega (arith, l))

small_int : (z : ℤ) → is_signed (2 ^ 31) z ≡ true → IsSmall z
small_int (pos n) h = omega (arith, ltb-true n (2 ^ 31) h)
small_int (negsuc n) h = omega (arith, ltb-true n (2 ^ 31) h)

pub not_member : (cs : List Constant) (s : List ℕ) (m z : ℤ) → is_number m (json.number s) ≡ true
    → is_signed (2 ^ 31) m ≡ true → is_numbered cs m ≡ false → is_numbered cs z ≡ true
    → is_numbered_json cs z (json.number s) ≡ true → ⊥
not_member cs s m z found small' none legal shown =
    let ranged = both (is_signed (2 ^ 31) z) (is_constant cs z) legal in
    let same = one_decimal m z s (small_int m small') (small_int z ranged.0) found shown in
    false≢true (sym none ∙ ap (is_numbered cs) same ∙ legal)
