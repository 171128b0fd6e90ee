-- A node without parts: what is read of it, and when it stands for nothing.
use Rattle.std.proofs.Common.{◌≡◌, ◌⊎◌, ℕ, ℤ, pos, ◌<◌, ◌^◌, inl, inr, List, ◌++◌, length, Bool, true}
use Rattle.std.proofs.Common.{false, ◌&&◌, ◌==◌}
use Rattle.std.proofs.Common.{refl, ap, sym, ◌∙◌, Result, Ok, Err, lt-ltb, if◌then◌else◌}
use Rattle.std.proofs.lemmas.Bool.{false≢true, true≢false, and_parts as both, and_from, ltb-true}
use Rattle.std.proofs.lemmas.Bool.{eqb-true, eq-eqb}
use Rattle.json.specs.Json as json
use Rattle.json.specs.Json.{Json, Members}
use Rattle.xdr_types.specs.Kinds as xdr
use Rattle.xdr_types.specs.Kinds.{KindView, Part, Branch, Constant, kind_at}
use Rattle.xdr_types.specs.Tree as value
use Rattle.xdr_types.specs.Tree.{Head}
use Rattle.xdr_types.specs.Fits.{is_signed, is_numbered, is_length, are_bytes}
use Rattle.xdr_units.specs.Numbers.{num4, num8, number_of, padded}
use Rattle.xdr_json.specs.Mapping.{hex_key}
use Rattle.xdr_json.specs.Spelled.{is_number, is_flag, is_numbered_json, is_decoded, is_hex, is_text, is_empty}
use Rattle.xdr_json.specs.Spelled.{count, has_key, at_key}
use Rattle.hex.specs.Hex.{decode_of}
use Rattle.hex.specs.declared.error.FromHexError.{FromHexError}
use Rattle.xdr_json_reader.specs.Nodes.{ShowsNone}
use Rattle.xdr_json_reader.specs.Reasons.{Wrong, number_reason, name_reason, hex_reason, digits_reason, text_reason}
use Rattle.xdr_json_reader.specs.Reasons.{void_reason}
use Rattle.xdr_json_reader.specs.Private.Leaves.{LeafTook, LeafRead, TextRead}
use Rattle.xdr_json_reader.specs.declared.fault.JsonReason.{JsonReason}
use Rattle.xdr_json_reader.specs.declared.fault.JsonReason.TheVariants.{NoMemory, WrongType, WrongLength, BadHex}
use Rattle.xdr_json.proofs.Once.{one_text}

abbrev pub NoLeaf : KindView → Json → Type 0
NoLeaf f j = (kinds : List KindView) → ShowsNone kinds f j

-- it is wrong, for this reason
abbrev pub WrongLeaf : KindView → Json → JsonReason → Type 0
WrongLeaf f j w = (kinds : List KindView) → Wrong kinds f j w

pub took_int : (j : Json) (z : ℤ) (out new : List ℕ) → is_signed (2 ^ 31) z ≡ true → is_number z j ≡ true
    → new ≡ out ++ num4 z → LeafTook xdr.int j out new
took_int j z out new h k e =
    record { head = value.int z; shows = λ kinds. record { legal = h; shown = k }; bytes = e; alone = refl }

pub no_int : (j : Json) → ((z : ℤ) → is_signed (2 ^ 31) z ≡ true → is_number z j ≡ true → ⊥) → NoLeaf xdr.int j
no_int j none kinds (value.int z) s = none z s.legal s.shown
no_int j none kinds _ s = false≢true s.legal

pub took_unsigned : (j : Json) (n : ℕ) (out new : List ℕ) → n < 2 ^ 32 → is_number (pos n) j ≡ true
    → new ≡ out ++ num4 (pos n) → LeafTook xdr.unsigned j out new
took_unsigned j n out new h k e = record {
  head = value.unsigned n;
  shows = λ kinds. record { legal = lt-ltb n (2 ^ 32) h; shown = k };
  bytes = e;
  alone = refl;
}

pub no_unsigned : (j : Json) → ((n : ℕ) → n < 2 ^ 32 → is_number (pos n) j ≡ true → ⊥) → NoLeaf xdr.unsigned j
no_unsigned j none kinds (value.unsigned n) s = none n (ltb-true n (2 ^ 32) s.legal) s.shown
no_unsigned j none kinds _ s = false≢true s.legal

pub took_hyper : (j : Json) (z : ℤ) (out new : List ℕ) → is_signed (2 ^ 63) z ≡ true → is_number z j ≡ true
    → new ≡ out ++ num8 z → LeafTook xdr.hyper j out new
took_hyper j z out new h k e =
    record { head = value.hyper z; shows = λ kinds. record { legal = h; shown = k }; bytes = e; alone = refl }

pub no_hyper : {E : Type 0} (j : Json) (r : Result ℤ E) (w : E) → r ≡ Err w
    → ((z : ℤ) → is_signed (2 ^ 63) z ≡ true → is_number z j ≡ true → r ≡ Ok z) → NoLeaf xdr.hyper j
no_hyper {E} j r w is only kinds (value.hyper z) s = apart (sym (only z s.legal s.shown) ∙ is)
  where
    is_read : Result ℤ E → Bool
    is_read (Ok x) = true
    is_read (Err x) = false

    apart : Ok z ≡ Err w → ⊥
    apart e = true≢false (ap is_read e)
no_hyper j r w is only kinds _ s = false≢true s.legal

pub took_unsigned_hyper : (j : Json) (n : ℕ) (out new : List ℕ) → n < 2 ^ 64 → is_number (pos n) j ≡ true
    → new ≡ out ++ num8 (pos n) → LeafTook xdr.unsigned_hyper j out new
took_unsigned_hyper j n out new h k e = record {
  head = value.unsigned_hyper n;
  shows = λ kinds. record { legal = lt-ltb n (2 ^ 64) h; shown = k };
  bytes = e;
  alone = refl;
}

pub no_unsigned_hyper : {E : Type 0} (j : Json) (r : Result ℕ E) (w : E) → r ≡ Err w
    → ((n : ℕ) → n < 2 ^ 64 → is_number (pos n) j ≡ true → r ≡ Ok n) → NoLeaf xdr.unsigned_hyper j
no_unsigned_hyper {E} j r w is only kinds (value.unsigned_hyper n) s =
    apart (sym (only n (ltb-true n (2 ^ 64) s.legal) s.shown) ∙ is)
  where
    is_read : Result ℕ E → Bool
    is_read (Ok x) = true
    is_read (Err x) = false

    apart : Ok n ≡ Err w → ⊥
    apart e = true≢false (ap is_read e)
no_unsigned_hyper j r w is only kinds _ s = false≢true s.legal

pub took_bool : (j : Json) (b : Bool) (out new : List ℕ) → is_flag b j ≡ true → new ≡ out ++ num4 (number_of b)
    → LeafTook xdr.boolean j out new
took_bool j b out new k e =
    record { head = value.boolean b; shows = λ kinds. record { legal = refl; shown = k }; bytes = e; alone = refl }

pub no_bool : (j : Json) → ((b : Bool) → is_flag b j ≡ true → ⊥) → NoLeaf xdr.boolean j
no_bool j none kinds (value.boolean b) s = none b s.shown
no_bool j none kinds _ s = false≢true s.legal

pub took_numbered : (cs : List Constant) (j : Json) (z : ℤ) (out new : List ℕ) → is_numbered cs z ≡ true
    → is_numbered_json cs z j ≡ true → new ≡ out ++ num4 z → LeafTook (xdr.numbered cs) j out new
took_numbered cs j z out new h k e =
    record { head = value.numbered z; shows = λ kinds. record { legal = h; shown = k }; bytes = e; alone = refl }

pub no_numbered : (cs : List Constant) (j : Json)
    → ((z : ℤ) → is_numbered cs z ≡ true → is_numbered_json cs z j ≡ true → ⊥) → NoLeaf (xdr.numbered cs) j
no_numbered cs j none kinds (value.numbered z) s = none z s.legal s.shown
no_numbered cs j none kinds _ s = false≢true s.legal

pub no_nothing : (j : Json) → (is_empty j ≡ true → ⊥) → NoLeaf xdr.nothing j
no_nothing j none kinds value.nothing s = none s.shown
no_nothing j none kinds _ s = false≢true s.legal

pub took_opaque : (size : ℕ) (j : Json) (bs : List ℕ) (out new : List ℕ) → length bs ≡ size → are_bytes bs ≡ true
    → is_hex bs j ≡ true → new ≡ out ++ padded bs → LeafTook (xdr.opaque size) j out new
took_opaque size j bs out new long are k e = record {
  head = value.bytes bs;
  shows = λ kinds.
      record { legal = and_from (length bs == size) (are_bytes bs) (eq-eqb (length bs) size long) are; shown = k };
  bytes = e;
  alone = refl;
}

pub no_opaque : (size : ℕ) (j : Json) → ((bs : List ℕ) → length bs ≡ size → is_hex bs j ≡ true → ⊥)
    → NoLeaf (xdr.opaque size) j
no_opaque size j none kinds (value.bytes bs) s =
    none bs (eqb-true (length bs) size (both (length bs == size) (are_bytes bs) s.legal).0) s.shown
no_opaque size j none kinds _ s = false≢true s.legal

pub took_opaque_up_to : (max : ℕ) (j : Json) (bs : List ℕ) (out new : List ℕ) → is_length max (length bs) ≡ true
    → are_bytes bs ≡ true → is_hex bs j ≡ true → new ≡ out ++ (num4 (pos (length bs)) ++ padded bs)
    → LeafTook (xdr.opaque_up_to max) j out new
took_opaque_up_to max j bs out new long are k e = record {
  head = value.bytes bs;
  shows = λ kinds. record { legal = and_from (is_length max (length bs)) (are_bytes bs) long are; shown = k };
  bytes = e;
  alone = refl;
}

pub no_opaque_up_to : (max : ℕ) (j : Json)
    → ((bs : List ℕ) → is_length max (length bs) ≡ true → is_hex bs j ≡ true → ⊥) → NoLeaf (xdr.opaque_up_to max) j
no_opaque_up_to max j none kinds (value.bytes bs) s =
    none bs (both (is_length max (length bs)) (are_bytes bs) s.legal).0 s.shown
no_opaque_up_to max j none kinds _ s = false≢true s.legal

pub took_text : (max : ℕ) (j : Json) (bs : List ℕ) (out new : List ℕ)
    → (is_length max (length bs) && are_bytes bs) ≡ true → is_text bs j ≡ true
    → new ≡ out ++ (num4 (pos (length bs)) ++ padded bs) → LeafTook (xdr.text max) j out new
took_text max j bs out new h k e =
    record { head = value.bytes bs; shows = λ kinds. record { legal = h; shown = k }; bytes = e; alone = refl }

pub no_text : (max : ℕ) (j : Json) → ((bs : List ℕ) → is_length max (length bs) ≡ true → is_text bs j ≡ true → ⊥)
    → NoLeaf (xdr.text max) j
no_text max j none kinds (value.bytes bs) s =
    none bs (both (is_length max (length bs)) (are_bytes bs) s.legal).0 s.shown
no_text max j none kinds _ s = false≢true s.legal

-- ---- the reasons

pub bad_int : (j : Json) (w : JsonReason) → ((z : ℤ) → is_signed (2 ^ 31) z ≡ true → is_number z j ≡ true → ⊥)
    → w ≡ number_reason j → WrongLeaf xdr.int j w
bad_int j w none tells kinds = record { none = no_int j none kinds; tells = tells }

pub bad_unsigned : (j : Json) (w : JsonReason) → ((n : ℕ) → n < 2 ^ 32 → is_number (pos n) j ≡ true → ⊥)
    → w ≡ number_reason j → WrongLeaf xdr.unsigned j w
bad_unsigned j w none tells kinds = record { none = no_unsigned j none kinds; tells = tells }

pub bad_hyper : (j : Json) (r : Result ℤ JsonReason) (w : JsonReason) → r ≡ Err w
    → ((z : ℤ) → is_signed (2 ^ 63) z ≡ true → is_number z j ≡ true → r ≡ Ok z) → w ≡ number_reason j
    → WrongLeaf xdr.hyper j w
bad_hyper j r w is only tells kinds = record { none = no_hyper j r w is only kinds; tells = tells }

pub bad_unsigned_hyper : (j : Json) (r : Result ℕ JsonReason) (w : JsonReason) → r ≡ Err w
    → ((n : ℕ) → n < 2 ^ 64 → is_number (pos n) j ≡ true → r ≡ Ok n) → w ≡ number_reason j
    → WrongLeaf xdr.unsigned_hyper j w
bad_unsigned_hyper j r w is only tells kinds =
    record { none = no_unsigned_hyper j r w is only kinds; tells = tells }

pub bad_bool : (j : Json) (w : JsonReason) → ((b : Bool) → is_flag b j ≡ true → ⊥) → w ≡ WrongType
    → WrongLeaf xdr.boolean j w
bad_bool j w none tells kinds = record { none = no_bool j none kinds; tells = tells }

pub bad_numbered : (cs : List Constant) (j : Json) (w : JsonReason)
    → ((z : ℤ) → is_numbered cs z ≡ true → is_numbered_json cs z j ≡ true → ⊥) → w ≡ name_reason j
    → WrongLeaf (xdr.numbered cs) j w
bad_numbered cs j w none tells kinds = record { none = no_numbered cs j none kinds; tells = tells }

pub bad_opaque : (size : ℕ) (j : Json) (w : JsonReason)
    → ((bs : List ℕ) → length bs ≡ size → is_hex bs j ≡ true → ⊥) → w ≡ hex_reason j → WrongLeaf (xdr.opaque size) j w
bad_opaque size j w none tells kinds = record { none = no_opaque size j none kinds; tells = tells }

pub bad_opaque_up_to : (max : ℕ) (j : Json) (w : JsonReason)
    → ((bs : List ℕ) → is_length max (length bs) ≡ true → is_hex bs j ≡ true → ⊥) → w ≡ hex_reason j
    → WrongLeaf (xdr.opaque_up_to max) j w
bad_opaque_up_to max j w none tells kinds = record { none = no_opaque_up_to max j none kinds; tells = tells }

pub bad_text : (max : ℕ) (j : Json) (w : JsonReason)
    → ((bs : List ℕ) → is_length max (length bs) ≡ true → is_text bs j ≡ true → ⊥) → w ≡ text_reason j
    → WrongLeaf (xdr.text max) j w
bad_text max j w none tells kinds = record { none = no_text max j none kinds; tells = tells }

pub bad_nothing : (j : Json) (w : JsonReason) → (is_empty j ≡ true → ⊥) → w ≡ void_reason j
    → WrongLeaf xdr.nothing j w
bad_nothing j w none tells kinds = record { none = no_nothing j none kinds; tells = tells }

-- digits that stand for bytes can only be too few or too many
pub hex_long : (bs : List ℕ) (j : Json) → is_hex bs j ≡ true → hex_reason j ≡ WrongLength
hex_long bs (json.string s) h = by_case (decode_of s) h
  where
    by_case : (r : Result (List ℕ) FromHexError) → is_decoded bs r ≡ true → digits_reason r ≡ WrongLength
    by_case (Ok cs) h = refl
    by_case (Err e) h = absurd (false≢true h)
hex_long bs _ h = absurd (false≢true h)

text_long : (bs : List ℕ) (j : Json) → is_text bs j ≡ true → text_reason j ≡ WrongLength
text_long bs (json.string s) h = refl
text_long bs (json.object ms) h =
    let two = both (count ms == 1 && has_key ms hex_key) (is_hex bs (at_key ms hex_key)) h in
    ap (λ (b : Bool). if b then hex_reason (at_key ms hex_key) else WrongType) two.0
    ∙ hex_long bs (at_key ms hex_key) two.1
text_long bs _ h = absurd (false≢true h)

pub text_member : (ms : Members) (j : Json) → (count ms == 1 && has_key ms hex_key) ≡ true → at_key ms hex_key ≡ j
    → text_reason (json.object ms) ≡ hex_reason j
text_member ms j h e =
    ap (λ (b : Bool). if b then hex_reason (at_key ms hex_key) else WrongType) h ∙ ap hex_reason e

pub bad_digits : (s : List ℕ) (e : FromHexError) → decode_of s ≡ Err e → BadHex ≡ hex_reason (json.string s)
bad_digits s e is = ap digits_reason (sym is)

pub opaque_refused : (size : ℕ) (j : Json) (w : JsonReason)
    → (w ≡ NoMemory) ⊎ ((bs : List ℕ) → is_hex bs j ≡ true → ⊥) → (w ≡ NoMemory) ⊎ (w ≡ hex_reason j)
    → (w ≡ NoMemory) ⊎ WrongLeaf (xdr.opaque size) j w
opaque_refused size j w (inl m) h = inl m
opaque_refused size j w (inr n) (inl m) = inl m
opaque_refused size j w (inr n) (inr e) = inr (bad_opaque size j w (λ bs l k. n bs k) e)

pub opaque_up_to_refused : (max : ℕ) (j : Json) (w : JsonReason)
    → (w ≡ NoMemory) ⊎ ((bs : List ℕ) → is_hex bs j ≡ true → ⊥) → (w ≡ NoMemory) ⊎ (w ≡ hex_reason j)
    → (w ≡ NoMemory) ⊎ WrongLeaf (xdr.opaque_up_to max) j w
opaque_up_to_refused max j w (inl m) h = inl m
opaque_up_to_refused max j w (inr n) (inl m) = inl m
opaque_up_to_refused max j w (inr n) (inr e) = inr (bad_opaque_up_to max j w (λ bs l k. n bs k) e)

-- an object whose one member is not read as digits
pub text_refused : (max : ℕ) (ms : Members) (j : Json) (w : JsonReason)
    → (count ms == 1 && has_key ms hex_key) ≡ true → at_key ms hex_key ≡ j
    → (w ≡ NoMemory) ⊎ ((bs : List ℕ) → is_hex bs j ≡ true → ⊥) → (w ≡ NoMemory) ⊎ (w ≡ hex_reason j)
    → (w ≡ NoMemory) ⊎ WrongLeaf (xdr.text max) (json.object ms) w
text_refused max ms j w one at (inl m) h = inl m
text_refused max ms j w one at (inr n) (inl m) = inl m
text_refused max ms j w one at (inr n) (inr e) =
    inr (bad_text max (json.object ms) w (λ bs l k.
    n bs
    (ap (is_hex bs) (sym at)
    ∙ (both (count ms == 1 && has_key ms hex_key) (is_hex bs (at_key ms hex_key)) k).1))
    (e ∙ sym (text_member ms j one at)))

pub text_other : (ms : Members) → (count ms == 1 && has_key ms hex_key) ≡ false
    → text_reason (json.object ms) ≡ WrongType
text_other ms h = ap (λ (b : Bool). if b then hex_reason (at_key ms hex_key) else WrongType) h

pub text_read : {A : Type 0} (max : ℕ) (j : Json) (bs : List ℕ) (out new : List ℕ) (r : Result A JsonReason)
    → is_text bs j ≡ true → TextRead max bs out new r → LeafRead (xdr.text max) j out new r
text_read max j bs out new (Ok x) shown h = took_text max j bs out new h.0 shown h.1
text_read max j bs out new (Err w) shown (inl m) = inl m
text_read max j bs out new (Err w) shown (inr n) =
    inr (bad_text max j w (λ cs long k.
    false≢true (sym n.0 ∙ ap (λ (z : List ℕ). is_length max (length z)) (one_text bs cs j shown k) ∙ long))
    (n.1 ∙ sym (text_long bs j shown)))
