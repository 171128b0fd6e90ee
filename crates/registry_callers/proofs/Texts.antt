-- Texts in replies.
use Rattle.std.proofs.Common.{◌≡◌, ℕ, ◌+◌, ◌<◌, ◌≤◌, ◌^◌, ◌/◌, ◌%◌, ◌*◌, List, [], ◌∷◌, ◌++◌, length, decimal, arith}
use Rattle.std.proofs.Common.{refl, ap, sym, ◌∙◌, append_assoc, append-nil, mod-lt}
use Rattle.std.proofs.Common.{Option, Some, subst, Result, Ok, Err, IfOk}
use Rattle.std.proofs.lemmas.List.{length-append}
use Rattle.std.proofs.lemmas.Fmt.{length-decimal-le}
use Rattle.std.proofs.lemmas.Option.{same_Some}
use Rattle.xdr_units.specs.Numbers.{word, padded}
use Rattle.xdr_units.proofs.Bytes.{same_word, same_content}
use Rattle.rpc_message.specs.Spelling.{opaque}
use Rattle.registry_uaddr.specs.Uaddrs.{uaddr_text}
use Rattle.registry_callers.specs.Addresses.{Tells, address, as_it_was, told, address_reply}

-- two texts at the front of the same bytes are one
pub same_opaque : (a b x y : List ℕ) → length a < 2 ^ 32 → length b < 2 ^ 32 → opaque a ++ x ≡ opaque b ++ y
    → (a ≡ b) × (x ≡ y)
same_opaque a b x y fa fb e =
    let w = same_word (length a) (length b) (padded a ++ x) (padded b ++ y) fa fb
    (sym (append_assoc (word (length a)) (padded a) x) ∙ e ∙ append_assoc (word (length b)) (padded b) y) in
    same_content a b x y w.0 w.1

-- what is one text has nothing behind another
pub nothing_behind : (bytes text other rest : List ℕ) → length text < 2 ^ 32 → length other < 2 ^ 32
    → bytes ≡ opaque other ++ rest → bytes ≡ opaque text → length rest ≡ 0
nothing_behind bytes text other rest ft fo e f =
    let both : opaque other ++ rest ≡ opaque text ++ [] = sym e ∙ f ∙ sym (append-nil (opaque text)) in
    ap length (same_opaque other text rest [] fo ft both).1

-- a text with nothing behind it
pub whole_text : (bytes text rest : List ℕ) → bytes ≡ opaque text ++ rest → length rest ≡ 0 → bytes ≡ opaque text
whole_text bytes text [] e z = e ∙ append-nil (opaque text)
whole_text bytes text (b ∷ rest) e z = absurd (omega (arith, z))

-- what follows for a call that went well
pub if_ok : {A E : Type 0} (r : Result A E) {P Q : A → Type 0} → IfOk r P → ((x : A) → P x → Q x) → IfOk r Q
if_ok (Ok x) h f = f x h
if_ok (Err e) h f = tt

module _ (host : Option (List ℕ)) (xid : ℕ) (reply bytes : List ℕ) (same : bytes ≡ reply) where
  -- a reply without a text is told as it is
  pub told_no_text : ((text : List ℕ) → length text < 2 ^ 32 → bytes ≡ address_reply xid text → ⊥)
      → Tells host xid (Some reply) (Some reply)
  told_no_text none = as_it_was (Some reply)
      (λ text few f. none text few (same ∙ same_Some reply (address_reply xid text) f))

  -- and one with a text with what is told for it
  pub told_text : (text new : List ℕ) → length text < 2 ^ 32 → bytes ≡ address_reply xid text
      → new ≡ address_reply xid (told host text) → Tells host xid (Some reply) (Some new)
  told_text text new few is e =
      subst (λ (x : List ℕ). Tells host xid (Some x) (Some new)) (sym is ∙ same)
      (subst (λ (x : List ℕ). Tells host xid (Some (address_reply xid text)) (Some x)) (sym e) (address text few))

high_fits : (port : ℕ) → port < 65536 → port / 256 < 1000
high_fits port h = let m : port < 256 * 256 = h in grind (arith, m)

octet_short : (n : ℕ) → n < 1000 → length (decimal n) ≤ 3
octet_short n h = length-decimal-le 3 n (omega arith) (omega (arith, h)) (omega (arith, h))

-- the text of an address is short
pub length-uaddr_text : (a b c d port : ℕ) → a < 256 → b < 256 → c < 256 → d < 256 → port < 65536
    → length (uaddr_text (record { host = a ∷ b ∷ c ∷ d ∷ []; port = port })) ≤ 23
length-uaddr_text a b c d port fa fb fc fd fp =
    let one = octet_short a (omega (arith, fa)) in
    let two = octet_short b (omega (arith, fb)) in
    let three = octet_short c (omega (arith, fc)) in
    let four = octet_short d (omega (arith, fd)) in
    let five = octet_short (port / 256) (high_fits port fp) in
    let lo : port % 256 < 256 = mod-lt port (omega arith) in
    let six = octet_short (port % 256) (omega (arith, lo)) in
    let e : length (uaddr_text (record { host = a ∷ b ∷ c ∷ d ∷ []; port = port }))
    ≡ length (decimal a) + 1 +
    (length (decimal b) + 1 +
    (length (decimal c) + 1 +
    (length (decimal d) + 1 + (length (decimal (port / 256)) + 1 + length (decimal (port % 256)))))) =
    simp length-append refl in
    omega (arith, e, one, two, three, four, five, six)
