-- Six numbers are taken one after another.
use Rattle.std.proofs.Common.{◌≡◌, ℕ, List, [], ◌∷◌, ◌++◌, Option, Some, None, refl, ap, sym, ◌∙◌, append_assoc, map}
use Rattle.std.proofs.Common.{true, is_some, true≢false, IfSome, IfNone}
use Rattle.xdr_units.specs.Texts.{HasNoDot}
use Rattle.registry_uaddr.specs.declared.address.Uaddr.{Uaddr}
use Rattle.registry_uaddr.specs.Uaddrs.{uaddr_from, uaddr_of, uaddr_text, IsUaddr, octet, octets, parts}
use Rattle.registry_uaddr.proofs.Inverse.{first, some_part, reads_only_texts, rest as behind}
use Rattle.registry_uaddr.proofs.Back.{parts_one, parts_more, reads_all_texts}

-- ---- one number

-- the numbers of a text begin with that before its first dot
octets_more : (text p rest : List ℕ) → HasNoDot p → text ≡ p ++ 46 ∷ rest → octets text ≡ octet p ∷ octets rest
octets_more text p rest h e =
    ap octets (e ∙ sym (append_assoc p (46 ∷ []) rest)) ∙ ap (map octet) (parts_more p rest h)

-- a text without a dot has one number
octets_one : (text : List ℕ) → HasNoDot text → octets text ≡ octet text ∷ []
octets_one text h = ap (map octet) (parts_one text h)

abbrev front : List (Option ℕ) → Option ℕ
front [] = None
front (o ∷ os) = o

none_some : (n : ℕ) → None ≡ Some n → ⊥
none_some n e = true≢false (sym (ap is_some e))

nil_cons : (o : Option ℕ) (os : List (Option ℕ)) → [] ≡ o ∷ os → ⊥
nil_cons o os e = cc

pub first_is : (text p rest : List ℕ) (n : ℕ) → HasNoDot p → text ≡ p ++ 46 ∷ rest → Some n ≡ octet p
    → octets text ≡ Some n ∷ octets rest
first_is text p rest n h e o = octets_more text p rest h e ∙ ap (λ (x : Option ℕ). x ∷ octets rest) (sym o)

pub first_is_none : (text p rest : List ℕ) → HasNoDot p → text ≡ p ++ 46 ∷ rest → None ≡ octet p
    → (n : ℕ) (os : List (Option ℕ)) → octets text ≡ Some n ∷ os → ⊥
first_is_none text p rest h e o n os same = none_some n (o ∙ ap front (sym (octets_more text p rest h e) ∙ same))

pub no_second : (text : List ℕ) → HasNoDot text → (o m : Option ℕ) (os : List (Option ℕ)) → octets text ≡ o ∷ m ∷ os → ⊥
no_second text h o m os same = nil_cons m os (ap behind (sym (octets_one text h) ∙ same))

pub only_is : (text : List ℕ) (n : ℕ) → HasNoDot text → Some n ≡ octet text → octets text ≡ Some n ∷ []
only_is text n h o = octets_one text h ∙ ap (λ (x : Option ℕ). x ∷ []) (sym o)

pub only_is_none : (text : List ℕ) → HasNoDot text → None ≡ octet text → (n : ℕ) → octets text ≡ Some n ∷ [] → ⊥
only_is_none text h o n same = none_some n (o ∙ ap front (sym (octets_one text h) ∙ same))

-- a text with a dot has two numbers or more
pub not_only : (text p rest : List ℕ) → HasNoDot p → text ≡ p ++ 46 ∷ rest → (n : ℕ) → octets text ≡ Some n ∷ [] → ⊥
not_only text p rest h e n same =
    by (parts rest) (some_part rest) (ap behind (sym (octets_more text p rest h e) ∙ same))
  where
    by : (ps : List (List ℕ)) → is_some (first ps) ≡ true → map octet ps ≡ [] → ⊥
    by [] s none = true≢false (sym s)
    by (q ∷ qs) s none = nil_cons (octet q) (map octet qs) (sym none)

-- ---- the last of six

-- no number stands alone
abbrev HasNoOnly : List (Option ℕ) → Type 0
HasNoOnly os = (n : ℕ) → os ≡ Some n ∷ [] → ⊥

no_sixth : (a b c d e : ℕ) (os : List (Option ℕ)) → HasNoOnly os
    → None ≡ uaddr_from (Some a ∷ Some b ∷ Some c ∷ Some d ∷ Some e ∷ os)
no_sixth a b c d e [] never = refl
no_sixth a b c d e (None ∷ os) never = refl
no_sixth a b c d e (Some n ∷ []) never = absurd (never n refl)
no_sixth a b c d e (Some n ∷ m ∷ os) never = refl

-- the same of texts, each the rest of the one before
pub no_last : (t t1 t2 t3 t4 t5 : List ℕ) (a b c d high : ℕ) → octets t ≡ Some a ∷ octets t1
    → octets t1 ≡ Some b ∷ octets t2
    → octets t2 ≡ Some c ∷ octets t3 → octets t3 ≡ Some d ∷ octets t4 → octets t4 ≡ Some high ∷ octets t5
    → HasNoOnly (octets t5) → None ≡ uaddr_of t
no_last t t1 t2 t3 t4 t5 a b c d high e e1 e2 e3 e4 never =
    let six : octets t ≡ Some a ∷ Some b ∷ Some c ∷ Some d ∷ Some high ∷ octets t5 = rw (e, e1, e2, e3, e4) refl in
    no_sixth a b c d high (octets t5) never ∙ sym (ap uaddr_from six)

-- ---- what is read

-- What is read is the text of its address.
pub some_read : (r : Option Uaddr) (text : List ℕ) → r ≡ uaddr_of text → IfSome r (λ a. text ≡ uaddr_text a)
some_read None text e = tt
some_read (Some a) text e = reads_only_texts text a (sym e)

-- What is not read is no address's text.
pub none_read : (r : Option Uaddr) (text : List ℕ) → r ≡ uaddr_of text
    → IfNone r ((a : Uaddr) → IsUaddr a → text ≡ uaddr_text a → ⊥)
none_read None text e = λ a own same. true≢false (sym (ap is_some (e ∙ ap uaddr_of same ∙ reads_all_texts a own)))
none_read (Some a) text e = tt
