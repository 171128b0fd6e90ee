-- A text that is read is the text of its address.
use Rattle.std.specs.Option.{unwrap_or}
use Rattle.std.proofs.Common.{◌≡◌, ℕ, ◌+◌, ◌*◌, ◌/◌, ◌%◌, ◌<◌, Bool, true, false, ◌&&◌, cond, List, [], ◌∷◌, ◌++◌, refl}
use Rattle.std.proofs.Common.{ap, sym, ◌∙◌, Option, Some, None, is_some, map, nat_eq, nat_lt, decimal, codes, arith}
use Rattle.std.proofs.Common.{true≢false, mod-lt}
use Rattle.std.proofs.Math.Nat.{div-add-mod}
use Rattle.std.specs.List.{AllByRecursion}
use Rattle.std.specs.Str.{bytes_eq}
use Rattle.std.specs.Str.Parse.{digits_value}
use Rattle.std.proofs.lemmas.Slice.Eq.{bytes_eq-Decides}
use Rattle.std.proofs.lemmas.Bool.Decides.{Decides-eqb, Decides-ltb}
use Rattle.std.proofs.lemmas.Bool.{and_parts as and_both}
use Rattle.registry_uaddr.specs.declared.address.Uaddr.{Uaddr}
use Rattle.registry_uaddr.specs.Uaddrs.{uaddr_of, uaddr_text, uaddr_from, parts, onto_first, octet, dotted}

-- parts with dots between them
abbrev dots : List (List ℕ) → List ℕ
dots [] = []
dots (p ∷ []) = p
dots (p ∷ q ∷ ps) = p ++ codes "." ++ dots (q ∷ ps)

abbrev pub first : List (List ℕ) → Option (List ℕ)
first [] = None
first (p ∷ ps) = Some p

dots-onto : (b : ℕ) (ps : List (List ℕ)) → is_some (first ps) ≡ true → dots (onto_first b ps) ≡ b ∷ dots ps
dots-onto b [] e = absurd (true≢false (sym e))
dots-onto b (p ∷ []) e = refl
dots-onto b (p ∷ q ∷ ps) e = refl

pub some_part : (t : List ℕ) → is_some (first (parts t)) ≡ true
some_part [] = refl
some_part (b ∷ bs) = by (nat_eq b 46) (parts bs) (some_part bs)
  where
    by : (c : Bool) (ps : List (List ℕ)) → is_some (first ps) ≡ true
        → is_some (first (cond c ([] ∷ ps) (onto_first b ps))) ≡ true
    by true ps e = refl
    by false [] e = e
    by false (p ∷ ps) e = refl

dots-parts : (t : List ℕ) → dots (parts t) ≡ t
dots-parts [] = refl
dots-parts (b ∷ bs) = by (nat_eq b 46) refl (parts bs) (some_part bs) (dots-parts bs)
  where
    by : (c : Bool) → nat_eq b 46 ≡ c → (ps : List (List ℕ)) → is_some (first ps) ≡ true → dots ps ≡ bs
        → dots (cond c ([] ∷ ps) (onto_first b ps)) ≡ b ∷ bs
    by true e [] s d = absurd (true≢false (sym s))
    by true e (p ∷ ps) s d = (λ j. sym ((Decides-eqb b 46).0 e) j ∷ d j)
    by false e ps s d = dots-onto b ps s ∙ ap (λ r. b ∷ r) d

pub octet_is : (p : List ℕ) (n : ℕ) → octet p ≡ Some n → (p ≡ decimal n) × (n < 256)
octet_is p n = by (bytes_eq p (decimal (digits_value 10 p)) && nat_lt (digits_value 10 p) 256) refl
  where
    by : (c : Bool) → (bytes_eq p (decimal (digits_value 10 p)) && nat_lt (digits_value 10 p) 256) ≡ c
        → cond c (Some (digits_value 10 p)) None ≡ Some n → (p ≡ decimal n) × (n < 256)
    by false e f = absurd (true≢false (sym (ap is_some f)))
    by true e f =
        let w = and_both _ _ e in
        let v : digits_value 10 p ≡ n = ap (λ (o : Option ℕ). unwrap_or o 0) f in
        let lt : digits_value 10 p < 256 = (Decides-ltb _ 256).0 w.1 in
        ((bytes_eq-Decides p (decimal (digits_value 10 p))).0 w.0 ∙ ap decimal v, omega (arith, v, lt))

port_halves : (high low : ℕ) → low < 256 → ((high * 256 + low) / 256 ≡ high) × ((high * 256 + low) % 256 ≡ low)
port_halves high low h =
    let n : 256 * ((high * 256 + low) / 256) + (high * 256 + low) % 256 ≡ high * 256 + low =
    div-add-mod (high * 256 + low) 256 in
    let m : (high * 256 + low) % 256 < 256 = mod-lt (high * 256 + low) (omega arith) in
    (omega (arith, n, m, h), omega (arith, n, m, h))

pub record Six (os : List (Option ℕ)) (u : Uaddr) : Type 0 where
  pub a : ℕ
  pub b : ℕ
  pub c : ℕ
  pub d : ℕ
  pub high : ℕ
  pub low : ℕ
  pub numbers : os ≡ map Some (a ∷ b ∷ c ∷ d ∷ high ∷ low ∷ [])
  pub address : u ≡ record { host = a ∷ b ∷ c ∷ d ∷ []; port = high * 256 + low }

abbrev pub the : Uaddr → Option Uaddr → Uaddr
the d None = d
the d (Some u) = u

not_none : (u : Uaddr) → None ≡ Some u → ⊥
not_none u e = absurd (true≢false (sym (ap is_some e)))

six : (os : List (Option ℕ)) (u : Uaddr) → uaddr_from os ≡ Some u → Six os u
six [] u e = absurd (not_none u e)
six (None ∷ os) u e = absurd (not_none u e)
six (Some a ∷ []) u e = absurd (not_none u e)
six (Some a ∷ None ∷ os) u e = absurd (not_none u e)
six (Some a ∷ Some b ∷ []) u e = absurd (not_none u e)
six (Some a ∷ Some b ∷ None ∷ os) u e = absurd (not_none u e)
six (Some a ∷ Some b ∷ Some c ∷ []) u e = absurd (not_none u e)
six (Some a ∷ Some b ∷ Some c ∷ None ∷ os) u e = absurd (not_none u e)
six (Some a ∷ Some b ∷ Some c ∷ Some d ∷ []) u e = absurd (not_none u e)
six (Some a ∷ Some b ∷ Some c ∷ Some d ∷ None ∷ os) u e = absurd (not_none u e)
six (Some a ∷ Some b ∷ Some c ∷ Some d ∷ Some h ∷ []) u e = absurd (not_none u e)
six (Some a ∷ Some b ∷ Some c ∷ Some d ∷ Some h ∷ None ∷ os) u e = absurd (not_none u e)
six (Some a ∷ Some b ∷ Some c ∷ Some d ∷ Some h ∷ Some l ∷ []) u e =
    record { a = a; b = b; c = c; d = d; high = h; low = l; numbers = refl; address = sym (ap (the u) e) }
six (Some a ∷ Some b ∷ Some c ∷ Some d ∷ Some h ∷ Some l ∷ o ∷ os) u e = absurd (not_none u e)

abbrev head_or : Option ℕ → List (Option ℕ) → Option ℕ
head_or d [] = d
head_or d (o ∷ os) = o

abbrev pub rest : List (Option ℕ) → List (Option ℕ)
rest [] = []
rest (o ∷ os) = os

abbrev some : List (Option ℕ) → Bool
some [] = false
some (o ∷ os) = true

decimals : (ps : List (List ℕ)) (ns : List ℕ) → map octet ps ≡ map Some ns
    → (ps ≡ map decimal ns) × AllByRecursion (λ n. n < 256) ns
decimals [] [] e = (refl, tt)
decimals [] (n ∷ ns) e = absurd (true≢false (sym (ap some e)))
decimals (p ∷ ps) [] e = absurd (true≢false (ap some e))
decimals (p ∷ ps) (n ∷ ns) e =
    let o = octet_is p n (ap (head_or None) e) in
    let r = decimals ps ns (ap rest e) in
    ((λ j. o.0 j ∷ r.0 j), (o.1, r.1))

pub reads_only_texts : (t : List ℕ) (a : Uaddr) → uaddr_of t ≡ Some a → t ≡ uaddr_text a
reads_only_texts t a e =
    let s = six (map octet (parts t)) a e in
    let d = decimals (parts t) (s.a ∷ s.b ∷ s.c ∷ s.d ∷ s.high ∷ s.low ∷ []) s.numbers in
    let h = port_halves s.high s.low d.1.1.1.1.1.1.0 in
    sym (dots-parts t) ∙ ap dots d.0
    ∙ (λ j. dotted (s.a ∷ s.b ∷ s.c ∷ s.d ∷ sym h.0 j ∷ sym h.1 j ∷ []))
    ∙ sym (ap uaddr_text s.address)

-- The port of an address that is read has two octets.
pub port_small : (t : List ℕ) (a : Uaddr) → uaddr_of t ≡ Some a → a.port < 65536
port_small t a e =
    let s = six (map octet (parts t)) a e in
    let d = decimals (parts t) (s.a ∷ s.b ∷ s.c ∷ s.d ∷ s.high ∷ s.low ∷ []) s.numbers in
    let high : s.high < 256 = d.1.1.1.1.1.0 in
    let low : s.low < 256 = d.1.1.1.1.1.1.0 in
    let port : a.port ≡ s.high * 256 + s.low = ap (λ (u : Uaddr). u.port) s.address in
    omega (arith, high, low, port)
