-- What is read of a registry's results is what they tell.
use Rattle.std.proofs.Common.{◌≡◌, ℕ, ◌+◌, ◌*◌, ◌/◌, ◌%◌, ◌<◌, ◌^◌, List, ◌++◌, length, decimal, codes, sym, ap}
use Rattle.std.proofs.Common.{subst, ◌∙◌, arith, mod-lt, refl, Bool, true, false, ◌==◌, MatchBool}
use Rattle.std.proofs.Common.{Option, None, Some}
use Rattle.std.proofs.Math.Nat.{div-add-mod}
use Rattle.std.proofs.lemmas.Bool.Decides.{Decides-eqb}
use Rattle.std.specs.Net.Grammar.{IsIpv6Text}
use Rattle.std.specs.declared.net.ipv6_addr.Ipv6Addr.{Ipv6Addr}
use Rattle.xdr_units.specs.Numbers.{IsWord, padded, word}
use Rattle.oncrpc_call.specs.Ports.{IsUaddr6, IsUaddrOver, TellsAddress, TellsNumber}
use Rattle.oncrpc_call.specs.declared.transport.Transport.{Transport}

-- the octets of a number
port_halves : (high low : ℕ) → low < 256 → ((high * 256 + low) / 256 ≡ high) × ((high * 256 + low) % 256 ≡ low)
port_halves high low h =
    let n : 256 * ((high * 256 + low) / 256) + (high * 256 + low) % 256 ≡ high * 256 + low =
    div-add-mod (high * 256 + low) 256 in
    let m : (high * 256 + low) % 256 < 256 = mod-lt (high * 256 + low) (omega arith) in
    (omega (arith, n, m, h), omega (arith, n, m, h))

-- the number of the octets of a port
pub record Halves (port : ℕ) : Type 0 where
  pub high : port / 256 < 256
  pub low : port % 256 < 256
  pub joined : (port / 256) * 256 + port % 256 ≡ port

pub halves : (port : ℕ) → port < 2 ^ 16 → Halves port
halves port small =
    let n : 256 * (port / 256) + port % 256 ≡ port = div-add-mod port 256 in
    let m : port % 256 < 256 = mod-lt port (omega arith) in
    record { high = omega (arith, n, m, small); low = m; joined = omega (arith, n) }

-- a host and two octets are an address over IPv6
pub address6 : (text front host : List ℕ) (a : Ipv6Addr) (high low : ℕ) → high < 256 → low < 256
    → text ≡ front ++ codes "." ++ decimal low → front ≡ host ++ codes "." ++ decimal high → IsIpv6Text host a
    → IsUaddr6 text (high * 256 + low)
address6 text front host a high low h l behind before is =
    let own = port_halves high low l in
    record {
      host = a;
      written = host;
      spells = is;
      small = omega (arith, h, l);
      whole = behind ∙ ap (λ (f : List ℕ). f ++ codes "." ++ decimal low) before
          ∙ (λ j. host ++ codes "." ++ decimal (sym own.0 j) ++ codes "." ++ decimal (sym own.1 j));
    }

-- ---- an address over IPv6 that is not there, or is the one that was read

-- an octet behind the last dot of a text, by the text before it and its number
abbrev pub IsLast : (text front : List ℕ) → (n : ℕ) → Type 0
IsLast text front n = (f : List ℕ) (m : ℕ) → m < 256 → text ≡ f ++ codes "." ++ decimal m → (front ≡ f) × (n ≡ m)

-- no octet stands behind the last dot of a text
abbrev pub HasNoLast : (text : List ℕ) → Type 0
HasNoLast text = (f : List ℕ) (m : ℕ) → m < 256 → text ≡ f ++ codes "." ++ decimal m → ⊥

pub no_low : (text : List ℕ) → HasNoLast text → (port : ℕ) → IsUaddr6 text port → None ≡ Some port
no_low text never port u =
    let h = halves port u.small in
    absurd (never (u.written ++ codes "." ++ decimal (port / 256)) (port % 256) h.low u.whole)

pub no_high : (text front : List ℕ) (low : ℕ) → IsLast text front low → HasNoLast front → (port : ℕ)
    → IsUaddr6 text port → None ≡ Some port
no_high text front low last never port u =
    let h = halves port u.small in
    let own = last (u.written ++ codes "." ++ decimal (port / 256)) (port % 256) h.low u.whole in
    absurd (never u.written (port / 256) h.high own.0)

module _ (text front host : List ℕ) (high low : ℕ) (last : IsLast text front low) (first : IsLast front host high)
  where
    own_host : (port : ℕ) (u : IsUaddr6 text port)
        → (host ≡ u.written) × (high ≡ port / 256) × (low ≡ port % 256)
    own_host port u =
        let h = halves port u.small in
        let own = last (u.written ++ codes "." ++ decimal (port / 256)) (port % 256) h.low u.whole in
        let its = first u.written (port / 256) h.high own.0 in
        (its.0, its.1, own.1)

    pub no_host : ((a : Ipv6Addr) → IsIpv6Text host a → ⊥) → (port : ℕ) → IsUaddr6 text port → None ≡ Some port
    no_host never port u =
        absurd (never u.host (subst (λ (x : List ℕ). IsIpv6Text x u.host) (sym (own_host port u).0) u.spells))

    pub port_only : (port : ℕ) → IsUaddr6 text port → Some (high * 256 + low) ≡ Some port
    port_only port u =
        let own = own_host port u in
        let joined = (halves port u.small).joined in
        let same : high * 256 + low ≡ port =
        (λ j. own.1 j * 256 + own.2 j) ∙ joined in ap Some same

-- ---- the results of GETADDR and of GETPORT

pub address_told : (t : Transport) (results rest text more : List ℕ) (count port : ℕ) → results ≡ word count ++ rest
    → IsWord count → length text ≡ count → rest ≡ padded text ++ more → IsUaddrOver t text port
    → TellsAddress t results port
address_told t results rest text more count port begins fits counted behind is = record {
  text = text;
  more = more;
  short = subst (λ (n : ℕ). n < 2 ^ 32) (sym counted) fits;
  begins = begins ∙ (λ j. word (sym counted j) ++ behind j);
  address = is;
}

-- a word with which results begin, and none
abbrev pub IsWordOf : (results rest : List ℕ) → (n : ℕ) → Type 0
IsWordOf results rest n = (m : ℕ) (r : List ℕ) → m < 2 ^ 32 → results ≡ word m ++ r → (n ≡ m) × (rest ≡ r)

abbrev pub HasNoWord : (results : List ℕ) → Type 0
HasNoWord results = (m : ℕ) (r : List ℕ) → m < 2 ^ 32 → results ≡ word m ++ r → ⊥

pub no_count : (t : Transport) (results : List ℕ) → HasNoWord results → (port : ℕ) → TellsAddress t results port
    → None ≡ Some port
no_count t results never port a = absurd (never (length a.text) (padded a.text ++ a.more) a.short a.begins)

module _ (t : Transport) (results rest : List ℕ) (count : ℕ) (begins : IsWordOf results rest count) where
  pub no_text : ((content more : List ℕ) → length content ≡ count → rest ≡ padded content ++ more → ⊥) → (port : ℕ)
      → TellsAddress t results port → None ≡ Some port
  no_text never port a =
      let own = begins (length a.text) (padded a.text ++ a.more) a.short a.begins in
      absurd (never a.text a.more (sym own.0) own.1)

  pub text_only : (text more : List ℕ) (r : Option ℕ)
      → ((content x : List ℕ) → length content ≡ count → rest ≡ padded content ++ x → (text ≡ content) × (more ≡ x))
      → ((port : ℕ) → IsUaddrOver t text port → r ≡ Some port) → (port : ℕ) → TellsAddress t results port
      → r ≡ Some port
  text_only text more r content only port a =
      let own = begins (length a.text) (padded a.text ++ a.more) a.short a.begins in
      let its = content a.text a.more (sym own.0) own.1 in
      only port (subst (λ (x : List ℕ). IsUaddrOver t x port) (sym its.0) a.address)

pub no_number_told : (results : List ℕ) → HasNoWord results → (port : ℕ) → TellsNumber results port → None ≡ Some port
no_number_told results never port n =
    let small = n.small in absurd (never port n.more (omega (arith, small)) n.begins)

pub number_only : (results rest : List ℕ) (count : ℕ) → IsWordOf results rest count → (port : ℕ)
    → TellsNumber results port → Some count ≡ Some port
number_only results rest count begins port n =
    let small = n.small in ap Some (begins port n.more (omega (arith, small)) n.begins).0

pub number_large : (results rest : List ℕ) (count : ℕ) → IsWordOf results rest count → (count < 65536 → ⊥)
    → (port : ℕ) → TellsNumber results port → None ≡ Some port
number_large results rest count begins large port n =
    let small = n.small in
    let same : count ≡ port = (begins port n.more (omega (arith, small)) n.begins).0 in
    absurd (large (omega (arith, same, small)))

-- version 2 and the others
module _ (P Q : Type 0) (n : ℕ) where
  pub two : n ≡ 2 → P → MatchBool (n == 2) P Q
  two is p = subst (λ (k : ℕ). MatchBool (k == 2) P Q) (sym is) p

  pub of_two : n ≡ 2 → MatchBool (n == 2) P Q → P
  of_two is m = subst (λ (k : ℕ). MatchBool (k == 2) P Q) is m

  not_two : (n ≡ 2 → ⊥) → (n == 2) ≡ false
  not_two other = by (n == 2) refl
    where
      by : (b : Bool) → (n == 2) ≡ b → b ≡ false
      by false e = refl
      by true e = absurd (other ((Decides-eqb n 2).0 e))

  pub others : (n ≡ 2 → ⊥) → Q → MatchBool (n == 2) P Q
  others other q = subst (λ (b : Bool). MatchBool b P Q) (sym (not_two other)) q

  pub of_others : (n ≡ 2 → ⊥) → MatchBool (n == 2) P Q → Q
  of_others other m = subst (λ (b : Bool). MatchBool b P Q) (not_two other) m
