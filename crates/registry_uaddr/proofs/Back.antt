-- The text of an address is read as it.
use Rattle.std.proofs.Common.{◌≡◌, ℕ, ◌+◌, ◌*◌, ◌/◌, ◌%◌, ◌<◌, ◌^◌, true, ◌&&◌, cond, List, [], ◌∷◌, ◌++◌, refl, ap}
use Rattle.std.proofs.Common.{◌∙◌, Some, None, map, nat_lt, decimal, arith, length, if◌then◌else◌, mod-lt}
use Rattle.std.specs.List.{All}
use Rattle.std.specs.Str.{bytes_eq}
use Rattle.std.specs.Str.Parse.{digits_value}
use Rattle.std.proofs.Math.Nat.{div-add-mod}
use Rattle.std.proofs.lemmas.Slice.Eq.{bytes_eq-Decides}
use Rattle.std.proofs.lemmas.Bool.Decides.{Decides-ltb}
use Rattle.std.proofs.lemmas.Fmt.{decimal_is_IsNumeral}
use Rattle.xdr_units.specs.Texts.{HasNoDot}
use Rattle.xdr_units.proofs.Cutting.{no_dot_decimal}
use Rattle.registry_uaddr.specs.declared.address.Uaddr.{Uaddr}
use Rattle.registry_uaddr.specs.Uaddrs.{uaddr_of, uaddr_text, uaddr_from, parts, onto_first, octet, dotted, IsUaddr}

pub parts_one : (p : List ℕ) → HasNoDot p → parts p ≡ p ∷ []
parts_one [] h = refl
parts_one (b ∷ bs) h = (λ j. cond (h.0 j) ([] ∷ parts bs) (onto_first b (parts bs)))
    ∙ ap (onto_first b) (parts_one bs h.1)

pub parts_more : (p r : List ℕ) → HasNoDot p → parts ((p ++ 46 ∷ []) ++ r) ≡ p ∷ parts r
parts_more [] r h = refl
parts_more (b ∷ bs) r h =
    (λ j. cond (h.0 j) ([] ∷ parts ((bs ++ 46 ∷ []) ++ r)) (onto_first b (parts ((bs ++ 46 ∷ []) ++ r))))
    ∙ ap (onto_first b) (parts_more bs r h.1)

pub octet_decimal : (n : ℕ) → n < 256 → octet (decimal n) ≡ Some n
octet_decimal n h =
    let small : n < 2 ^ 64 = omega (arith, h) in
    let v : digits_value 10 (decimal n) ≡ n = (decimal_is_IsNumeral n small).1 in
    let s : bytes_eq (decimal n) (decimal n) ≡ true = (bytes_eq-Decides (decimal n) (decimal n)).1 refl in
    let l : nat_lt n 256 ≡ true = (Decides-ltb n 256).1 h in
    (λ j. if bytes_eq (decimal n) (decimal (v j)) && nat_lt (v j) 256 then Some (v j) else None)
    ∙ (λ j. if s j && l j then Some n else None)

read_six : (a b c d x y : ℕ) → a < 256 → b < 256 → c < 256 → d < 256 → x < 256 → y < 256
    → uaddr_of (dotted (a ∷ b ∷ c ∷ d ∷ x ∷ y ∷ [])) ≡ Some (record { host = a ∷ b ∷ c ∷ d ∷ []; port = x * 256 + y })
read_six a b c d x y ha hb hc hd hx hy =
    ap (λ ps. uaddr_from (map octet ps)) split
    ∙ (λ j. uaddr_from (octet_decimal a ha j ∷ octet_decimal b hb j ∷ octet_decimal c hc j ∷ octet_decimal d hd j
    ∷ octet_decimal x hx j ∷ octet_decimal y hy j ∷ []))
  where
    no : (n : ℕ) → n < 256 → HasNoDot (decimal n)
    no n h = no_dot_decimal n (omega (arith, h))

    split : parts (dotted (a ∷ b ∷ c ∷ d ∷ x ∷ y ∷ [])) ≡ decimal a ∷ decimal b ∷ decimal c ∷ decimal d ∷ decimal x
        ∷ decimal y ∷ []
    split =
        parts_more (decimal a) (dotted (b ∷ c ∷ d ∷ x ∷ y ∷ [])) (no a ha)
        ∙ ap (λ ps. decimal a ∷ ps) (parts_more (decimal b) (dotted (c ∷ d ∷ x ∷ y ∷ [])) (no b hb)
        ∙ ap (λ ps. decimal b ∷ ps) (parts_more (decimal c) (dotted (d ∷ x ∷ y ∷ [])) (no c hc)
        ∙ ap (λ ps. decimal c ∷ ps) (parts_more (decimal d) (dotted (x ∷ y ∷ [])) (no d hd)
        ∙ ap (λ ps. decimal d ∷ ps) (parts_more (decimal x) (dotted (y ∷ [])) (no x hx)
        ∙ ap (λ ps. decimal x ∷ ps) (parts_one (decimal y) (no y hy))))))

pub reads_all_texts : (a : Uaddr) → IsUaddr a → uaddr_of (uaddr_text a) ≡ Some a
reads_all_texts a h = by a.host a.port h.four h.octets h.port
  where
    by : (host : List ℕ) (port : ℕ) → length host ≡ 4 → All (λ n. n < 256) host → port < 65536
        → uaddr_of (uaddr_text (record { host = host; port = port })) ≡ Some (record { host = host; port = port })
    by (x ∷ y ∷ z ∷ w ∷ []) port e o p =
        let n : 256 * (port / 256) + port % 256 ≡ port = div-add-mod port 256 in
        let m : port % 256 < 256 = mod-lt port (omega arith) in
        let hi : port / 256 < 256 = omega (arith, n, m, p) in
        read_six x y z w (port / 256) (port % 256) (o 0 0 (omega arith)) (o 1 0 (omega arith)) (o 2 0 (omega arith))
        (o 3 0 (omega arith)) hi m
        ∙ ap (λ (q : ℕ). Some (record { host = x ∷ y ∷ z ∷ w ∷ []; port = q })) (omega (arith, n))
    by [] port e o p = absurd (omega (arith, e))
    by (x ∷ []) port e o p = absurd (omega (arith, e))
    by (x ∷ y ∷ []) port e o p = absurd (omega (arith, e))
    by (x ∷ y ∷ z ∷ []) port e o p = absurd (omega (arith, e))
    by (x ∷ y ∷ z ∷ w ∷ v ∷ vs) port e o p = absurd (omega (arith, e))
