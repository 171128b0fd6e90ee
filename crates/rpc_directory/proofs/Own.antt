-- The registry's own rows are set one after another.
use Rattle.std.proofs.Common.{◌≡◌, ℕ, ◌<◌, ◌≤◌, ◌/◌, ◌%◌, Bool, true, false, List, [], ◌∷◌, ◌++◌, refl, ap, ◌∙◌, length}
use Rattle.std.proofs.Common.{nat_eq, nat_le, decimal, arith, ◌+◌, ◌*◌, mod-lt}
use Rattle.std.proofs.lemmas.Bool.Decides.{Decides-eqb}
use Rattle.std.proofs.lemmas.List.{length-append}
use Rattle.std.proofs.lemmas.Fmt.{length-decimal-le, decimal_nonempty}
use Rattle.registry_rows.specs.Rows.{Row}
use Rattle.registry_rows.specs.Steps.{Step, set, is_empty}
use Rattle.registry_rows.specs.Ports.{at_port, tcp, udp}
use Rattle.rpc_directory.specs.Private.Own.{own_row, set_both}

pub is_empty-not : (xs : List ℕ) → 0 < length xs → is_empty xs ≡ false
is_empty-not xs h = by (nat_eq (length xs) 0) refl
  where
    by : (b : Bool) → nat_eq (length xs) 0 ≡ b → b ≡ false
    by false e = refl
    by true e = let z : length xs ≡ 0 = (Decides-eqb (length xs) 0).0 e in absurd (omega (arith, h, z))

module _ (address : List ℕ) (some : is_empty address ≡ false) (fits : nat_le (length address) 256 ≡ true) where
  abbrev pub over_tcp : ℕ → Row
  over_tcp vers = own_row vers tcp address

  abbrev pub over_udp : ℕ → Row
  over_udp vers = own_row vers udp address

  -- both rows of a version
  abbrev pub own : ℕ → List Row
  own vers = over_tcp vers ∷ over_udp vers ∷ []

  first : set [] (over_tcp 2) ≡ (over_tcp 2 ∷ [], true)
  first = rw some (rw fits refl)

  second : set (over_tcp 2 ∷ []) (over_udp 2) ≡ (over_tcp 2 ∷ over_udp 2 ∷ [], true)
  second = rw some (rw fits refl)

  third : set (over_tcp 2 ∷ over_udp 2 ∷ []) (over_tcp 3)
      ≡ (over_tcp 2 ∷ over_udp 2 ∷ over_tcp 3 ∷ [], true)
  third = rw some (rw fits refl)

  fourth : set (over_tcp 2 ∷ over_udp 2 ∷ over_tcp 3 ∷ []) (over_udp 3)
      ≡ (over_tcp 2 ∷ over_udp 2 ∷ over_tcp 3 ∷ over_udp 3 ∷ [], true)
  fourth = rw some (rw fits refl)

  fifth : set (over_tcp 2 ∷ over_udp 2 ∷ over_tcp 3 ∷ over_udp 3 ∷ []) (over_tcp 4)
      ≡ (over_tcp 2 ∷ over_udp 2 ∷ over_tcp 3 ∷ over_udp 3 ∷ over_tcp 4 ∷ [], true)
  fifth = rw some (rw fits refl)

  sixth : set (over_tcp 2 ∷ over_udp 2 ∷ over_tcp 3 ∷ over_udp 3 ∷ over_tcp 4 ∷ []) (over_udp 4)
      ≡ (over_tcp 2 ∷ over_udp 2 ∷ over_tcp 3 ∷ over_udp 3 ∷ over_tcp 4 ∷ over_udp 4 ∷ [], true)
  sixth = rw some (rw fits refl)

  first_own : set_both [] 2 address ≡ own 2
  first_own = ap (λ (s : Step). (set s.0 (over_udp 2)).0) first ∙ ap (λ (s : Step). s.0) second

  second_own : set_both (own 2) 3 address ≡ own 2 ++ own 3
  second_own = ap (λ (s : Step). (set s.0 (over_udp 3)).0) third ∙ ap (λ (s : Step). s.0) fourth

  third_own : set_both (own 2 ++ own 3) 4 address ≡ own 2 ++ own 3 ++ own 4
  third_own = ap (λ (s : Step). (set s.0 (over_udp 4)).0) fifth ∙ ap (λ (s : Step). s.0) sixth

  pub own_set : (a b c d : List Row) → a ≡ [] → b ≡ set_both a 2 address → c ≡ set_both b 3 address
      → d ≡ set_both c 4 address → d ≡ own 2 ++ own 3 ++ own 4
  own_set a b c d e f g h =
      let one : b ≡ own 2 = f ∙ ap (λ (r : List Row). set_both r 2 address) e ∙ first_own in
      let two : c ≡ own 2 ++ own 3 = g ∙ ap (λ (r : List Row). set_both r 3 address) one ∙ second_own in
      h ∙ ap (λ (r : List Row). set_both r 4 address) two ∙ third_own

high_fits : (port : ℕ) → port < 65536 → port / 256 < 1000
high_fits port h = let m : port < 256 * 256 = h in grind (arith, m)

pub length-at_port : (port : ℕ) → port < 65536 → (0 < length (at_port port)) × (length (at_port port) ≤ 256)
length-at_port port h =
    let z : length (decimal 0) ≤ 1 = length-decimal-le 1 0 (omega arith) (omega arith) (omega arith) in
    let y : 0 < length (decimal 0) = decimal_nonempty 0 (omega arith) in
    let hi : port / 256 < 1000 = high_fits port h in
    let a : length (decimal (port / 256)) ≤ 3 =
    length-decimal-le 3 (port / 256) (omega arith) (omega (arith, hi)) (omega (arith, hi)) in
    let lo : port % 256 < 256 = mod-lt port (omega arith) in
    let b : length (decimal (port % 256)) ≤ 3 =
    length-decimal-le 3 (port % 256) (omega arith) (omega (arith, lo)) (omega (arith, lo)) in
    let e : length (at_port port)
    ≡ length (decimal 0) + 1 +
    (length (decimal 0) + 1 +
    (length (decimal 0) + 1 +
    (length (decimal 0) + 1 + (length (decimal (port / 256)) + 1 + length (decimal (port % 256)))))) =
    simp length-append refl in
    (omega (arith, e, y), omega (arith, e, z, a, b))
