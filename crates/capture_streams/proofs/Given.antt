-- The bytes that segments give, and streams of them.
use Rattle.std.proofs.Common.{◌≡◌, ℕ, ◌+◌, ◌^◌, ◌<◌, zero, suc, List, [], ◌∷◌, ◌++◌, length, map, take, drop}
use Rattle.std.proofs.Common.{get_or, Option, Some, None}
use Rattle.std.proofs.Common.{refl, sym, ap, subst, ◌∙◌, inl, inr, arith}
use Rattle.std.proofs.lemmas.List.{take-append-drop}
use Rattle.std.proofs.lemmas.List.Sorted.{Contains-permutation, IsPermutation-sym}
use Rattle.std.specs.List.{Contains}
use Rattle.std.specs.List.Sorted.{IsPermutation}
use Rattle.std.specs.Option.{option_or}
use Rattle.capture_streams.specs.Segments.{Arrival, byte_from, byte_of, given, IsRun}
use Rattle.capture_streams.specs.Laws.{IsOfFirst, FirstWins, BytesStay, FrontBegins, OneRun, HandedIsGiven}
use Rattle.capture_streams.specs.Laws.{HandedIsTheRun}
use Rattle.capture_streams.specs.Laws.{Gives, Agree, begin_of, laid, AnyOrder, AnyOrderHanded, AreCut, CutGivesLess}
use Rattle.capture_streams.specs.Laws.{CutBegins}
use Rattle.capture_streams.proofs.Bytes.{none_is_not, some_is_not, byte_from-append, option_or-assoc, option_or-none}
use Rattle.capture_streams.proofs.Bytes.{front_same}
use Rattle.capture_streams.proofs.Holding.{none_held, some_same}

pub given-append : (first : ℕ) (xs ys : List Arrival) (p : ℕ)
    → given first (xs ++ ys) p ≡ option_or (given first xs p) (given first ys p)
given-append first [] ys p = refl
given-append first (a ∷ xs) ys p =
    ap (option_or (byte_of first a p)) (given-append first xs ys p)
    ∙ sym (option_or-assoc (byte_of first a p) (given first xs p) (given first ys p))

-- one more segment
pub given-push : (first : ℕ) (xs : List Arrival) (a : Arrival) (p : ℕ)
    → given first (xs ++ a ∷ []) p ≡ option_or (given first xs p) (byte_of first a p)
given-push first xs a p =
    given-append first xs (a ∷ []) p ∙ ap (option_or (given first xs p)) (option_or-none (byte_of first a p))

pub bytes_stay : BytesStay
bytes_stay first arrivals later place b e =
    given-append first arrivals later place ∙ ap (λ (o : Option ℕ). option_or o (given first later place)) e

-- ---- the first one wins

of_first : (first : ℕ) (arrivals : List Arrival) (p b : ℕ) → given first arrivals p ≡ Some b
    → IsOfFirst first arrivals p b
of_first first [] p b e = none_is_not e
of_first first (a ∷ arrivals) p b e =
    let cases : (o : Option ℕ) → byte_of first a p ≡ o → IsOfFirst first (a ∷ arrivals) p b = λ o. elim o as
    (λ (o : Option ℕ). byte_of first a p ≡ o → IsOfFirst first (a ∷ arrivals) p b) [
      | None ↦ λ none.
          let rest : given first arrivals p ≡ Some b =
          sym (ap (λ (o : Option ℕ). option_or o (given first arrivals p)) none) ∙ e in
          let r = of_first first arrivals p b rest in
          record {
            before = a ∷ r.before;
            winner = r.winner;
            later = r.later;
            order = ap (λ (xs : List Arrival). a ∷ xs) r.order;
            none = ap (λ (o : Option ℕ). option_or o (given first r.before p)) none ∙ r.none;
            byte = r.byte;
          }
      | Some c ↦ λ some.
          let whole : Some c ≡ Some b =
          sym (ap (λ (o : Option ℕ). option_or o (given first arrivals p)) some) ∙ e in
          record { before = []; winner = a; later = arrivals; order = refl; none = refl; byte = some ∙ whole }
    ] in
    cases (byte_of first a p) refl

from_first : (first : ℕ) (arrivals : List Arrival) (p b : ℕ) → IsOfFirst first arrivals p b
    → given first arrivals p ≡ Some b
from_first first arrivals p b r =
    ap (λ (xs : List Arrival). given first xs p) r.order
    ∙ given-append first r.before (r.winner ∷ r.later) p
    ∙ ap (λ (o : Option ℕ). option_or o (given first (r.winner ∷ r.later) p)) r.none
    ∙ ap (λ (o : Option ℕ). option_or o (given first r.later p)) r.byte

pub first_wins : FirstWins
first_wins first arrivals place b = (of_first first arrivals place b, from_first first arrivals place b)

-- ---- one stream

later_run : (g : ℕ → Option ℕ) (from y : ℕ) (ys : List ℕ) → IsRun g from (y ∷ ys) → IsRun g (from + 1) ys
later_run g from y ys r =
    let e : from + suc (length ys) ≡ (from + 1) + length ys = omega arith in
    record { front = r.front.1; ends = ap g (sym e) ∙ r.ends }

pub front_begins : FrontBegins
front_begins g from [] ys f r = (ys, refl)
front_begins g from (x ∷ xs) [] f r =
    let e : from ≡ from + 0 = omega arith in
    some_is_not (sym f.0 ∙ ap g e ∙ r.ends)
front_begins g from (x ∷ xs) (y ∷ ys) f r =
    let same : y ≡ x = some_same (sym r.front.0 ∙ f.0) in
    let rest = front_begins g (from + 1) xs ys f.1 (later_run g from y ys r) in
    (rest.0, ap (λ (z : ℕ). z ∷ ys) same ∙ ap (λ (zs : List ℕ). x ∷ zs) rest.1)

pub one_run : OneRun
one_run g from [] [] r s = refl
one_run g from [] (y ∷ ys) r s =
    let e : from ≡ from + 0 = omega arith in
    some_is_not (sym s.front.0 ∙ ap g e ∙ r.ends)
one_run g from (x ∷ xs) [] r s =
    let e : from ≡ from + 0 = omega arith in
    some_is_not (sym r.front.0 ∙ ap g e ∙ s.ends)
one_run g from (x ∷ xs) (y ∷ ys) r s =
    let same : x ≡ y = some_same (sym r.front.0 ∙ s.front.0) in
    ap (λ (z : ℕ). z ∷ xs) same
    ∙ ap (λ (zs : List ℕ). y ∷ zs) (one_run g (from + 1) xs ys (later_run g from x xs r) (later_run g from y ys s))

pub handed_is_given : HandedIsGiven
handed_is_given d arrivals base handed s = s.front

pub handed_is_the_run : HandedIsTheRun
handed_is_the_run d arrivals base handed s hole =
    let none = none_held d.pieces.by_last d.due (given d.first arrivals d.due) (s.held d.due (omega arith)) hole in
    record { front = s.front; ends = ap (given d.first arrivals) (sym s.due) ∙ none }

-- ---- any order

gives_from : (first : ℕ) (arrivals : List Arrival) (p b : ℕ) → given first arrivals p ≡ Some b
    → Gives first arrivals p b
gives_from first [] p b e = none_is_not e
gives_from first (a ∷ arrivals) p b e =
    let cases : (o : Option ℕ) → byte_of first a p ≡ o → Gives first (a ∷ arrivals) p b = λ o. elim o as
    (λ (o : Option ℕ). byte_of first a p ≡ o → Gives first (a ∷ arrivals) p b) [
      | None ↦ λ none. inr (gives_from first arrivals p b
          (sym (ap (λ (o : Option ℕ). option_or o (given first arrivals p)) none) ∙ e))
      | Some c ↦ λ some.
          let whole : Some c ≡ Some b =
          sym (ap (λ (o : Option ℕ). option_or o (given first arrivals p)) some) ∙ e in
          inl (some ∙ whole)
    ] in
    cases (byte_of first a p) refl

has_given : (first : ℕ) (arrivals : List Arrival) (p b : ℕ) → Gives first arrivals p b
    → (c : ℕ) × (given first arrivals p ≡ Some c)
has_given first [] p b g = absurd g
has_given first (a ∷ arrivals) p b (inl e) =
    (b, ap (λ (o : Option ℕ). option_or o (given first arrivals p)) e)
has_given first (a ∷ arrivals) p b (inr g) =
    let r = has_given first arrivals p b g in
    let cases : (o : Option ℕ) → (c : ℕ) × (option_or o (given first arrivals p) ≡ Some c) = λ o. elim o as
    (λ (o : Option ℕ). (c : ℕ) × (option_or o (given first arrivals p) ≡ Some c)) [
      | None ↦ r
      | Some c ↦ (c, refl)
    ] in
    cases (byte_of first a p)

agreed : (first : ℕ) (arrivals : List Arrival) (p b : ℕ) → Agree first arrivals → Gives first arrivals p b
    → given first arrivals p ≡ Some b
agreed first arrivals p b agree g =
    let r = has_given first arrivals p b g in
    r.1 ∙ ap (λ (c : ℕ). Some c) (agree p r.0 b (gives_from first arrivals p r.0 r.1) g)

-- the byte of one laid segment
abbrev pub LaidByte : ℕ × List ℕ → (p b : ℕ) → Type 0
LaidByte q p b = byte_from q.0 q.1 (p + 2 ^ 31) ≡ Some b

laid_from : (first : ℕ) (arrivals : List Arrival) (p b : ℕ) → Gives first arrivals p b
    → (q : ℕ × List ℕ) × (Contains (map (laid first) arrivals) q × LaidByte q p b)
laid_from first [] p b g = absurd g
laid_from first (a ∷ arrivals) p b (inl e) = (laid first a, ((0, omega arith, refl), e))
laid_from first (a ∷ arrivals) p b (inr g) =
    let r = laid_from first arrivals p b g in
    let c = r.1.0 in
    (r.0, ((suc c.0, omega arith, c.2), r.1.1))

gives_at : (first : ℕ) (arrivals : List Arrival) (q : ℕ × List ℕ) (p b k : ℕ)
    → k < length (map (laid first) arrivals) → get_or (map (laid first) arrivals) k q ≡ q → LaidByte q p b
    → Gives first arrivals p b
gives_at first [] q p b k less e h = absurd (omega arith)
gives_at first (a ∷ arrivals) q p b zero less e h =
    inl (subst (λ (x : ℕ × List ℕ). LaidByte x p b) (sym e) h)
gives_at first (a ∷ arrivals) q p b (suc k) less e h =
    inr (gives_at first arrivals q p b k (omega arith) e h)

gives_laid : (first : ℕ) (arrivals : List Arrival) (q : ℕ × List ℕ) (p b : ℕ)
    → Contains (map (laid first) arrivals) q → LaidByte q p b → Gives first arrivals p b
gives_laid first arrivals q p b c h = gives_at first arrivals q p b c.0 c.1 c.2 h

moved : (first : ℕ) (arrivals others : List Arrival)
    → IsPermutation (map (laid first) arrivals) (map (laid first) others) → (p b : ℕ) → Gives first arrivals p b
    → Gives first others p b
moved first arrivals others perm p b g =
    let r = laid_from first arrivals p b g in
    gives_laid first others r.0 p b
    (Contains-permutation (map (laid first) arrivals) (map (laid first) others) r.0 perm r.1.0) r.1.1

same_options : (x y : Option ℕ) → ((b : ℕ) → x ≡ Some b → y ≡ Some b) → ((b : ℕ) → y ≡ Some b → x ≡ Some b) → x ≡ y
same_options None None f g = refl
same_options None (Some b) f g = g b refl
same_options (Some b) y f g = sym (f b refl)

pub orders : AnyOrder
orders first arrivals others agree perm p =
    let back = IsPermutation-sym (map (laid first) arrivals) (map (laid first) others) perm in
    let also : Agree first others = λ p b c x y.
    agree p b c (moved first others arrivals back p b x) (moved first others arrivals back p c y) in
    same_options (given first arrivals p) (given first others p)
    (λ b e. agreed first others p b also (moved first arrivals others perm p b (gives_from first arrivals p b e)))
    (λ b e. agreed first arrivals p b agree (moved first others arrivals back p b (gives_from first others p b e)))

same_run : (g h : ℕ → Option ℕ) (from : ℕ) (xs : List ℕ) → ((p : ℕ) → g p ≡ h p) → IsRun g from xs → IsRun h from xs
same_run g h from xs same r = record {
  front = front_same g h from xs (λ p b low high e. sym (same p) ∙ e) r.front;
  ends = sym (same (from + length xs)) ∙ r.ends;
}

pub orders_handed : AnyOrderHanded
orders_handed d e arrivals others handed given_on first s hole t end agree perm =
    let run = handed_is_the_run d arrivals 0 handed s hole in
    let moved : IsRun (given d.first others) 0 handed =
    same_run (given d.first arrivals) (given d.first others) 0 handed (orders d.first arrivals others agree perm) run in
    let other : IsRun (given d.first others) 0 given_on =
    subst (λ (f : ℕ). IsRun (given f others) 0 given_on) (sym first) (handed_is_the_run e others 0 given_on t end) in
    one_run (given d.first others) 0 handed given_on moved other

-- ---- what was refused

pub byte_from-take : (at n : ℕ) (bs : List ℕ) (p b : ℕ) → byte_from at (take n bs) p ≡ Some b
    → byte_from at bs p ≡ Some b
byte_from-take at n bs p b e =
    ap (λ (xs : List ℕ). byte_from at xs p) (sym (take-append-drop n bs))
    ∙ byte_from-append at (take n bs) (drop n bs) p
    ∙ ap (λ (o : Option ℕ). option_or o (byte_from (at + length (take n bs)) (drop n bs) p)) e

cut_byte : (first : ℕ) (a c : Arrival) (n p b : ℕ) → a.due ≡ c.due → a.segment.sequence ≡ c.segment.sequence
    → a.segment.bytes ≡ take n c.segment.bytes → byte_of first a p ≡ Some b → byte_of first c p ≡ Some b
cut_byte first a c n p b due sequence bytes e =
    let begins : begin_of first a.due a.segment.sequence ≡ begin_of first c.due c.segment.sequence =
    ap (λ (d : ℕ). begin_of first d a.segment.sequence) due ∙ ap (begin_of first c.due) sequence in
    byte_from-take (begin_of first c.due c.segment.sequence) n c.segment.bytes (p + 2 ^ 31) b
    (ap (λ (xs : List ℕ). byte_from (begin_of first c.due c.segment.sequence) xs (p + 2 ^ 31)) (sym bytes)
    ∙ ap (λ (at : ℕ). byte_from at a.segment.bytes (p + 2 ^ 31)) (sym begins) ∙ e)

cut_gives : (first : ℕ) (taken all : List Arrival) → AreCut taken all → (p b : ℕ) → Gives first taken p b
    → Gives first all p b
cut_gives first [] all cut p b g = absurd g
cut_gives first (a ∷ taken) [] cut p b g = absurd cut
cut_gives first (a ∷ taken) (c ∷ all) cut p b (inl e) =
    inl (cut_byte first a c cut.2.0 p b cut.0 cut.1 cut.2.1 e)
cut_gives first (a ∷ taken) (c ∷ all) cut p b (inr g) = inr (cut_gives first taken all cut.3 p b g)

pub cut_less : CutGivesLess
cut_less first taken all agree cut p b e =
    agreed first all p b agree (cut_gives first taken all cut p b (gives_from first taken p b e))

pub cut_begins : CutBegins
cut_begins d taken all base handed s agree cut =
    front_same (given d.first taken) (given d.first all) base handed
    (λ p b low high e. cut_less d.first taken all agree cut p b e) s.front
