-- Datagrams one behind the other in a slice, and what calls do one after another.
use Rattle.std.proofs.Common.{◌≡◌, ℕ, ◌+◌, ◌<◌, ◌≤◌, List, [], ◌∷◌, ◌++◌, length, take, drop, map, set, sum}
use Rattle.std.proofs.Common.{refl, sym, ap}
use Rattle.std.proofs.Common.{◌∙◌, append_assoc, arith, min, suc, get_or, drop-cons, Some, None}
use Rattle.std.specs.Borrow.{Bor}
use Rattle.std.proofs.lemmas.List.{take_at, take-take, take-append-le, drop-append-le, drop-take}
use Rattle.std.proofs.lemmas.List.{length-drop, take_more_set, take_min}
use Rattle.std.proofs.lemmas.List.{append-nil, length-take-le}
use Rattle.std.proofs.lemmas.List.Sums.{sum_by-cons}
use Rattle.std.specs.List.{concat}
use Rattle.xdr_io.proofs.Chained.{take-add}
use Rattle.rpc_engine.specs.Ports.{Reported, Receives, Sends, pieces, received_from, most_received}

-- ---- one call after another

pub Receives-trans : (a b c : Reported) (ds es fs : List (List ℕ)) → ds ++ es ≡ fs → Receives a b ds → Receives b c es
    → Receives a c fs
Receives-trans None b c ds es fs e p q = tt
Receives-trans (Some x) None c ds es fs e p q = absurd p
Receives-trans (Some x) (Some y) None ds es fs e p q = absurd q
Receives-trans (Some x) (Some y) (Some z) ds es fs e p q = rw (p, q, ← append_assoc ds es z, e) refl

pub Receives-none : (a : Reported) → Receives a a []
Receives-none None = tt
Receives-none (Some x) = refl

pub Sends-trans : (a b c : Reported) (ds es fs : List (List ℕ)) → ds ++ es ≡ fs → Sends a b ds → Sends b c es
    → Sends a c fs
Sends-trans None b c ds es fs e p q = tt
Sends-trans (Some x) None c ds es fs e p q = absurd p
Sends-trans (Some x) (Some y) None ds es fs e p q = absurd q
Sends-trans (Some x) (Some y) (Some z) ds es fs e p q = rw (q, p, append_assoc x ds es, e) refl

pub Sends-none : (a : Reported) → Sends a a []
Sends-none None = tt
Sends-none (Some x) = sym (append-nil x)

-- ---- a port over lent memory

sum_more : (n : ℕ) (ns : List ℕ) → sum (n ∷ ns) ≡ n + sum ns
sum_more n ns = sum_by-cons (λ x. x) n ns

pub pieces_joined : (ns bytes : List ℕ) → concat (pieces ns bytes) ≡ take (sum ns) bytes
pieces_joined [] bytes = refl
pieces_joined (n ∷ ns) bytes =
    ap (λ k. take n bytes ++ k) (pieces_joined ns (drop n bytes)) ∙ take-add n (sum ns) bytes
    ∙ ap (λ k. take k bytes) (sym (sum_more n ns))

pub pieces_sizes : (ns bytes : List ℕ) → sum ns ≤ length bytes → map length (pieces ns bytes) ≡ ns
pieces_sizes [] bytes h = refl
pieces_sizes (n ∷ ns) bytes h =
    let few : n + sum ns ≤ length bytes = omega (arith, h, sum_more n ns) in
    ap (λ k. k ∷ map length (pieces ns (drop n bytes))) (length-take-le n bytes (omega (arith, few)))
    ∙ ap (λ k. n ∷ k) (pieces_sizes ns (drop n bytes) (omega (arith, few, length-drop n bytes)))

-- one more piece behind the others
pub pieces_more : (ns bytes d rest : List ℕ) → sum ns ≤ length bytes
    → pieces (ns ++ length d ∷ []) (take (sum ns) bytes ++ (d ++ rest)) ≡ pieces ns bytes ++ d ∷ []
pieces_more [] bytes d rest h = ap (λ k. k ∷ []) (take_at d rest (length d) refl)
pieces_more (n ∷ ns) bytes d rest h =
    let few : n + sum ns ≤ length bytes = omega (arith, h, sum_more n ns) in
    let front = take (n + sum ns) bytes in
    let long : n ≤ length front = omega (arith, few, length-take-le (n + sum ns) bytes few) in
    ap (λ k. pieces (n ∷ (ns ++ length d ∷ [])) (take k bytes ++ (d ++ rest))) (sum_more n ns)
    ∙ ap (λ k. k ∷ pieces (ns ++ length d ∷ []) (drop n (front ++ (d ++ rest))))
    (take-append-le n front (d ++ rest) long ∙ take-take n (n + sum ns) bytes (omega arith))
    ∙ ap (λ k. take n bytes ∷ pieces (ns ++ length d ∷ []) k)
    (drop-append-le n front (d ++ rest) long ∙ ap (λ k. k ++ (d ++ rest)) (drop-take n (sum ns) bytes))
    ∙ ap (λ k. take n bytes ∷ k)
    (pieces_more ns (drop n bytes) d rest (omega (arith, few, length-drop n bytes)))

-- a datagram is kept behind the others, and its size behind theirs
pub retained_more : (count : ℕ) (sizes buffer d rest : List ℕ) (used : ℕ) → sum (take count sizes) ≡ used
    → used ≤ length buffer → count < length sizes
    → pieces (take (count + 1) (set sizes count (length d))) (take used buffer ++ (d ++ rest))
    ≡ pieces (take count sizes) buffer ++ d ∷ []
retained_more count sizes buffer d rest used e h few =
    ap (λ k. pieces k (take used buffer ++ (d ++ rest))) (take_more_set sizes count (length d) few)
    ∙ ap (λ k. pieces (take count sizes ++ length d ∷ []) (take k buffer ++ (d ++ rest))) (sym e)
    ∙ pieces_more (take count sizes) buffer d rest (omega (arith, e, h))

-- the next lent datagram is at the front of the array
pub next_received : (waiting : List (Bor (List ℕ))) (next n : ℕ) (none : Bor (List ℕ)) (copied rest : List ℕ)
    → next < length waiting → n ≡ min (length (get_or waiting next none).now) 65536
    → copied ≡ take n (get_or waiting next none).now
    → received_from next waiting ≡ take n (copied ++ rest) ∷ received_from (next + 1) waiting
next_received waiting next n none copied rest h e c =
    let d = (get_or waiting next none).now in
    let few : n ≤ length d = omega (arith, e) in
    let same : n ≡ min most_received (length d) = omega (arith, e) in
    let long : length copied ≡ n = ap length c ∙ length-take-le n d few in
    let head : take most_received d ≡ take n (copied ++ rest) =
    sym (take_min most_received d) ∙ ap (λ k. take k d) (sym same) ∙ sym c ∙ sym (take_at copied rest n long) in
    let after : suc next ≡ next + 1 = omega arith in
    ap (λ ds. map (λ k. take most_received k.now) ds) (drop-cons waiting next none h)
    ∙ ap (λ k. k ∷ received_from (suc next) waiting) head
    ∙ ap (λ k. take n (copied ++ rest) ∷ received_from k waiting) after
