-- The bytes of a dump, row by row.
use Rattle.std.proofs.Common.{◌≡◌, ℕ, zero, suc, ◌+◌, ◌≤◌, ◌<◌, List, [], ◌∷◌, ◌++◌, length, filter_map, take, drop}
use Rattle.std.proofs.Common.{◌-◌, replicate, slice_index_or, length-append, Option, Some}
use Rattle.std.proofs.Common.{None, option_map, option_and_then, is_some, refl, ap, sym, ◌∙◌, arith}
use Rattle.std.proofs.Common.{append_assoc, append-nil, true≢false, slice_get}
use Rattle.std.specs.List.{flat_map, cons_option}
use Rattle.std.specs.Option.{option_map_or}
use Rattle.std.proofs.lemmas.List.{take_all, length-replicate}
use Rattle.std.proofs.lemmas.List.Concat.{flat_map-append}
use Rattle.xdr_units.specs.Numbers.{word, pad, gap}
use Rattle.xdr_types.specs.Spelling.{bytes_of}
use Rattle.registry_uaddr.specs.declared.address.Uaddr.{Uaddr}
use Rattle.registry_uaddr.specs.Uaddrs.{uaddr_of}
use Rattle.registry_rows.specs.Ports.{prot_of_netid}
use Rattle.registry_rows.specs.Rows.{Row}
use Rattle.registry_dumps.specs.Dir.{dir_kinds}
use Rattle.registry_dumps.specs.Dumps.{linked, rpcb_tree, rpcb_list, mapping_tree, mapping_row, mapping_list}
use Rattle.registry_answer.specs.Private.Parsed.{text}
use Rattle.registry_answer.specs.Private.Pushes.{row_bytes, front_bytes, mapping_bytes, mapping_at_bytes}

node : (f p q : List ℕ) → f ++ ((p ++ (q ++ [])) ++ []) ≡ (f ++ p) ++ q
node f p q = simp (append_assoc, append-nil)

five : (f p v n a o q : List ℕ) → (f ++ ((p ++ []) ++ ((v ++ []) ++ ((n ++ []) ++ ((a ++ []) ++ ((o ++ []) ++ []))))))
    ++ q ≡ (f ++ (p ++ (v ++ (n ++ (a ++ o))))) ++ q
five f p v n a o q = simp (append_assoc, append-nil)

-- the list of rows, one after another
pub rows_spelled : (rows : List Row) → bytes_of dir_kinds 14 (rpcb_list rows) ≡ flat_map row_bytes rows ++ word 0
rows_spelled [] = refl
rows_spelled (r ∷ rows) =
    let rest = bytes_of dir_kinds 14 (rpcb_list rows) in
    node (word 1) (bytes_of dir_kinds 11 (rpcb_tree r)) rest
    ∙ five (word 1) (word r.prog) (word r.vers) (text r.netid) (text r.address) (text r.owner) rest
    ∙ ap (λ (x : List ℕ). row_bytes r ++ x) (rows_spelled rows)
    ∙ sym (append_assoc (row_bytes r) (flat_map row_bytes rows) (word 0))

-- the list of mappings, one after another
pub mappings_spelled : (rows : List Row) → bytes_of dir_kinds 18 (mapping_list rows) ≡ flat_map mapping_bytes rows
    ++ word 0
mappings_spelled [] = refl
mappings_spelled (r ∷ rows) = by (prot_of_netid r.netid) (uaddr_of r.address) (mappings_spelled rows)
  where
    by : (n : Option ℕ) (u : Option Uaddr)
        → bytes_of dir_kinds 18 (linked (filter_map mapping_row rows)) ≡ flat_map mapping_bytes rows ++ word 0
        → bytes_of dir_kinds 18 (linked (cons_option (option_and_then (λ prot. option_map (mapping_tree r prot) u) n)
        (filter_map mapping_row rows)))
        ≡ (option_map_or (λ prot. option_map_or (mapping_at_bytes r prot) u []) n [] ++ flat_map mapping_bytes rows)
        ++ word 0
    by None u h = h
    by (Some n) None h = h
    by (Some n) (Some a) h =
        node (word 1) (bytes_of dir_kinds 15 (mapping_tree r n a))
        (bytes_of dir_kinds 18 (linked (filter_map mapping_row rows)))
        ∙ ap (λ (x : List ℕ). mapping_at_bytes r n a ++ x) h
        ∙ sym (append_assoc (mapping_at_bytes r n a) (flat_map mapping_bytes rows) (word 0))

-- one more row of a list
pub take_more : (rows : List Row) (i : ℕ) (r : Row) → slice_get rows i ≡ Some r → take (suc i) rows ≡ take i rows
    ++ r ∷ []
take_more [] i r e = absurd (true≢false (sym (ap is_some e)))
take_more (x ∷ xs) zero r e = ap (λ (o : Option Row). from o ∷ []) e
  where
    from : Option Row → Row
    from None = x
    from (Some y) = y
take_more (x ∷ xs) (suc i) r e = ap (λ (l : List Row). x ∷ l) (take_more xs i r e)

pub spelled_more : (f : Row → List ℕ) (rows : List Row) (i j : ℕ) (r : Row) (old out new : List ℕ) → j ≡ suc i
    → slice_get rows i ≡ Some r → out ≡ old ++ flat_map f (take i rows) → new ≡ out ++ f r
    → new ≡ old ++ flat_map f (take j rows)
spelled_more f rows i j r old out new next at e n =
    n ∙ ap (λ (x : List ℕ). x ++ f r) e ∙ append_assoc old (flat_map f (take i rows)) (f r)
    ∙ ap (λ (x : List ℕ). old ++ (flat_map f (take i rows) ++ x)) (sym (append-nil (f r)))
    ∙ ap (λ (x : List ℕ). old ++ x) (sym (flat_map-append f (take i rows) (r ∷ [])))
    ∙ ap (λ (l : List Row). old ++ flat_map f l) (sym (take_more rows i r at))
    ∙ ap (λ (k : ℕ). old ++ flat_map f (take k rows)) (sym next)

-- an index of a list has a row
pub some_within : (rows : List Row) (i : ℕ) → i < length rows → slice_get rows i ≡ None → ⊥
some_within [] i h e = omega (arith, h)
some_within (x ∷ xs) zero h e = true≢false (ap is_some e)
some_within (x ∷ xs) (suc i) h e = some_within xs i (omega (arith, h)) e

take_whole : (rows : List Row) (i : ℕ) → length rows ≤ i → take i rows ≡ rows
take_whole [] zero h = refl
take_whole [] (suc i) h = refl
take_whole (x ∷ xs) zero h = absurd (omega (arith, h))
take_whole (x ∷ xs) (suc i) h = ap (λ (l : List Row). x ∷ l) (take_whole xs i (omega (arith, h)))

-- all rows of a list, and its end
pub spelled_all : (f : Row → List ℕ) (rows : List Row) (i : ℕ) (old out new tail all : List ℕ) → length rows ≤ i
    → out ≡ old ++ flat_map f (take i rows) → new ≡ out ++ tail → all ≡ flat_map f rows ++ tail → new ≡ old ++ all
spelled_all f rows i old out new tail all past e n is =
    n ∙ ap (λ (x : List ℕ). x ++ tail) (e ∙ ap (λ (l : List Row). old ++ flat_map f l) (take_whole rows i past))
    ∙ append_assoc old (flat_map f rows) tail ∙ ap (λ (x : List ℕ). old ++ x) (sym is)

-- the pieces of a row's front, where its netid was written by itself
front_pieces : (o p h pr v ln n pn la : List ℕ) → (((o ++ (p ++ h)) ++ (pr ++ (v ++ ln))) ++ n) ++ (pn ++ la)
    ≡ o ++ (p ++ (h ++ (pr ++ (v ++ ((ln ++ (n ++ pn)) ++ la)))))
front_pieces o p h pr v ln n pn la = simp append_assoc

-- the front of a row behind the padding of what stands before it, where it was written in those pieces
pub front_added : (r : Row) (p o x1 x2 x3 x4 h n la : List ℕ) → n ≡ r.netid → la ≡ word (length r.address)
    → h ≡ word r.prog ++ (word r.vers ++ word (length n)) → x1 ≡ o ++ (p ++ word 1) → x2 ≡ x1 ++ h → x3 ≡ x2 ++ n
    → x4 ≡ x3 ++ (pad (length n) ++ la) → x4 ≡ o ++ (p ++ front_bytes r)
front_added r p o x1 x2 x3 x4 h n la en ea eh e1 e2 e3 e4 =
    e4 ∙ ap (λ (t : List ℕ). t ++ (pad (length n) ++ la)) (e3 ∙ ap (λ (t : List ℕ). t ++ n)
    (e2 ∙ ap (λ (t : List ℕ). t ++ h) e1 ∙ ap (λ (t : List ℕ). (o ++ (p ++ word 1)) ++ t) eh))
    ∙ front_pieces o p (word 1) (word r.prog) (word r.vers) (word (length n)) n (pad (length n)) la
    ∙ ap (λ (t : List ℕ). o ++ (p ++ (word 1 ++ (word r.prog ++ (word r.vers ++ (text t ++ la)))))) en
    ∙ ap (λ (t : List ℕ). o ++ (p ++ (word 1 ++ (word r.prog ++ (word r.vers ++ (text r.netid ++ t)))))) ea

-- the last of some zeros before the rest
pub last_zeros : (k n g : ℕ) (rest : List ℕ) → k + g ≡ n → drop k (replicate n 0 ++ rest) ≡ replicate g 0 ++ rest
last_zeros zero n g rest e = ap (λ (m : ℕ). replicate m 0 ++ rest) (omega (arith, e))
last_zeros (suc k) zero g rest e = absurd (omega (arith, e))
last_zeros (suc k) (suc n) g rest e = last_zeros k n g rest (omega (arith, e))

-- a list of three
three : (n : List ℕ) → 3 ≤ length n → length n < 4
    → n ≡ slice_index_or n 0 0 ∷ slice_index_or n 1 0 ∷ slice_index_or n 2 0 ∷ []
three [] h l = absurd (omega (arith, h))
three (x ∷ []) h l = absurd (omega (arith, h))
three (x ∷ y ∷ []) h l = absurd (omega (arith, h))
three (x ∷ y ∷ z ∷ []) h l = refl
three (x ∷ y ∷ z ∷ w ∷ n) h l = absurd (omega (arith, l))

-- the same, where the netid has three bytes and all was written in one piece
pub short_added : (r : Row) (k b m : ℕ) (o x head n : List ℕ) → n ≡ r.netid → 3 ≤ length n → length n < 4
    → m ≡ length r.address → k + gap b ≡ 3
    → head ≡ replicate 3 0 ++ (word 1 ++ (word r.prog ++ (word r.vers ++ (text (slice_index_or n 0 0
    ∷ slice_index_or n 1 0 ∷ slice_index_or n 2 0 ∷ []) ++ word m))))
    → x ≡ o ++ take (27 - k) (drop k head) → x ≡ o ++ (pad b ++ front_bytes r)
short_added r k b m o x head n en h l em ek eh ex =
    ex ∙ ap (λ (t : List ℕ). o ++ take (27 - k) (drop k t)) eh
    ∙ ap (λ (t : List ℕ). o ++ take (27 - k) t) (last_zeros k 3 (gap b) (front netid m) ek)
    ∙ ap (λ (t : List ℕ). o ++ t) (take_all (27 - k) (pad b ++ front netid m) (omega (
      arith,
      ek,
      length-append (pad b)
          (front netid m),
      length-replicate {A = ℕ} (gap b) 0,
    )))
    ∙ ap (λ (t : List ℕ). o ++ (pad b ++ front t m)) (sym (three n h l) ∙ en)
    ∙ ap (λ (t : ℕ). o ++ (pad b ++ front r.netid t)) em
  where
    netid : List ℕ
    netid = slice_index_or n 0 0 ∷ slice_index_or n 1 0 ∷ slice_index_or n 2 0 ∷ []

    front : List ℕ → ℕ → List ℕ
    front t a = word 1 ++ (word r.prog ++ (word r.vers ++ (text t ++ word a)))

-- the pieces of a row, one after another
pieces : (o p h pr v t la a pa lo w pw : List ℕ)
    → ((((o ++ (p ++ (h ++ (pr ++ (v ++ (t ++ la)))))) ++ a) ++ (pa ++ lo)) ++ w) ++ pw
    ≡ (o ++ p) ++ (h ++ (pr ++ (v ++ (t ++ ((la ++ (a ++ pa)) ++ (lo ++ (w ++ pw)))))))
pieces o p h pr v t la a pa lo w pw = simp append_assoc

-- a row behind what stands before it and its padding, once its own last padding is written
pub row_added : (r : Row) (p o x1 x2 x3 x4 a w : List ℕ) → a ≡ r.address → w ≡ r.owner
    → x1 ≡ o ++ (p ++ front_bytes r) → x2 ≡ x1 ++ a → x3 ≡ x2 ++ (pad (length a) ++ word (length w)) → x4 ≡ x3 ++ w
    → x4 ++ pad (length r.owner) ≡ (o ++ p) ++ row_bytes r
row_added r p o x1 x2 x3 x4 a w ea ew e1 e2 e3 e4 =
    let t2 = e2 ∙ ap (λ (t : List ℕ). t ++ a) e1 ∙ ap (λ (t : List ℕ). (o ++ (p ++ front_bytes r)) ++ t) ea in
    let t3 = e3 ∙ ap (λ (t : List ℕ). t ++ (pad (length a) ++ word (length w))) t2
    ∙ ap (λ (t : List ℕ). ((o ++ (p ++ front_bytes r)) ++ r.address) ++ (pad (length t) ++ word (length w))) ea
    ∙ ap (λ (t : List ℕ). ((o ++ (p ++ front_bytes r)) ++ r.address) ++ (pad (length r.address) ++ word (length t)))
    ew in
    let t4 = e4 ∙ ap (λ (t : List ℕ). t ++ w) t3
    ∙ ap (λ (t : List ℕ). (((o ++ (p ++ front_bytes r)) ++ r.address)
    ++ (pad (length r.address) ++ word (length r.owner))) ++ t) ew in
    ap (λ (t : List ℕ). t ++ pad (length r.owner)) t4
    ∙ pieces o p (word 1) (word r.prog) (word r.vers) (text r.netid) (word (length r.address)) r.address
    (pad (length r.address)) (word (length r.owner)) r.owner (pad (length r.owner))
