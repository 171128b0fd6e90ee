-- The dumps of a registry fit their kinds within the limits.
use Rattle.std.proofs.Common.{◌≡◌, ℕ, ◌+◌, ◌-◌, ◌*◌, ◌%◌, ◌≤◌, ◌<◌, Bool, true, false, ◌&&◌, cond, List, [], ◌∷◌, ◌++◌}
use Rattle.std.proofs.Common.{length, map, filter_map, nat_le, nat_lt, refl, ap, sym, ◌∙◌, subst, arith, rules, pos}
use Rattle.std.proofs.Common.{◌^◌, mod-lt, Option, Some, None, option_map, option_and_then, is_some, true≢false}
use Rattle.std.specs.List.{AllByRecursion, cons_option}
use Rattle.std.specs.Str.{bytes_eq}
use Rattle.std.proofs.lemmas.List.{length-append, length-replicate, length-map}
use Rattle.std.proofs.lemmas.Bool.{le-leb, lt-ltb}
use Rattle.xdr_types.specs.Tree.{Tree, depth}
use Rattle.xdr_types.specs.Fits.{fits, is_length, are_bytes}
use Rattle.xdr_units.specs.Numbers.{num4, pad, padded}
use Rattle.xdr_types.specs.Spelling.{bytes_of}
use Rattle.xdr_types.specs.Within.{FitsWithin}
use Rattle.xdr_types.proofs.Content.{are_bytes_of}
use Rattle.registry_uaddr.specs.declared.address.Uaddr.{Uaddr}
use Rattle.registry_uaddr.specs.Uaddrs.{uaddr_of}
use Rattle.registry_uaddr.proofs.Inverse.{port_small}
use Rattle.xdr_units.specs.Numbers.{AreBytes}
use Rattle.registry_rows.specs.Rows.{Row, IsRow, IsRegistry}
use Rattle.registry_rows.specs.Ports.{tcp, udp, prot_of_netid}
use Rattle.registry_dumps.specs.Dir.{dir_kinds}
use Rattle.registry_dumps.specs.Dumps.{linked, rpcb_tree, rpcb_list, mapping_tree, mapping_row, mapping_list}
use Rattle.registry_dumps.specs.Dumps.{dump_limits}

text_fits : (bs : List ℕ) (most : ℕ) → length bs ≤ most → most ≤ 4294967295 → AreBytes bs
    → (is_length 4294967295 (length bs) && are_bytes bs) ≡ true
text_fits bs most h m b =
    let d : nat_le (length bs) 4294967295 ≡ true = le-leb (length bs) 4294967295 (omega (arith, h, m)) in
    let e : nat_lt (length bs) (2 ^ 32) ≡ true = lt-ltb (length bs) (2 ^ 32) (omega (arith, h, m)) in
    let f = are_bytes_of bs b in
    λ j. (d j && e j) && f j

-- what a value in a dump keeps to
record Good (place : ℕ) (t : Tree) : Type 0 where
  legal : fits dir_kinds place t ≡ true
  shallow : depth t ≤ 2
  short : length (bytes_of dir_kinds place t) ≤ 359

joined : (p q : List ℕ) → length ((p ++ []) ++ q) ≡ length p + length q
joined p q =
    let e : length ((p ++ []) ++ q) ≡ length (p ++ []) + length q = length-append (p ++ []) q in
    let f : length (p ++ []) ≡ length p + 0 = length-append p [] in
    omega (arith, e, f)

pad_short : (n : ℕ) → length (pad n) ≤ 3
pad_short n =
    let e : length (pad n) ≡ (4 - n % 4) % 4 = length-replicate ((4 - n % 4) % 4) 0 in
    let m : (4 - n % 4) % 4 < 4 = mod-lt (4 - n % 4) (omega arith) in omega (arith, e, m)

abbrev text_bytes : List ℕ → List ℕ
text_bytes bs = num4 (pos (length bs)) ++ padded bs

length-text : (bs : List ℕ) → length (text_bytes bs) ≤ length bs + 7
length-text bs = by (num4 (pos (length bs))) refl
  where
    by : (f : List ℕ) → length f ≡ 4 → length (f ++ padded bs) ≤ length bs + 7
    by f four =
        let e : length (f ++ padded bs) ≡ length f + length (padded bs) = length-append f (padded bs) in
        let g : length (padded bs) ≡ length bs + length (pad (length bs)) = length-append bs (pad (length bs)) in
        let p : length (pad (length bs)) ≤ 3 = pad_short (length bs) in omega (arith, four, e, g, p)

five : (p v n a o : List ℕ)
    → length ((p ++ []) ++ ((v ++ []) ++ ((n ++ []) ++ ((a ++ []) ++ ((o ++ []) ++ [])))))
    ≡ length p + (length v + (length n + (length a + (length o + 0))))
five p v n a o =
    joined p _ ∙ ap (λ (k : ℕ). length p + k)
    (joined v _ ∙ ap (λ (k : ℕ). length v + k)
    (joined n _ ∙ ap (λ (k : ℕ). length n + k) (joined a _ ∙ ap (λ (k : ℕ). length a + k) (joined o []))))

four : (p v n a : List ℕ)
    → length ((p ++ []) ++ ((v ++ []) ++ ((n ++ []) ++ ((a ++ []) ++ []))))
    ≡ length p + (length v + (length n + (length a + 0)))
four p v n a = joined p _
    ∙ ap (λ (k : ℕ). length p + k)
    (joined v _ ∙ ap (λ (k : ℕ). length v + k) (joined n _ ∙ ap (λ (k : ℕ). length n + k) (joined a [])))

row_fits : (r : Row) → IsRow r → fits dir_kinds 11 (rpcb_tree r) ≡ true
row_fits r h =
    let prog : nat_lt r.prog (2 ^ 32) ≡ true = lt-ltb _ _ (omega (arith, h.prog)) in
    let vers : nat_lt r.vers (2 ^ 32) ≡ true = lt-ltb _ _ (omega (arith, h.vers)) in
    let netid = text_fits r.netid 64 h.netid (omega arith) h.netid_bytes in
    let address = text_fits r.address 256 h.address (omega arith) h.address_bytes in
    let owner = text_fits r.owner 10 h.owner (omega arith) h.owner_bytes in
    λ j. (prog j && true) &&
    ((vers j && true) && ((netid j && true) && ((address j && true) && ((owner j && true) && true))))

row_short : (r : Row) → IsRow r → length (bytes_of dir_kinds 11 (rpcb_tree r)) ≤ 359
row_short r h = by (num4 (pos r.prog)) (num4 (pos r.vers)) refl refl
  where
    by : (p v : List ℕ) → length p ≡ 4 → length v ≡ 4
        → length ((p ++ []) ++
        ((v ++ []) ++ ((text_bytes r.netid ++ []) ++
        ((text_bytes r.address ++ []) ++ ((text_bytes r.owner ++ []) ++ []))))) ≤ 359
    by p v x y =
        let e = five p v (text_bytes r.netid) (text_bytes r.address) (text_bytes r.owner) in
        let n : length (text_bytes r.netid) ≤ length r.netid + 7 = length-text r.netid in
        let a : length (text_bytes r.address) ≤ length r.address + 7 = length-text r.address in
        let o : length (text_bytes r.owner) ≤ length r.owner + 7 = length-text r.owner in
        omega (arith, e, x, y, n, a, o, h.netid, h.address, h.owner)

good_row : (r : Row) → IsRow r → Good 11 (rpcb_tree r)
good_row r h = record { legal = row_fits r h; shallow = omega arith; short = row_short r h }

mapping_short : (r : Row) (prot : ℕ) (a : Uaddr) → length (bytes_of dir_kinds 15 (mapping_tree r prot a)) ≤ 359
mapping_short r prot a =
    by (num4 (pos r.prog)) (num4 (pos r.vers)) (num4 (pos prot)) (num4 (pos a.port)) refl refl refl refl
  where
    by : (p v n o : List ℕ) → length p ≡ 4 → length v ≡ 4 → length n ≡ 4 → length o ≡ 4
        → length ((p ++ []) ++ ((v ++ []) ++ ((n ++ []) ++ ((o ++ []) ++ [])))) ≤ 359
    by p v n o x y z w = let e = four p v n o in omega (arith, e, x, y, z, w)

good_mapping : (r : Row) (prot : ℕ) (a : Uaddr) → IsRow r → prot ≤ 17 → a.port < 65536 → Good 15 (mapping_tree r prot a)
good_mapping r n a h small port =
    let prog : nat_lt r.prog (2 ^ 32) ≡ true = lt-ltb _ _ (omega (arith, h.prog)) in
    let vers : nat_lt r.vers (2 ^ 32) ≡ true = lt-ltb _ _ (omega (arith, h.vers)) in
    let prot : nat_lt n (2 ^ 32) ≡ true = lt-ltb _ _ (omega (arith, small)) in
    let end : nat_lt a.port (2 ^ 32) ≡ true = lt-ltb _ _ (omega (arith, port)) in
    record {
      legal = λ j. (prog j && true) &&
          ((vers j && true) && ((prot j && true) && ((end j && true) && true)));
      shallow = omega arith;
      short =
          mapping_short r n a;
    }

number_small : (netid : List ℕ) (n : ℕ) → prot_of_netid netid ≡ Some n → n ≤ 17
number_small netid n = by (bytes_eq netid tcp) (bytes_eq netid udp)
  where
    is : (a : ℕ) → Some a ≡ Some n → a ≤ 17 → n ≤ 17
    is a e h = let f : a ≡ n = ap (λ (o : Option ℕ). value o) e in omega (arith, f, h)
      where
        value : Option ℕ → ℕ
        value None = a
        value (Some b) = b

    by : (t u : Bool) → cond t (Some 6) (cond u (Some 17) None) ≡ Some n → n ≤ 17
    by true u e = is 6 e (omega arith)
    by false true e = is 17 e (omega arith)
    by false false e = absurd (true≢false (sym (ap is_some e)))

good_mapping_row : (r : Row) (t : Tree) → IsRow r → mapping_row r ≡ Some t → Good 15 t
good_mapping_row r t h = by (prot_of_netid r.netid) refl (uaddr_of r.address) refl
  where
    the : Option Tree → Tree
    the None = t
    the (Some u) = u

    by : (n : Option ℕ) → prot_of_netid r.netid ≡ n → (u : Option Uaddr) → uaddr_of r.address ≡ u
        → option_and_then (λ prot. option_map (mapping_tree r prot) u) n ≡ Some t → Good 15 t
    by None p u q e = absurd (true≢false (sym (ap is_some e)))
    by (Some n) p None q e = absurd (true≢false (sym (ap is_some e)))
    by (Some n) p (Some a) q e =
        subst (Good 15) (ap the e) (good_mapping r n a h (number_small r.netid n p) (port_small r.address a q))

good_rows : (rows : List Row) → AllByRecursion IsRow rows → AllByRecursion (Good 11) (map rpcb_tree rows)
good_rows [] h = tt
good_rows (r ∷ rows) h = (good_row r h.0, good_rows rows h.1)

good_mappings : (rows : List Row) → AllByRecursion IsRow rows
    → AllByRecursion (Good 15) (filter_map mapping_row rows) × (length (filter_map mapping_row rows) ≤ length rows)
good_mappings [] h = (tt, omega arith)
good_mappings (r ∷ rows) h = by (mapping_row r) refl (good_mappings rows h.1)
  where
    by : (o : Option Tree) → mapping_row r ≡ o
        → AllByRecursion (Good 15) (filter_map mapping_row rows) × (length (filter_map mapping_row rows) ≤ length rows)
        → AllByRecursion (Good 15) (cons_option o (filter_map mapping_row rows))
        × (length (cons_option o (filter_map mapping_row rows)) ≤ length (r ∷ rows))
    by None e rest = (rest.0, omega (arith, rest.1))
    by (Some t) e rest = ((good_mapping_row r t h.0 e, rest.0), omega (arith, rest.1))

chain_depth : (place : ℕ) (ts : List Tree) → AllByRecursion (Good place) ts → depth (linked ts) ≤ 2 * length ts + 2
chain_depth place [] h = omega arith
chain_depth place (t ∷ ts) h =
    let ih : depth (linked ts) ≤ 2 * length ts + 2 = chain_depth place ts h.1 in
    let own : depth t ≤ 2 = h.0.shallow in
    omega (arith, ih, own)

node : (f p q : List ℕ) → length f ≡ 4 → length (f ++ ((p ++ (q ++ [])) ++ [])) ≡ 4 + (length p + length q)
node f p q x =
    let e : length (f ++ ((p ++ (q ++ [])) ++ [])) ≡ length f + length ((p ++ (q ++ [])) ++ []) = length-append f _ in
    let g : length ((p ++ (q ++ [])) ++ []) ≡ length (p ++ (q ++ [])) + 0 = length-append (p ++ (q ++ [])) [] in
    let k : length (p ++ (q ++ [])) ≡ length p + length (q ++ []) = length-append p (q ++ []) in
    let l : length (q ++ []) ≡ length q + 0 = length-append q [] in
    omega (arith, e, g, k, l, x)

rpcb_fits : (ts : List Tree) → AllByRecursion (Good 11) ts → fits dir_kinds 14 (linked ts) ≡ true
rpcb_fits [] h = refl
rpcb_fits (t ∷ ts) h = λ j. (h.0.legal j && (rpcb_fits ts h.1 j && true)) && true

rpcb_short : (ts : List Tree) → AllByRecursion (Good 11) ts
    → length (bytes_of dir_kinds 14 (linked ts)) ≤ 363 * length ts + 4
rpcb_short [] h = omega arith
rpcb_short (t ∷ ts) h =
    let ih : length (bytes_of dir_kinds 14 (linked ts)) ≤ 363 * length ts + 4 = rpcb_short ts h.1 in
    let own : length (bytes_of dir_kinds 11 t) ≤ 359 = h.0.short in
    let e : length (bytes_of dir_kinds 14 (linked (t ∷ ts)))
    ≡ 4 + (length (bytes_of dir_kinds 11 t) + length (bytes_of dir_kinds 14 (linked ts))) =
    node (num4 (pos 1)) (bytes_of dir_kinds 11 t) (bytes_of dir_kinds 14 (linked ts)) refl in
    omega (arith, ih, own, e)

pmap_fits : (ts : List Tree) → AllByRecursion (Good 15) ts → fits dir_kinds 18 (linked ts) ≡ true
pmap_fits [] h = refl
pmap_fits (t ∷ ts) h = λ j. (h.0.legal j && (pmap_fits ts h.1 j && true)) && true

pmap_short : (ts : List Tree) → AllByRecursion (Good 15) ts
    → length (bytes_of dir_kinds 18 (linked ts)) ≤ 363 * length ts + 4
pmap_short [] h = omega arith
pmap_short (t ∷ ts) h =
    let ih : length (bytes_of dir_kinds 18 (linked ts)) ≤ 363 * length ts + 4 = pmap_short ts h.1 in
    let own : length (bytes_of dir_kinds 15 t) ≤ 359 = h.0.short in
    let e : length (bytes_of dir_kinds 18 (linked (t ∷ ts)))
    ≡ 4 + (length (bytes_of dir_kinds 15 t) + length (bytes_of dir_kinds 18 (linked ts))) =
    node (num4 (pos 1)) (bytes_of dir_kinds 15 t) (bytes_of dir_kinds 18 (linked ts)) refl in
    omega (arith, ih, own, e)

-- All rows of a registry fit `rpcblist` within the limits.
pub dump_fits : (rows : List Row) → IsRegistry rows → FitsWithin dir_kinds 14 dump_limits (rpcb_list rows)
dump_fits rows h =
    let ts = map rpcb_tree rows in
    let good = good_rows rows h.each in
    let n : length ts ≡ length rows = search (rules, length-map) in
    let d : depth (linked ts) ≤ 2 * length ts + 2 = chain_depth 11 ts good in
    let b : length (bytes_of dir_kinds 14 (linked ts)) ≤ 363 * length ts + 4 = rpcb_short ts good in
    (rpcb_fits ts good, (omega (arith, d, n, h.few), omega (arith, b, n, h.few)))

-- All mappings of a registry fit `pmaplist` within the limits.
pub dump_ports_fits : (rows : List Row) → IsRegistry rows → FitsWithin dir_kinds 18 dump_limits (mapping_list rows)
dump_ports_fits rows h =
    let ts = filter_map mapping_row rows in
    let good = good_mappings rows h.each in
    let d : depth (linked ts) ≤ 2 * length ts + 2 = chain_depth 15 ts good.0 in
    let b : length (bytes_of dir_kinds 18 (linked ts)) ≤ 363 * length ts + 4 = pmap_short ts good.0 in
    (pmap_fits ts good.0, (omega (arith, d, good.1, h.few), omega (arith, b, good.1, h.few)))
