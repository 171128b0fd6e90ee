-- The members of an object, beside the fields of a structure.
use Rattle.std.proofs.Common.{◌≡◌, ℕ, zero, suc, ◌+◌, ◌-◌, ◌<◌, ◌≤◌, List, [], ◌∷◌, ◌++◌, length, map, drop}
use Rattle.std.proofs.Common.{get_or, reverse}
use Rattle.std.proofs.Common.{Bool, true, false, ◌&&◌, ◌||◌, refl, ap, ap₂, sym, ◌∙◌, arith, Option}
use Rattle.std.proofs.Common.{Some, None, if◌then◌else◌, MatchOption}
use Rattle.std.proofs.lemmas.Bool.{and_from, or_parts, and_left, and_right}
use Rattle.std.proofs.lemmas.List.{drop_more, map-append, reverse-append}
use Rattle.std.proofs.lemmas.Slice.Eq.{bytes_eq-Decides}
use Rattle.std.specs.List.{list_any}
use Rattle.std.specs.Str.{bytes_eq}
use Rattle.std.specs.Borrow.{Bor}
use Rattle.json.specs.Json.{Json, Members, member}
use Rattle.xdr_types.specs.Kinds.{Part}
use Rattle.xdr_types.specs.Faults.{part_twice}
use Rattle.xdr_json.specs.Spelled.{count, has_key, at_key, has_each}
use Rattle.xdr_json_reader.specs.Tape.{json_in, members_of}
use Rattle.xdr_json_reader.specs.Private.Look.{pairs}
use Rattle.xdr_json_reader.specs.Nodes.{Due, each}
use Rattle.xdr_json_reader.specs.Private.Entries.{dues, due_of}
use Rattle.xdr_json_reader.specs.Private.Fields.{keys, nodes, names, at_each, Finds}
use Rattle.xdr_json_reader.specs.declared.reading_entry.Entry.{Entry}
use Rattle.xdr_json_reader.specs.declared.tape.Key.{Key}
use Rattle.xdr_json_reader.specs.declared.tape.Node.{Node}

pub many : (ms : List (Key × Node)) → count (members_of (pairs ms)) ≡ length ms
many [] = refl
many (m ∷ ms) = let more = many ms in omega (arith, more)

-- ---- what is due

pub dues_push : (es : List Entry) (e : Entry) → dues (es ++ e ∷ []) ≡ due_of e ∷ dues es
dues_push es e =
    ap reverse (map-append due_of es (e ∷ [])) ∙ reverse-append (map due_of es) (due_of e ∷ [])

pub each_more : (ps : List Part) (js : List Json) (i : ℕ) (p : Part) (j : Json) (ds : List Due) → i < length ps
    → i < length js → get_or ps i p ≡ p → get_or js i j ≡ j
    → (p.kind, j) ∷ (each (drop (i + 1) ps) (drop (i + 1) js) ++ ds) ≡ each (drop i ps) (drop i js) ++ ds
each_more ps js i p j ds h k e f =
    sym (ap₂ (λ (xs : List Part) (ys : List Json). each xs ys ++ ds)
    (drop_more ps i p h ∙ ap (λ (x : Part). x ∷ drop (i + 1) ps) e)
    (drop_more js i j k ∙ ap (λ (x : Json). x ∷ drop (i + 1) js) f))

pub each_step : (ps : List Part) (js : List Json) (left : ℕ) (p : Part) (j : Json) (ds old new : List Due) → 0 < left
    → left ≤ length ps → left ≤ length js → get_or ps (left - 1) p ≡ p → get_or js (left - 1) j ≡ j
    → old ≡ each (drop left ps) (drop left js) ++ ds → new ≡ (p.kind, j) ∷ old
    → new ≡ each (drop (left - 1) ps) (drop (left - 1) js) ++ ds
each_step ps js left p j ds old new pos h k e f is made =
    let next : left ≡ (left - 1) + 1 = omega arith in
    made
    ∙ ap (λ (z : List Due). (p.kind, j) ∷ z) (is ∙ ap (λ (n : ℕ). each (drop n ps) (drop n js) ++ ds) next)
    ∙ each_more ps js (left - 1) p j ds (omega arith) (omega arith) e f

-- ---- members in the order of the fields

apart : (key : List ℕ) (name : List ℕ) (p : Part) → key ≡ p.name → bytes_eq p.name name ≡ false
    → bytes_eq key name ≡ false
apart key name p e h = ap (λ (k : List ℕ). bytes_eq k name) e ∙ h

skips : (ps : List Part) (k : List ℕ) (j : Json) (ms : Members)
    → list_any (λ (q : Part). bytes_eq k q.name) ps ≡ false
    → (at_each ps (member k j ms) ≡ at_each ps ms) × (has_each ps (member k j ms) ≡ has_each ps ms)
skips [] k j ms h = (refl, refl)
skips (p ∷ ps) k j ms h =
    let two = or_parts (bytes_eq k p.name) (list_any (λ (q : Part). bytes_eq k q.name) ps) h in
    let more = skips ps k j ms two.1 in (
      ap₂ (λ (x : Json) (xs : List Json). x ∷ xs) (ap (λ (b : Bool). if b then j else at_key ms p.name) two.0) more.0,
      ap₂ (λ (a b : Bool). a && b) (ap (λ (b : Bool). b || has_key ms p.name) two.0) more.1,
    )

abbrev head_of : List (List ℕ) → List ℕ
head_of [] = []
head_of (x ∷ xs) = x

pub in_order : (ps : List Part) (ms : List (Key × Node)) → part_twice ps ≡ false → keys ms ≡ names ps
    → (at_each ps (members_of (pairs ms)) ≡ nodes ms) × (has_each ps (members_of (pairs ms)) ≡ true)
in_order [] [] once e = (refl, refl)
in_order [] (m ∷ ms) once e = absurd (omega (arith, ap length e))
in_order (p ∷ ps) [] once e = absurd (omega (arith, ap length e))
in_order (p ∷ ps) (m ∷ ms) once e =
    let key = m.0.name.now in
    let rest = members_of (pairs ms) in
    let j = json_in m.1 in
    let twice = or_parts (list_any (λ (q : Part). bytes_eq p.name q.name) ps) (part_twice ps) once in
    let first : m.0.name.now ≡ p.name = ap head_of e in
    let is : bytes_eq m.0.name.now p.name ≡ true = (bytes_eq-Decides m.0.name.now p.name).1 first in
    let none : list_any (λ (q : Part). bytes_eq m.0.name.now q.name) ps ≡ false =
    ap (λ (k : List ℕ). list_any (λ (q : Part). bytes_eq k q.name) ps) first ∙ twice.0 in
    let skip = skips ps key j rest none in
    let more = in_order ps ms twice.1 (ap (drop 1) e) in (
      ap₂ (λ (x : Json) (xs : List Json). x ∷ xs) (ap (λ (b : Bool). if b then j else at_key rest p.name) is)
          (skip.0 ∙ more.0),
      and_from (has_key (member key j rest) p.name) (has_each ps (member key j rest))
          (ap (λ (b : Bool). b || has_key rest p.name) is) (skip.1 ∙ more.1),
    )

-- ---- members by their keys

pub finds_more : (o : Option (Bor Node)) (m : Key × Node) (n : Bor Node) (ms : List (Key × Node)) (key : List ℕ)
    → json_in n.now ≡ json_in m.1 → Finds o (members_of (pairs ms)) key
    → Finds (if bytes_eq m.0.name.now key then Some n else o) (members_of (pairs (m ∷ ms))) key
finds_more o m n ms key e h = by_case (bytes_eq m.0.name.now key) o h
  where
    rest : Members
    rest = members_of (pairs ms)

    by_case : (b : Bool) (o : Option (Bor Node)) → Finds o (members_of (pairs ms)) key
        → MatchOption (if b then Some n else o) ((b || has_key (members_of (pairs ms)) key) ≡ false)
        (λ x. ((b || has_key (members_of (pairs ms)) key) ≡ true)
        × ((if b then json_in m.1 else at_key (members_of (pairs ms)) key) ≡ json_in x.now))
    by_case true o h = (refl, sym e)
    by_case false None h = h
    by_case false (Some x) h = h

pub not_has : (ps : List Part) (ms : Members) (i : ℕ) (p : Part) → i < length ps → get_or ps i p ≡ p
    → has_key ms p.name ≡ false → has_each ps ms ≡ false
not_has [] ms i p h e none = absurd (omega (arith, h))
not_has (q ∷ ps) ms zero p h e none =
    and_left (has_key ms q.name) (has_each ps ms) (ap (λ (x : Part). has_key ms x.name) e ∙ none)
not_has (q ∷ ps) ms (suc i) p h e none =
    and_right (has_key ms q.name) (has_each ps ms) (not_has ps ms i p (omega (arith, h)) e none)

pub has_more : (ps : List Part) (ms : Members) (i : ℕ) (p : Part) → i < length ps → get_or ps i p ≡ p
    → has_key ms p.name ≡ true → has_each (drop (i + 1) ps) ms ≡ true → has_each (drop i ps) ms ≡ true
has_more ps ms i p h e named rest =
    ap (λ (qs : List Part). has_each qs ms) (drop_more ps i p h ∙ ap (λ (x : Part). x ∷ drop (i + 1) ps) e)
    ∙ and_from (has_key ms p.name) (has_each (drop (i + 1) ps) ms) named rest
