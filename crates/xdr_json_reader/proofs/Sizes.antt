-- Each step leaves less work: the parts of a node are smaller than it.
use Rattle.std.proofs.Common.{◌≡◌, ℕ, ℤ, zero, suc, ◌+◌, ◌*◌, ◌<◌, ◌≤◌, List, [], ◌∷◌, ◌++◌, length, map}
use Rattle.std.proofs.Common.{replicate, Bool, true, false, ◌&&◌, ◌||◌, ◌==◌}
use Rattle.std.proofs.Common.{refl, ap, ap₂, sym, ◌∙◌, arith, Option, Some, None, if◌then◌else◌}
use Rattle.std.proofs.lemmas.Bool.{false≢true, and_parts as both, or_parts}
use Rattle.std.proofs.lemmas.Slice.Eq.{bytes_eq-Decides}
use Rattle.std.specs.List.{list_any}
use Rattle.std.specs.Str.{bytes_eq}
use Rattle.json.specs.Json as json
use Rattle.json.specs.Json.{Json, Items, no_items, item, Members, no_members, member}
use Rattle.xdr_types.specs.Kinds as xdr
use Rattle.xdr_types.specs.Kinds.{KindView, Part, kind_at}
use Rattle.xdr_types.specs.Tree as value
use Rattle.xdr_types.specs.Tree.{Head}
use Rattle.xdr_types.specs.Fits.{parts, part_of, optional_part, item_part}
use Rattle.xdr_types.specs.Faults.{is_void, part_twice, has_name_twice}
use Rattle.xdr_json.specs.Mapping.{case_key, arm_key}
use Rattle.xdr_json.specs.Spelled.{count, has_key, at_key, has_each, is_list, list_of, is_group, is_choice}
use Rattle.xdr_json.specs.Spelled.{is_present, is_tag_json}
use Rattle.xdr_json.specs.Spelled.{arm_keys, under, under_list, under_fields, under_arm, under_present}
use Rattle.xdr_json_reader.specs.Nodes.{Due, each, Shows}
use Rattle.xdr_json_reader.specs.Private.Pending.{Took, size, items_size, members_size}
use Rattle.xdr_json_reader.specs.Private.Pending.{is_optional, work}
use Rattle.xdr_json.proofs.Once.{AreApart}

pub most : (f : KindView) → is_optional f ≤ 1
most (xdr.maybe inner) = omega arith
most _ = omega arith

some : (j : Json) → 0 < size j
some json.null = omega arith
some (json.boolean b) = omega arith
some (json.number s) = omega arith
some (json.string s) = omega arith
some (json.array js) = omega arith
some (json.object ms) = omega arith

pub work-append : (kinds : List KindView) (ds bs : List Due) → work kinds (ds ++ bs) ≡ work kinds ds + work kinds bs
work-append kinds [] bs = omega arith
work-append kinds (d ∷ ds) bs = let more = work-append kinds ds bs in omega (arith, more)

-- ---- items

of_list : (kinds : List KindView) (p : Part) (n : ℕ) (js : Items)
    → work kinds (each (replicate n p) (list_of js)) ≤ 2 * items_size js
of_list kinds p zero js = omega arith
of_list kinds p (suc n) no_items = omega arith
of_list kinds p (suc n) (item j js) =
    let more = of_list kinds p n js in
    let one = most (kind_at kinds p.kind) in
    omega (arith, more, one)

list_less : (kinds : List KindView) (p : Part) (n m : ℕ) (j : Json) → is_list n j ≡ true
    → work kinds (each (replicate n p) (under_list j)) < 2 * size j + m
list_less kinds p n m (json.array js) h = let few = of_list kinds p n js in omega (arith, few)
list_less kinds p n m _ h = absurd (false≢true h)

-- ---- members

abbrev remove : Members → List ℕ → Members
remove no_members key = no_members
remove (member k j ms) key = if bytes_eq k key then ms else member k j (remove ms key)

size_removed : (ms : Members) (key : List ℕ) → has_key ms key ≡ true
    → members_size (remove ms key) + (1 + size (at_key ms key)) ≡ members_size ms
size_removed no_members key h = absurd (false≢true h)
size_removed (member k j ms) key h = by_case (bytes_eq k key) (size_removed ms key) h
  where
    by_case : (b : Bool)
        → (has_key ms key ≡ true
        → members_size (remove ms key) + (1 + size (at_key ms key)) ≡ members_size ms)
        → (b || has_key ms key) ≡ true
        → members_size (if b then ms else member k j (remove ms key)) + (1 + size (if b then j else at_key ms key))
        ≡ (1 + size j) + members_size ms
    by_case true again h = omega arith
    by_case false again h = let more = again h in omega (arith, more)

at_removed : (ms : Members) (key other : List ℕ) → bytes_eq key other ≡ false
    → at_key (remove ms key) other ≡ at_key ms other
at_removed no_members key other h = refl
at_removed (member k j ms) key other h = by_case (bytes_eq k key) (at_removed ms key other h) refl
  where
    by_case : (b : Bool) → at_key (remove ms key) other ≡ at_key ms other → bytes_eq k key ≡ b
        → at_key (if b then ms else member k j (remove ms key)) other ≡ at_key (member k j ms) other
    by_case true again e =
        let apart : bytes_eq k other ≡ false =
        ap (λ (x : List ℕ). bytes_eq x other) ((bytes_eq-Decides k key).0 e) ∙ h in
        sym (ap (λ (b : Bool). if b then j else at_key ms other) apart)
    by_case false again e = ap (λ (z : Json). if bytes_eq k other then j else z) again

has_removed : (ms : Members) (key other : List ℕ) → bytes_eq key other ≡ false
    → has_key (remove ms key) other ≡ has_key ms other
has_removed no_members key other h = refl
has_removed (member k j ms) key other h = by_case (bytes_eq k key) (has_removed ms key other h) refl
  where
    by_case : (b : Bool) → has_key (remove ms key) other ≡ has_key ms other → bytes_eq k key ≡ b
        → has_key (if b then ms else member k j (remove ms key)) other ≡ has_key (member k j ms) other
    by_case true again e =
        let apart : bytes_eq k other ≡ false =
        ap (λ (x : List ℕ). bytes_eq x other) ((bytes_eq-Decides k key).0 e) ∙ h in
        sym (ap (λ (b : Bool). b || has_key ms other) apart)
    by_case false again e = ap (λ (z : Bool). bytes_eq k other || z) again

each_removed : (ps : List Part) (ms : Members) (key : List ℕ)
    → list_any (λ (q : Part). bytes_eq key q.name) ps ≡ false → has_each ps (remove ms key) ≡ has_each ps ms
each_removed [] ms key h = refl
each_removed (p ∷ ps) ms key h =
    let two = or_parts (bytes_eq key p.name) (list_any (λ (q : Part). bytes_eq key q.name) ps) h in
    ap₂ (λ (a b : Bool). a && b) (has_removed ms key p.name two.0) (each_removed ps ms key two.1)

map_removed : (ps : List Part) (ms : Members) (key : List ℕ)
    → list_any (λ (q : Part). bytes_eq key q.name) ps ≡ false
    → map (λ (p : Part). at_key (remove ms key) p.name) ps ≡ map (λ (p : Part). at_key ms p.name) ps
map_removed [] ms key h = refl
map_removed (p ∷ ps) ms key h =
    let two = or_parts (bytes_eq key p.name) (list_any (λ (q : Part). bytes_eq key q.name) ps) h in
    ap₂ (λ (j : Json) (js : List Json). j ∷ js) (at_removed ms key p.name two.0) (map_removed ps ms key two.1)

of_fields : (kinds : List KindView) (ps : List Part) (ms : Members) → part_twice ps ≡ false → has_each ps ms ≡ true
    → work kinds (each ps (map (λ (p : Part). at_key ms p.name) ps)) ≤ 2 * members_size ms
of_fields kinds [] ms apart h = omega arith
of_fields kinds (p ∷ ps) ms apart h =
    let once = or_parts (list_any (λ (q : Part). bytes_eq p.name q.name) ps) (part_twice ps) apart in
    let hs = both (has_key ms p.name) (has_each ps ms) h in
    let left = of_fields kinds ps (remove ms p.name) once.1 (each_removed ps ms p.name once.0 ∙ hs.1) in
    let same = ap (λ (js : List Json). work kinds (each ps js)) (map_removed ps ms p.name once.0) in
    let all = size_removed ms p.name hs.0 in
    let one = most (kind_at kinds p.kind) in
    omega (arith, left, same, all, one)

group_less : (kinds : List KindView) (ps : List Part) (j : Json) → part_twice ps ≡ false → is_group ps j ≡ true
    → work kinds (each ps (under_fields ps j)) < 2 * size j + 0
group_less kinds ps (json.object ms) apart h =
    let few = of_fields kinds ps ms apart (both (count ms == length ps) (has_each ps ms) h).1 in
    omega (arith, few)
group_less kinds ps _ apart h = absurd (false≢true h)

at_less : (ms : Members) (key : List ℕ) → has_key ms key ≡ true → 1 + size (at_key ms key) ≤ members_size ms
at_less ms key h = let all = size_removed ms key h in omega (arith, all)

arm_less : (kinds : List KindView) (f : KindView) (z : ℤ) (o : Option Part) (j : Json)
    → is_choice kinds f z (optional_part o) j ≡ true
    → work kinds (each (optional_part o) (under_arm kinds (optional_part o) j)) < 2 * size j + 0
arm_less kinds f z None j h = let one = some j in omega (arith, one)
arm_less kinds f z (Some p) (json.object ms) h = by_case (is_void kinds p.kind) refl
  where
    by_case : (b : Bool) → is_void kinds p.kind ≡ b
        → work kinds ((p.kind, if b then json.object no_members else at_key ms (arm_key p.name)) ∷ [])
        < 2 * (1 + members_size ms) + 0
    by_case true e =
        let hs = both ((count ms == 1 + length (arm_keys kinds (p ∷ [])) && has_key ms case_key) && has_each
        (arm_keys kinds (p ∷ [])) ms) (is_tag_json f z (at_key ms case_key)) h in
        let ks = both (count ms == 1 + length (arm_keys kinds (p ∷ [])) && has_key ms case_key) (has_each (arm_keys
        kinds (p ∷ [])) ms) hs.0 in
        let cs = both (count ms == 1 + length (arm_keys kinds (p ∷ []))) (has_key ms case_key) ks.0 in
        let big = at_less ms case_key cs.1 in
        let one = most (kind_at kinds p.kind) in
        let pos = some (at_key ms case_key) in
        omega (arith, big, one, pos)
    by_case false e =
        let hs = both ((count ms == 1 + length (arm_keys kinds (p ∷ [])) && has_key ms case_key) && has_each
        (arm_keys kinds (p ∷ [])) ms) (is_tag_json f z (at_key ms case_key)) h in
        let ks = both (count ms == 1 + length (arm_keys kinds (p ∷ [])) && has_key ms case_key) (has_each (arm_keys
        kinds (p ∷ [])) ms) hs.0 in
        let keys : arm_keys kinds (p ∷ []) ≡ record { name = arm_key p.name; kind = p.kind } ∷ [] =
        ap (λ (b : Bool). if b then [] else record { name = arm_key p.name; kind = p.kind } ∷ []) e in
        let has : (has_key ms (arm_key p.name) && true) ≡ true =
        ap (λ (qs : List Part). has_each qs ms) (sym keys) ∙ ks.1 in
        let big = at_less ms (arm_key p.name) (both (has_key ms (arm_key p.name)) true has).0 in
        let one = most (kind_at kinds p.kind) in
        omega (arith, big, one)
arm_less kinds f z (Some p) _ h = absurd (false≢true h)

present_less : (kinds : List KindView) (inner : ℕ) (f : KindView) (j : Json) → kind_at kinds inner ≡ f
    → is_present f j ≡ true → work kinds (each (item_part inner ∷ []) (under_present f j)) < 2 * size j + 1
present_less kinds inner (xdr.maybe i) j e h = list_less kinds (item_part inner) 1 1 j h
present_less kinds inner f j e h = let zero = ap is_optional e in omega (arith, zero)

less : (kinds : List KindView) (f : KindView) (h : Head) (j : Json) → has_name_twice f ≡ false → Shows kinds f j h
    → work kinds (each (parts f h) (under kinds f h j)) < 2 * size j + is_optional f
less kinds xdr.int (value.int z) j apart s = omega (arith, some j)
less kinds xdr.int _ j apart s = absurd (false≢true s.legal)
less kinds xdr.unsigned (value.unsigned n) j apart s = omega (arith, some j)
less kinds xdr.unsigned _ j apart s = absurd (false≢true s.legal)
less kinds xdr.hyper (value.hyper z) j apart s = omega (arith, some j)
less kinds xdr.hyper _ j apart s = absurd (false≢true s.legal)
less kinds xdr.unsigned_hyper (value.unsigned_hyper n) j apart s = omega (arith, some j)
less kinds xdr.unsigned_hyper _ j apart s = absurd (false≢true s.legal)
less kinds xdr.boolean (value.boolean b) j apart s = omega (arith, some j)
less kinds xdr.boolean _ j apart s = absurd (false≢true s.legal)
less kinds (xdr.numbered cs) (value.numbered z) j apart s = omega (arith, some j)
less kinds (xdr.numbered cs) _ j apart s = absurd (false≢true s.legal)
less kinds (xdr.opaque most) (value.bytes bs) j apart s = omega (arith, some j)
less kinds (xdr.opaque most) _ j apart s = absurd (false≢true s.legal)
less kinds (xdr.opaque_up_to max) (value.bytes bs) j apart s = omega (arith, some j)
less kinds (xdr.opaque_up_to max) _ j apart s = absurd (false≢true s.legal)
less kinds (xdr.text max) (value.bytes bs) j apart s = omega (arith, some j)
less kinds (xdr.text max) _ j apart s = absurd (false≢true s.legal)
less kinds (xdr.fixed inner n) (value.items m) j apart s = list_less kinds (item_part inner) m 0 j s.shown
less kinds (xdr.fixed inner n) _ j apart s = absurd (false≢true s.legal)
less kinds (xdr.up_to inner max) (value.items m) j apart s = list_less kinds (item_part inner) m 0 j s.shown
less kinds (xdr.up_to inner max) _ j apart s = absurd (false≢true s.legal)
less kinds (xdr.structure ps) value.fields j apart s = group_less kinds ps j apart s.shown
less kinds (xdr.structure ps) _ j apart s = absurd (false≢true s.legal)
less kinds (xdr.choice tag arms other) (value.tag z) j apart s =
    arm_less kinds (kind_at kinds tag) z (part_of arms other z) j s.shown
less kinds (xdr.choice tag arms other) _ j apart s = absurd (false≢true s.legal)
less kinds (xdr.maybe inner) value.present j apart s =
    present_less kinds inner (kind_at kinds inner) j refl s.shown
less kinds (xdr.maybe inner) value.absent j apart s = omega (arith, some j)
less kinds (xdr.maybe inner) _ j apart s = absurd (false≢true s.legal)
less kinds xdr.nothing value.nothing j apart s = omega (arith, some j)
less kinds xdr.nothing _ j apart s = absurd (false≢true s.legal)
less kinds xdr.unknown _ j apart s = absurd (false≢true s.legal)

pub took_less : (kinds : List KindView) → AreApart kinds → (place : ℕ) (j : Json) (out new : List ℕ)
    (due next : List Due) → Took kinds (kind_at kinds place) j out new due next
    → work kinds next < work kinds ((place, j) ∷ due)
took_less kinds apart place j out new due next t =
    let f = kind_at kinds place in
    let few = less kinds f t.head j (apart place) t.shows in
    let all = ap (work kinds) t.parts
    ∙ work-append kinds (each (parts f t.head) (under kinds f t.head j)) due in
    omega (arith, few, all)
