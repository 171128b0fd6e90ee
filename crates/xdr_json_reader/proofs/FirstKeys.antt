-- The keys of an object beside the parts that it is to have: as many members as parts, each known and each once, are a
-- member for each part.
use Rattle.std.proofs.Common.{◌≡◌, ℕ, ◌+◌, List, [], ◌∷◌, length, Bool, true, false, ◌||◌, ◌==◌}
use Rattle.std.proofs.Common.{refl, ap, sym, ◌∙◌, arith, Option, Some, None, is_some, option_map, if◌then◌else◌}
use Rattle.std.proofs.lemmas.Bool.{false≢true, true≢false, and_parts as both, and_from, or_parts, or_right, eq-eqb}
use Rattle.std.proofs.lemmas.Slice.Eq.{bytes_eq-Decides}
use Rattle.std.specs.List.{list_any}
use Rattle.std.specs.Option.{option_or}
use Rattle.std.specs.Str.{bytes_eq}
use Rattle.json.specs.Json as json
use Rattle.json.specs.Json.{Json, Members}
use Rattle.xdr_types.specs.Kinds.{Part}
use Rattle.xdr_json.specs.Spelled.{count, has_key, has_each, is_group}
use Rattle.xdr_json_reader.specs.Reasons.{kind_under, key_reason, refused_key, front}
use Rattle.xdr_json_reader.specs.declared.fault.JsonReason.{JsonReason}
use Rattle.xdr_json_reader.specs.declared.fault.JsonReason.TheVariants as why

-- a key is one of these
abbrev pub stood : List (List ℕ) → List ℕ → Bool
stood before key = list_any (λ (k : List ℕ). bytes_eq k key) before

-- ---- a key that is not refused

pub not_refused : (ps : List Part) (before : List (List ℕ)) (key : List ℕ) → key_reason ps before key ≡ None
    → (is_some (kind_under ps key) ≡ true) × (stood before key ≡ false)
not_refused ps before key e = by_case (is_some (kind_under ps key)) (stood before key) e
  where
    by_case : (a b : Bool)
        → (if a then (if b then Some why.MemberTwice else None) else Some why.UnknownMember) ≡ None
        → (a ≡ true) × (b ≡ false)
    by_case true true e = absurd (true≢false (ap is_some e))
    by_case true false e = (refl, refl)
    by_case false b e = absurd (true≢false (ap is_some e))

pub refused_none : (ps : List Part) (before : List (List ℕ)) (key : List ℕ) → is_some (kind_under ps key) ≡ true
    → stood before key ≡ false → key_reason ps before key ≡ None
refused_none ps before key known new =
    ap (λ (a : Bool). if a then (if stood before key then Some why.MemberTwice else None) else Some why.UnknownMember)
    known
    ∙ ap (λ (b : Bool). if b then Some why.MemberTwice else None) new

pub refused_unknown : (ps : List Part) (before : List (List ℕ)) (key : List ℕ) → is_some (kind_under ps key) ≡ false
    → key_reason ps before key ≡ Some why.UnknownMember
refused_unknown ps before key unknown =
    ap (λ (a : Bool). if a then (if stood before key then Some why.MemberTwice else None) else Some why.UnknownMember)
    unknown

pub refused_twice : (ps : List Part) (before : List (List ℕ)) (key : List ℕ) → is_some (kind_under ps key) ≡ true
    → stood before key ≡ true → key_reason ps before key ≡ Some why.MemberTwice
refused_twice ps before key known twice =
    ap (λ (a : Bool). if a then (if stood before key then Some why.MemberTwice else None) else Some why.UnknownMember)
    known
    ∙ ap (λ (b : Bool). if b then Some why.MemberTwice else None) twice

-- a key that was noted among others
pub noted : (b : Bool) (o : Option Bool) (c : Bool) → is_some o ≡ c → is_some (if b then Some true else o) ≡ (b || c)
noted true o c e = refl
noted false o c e = e

-- a kind that was found, or was not
pub found_kind : {K : Type 0} (f : K → ℕ) (o : Option K) (r : Option ℕ) (b : Bool) → option_map f o ≡ r
    → is_some o ≡ b → is_some r ≡ b
found_kind f None r b e h = sym (ap is_some e) ∙ h
found_kind f (Some k) r b e h = sym (ap is_some e) ∙ h

-- of members none of which is refused, the first is not, nor are the others
pub first_not : (o p : Option JsonReason) → option_or o p ≡ None → (o ≡ None) × (p ≡ None)
first_not None p e = (refl, e)
first_not (Some w) p e = absurd (true≢false (ap is_some e))

-- all members stand before the first that is refused, where none is
pub front_whole : (ps : List Part) (before : List (List ℕ)) (ms : Members) → refused_key ps before ms ≡ None
    → front ps before ms ≡ ms
front_whole ps before json.no_members e = refl
front_whole ps before (json.member k j ms) e =
    let two = first_not (key_reason ps before k) (refused_key ps (k ∷ before) ms) e in
    ap (λ (o : Option JsonReason).
    if is_some o then json.no_members else json.member k j (front ps (k ∷ before) ms)) two.0
    ∙ ap (λ (rest : Members). json.member k j rest) (front_whole ps (k ∷ before) ms two.1)

-- ---- the parts without the one that a key has

abbrev drop_name : List Part → List ℕ → List Part
drop_name [] key = []
drop_name (p ∷ ps) key = if bytes_eq p.name key then ps else p ∷ drop_name ps key

dropped_length : (ps : List Part) (key : List ℕ) → is_some (kind_under ps key) ≡ true
    → length (drop_name ps key) + 1 ≡ length ps
dropped_length [] key h = absurd (false≢true h)
dropped_length (p ∷ ps) key h = by_case (bytes_eq p.name key) h (dropped_length ps key)
  where
    by_case : (b : Bool) → is_some (if b then Some p.kind else kind_under ps key) ≡ true
        → (is_some (kind_under ps key) ≡ true → length (drop_name ps key) + 1 ≡ length ps)
        → length (if b then ps else p ∷ drop_name ps key) + 1 ≡ length (p ∷ ps)
    by_case true h again = omega arith
    by_case false h again = let more = again h in omega (arith, more)

dropped_under : (ps : List Part) (key other : List ℕ) → bytes_eq key other ≡ false
    → kind_under (drop_name ps key) other ≡ kind_under ps other
dropped_under [] key other h = refl
dropped_under (p ∷ ps) key other h = by_case (bytes_eq p.name key) refl (dropped_under ps key other h)
  where
    by_case : (b : Bool) → bytes_eq p.name key ≡ b
        → kind_under (drop_name ps key) other ≡ kind_under ps other
        → kind_under (if b then ps else p ∷ drop_name ps key) other ≡ kind_under (p ∷ ps) other
    by_case true e more =
        let apart : bytes_eq p.name other ≡ false =
        ap (λ (x : List ℕ). bytes_eq x other) ((bytes_eq-Decides p.name key).0 e) ∙ h in
        sym (ap (λ (b : Bool). if b then Some p.kind else kind_under ps other) apart)
    by_case false e more = ap (λ (o : Option ℕ). if bytes_eq p.name other then Some p.kind else o) more

each_more : (ps : List Part) (k : List ℕ) (j : Json) (ms : Members) → has_each ps ms ≡ true
    → has_each ps (json.member k j ms) ≡ true
each_more [] k j ms h = refl
each_more (p ∷ ps) k j ms h =
    let hs = both (has_key ms p.name) (has_each ps ms) h in
    and_from (bytes_eq k p.name || has_key ms p.name) (has_each ps (json.member k j ms))
    (or_right (bytes_eq k p.name) (has_key ms p.name) hs.0) (each_more ps k j ms hs.1)

dropped_each : (ps : List Part) (k : List ℕ) (j : Json) (ms : Members) → has_each (drop_name ps k) ms ≡ true
    → has_each ps (json.member k j ms) ≡ true
dropped_each [] k j ms h = refl
dropped_each (p ∷ ps) k j ms h = by_case (bytes_eq p.name k) refl h (dropped_each ps k j ms)
  where
    by_case : (b : Bool) → bytes_eq p.name k ≡ b → has_each (if b then ps else p ∷ drop_name ps k) ms ≡ true
        → (has_each (drop_name ps k) ms ≡ true → has_each ps (json.member k j ms) ≡ true)
        → has_each (p ∷ ps) (json.member k j ms) ≡ true
    by_case true e h more =
        let same : k ≡ p.name = sym ((bytes_eq-Decides p.name k).0 e) in
        and_from (bytes_eq k p.name || has_key ms p.name) (has_each ps (json.member k j ms))
        (ap (λ (b : Bool). b || has_key ms p.name) ((bytes_eq-Decides k p.name).1 same)) (each_more ps k j ms h)
    by_case false e h more =
        let hs = both (has_key ms p.name) (has_each (drop_name ps k) ms) h in
        and_from (bytes_eq k p.name || has_key ms p.name) (has_each ps (json.member k j ms))
        (or_right (bytes_eq k p.name) (has_key ms p.name) hs.0) (more hs.1)

-- members that are known and stand once are so without a part whose name stood before
dropped_known : (ps : List Part) (key : List ℕ) (before : List (List ℕ)) (ms : Members)
    → ((other : List ℕ) → stood before other ≡ false → bytes_eq key other ≡ false)
    → refused_key ps before ms ≡ None → refused_key (drop_name ps key) before ms ≡ None
dropped_known ps key before json.no_members among e = refl
dropped_known ps key before (json.member k j ms) among e =
    let two = first_not (key_reason ps before k) (refused_key ps (k ∷ before) ms) e in
    let here = not_refused ps before k two.0 in
    let known = ap is_some (dropped_under ps key k (among k here.1)) ∙ here.0 in
    ap (λ (o : Option JsonReason). option_or o (refused_key (drop_name ps key) (k ∷ before) ms))
    (refused_none (drop_name ps key) before k known here.1)
    ∙ dropped_known ps key (k ∷ before) ms
    (λ other h. among other (or_parts (bytes_eq k other) (stood before other) h).1) two.1

-- ---- as many members as parts

each_there : (ps : List Part) (before : List (List ℕ)) (ms : Members) → refused_key ps before ms ≡ None
    → count ms ≡ length ps → has_each ps ms ≡ true
each_there [] before ms e many = refl
each_there (p ∷ ps) before json.no_members e many = absurd (omega (arith, many))
each_there (p ∷ ps) before (json.member k j ms) e many =
    let qs : List Part = p ∷ ps in
    let two = first_not (key_reason qs before k) (refused_key qs (k ∷ before) ms) e in
    let here = not_refused qs before k two.0 in
    let fewer = dropped_length qs k here.0 in
    let rest = dropped_known qs k (k ∷ before) ms
    (λ other h. (or_parts (bytes_eq k other) (stood before other) h).0) two.1 in
    dropped_each qs k j ms (each_there (drop_name qs k) (k ∷ before) ms rest (omega (arith, many, fewer)))

pub group_there : (ps : List Part) (ms : Members) → refused_key ps [] ms ≡ None → count ms ≡ length ps
    → is_group ps (json.object ms) ≡ true
group_there ps ms e many =
    and_from (count ms == length ps) (has_each ps ms) (eq-eqb (count ms) (length ps) many)
    (each_there ps [] ms e many)
