-- The members of an object, as a step of the walk: their values are due, up to the first that is refused by its key.
use Rattle.std.proofs.Common.{◌≡◌, ℕ, ◌+◌, ◌*◌, ◌<◌, ◌≤◌, List, [], ◌∷◌, ◌++◌, length, map, Bool, true, false}
use Rattle.std.proofs.Common.{◌&&◌, ◌||◌, ◌==◌, refl, ap, sym, ◌∙◌, subst, arith, Option, Some, None, is_some}
use Rattle.std.proofs.Common.{if◌then◌else◌, inl, inr, Result, Ok, Err, Bor, Vec, Global, codes, take}
use Rattle.std.proofs.lemmas.Bool.{false≢true, true≢false, and_parts as both, and_from, or_parts, and_left, ne_eqb}
use Rattle.std.proofs.lemmas.List.{append-nil, take_all}
use Rattle.std.proofs.lemmas.Slice.Eq.{bytes_eq-Decides}
use Rattle.std.specs.List.{list_any}
use Rattle.std.specs.Str.{bytes_eq}
use Rattle.json.specs.Json as json
use Rattle.json.specs.Json.{Json, Members}
use Rattle.xdr_units.specs.Numbers.{num4}
use Rattle.xdr_types.specs.Faults.{is_void, is_nothing, part_twice, has_name_twice}
use Rattle.xdr_types.specs.Kinds as xdr
use Rattle.xdr_types.specs.Kinds.{KindView, Part, Branch, kind_at}
use Rattle.xdr_types.specs.Tree as value
use Rattle.xdr_types.specs.Fits.{parts}
use Rattle.xdr_json.specs.Mapping.{case_key, arm_key}
use Rattle.xdr_json.specs.Spelled.{count, has_key, at_key, has_each, is_group, arm_keys, under, spells}
use Rattle.xdr_json.proofs.Once.{AreApart}
use Rattle.xdr_json_reader.specs.Nodes.{Due, each, Shows}
use Rattle.xdr_json_reader.specs.Reasons.{WantsNone}
use Rattle.xdr_json_reader.specs.Reasons.{Wants, TellsArm, IsMissing, AllPass, IsRight, values, front}
use Rattle.xdr_json_reader.specs.Reasons.{kind_under, key_reason, refused_key, for_kind, arm_parts}
use Rattle.xdr_json_reader.specs.Reasons.{Fault, lacks, in_member, on_key}
use Rattle.xdr_json_reader.specs.Private.Pending.{work, size, members_size}
use Rattle.xdr_json_reader.specs.Private.Look.{seen, pairs}
use Rattle.xdr_json_reader.specs.Private.Wanted.{IsFront}
use Rattle.xdr_json_reader.specs.Tape.{members_of}
use Rattle.xdr_json_reader.specs.declared.first_members.Front.{Front}
use Rattle.xdr_json_reader.proofs.Fields.{many}
use Rattle.xdr_json_reader.specs.Private.Walk.{FirstIn, Judged, MembersMet, Opens, Turns}
use Rattle.xdr_json_reader.specs.declared.fault.JsonFault.{JsonFault}
use Rattle.xdr_json_reader.specs.declared.fault.JsonReason.{JsonReason}
use Rattle.xdr_json_reader.specs.declared.fault.JsonReason.TheVariants as why
use Rattle.xdr_json_reader.specs.declared.reading_look.Shape.{Shape}
use Rattle.xdr_json_reader.specs.declared.reading_look.Shape.TheVariants as look
use Rattle.xdr_json_reader.specs.declared.tape.Key.{Key}
use Rattle.xdr_json_reader.specs.declared.tape.Node.{Node}
use Rattle.xdr_json_reader.proofs.Firsts.{all_append, right_inside}
use Rattle.xdr_json_reader.proofs.FirstKeys.{front_whole, group_there}
use Rattle.xdr_json_reader.proofs.Groups.{took_choice}
use Rattle.xdr_json_reader.proofs.Sizes.{most, work-append}

-- ---- less is left

for_less : (kinds : List KindView) (o : Option ℕ) (j : Json) (ds : List Due)
    → work kinds (for_kind o j ++ ds) ≤ 2 * (1 + size j) + work kinds ds
for_less kinds None j ds = omega arith
for_less kinds (Some place) j ds = let one = most (kind_at kinds place) in omega (arith, one)

of_values : (kinds : List KindView) (ps : List Part) (ms : Members)
    → work kinds (values ps ms) ≤ 2 * members_size ms
of_values kinds ps json.no_members = omega arith
of_values kinds ps (json.member k j ms) =
    let one = for_less kinds (kind_under ps k) j (values ps ms) in
    let more = of_values kinds ps ms in
    omega (arith, one, more)

front_size : (ps : List Part) (before : List (List ℕ)) (ms : Members)
    → members_size (front ps before ms) ≤ members_size ms
front_size ps before json.no_members = omega arith
front_size ps before (json.member k j ms) =
    by_case (is_some (key_reason ps before k)) (front_size ps (k ∷ before) ms)
  where
    by_case : (b : Bool) → members_size (front ps (k ∷ before) ms) ≤ members_size ms
        → members_size (if b then json.no_members else json.member k j (front ps (k ∷ before) ms))
        ≤ (1 + size j) + members_size ms
    by_case true h = omega arith
    by_case false h = omega (arith, h)

members_less : (kinds : List KindView) (place : ℕ) (ms : Members) (ps : List Part) (old : List Due)
    → work kinds (values ps (front ps [] ms) ++ old) < work kinds ((place, json.object ms) ∷ old)
members_less kinds place ms ps old =
    let all = work-append kinds (values ps (front ps [] ms)) old in
    let few = of_values kinds ps (front ps [] ms) in
    let fewer = front_size ps [] ms in
    omega (arith, all, few, fewer)

-- ---- the parts are right where the members are

right_at : (P : Due → Type 0) (ps : List Part) (ms : Members) (key : List ℕ) (place : ℕ) → AllPass P (values ps ms)
    → kind_under ps key ≡ Some place → has_key ms key ≡ true → P (place, at_key ms key)
right_at P ps json.no_members key place a is h = absurd (false≢true h)
right_at P ps (json.member k j ms) key place a is h =
    by_case (bytes_eq k key) refl h
    (right_at P ps ms key place (all_append P (for_kind (kind_under ps k) j) (values ps ms) a).1 is)
  where
    by_case : (b : Bool) → bytes_eq k key ≡ b → (b || has_key ms key) ≡ true
        → (has_key ms key ≡ true → P (place, at_key ms key)) → P (place, if b then j else at_key ms key)
    by_case true e h more =
        let same = ap (kind_under ps) ((bytes_eq-Decides k key).0 e) ∙ is in
        (subst (λ (o : Option ℕ). AllPass P (for_kind o j ++ values ps ms)) same a).0
    by_case false e h more = more h

abbrev AllUnder : List Part → List Part → Type 0
AllUnder ps [] = Unit {0}
AllUnder ps (q ∷ qs) = (kind_under ps q.name ≡ Some q.kind) × AllUnder ps qs

under_skip : (p : Part) (ps qs : List Part) → list_any (λ (q : Part). bytes_eq p.name q.name) qs ≡ false
    → AllUnder ps qs → AllUnder (p ∷ ps) qs
under_skip p ps [] h all = tt
under_skip p ps (q ∷ qs) h all =
    let two = or_parts (bytes_eq p.name q.name) (list_any (λ (r : Part). bytes_eq p.name r.name) qs) h in (
      ap (λ (b : Bool). if b then Some p.kind else kind_under ps q.name) two.0 ∙ all.0,
      under_skip p ps qs two.1 all.1,
    )

all_under : (ps : List Part) → part_twice ps ≡ false → AllUnder ps ps
all_under [] once = tt
all_under (p ∷ ps) once =
    let two = or_parts (list_any (λ (q : Part). bytes_eq p.name q.name) ps) (part_twice ps) once in (
      ap (λ (b : Bool). if b then Some p.kind else kind_under ps p.name) ((bytes_eq-Decides p.name p.name).1 refl),
      under_skip p ps ps two.0 (all_under ps two.1),
    )

right_each : (P : Due → Type 0) (ps qs : List Part) (ms : Members) → AllPass P (values ps ms) → AllUnder ps qs
    → has_each qs ms ≡ true → AllPass P (each qs (map (λ (p : Part). at_key ms p.name) qs))
right_each P ps [] ms a all h = tt
right_each P ps (q ∷ qs) ms a all h =
    let hs = both (has_key ms q.name) (has_each qs ms) h in
    (right_at P ps ms q.name q.kind a all.0 hs.0, right_each P ps qs ms a all.1 hs.1)

-- ---- an object is right where its members are

group_right : (kinds : List KindView) (place : ℕ) (ms : Members) (ps : List Part)
    → kind_at kinds place ≡ xdr.structure ps → part_twice ps ≡ false → is_group ps (json.object ms) ≡ true
    → AllPass (IsRight kinds) (values ps ms) → IsRight kinds (place, json.object ms)
group_right kinds place ms ps is once whole a =
    let hs = both (count ms == length ps) (has_each ps ms) whole in
    right_inside kinds (place, json.object ms) value.fields
    (subst (λ (f : KindView). Shows kinds f (json.object ms) value.fields) (sym is)
    (record { legal = refl; shown = whole }))
    (subst (λ (f : KindView).
    AllPass (IsRight kinds) (each (parts f value.fields) (under kinds f value.fields (json.object ms)))) (sym is)
    (right_each (IsRight kinds) ps ps ms a (all_under ps once) hs.1))

not_case : (name : List ℕ) → bytes_eq name case_key ≡ false → (c : Bool) → bytes_eq case_key name ≡ c → c ≡ false
not_case name is true e =
    absurd (false≢true (sym is ∙ (bytes_eq-Decides name case_key).1 (sym ((bytes_eq-Decides case_key name).0 e))))
not_case name is false e = refl

-- the key of an arm is not that of the discriminant
arm_apart : (name : List ℕ) → bytes_eq case_key (arm_key name) ≡ false
arm_apart name = by_case (bytes_eq name case_key) refl
  where
    by_case : (b : Bool) → bytes_eq name case_key ≡ b → bytes_eq case_key (if b then codes "case_" else name) ≡ false
    by_case true is = refl
    by_case false is = not_case name is (bytes_eq case_key name) refl

void_right : (kinds : List KindView) (place : ℕ) → is_void kinds place ≡ true
    → IsRight kinds (place, json.object json.no_members)
void_right kinds place h = ((value.nothing, value.none), by_case (kind_at kinds place) refl h)
  where
    by_case : (f : KindView) → kind_at kinds place ≡ f → is_nothing f ≡ true
        → spells kinds place (json.object json.no_members) (value.nothing, value.none) ≡ true
    by_case xdr.nothing e h = rw e refl
    by_case _ e h = absurd (false≢true h)

arm_right : (kinds : List KindView) (tag : ℕ) (ms : Members) (p : Part)
    → has_each (arm_keys kinds (p ∷ [])) ms ≡ true → AllPass (IsRight kinds) (values (arm_parts kinds tag p) ms)
    → IsRight kinds (p.kind, if is_void kinds p.kind then json.object json.no_members else at_key ms (arm_key p.name))
arm_right kinds tag ms p has a = by_case (is_void kinds p.kind) refl has a
  where
    arm : Part
    arm = record { name = arm_key p.name; kind = p.kind }

    tagged : Part
    tagged = record { name = case_key; kind = tag }

    by_case : (b : Bool) → is_void kinds p.kind ≡ b → has_each (if b then [] else arm ∷ []) ms ≡ true
        → AllPass (IsRight kinds) (values (tagged ∷ (if b then [] else arm ∷ [])) ms)
        → IsRight kinds (p.kind, if b then json.object json.no_members else at_key ms (arm_key p.name))
    by_case true e has a = void_right kinds p.kind e
    by_case false e has a =
        let named : kind_under (tagged ∷ arm ∷ []) (arm_key p.name) ≡ Some p.kind =
        ap (λ (b : Bool). if b then Some tag else kind_under (arm ∷ []) (arm_key p.name)) (arm_apart p.name)
        ∙ ap (λ (b : Bool). if b then Some p.kind else None) ((bytes_eq-Decides (arm_key p.name) (arm_key p.name)).1
        refl) in
        right_at (IsRight kinds) (tagged ∷ arm ∷ []) ms (arm_key p.name) p.kind a named
        (both (has_key ms (arm_key p.name)) true has).0

choice_right : (kinds : List KindView) (place tag : ℕ) (arms : List Branch) (other : Option Part) (ms : Members)
    (p : Part) → kind_at kinds place ≡ xdr.choice tag arms other → TellsArm kinds tag arms other ms p
    → is_group (arm_parts kinds tag p) (json.object ms) ≡ true
    → AllPass (IsRight kinds) (values (arm_parts kinds tag p) ms) → IsRight kinds (place, json.object ms)
choice_right kinds place tag arms other ms p is t whole a =
    let ks = arm_keys kinds (p ∷ []) in
    let j = if is_void kinds p.kind then json.object json.no_members else at_key ms (arm_key p.name) in
    let same : length (arm_parts kinds tag p) ≡ 1 + length (arm_keys kinds (p ∷ [])) = omega arith in
    let hs = both (count ms == length (arm_parts kinds tag p)) (has_key ms case_key && has_each ks ms) whole in
    let cs = both (has_key ms case_key) (has_each ks ms) hs.1 in
    let took = took_choice kinds tag arms other t.number p ms j [] (num4 t.number) [] ((p.kind, j) ∷ [])
    t.tells.legal t.is t.named t.tells.shown
    (and_from (count ms == 1 + length ks) (has_each ks ms) (ap (λ (n : ℕ). count ms == n) (sym same) ∙ hs.0) cs.1)
    refl refl refl in
    let arm : AllPass (IsRight kinds) ((p.kind, j) ∷ []) = (arm_right kinds tag ms p cs.1 a, tt) in
    let f = xdr.choice tag arms other in
    let inner = (all_append (IsRight kinds) (each (parts f took.head) (under kinds f took.head (json.object ms))) []
    (subst (λ (ds : List Due). AllPass (IsRight kinds) ds) took.parts arm)).0 in
    right_inside kinds (place, json.object ms) took.head
    (subst (λ (g : KindView). Shows kinds g (json.object ms) took.head) (sym is) took.shows)
    (subst (λ (g : KindView).
    AllPass (IsRight kinds) (each (parts g took.head) (under kinds g took.head (json.object ms)))) (sym is) inner)

wants_right : (kinds : List KindView) → AreApart kinds → (place : ℕ) (ms : Members) (ps : List Part)
    → Wants kinds (kind_at kinds place) (json.object ms) ps → is_group ps (json.object ms) ≡ true
    → AllPass (IsRight kinds) (values ps ms) → IsRight kinds (place, json.object ms)
wants_right kinds apart place ms ps wants whole a = by_case (kind_at kinds place) refl wants
  where
    by_case : (f : KindView) → kind_at kinds place ≡ f → Wants kinds f (json.object ms) ps
        → IsRight kinds (place, json.object ms)
    by_case (xdr.structure fields) is e =
        group_right kinds place ms ps (is ∙ ap xdr.structure (sym e))
        (sym (ap has_name_twice (is ∙ ap xdr.structure (sym e))) ∙ apart place) whole a
    by_case (xdr.choice tag arms other) is w =
        choice_right kinds place tag arms other ms w.0 is w.1
        (subst (λ (qs : List Part). is_group qs (json.object ms) ≡ true) w.2 whole)
        (subst (λ (qs : List Part). AllPass (IsRight kinds) (values qs ms)) w.2 a)
    by_case _ is w = absurd w

-- ---- a step

no_missing : (ps : List Part) (ms : Members) → (IsMissing ps ms → ⊥) → refused_key ps [] ms ≡ None
    → is_group ps (json.object ms) ≡ true
no_missing ps ms there e = by_case (is_group ps (json.object ms)) refl
  where
    by_case : (b : Bool) → is_group ps (json.object ms) ≡ b → b ≡ true
    by_case true h = refl
    by_case false h = absurd (there (e, h))

-- no member is refused
pub members_open : (kinds : List KindView) → AreApart kinds → (place : ℕ) (ms : Members) (ps : List Part)
    (old new : List Due) → Wants kinds (kind_at kinds place) (json.object ms) ps
    → new ≡ values ps (front ps [] ms) ++ old → refused_key ps [] ms ≡ None → (IsMissing ps ms → ⊥)
    → Opens kinds (place, json.object ms) old new
members_open kinds apart place ms ps old new wants is e there = record {
  parts = values ps (front ps [] ms);
  due = is;
  first = λ w f ds. in_member place ms ds ps w wants there f;
  right = λ a. wants_right kinds apart place ms ps wants (no_missing ps ms there e)
      (subst (λ (rest : Members). AllPass (IsRight kinds) (values ps rest)) (front_whole ps [] ms e) a);
  less = subst (λ (ds : List Due). work kinds ds < work kinds ((place, json.object ms) ∷ old)) (sym is)
      (members_less kinds place ms ps old);
}

-- one is
pub members_turn : (kinds : List KindView) (place : ℕ) (ms : Members) (ps : List Part) (old new : List Due)
    (w : JsonReason) → Wants kinds (kind_at kinds place) (json.object ms) ps → new ≡ values ps (front ps [] ms)
    → refused_key ps [] ms ≡ Some w → Turns kinds (place, json.object ms) old new w
members_turn kinds place ms ps old new w wants is e =
    let all = work-append kinds (values ps (front ps [] ms)) old in
    let less = members_less kinds place ms ps old in
    let same = ap (work kinds) is in
    record {
      first = λ v f ds. in_member place ms ds ps v wants
          (λ m. true≢false (ap is_some (sym e ∙ m.0)))
          (subst (λ (xs : List Due). Fault kinds (IsRight kinds) xs v) is f);
      last = λ a ds. on_key place ms ds ps w wants e (subst (λ (xs : List Due). AllPass (IsRight kinds) xs) is a);
      less = omega (arith, all, less, same);
    }

-- one is missing
pub members_lack : (kinds : List KindView) (place : ℕ) (ms : Members) (ps : List Part)
    → Wants kinds (kind_at kinds place) (json.object ms) ps → IsMissing ps ms
    → FirstIn kinds (place, json.object ms) why.MissingMember
members_lack kinds place ms ps wants m = λ ds. lacks place ms ds ps wants m

-- what becomes of an object, from what becomes of its members
pub judged_members : (kinds : List KindView) → AreApart kinds → (place : ℕ) (ms : Members) (ps : List Part)
    (old new : List Due) (r : Result (Option JsonFault) JsonFault)
    → Wants kinds (kind_at kinds place) (json.object ms) ps → MembersMet ps ms old new r
    → Judged kinds (place, json.object ms) old new r
judged_members kinds apart place ms ps old new (Ok None) wants m =
    members_open kinds apart place ms ps old new wants m.0 m.1 m.2
judged_members kinds apart place ms ps old new (Ok (Some f)) wants m =
    members_turn kinds place ms ps old new f.why wants m.0 m.1
judged_members kinds apart place ms ps old new (Err f) wants m =
    elim m [
      | inl e ↦ inl e
      | inr l ↦
          inr (subst (λ (w : JsonReason). FirstIn kinds (place, json.object ms) w) (sym l.0)
          (members_lack kinds place ms ps wants l.1))
    ]

-- ---- what was found of the members

-- one is refused by its key
pub met_front : (ps : List Part) (ms : List (Key × Node)) (f : Front) (w : JsonReason) (none new : List Due)
    → IsFront ps ms f → f.why ≡ Some w → none ≡ []
    → new ≡ values ps (members_of (pairs (take f.count ms))) ++ none
    → (new ≡ values ps (front ps [] (members_of (pairs ms)))) × (refused_key ps [] (members_of (pairs ms)) ≡ Some w)
met_front ps ms f w none new is some empty made =
    let vs = values ps (members_of (pairs (take f.count ms))) in (
      made ∙ ap (λ (z : List Due). vs ++ z) empty ∙ append-nil vs ∙ ap (values ps) (sym is.is),
      is.why ∙ some,
    )

-- none is, and they are as many as are wanted
pub met_whole : (ps : List Part) (ms : List (Key × Node)) (f : Front) (old new : List Due) → IsFront ps ms f
    → f.why ≡ None → length ms ≡ length ps
    → new ≡ values ps (members_of (pairs (take (length ms) ms))) ++ old
    → (new ≡ values ps (front ps [] (members_of (pairs ms))) ++ old)
    × (refused_key ps [] (members_of (pairs ms)) ≡ None) × (IsMissing ps (members_of (pairs ms)) → ⊥)
met_whole ps ms f old new is none same made =
    let all = members_of (pairs ms) in
    let e = is.why ∙ none in (
      made
          ∙ ap (λ (xs : List (Key × Node)). values ps (members_of (pairs xs)) ++ old)
          (take_all (length ms) ms (omega arith))
          ∙ ap (λ (xs : Members). values ps xs ++ old) (sym (front_whole ps [] all e)),
      e,
      λ m. true≢false (sym (group_there ps all e (many ms ∙ same)) ∙ m.1),
    )

-- none is, and they are not as many
pub met_lack : (ps : List Part) (ms : List (Key × Node)) (f : Front) → IsFront ps ms f → f.why ≡ None
    → (length ms ≡ length ps → ⊥) → IsMissing ps (members_of (pairs ms))
met_lack ps ms f is none other =
    let all = members_of (pairs ms) in (
      is.why ∙ none,
      and_left (count all == length ps) (has_each ps all)
          (ne_eqb (count all) (length ps) (λ e. other (sym (many ms) ∙ e))),
    )

-- ---- only objects have members by name

wants_object : (kinds : List KindView) (f : KindView) (j : Json) (ps : List Part) → Wants kinds f j ps
    → (ms : Members) × (j ≡ json.object ms)
wants_object kinds (xdr.structure fields) (json.object ms) ps w = (ms, refl)
wants_object kinds (xdr.choice tag arms other) (json.object ms) ps w = (ms, refl)
wants_object kinds f j ps w = absurd w

abbrev is_object : Json → Bool
is_object (json.object ms) = true
is_object _ = false

no_object : (l : Shape) → ((v : Bor (Vec (Key × Node) Global)) → l ≡ look.Object v → ⊥) → is_object (seen l) ≡ false
no_object look.Null other = refl
no_object (look.Flag b) other = refl
no_object (look.Number s) other = refl
no_object (look.Text s) other = refl
no_object (look.Array v) other = refl
no_object (look.Object v) other = absurd (other v refl)

pub no_names : (kinds : List KindView) (f : KindView) (l : Shape) (j : Json)
    → ((v : Bor (Vec (Key × Node) Global)) → l ≡ look.Object v → ⊥) → seen l ≡ j → WantsNone kinds f j
no_names kinds f l j other is = λ ps w.
    let o = wants_object kinds f j ps w in
    false≢true (sym (no_object l other) ∙ ap is_object (is ∙ o.1))
