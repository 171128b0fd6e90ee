-- The members with which an object begins, one after another, up to the first that is refused by its key; and their
-- values, from the last to the first.
use Rattle.std.proofs.Common.{◌≡◌, ℕ, ◌+◌, ◌-◌, ◌<◌, ◌≤◌, List, [], ◌∷◌, ◌++◌, length, map, take, drop, reverse, get_or}
use Rattle.std.proofs.Common.{refl, ap, sym, ◌∙◌, arith, Option, Some, None, is_some}
use Rattle.std.proofs.Common.{if◌then◌else◌}
use Rattle.std.proofs.lemmas.List.{append_assoc, drop_more, drop_all, take_more, map-append, reverse-append}
use Rattle.std.specs.Option.{option_or}
use Rattle.json.specs.Json as json
use Rattle.json.specs.Json.{Json, Members}
use Rattle.xdr_types.specs.Kinds.{Part}
use Rattle.xdr_json_reader.specs.Nodes.{Due}
use Rattle.xdr_json_reader.specs.Tape.{json_in, members_of}
use Rattle.xdr_json_reader.specs.Reasons.{kind_under, key_reason, refused_key, front, for_kind, values}
use Rattle.xdr_json_reader.specs.Private.Fields.{keys}
use Rattle.xdr_json_reader.specs.Private.Frames.{before_members, pair_of}
use Rattle.xdr_json_reader.specs.Private.Look.{pairs}
use Rattle.xdr_json_reader.specs.declared.fault.JsonReason.{JsonReason}
use Rattle.xdr_json_reader.specs.declared.tape.Key.{Key}
use Rattle.xdr_json_reader.specs.declared.tape.Node.{Node}
use Rattle.xdr_json_reader.proofs.Parsing.{more_members, all_members}

-- the keys of members, the last one first
abbrev pub stood_in : List (Key × Node) → List (List ℕ)
stood_in ms = reverse (keys ms)

-- none of so many members is refused: what is refused is so behind them, and they stand before it
abbrev pub IsKnownTo : List Part → List (Key × Node) → ℕ → Type 0
IsKnownTo ps ms i =
    (refused_key ps [] (members_of (pairs ms))
    ≡ refused_key ps (stood_in (take i ms)) (members_of (pairs (drop i ms))))
    × (front ps [] (members_of (pairs ms))
    ≡ before_members (map pair_of (take i ms)) (front ps (stood_in (take i ms)) (members_of (pairs (drop i ms)))))

pub known_start : (ps : List Part) (ms : List (Key × Node)) → IsKnownTo ps ms 0
known_start ps ms = (refl, refl)

pub stood_more : (ms : List (Key × Node)) (i : ℕ) (m : Key × Node) → i < length ms → get_or ms i m ≡ m
    → stood_in (take (i + 1) ms) ≡ m.0.name.now ∷ stood_in (take i ms)
stood_more ms i m within is =
    let taken : take (i + 1) ms ≡ take i ms ++ m ∷ [] =
    take_more ms i m within ∙ ap (λ (x : Key × Node). take i ms ++ x ∷ []) is in
    ap stood_in taken
    ∙ ap reverse (map-append (λ (k : Key × Node). k.0.name.now) (take i ms) (m ∷ []))
    ∙ reverse-append (keys (take i ms)) (m.0.name.now ∷ [])

module _ (ps : List Part) (ms : List (Key × Node)) (i : ℕ) (m : Key × Node) (within : i < length ms)
    (is : get_or ms i m ≡ m) (known : IsKnownTo ps ms i) where
  abbrev before : List (List ℕ)
  before = stood_in (take i ms)

  abbrev key : List ℕ
  key = m.0.name.now

  abbrev rest : Members
  rest = members_of (pairs (drop (i + 1) ms))

  left : drop i ms ≡ m ∷ drop (i + 1) ms
  left = drop_more ms i m within ∙ ap (λ (x : Key × Node). x ∷ drop (i + 1) ms) is

  taken : take (i + 1) ms ≡ take i ms ++ m ∷ []
  taken = take_more ms i m within ∙ ap (λ (x : Key × Node). take i ms ++ x ∷ []) is

  -- what follows begins with this member
  refused_is : refused_key ps [] (members_of (pairs ms))
      ≡ option_or (key_reason ps before key) (refused_key ps (key ∷ before) rest)
  refused_is = known.0 ∙ ap (λ (xs : List (Key × Node)). refused_key ps before (members_of (pairs xs))) left

  front_is : front ps [] (members_of (pairs ms))
      ≡ before_members (map pair_of (take i ms))
      (if is_some (key_reason ps before key) then json.no_members else
      json.member key (json_in m.1) (front ps (key ∷ before) rest))
  front_is =
      known.1
      ∙ ap (λ (xs : List (Key × Node)).
      before_members (map pair_of (take i ms)) (front ps before (members_of (pairs xs)))) left

  -- it is not refused
  pub known_more : key_reason ps (stood_in (take i ms)) m.0.name.now ≡ None → IsKnownTo ps ms (i + 1)
  known_more none = (
    refused_is ∙ ap (λ (o : Option JsonReason). option_or o (refused_key ps (key ∷ before) rest)) none
        ∙ ap (λ (ks : List (List ℕ)). refused_key ps ks rest) (sym (stood_more ms i m within is)),
    front_is
        ∙ ap (λ (o : Option JsonReason). before_members (map pair_of (take i ms))
        (if is_some o then json.no_members else json.member key (json_in m.1) (front ps (key ∷ before) rest))) none
        ∙ sym (more_members (map pair_of (take i ms)) key (json_in m.1) (front ps (key ∷ before) rest))
        ∙ ap (λ (xs : List (List ℕ × Json)). before_members xs (front ps (key ∷ before) rest))
        (sym (map-append pair_of (take i ms) (m ∷ [])) ∙ ap (map pair_of) (sym taken))
        ∙ ap (λ (ks : List (List ℕ)). before_members (map pair_of (take (i + 1) ms)) (front ps ks rest))
        (sym (stood_more ms i m within is)),
  )

  -- it is
  pub known_refused : (w : JsonReason) → key_reason ps (stood_in (take i ms)) m.0.name.now ≡ Some w
      → (refused_key ps [] (members_of (pairs ms)) ≡ Some w)
      × (front ps [] (members_of (pairs ms)) ≡ members_of (pairs (take i ms)))
  known_refused w some = (
    refused_is ∙ ap (λ (o : Option JsonReason). option_or o (refused_key ps (key ∷ before) rest)) some,
    front_is
        ∙ ap (λ (o : Option JsonReason). before_members (map pair_of (take i ms))
        (if is_some o then json.no_members else json.member key (json_in m.1) (front ps (key ∷ before) rest))) some
        ∙ all_members (take i ms),
  )

-- all members were gone over
pub known_end : (ps : List Part) (ms : List (Key × Node)) (i : ℕ) → i ≡ length ms → IsKnownTo ps ms i
    → (refused_key ps [] (members_of (pairs ms)) ≡ None)
    × (front ps [] (members_of (pairs ms)) ≡ members_of (pairs (take (length ms) ms)))
known_end ps ms i e known =
    let none : drop i ms ≡ [] = drop_all i ms (omega (arith, e)) in (
      known.0 ∙ ap (λ (xs : List (Key × Node)). refused_key ps (stood_in (take i ms)) (members_of (pairs xs))) none,
      known.1
          ∙ ap (λ (xs : List (Key × Node)).
          before_members (map pair_of (take i ms)) (front ps (stood_in (take i ms)) (members_of (pairs xs)))) none
          ∙ all_members (take i ms)
          ∙ ap (λ (n : ℕ). members_of (pairs (take n ms))) e,
    )

-- ---- values, from the last to the first

pub values_step : (ps : List Part) (ms : List (Key × Node)) (left : ℕ) (m : Key × Node) (old new ds : List Due)
    → 0 < left → left ≤ length ms → get_or ms (left - 1) m ≡ m
    → old ≡ values ps (members_of (pairs (drop left ms))) ++ ds
    → new ≡ for_kind (kind_under ps m.0.name.now) (json_in m.1) ++ old
    → new ≡ values ps (members_of (pairs (drop (left - 1) ms))) ++ ds
values_step ps ms left m old new ds pos within at is made =
    let next : left ≡ (left - 1) + 1 = omega arith in
    let split : drop (left - 1) ms ≡ m ∷ drop left ms =
    drop_more ms (left - 1) m (omega arith) ∙ ap (λ (x : Key × Node). x ∷ drop (left - 1 + 1) ms) at
    ∙ ap (λ (k : ℕ). m ∷ drop k ms) (sym next) in
    let here = for_kind (kind_under ps m.0.name.now) (json_in m.1) in
    made ∙ ap (λ (z : List Due). here ++ z) is
    ∙ sym (append_assoc here (values ps (members_of (pairs (drop left ms)))) ds)
    ∙ ap (λ (xs : List (Key × Node)). values ps (members_of (pairs xs)) ++ ds) (sym split)
