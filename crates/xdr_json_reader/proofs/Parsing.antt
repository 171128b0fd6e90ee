-- One turn of an open array or object, as the grammar has it.
use Rattle.std.proofs.Common.{◌≡◌, ℕ, zero, suc, ◌-◌, ◌<◌, ◌≤◌, List, [], ◌∷◌, ◌++◌, length, map, Option, Some, None}
use Rattle.std.proofs.Common.{option_and_then, refl, sym, ap, ◌∙◌, arith, rules, Vec, Global, Bool, Bor}
use Rattle.json.specs.Token.{Token}
use Rattle.json.specs.Json as json
use Rattle.json.specs.Json.{Json, Items, no_items, item, Members, no_members, member, parse_map, items}
use Rattle.json.specs.Json.{members, value}
use Rattle.json.specs.Json.{after_end_array, read_key, items_step, members_step}
use Rattle.json.specs.Value.{items_of}
use Rattle.json.proofs.Grammar.{items_end, items_fail, items_more, members_end, members_no_key, members_fail}
use Rattle.json.proofs.Grammar.{members_more, skip_value-shorter, read_key-shorter, left}
use Rattle.json.proofs.Grammar.{value_is}
use Rattle.xdr_json_reader.specs.Tape.{json_in, members_of}
use Rattle.xdr_json_reader.specs.Private.Frames.{array_of, object_of, before_items, before_members}
use Rattle.xdr_json_reader.specs.Private.Frames.{inner, closed}
use Rattle.xdr_json_reader.specs.Private.Frames.{frame_of, pair_of}
use Rattle.xdr_json_reader.specs.Private.Begun.{IsOpened, Begins, Goes}
use Rattle.xdr_json_reader.specs.declared.tape.Key.{Key}
use Rattle.xdr_json_reader.specs.declared.tape.Node as node
use Rattle.xdr_json_reader.specs.declared.tape.Node.{Node, the_lemmas}
use Rattle.xdr_json_reader.specs.declared.tape_frames.Open.TheVariants as held
use Rattle.xdr_json_reader.specs.declared.tape_frames.Begun.{Begun}

pub shorter : (d : ℕ) (ts r : List Token) (j : Json) → value d ts ≡ Some (j, r) → length r < length ts
shorter d ts r j e = skip_value-shorter d ts r (ap left e)

pub more_items : (ds : List Json) (j : Json) (js : Items) → before_items (ds ++ j ∷ []) js ≡ before_items ds (item j js)
more_items [] j js = refl
more_items (d ∷ ds) j js = ap (item d) (more_items ds j js)

pub more_members : (ds : List (List ℕ × Json)) (k : List ℕ) (j : Json) (ms : Members)
    → before_members (ds ++ (k, j) ∷ []) ms ≡ before_members ds (member k j ms)
more_members [] k j ms = refl
more_members (d ∷ ds) k j ms = ap (member d.0 d.1) (more_members ds k j ms)

pub all_items : (ds : List Json) → before_items ds no_items ≡ items_of ds
all_items [] = refl
all_items (d ∷ ds) = ap (item d) (all_items ds)

map-twice : {A B C : Type 0} (f : A → B) (g : B → C) (h : A → C) → ((x : A) → g (f x) ≡ h x)
    → (o : Option (A × List Token))
    → parse_map g (parse_map f o) ≡ parse_map h o
map-twice f g h e None = refl
map-twice f g h e (Some p) = ap (λ z. Some (z, p.1)) (e p.0)

nothing_at_end : (d : ℕ) → value d [] ≡ None
nothing_at_end d = value_is d []

item_turns : (d n m : ℕ) (ts : List Token) (o : Option (List Token)) (v : Option (Json × List Token)) → value d ts ≡ v
    → ((r : List Token) → length r < length ts → items (value d) n r ≡ items (value d) m r)
    → items_step (value d) (items (value d) n) ts o ≡ items_step (value d) (items (value d) m) ts o
item_turns d n m ts (Some r) v is again = refl
item_turns d n m ts None None is again =
    ap (option_and_then (λ p. parse_map (item p.0) (items (value d) n p.1))) is
    ∙ sym (ap (option_and_then (λ p. parse_map (item p.0) (items (value d) m p.1))) is)
item_turns d n m ts None (Some (j, r)) is again =
    ap (option_and_then (λ p. parse_map (item p.0) (items (value d) n p.1))) is
    ∙ ap (parse_map (item j)) (again r (shorter d ts r j is))
    ∙ sym (ap (option_and_then (λ p. parse_map (item p.0) (items (value d) m p.1))) is)

-- more turns than are needed change nothing
items_turns : (d n m : ℕ) (ts : List Token) → length ts ≤ n → length ts ≤ m
    → items (value d) n ts ≡ items (value d) m ts
unfolding items
items_turns d zero zero ts p q = refl
items_turns d zero (suc m) [] p q =
    sym (ap (option_and_then (λ p. parse_map (item p.0) (items (value d) m p.1))) (nothing_at_end d))
items_turns d zero (suc m) (t ∷ ts) p q = absurd (omega (arith, p))
items_turns d (suc n) zero [] p q =
    ap (option_and_then (λ p. parse_map (item p.0) (items (value d) n p.1))) (nothing_at_end d)
items_turns d (suc n) zero (t ∷ ts) p q = absurd (omega (arith, q))
items_turns d (suc n) (suc m) ts p q =
    item_turns d n m ts (after_end_array ts) (value d ts) refl
    (λ r less. items_turns d n m r (omega (arith, p, less)) (omega (arith, q, less)))

-- one more item
pub turn_array : (d : ℕ) (k : List ℕ) (done : List Json) (ts : List Token) → after_end_array ts ≡ None
    → inner d (array_of k done) ts ≡ option_and_then (λ p. inner d (array_of k (done ++ p.0 ∷ [])) p.1) (value d ts)
turn_array d k done ts e = by_case (value d ts) refl
  where
    by_case : (v : Option (Json × List Token)) → value d ts ≡ v
        → inner d (array_of k done) ts ≡ option_and_then (λ p. inner d (array_of k (done ++ p.0 ∷ [])) p.1) (value d ts)
    by_case None is =
        ap (parse_map (λ js. json.array (before_items done js))) (items_fail (value d) (length ts) ts e is)
        ∙ sym (ap (option_and_then (λ p. inner d (array_of k (done ++ p.0 ∷ [])) p.1)) is)
    by_case (Some (j, r)) is =
        let less = shorter d ts r j is in
        ap (parse_map (λ js. json.array (before_items done js)))
        (items_more (value d) (length ts) ts r j (omega (arith, less)) e is
        ∙ ap (parse_map (item j)) (items_turns d (length ts - 1) (length r) r (omega (arith, less)) (omega arith)))
        ∙ map-twice (item j) (λ js. json.array (before_items done js))
        (λ js. json.array (before_items (done ++ j ∷ []) js))
        (λ js. ap json.array (sym (more_items done j js))) (items (value d) (length r) r)
        ∙ sym (ap (option_and_then (λ p. inner d (array_of k (done ++ p.0 ∷ [])) p.1)) is)

member_turns : (d n m : ℕ) (ts : List Token) (o : Option (Option (List ℕ) × List Token))
    → ((k : List ℕ) (r : List Token) → o ≡ Some (Some k, r) → (v : Option (Json × List Token)) → value d r ≡ v
    → option_and_then (λ p. parse_map (member k p.0) (members (value d) n p.1)) v
    ≡ option_and_then (λ p. parse_map (member k p.0) (members (value d) m p.1)) v)
    → option_and_then (λ q. members_step (value d) (members (value d) n) q.0 q.1) o
    ≡ option_and_then (λ q. members_step (value d) (members (value d) m) q.0 q.1) o
member_turns d n m ts None again = refl
member_turns d n m ts (Some (None, r)) again = refl
member_turns d n m ts (Some (Some k, r)) again = again k r refl (value d r) refl

member_turn : (d n m : ℕ) (k : List ℕ) (ts s : List Token) (v : Option (Json × List Token)) → value d s ≡ v
    → length s < length ts → ((r : List Token) → length r < length ts → members (value d) n r ≡ members (value d) m r)
    → option_and_then (λ p. parse_map (member k p.0) (members (value d) n p.1)) v
    ≡ option_and_then (λ p. parse_map (member k p.0) (members (value d) m p.1)) v
member_turn d n m k ts s None is less again = refl
member_turn d n m k ts s (Some (j, r)) is less again =
    ap (parse_map (member k j)) (again r (omega (arith, less, shorter d s r j is)))

members_turns : (d n m : ℕ) (ts : List Token) → length ts ≤ n → length ts ≤ m
    → members (value d) n ts ≡ members (value d) m ts
unfolding members
members_turns d zero zero ts p q = refl
members_turns d zero (suc m) [] p q = refl
members_turns d zero (suc m) (t ∷ ts) p q = absurd (omega (arith, p))
members_turns d (suc n) zero [] p q = refl
members_turns d (suc n) zero (t ∷ ts) p q = absurd (omega (arith, q))
members_turns d (suc n) (suc m) ts p q =
    member_turns d n m ts (read_key ts)
    (λ k s e v is. member_turn d n m k ts s v is (read_key-shorter ts (Some k) s e)
    (λ r less. members_turns d n m r (omega (arith, p, less)) (omega (arith, q, less))))

-- one more member
pub turn_object : (d : ℕ) (k : List ℕ) (done : List (List ℕ × Json)) (key : List ℕ) (ts s : List Token)
    → read_key ts ≡ Some (Some key, s) → inner d (object_of k done) ts
    ≡ option_and_then (λ p. inner d (object_of k (done ++ (key, p.0) ∷ [])) p.1) (value d s)
turn_object d k done key ts s e = by_case (value d s) refl
  where
    by_case : (v : Option (Json × List Token)) → value d s ≡ v → inner d (object_of k done) ts
        ≡ option_and_then (λ p. inner d (object_of k (done ++ (key, p.0) ∷ [])) p.1) (value d s)
    by_case None is =
        ap (parse_map (λ ms. json.object (before_members done ms)))
        (members_fail (value d) (length ts) key ts s e is)
        ∙ sym (ap (option_and_then (λ p. inner d (object_of k (done ++ (key, p.0) ∷ [])) p.1)) is)
    by_case (Some (j, r)) is =
        let less = shorter d s r j is in
        let fewer = read_key-shorter ts (Some key) s e in
        ap (parse_map (λ ms. json.object (before_members done ms)))
        (members_more (value d) (length ts) key ts s r j (omega (arith, less, fewer)) e is
        ∙ ap (parse_map (member key j))
        (members_turns d (length ts - 1) (length r) r (omega (arith, less, fewer)) (omega arith)))
        ∙ map-twice (member key j) (λ ms. json.object (before_members done ms))
        (λ ms. json.object (before_members (done ++ (key, j) ∷ []) ms))
        (λ ms. ap json.object (sym (more_members done key j ms))) (members (value d) (length r) r)
        ∙ sym (ap (option_and_then (λ p. inner d (object_of k (done ++ (key, p.0) ∷ [])) p.1)) is)

-- ---- what begins

pub view-Null : (at : ℕ) → json_in (node.Null at) ≡ json.null
view-Null at = search (rules, the_lemmas)

pub view-Flag : (b : Bool) (at : ℕ) → json_in (node.Flag b at) ≡ json.boolean b
view-Flag b at = search (rules, the_lemmas)

pub view-Number : (s : Bor (List ℕ)) (at : ℕ) → json_in (node.Number s at) ≡ json.number s.now
view-Number s at = search (rules, the_lemmas)

pub view-Text : (s : Bor (List ℕ)) (at : ℕ) → json_in (node.Text s at) ≡ json.string s.now
view-Text s at = search (rules, the_lemmas)

pub whole : (old new : List Token) (t : Token) (j k : Json) → old ≡ t ∷ new → k ≡ j
    → ((d : ℕ) → value d (t ∷ new) ≡ Some (j, new)) → (d : ℕ) → value d old ≡ Some (k, new)
whole old new t j k e seen is d = ap (value d) e ∙ is d ∙ ap (λ (z : Json). Some (z, new)) (sym seen)

pub none_begins : (old new : List Token) (t : Token) → old ≡ t ∷ new → ((d : ℕ) → value d (t ∷ new) ≡ None) → (d : ℕ)
    → value d old ≡ None
none_begins old new t e is d = ap (value d) e ∙ is d

pub no_tokens : (d : ℕ) (ts : List Token) → ts ≡ [] → value d ts ≡ None
no_tokens d ts e = ap (value d) e ∙ value_is d []

pub opens_array : (key : Key) (v : Vec Node Global) (at : ℕ) (old new : List Token) → v.items ≡ []
    → old ≡ Token.begin_array ∷ new → IsOpened key.name.now old (held.Array key v at) new
opens_array key v at old new none e = record {
  named = refl;
  inside = λ d. ap (value (suc d)) e ∙ value_is (suc d) _
      ∙ ap (λ (ds : List Node). inner d (array_of key.name.now (map json_in ds)) new) (sym none);
  deepest = ap (value 0) e ∙ value_is 0 _;
}

pub opens_object : (key : Key) (v : Vec (Key × Node) Global) (at : ℕ) (old new : List Token) → v.items ≡ []
    → old ≡ Token.begin_object ∷ new → IsOpened key.name.now old (held.Object key v at) new
opens_object key v at old new none e = record {
  named = refl;
  inside = λ d. ap (value (suc d)) e ∙ value_is (suc d) _
      ∙ ap (λ (ds : List (Key × Node)). inner d (object_of key.name.now (map pair_of ds)) new) (sym none);
  deepest = ap (value 0) e ∙ value_is 0 _;
}

-- ---- how what is open goes on

pub ends_array : (k : List ℕ) (done : List Json) (ts r : List Token) → after_end_array ts ≡ Some r
    → (d : ℕ) → inner d (array_of k done) ts ≡ Some (closed (array_of k done), r)
ends_array k done ts r e d =
    ap (parse_map (λ js. json.array (before_items done js))) (items_end (value d) (length ts) ts r (omega arith) e)

pub ends_object : (k : List ℕ) (done : List (List ℕ × Json)) (ts r : List Token) → read_key ts ≡ Some (None, r)
    → (d : ℕ) → inner d (object_of k done) ts ≡ Some (closed (object_of k done), r)
ends_object k done ts r e d =
    ap (parse_map (λ ms. json.object (before_members done ms)))
    (members_end (value d) (length ts) ts r (omega arith) e)

pub no_item : (k : List ℕ) (done : List Json) (ts : List Token) → after_end_array ts ≡ None
    → ((d : ℕ) → value d ts ≡ None) → (d : ℕ) → inner d (array_of k done) ts ≡ None
no_item k done ts e none d =
    turn_array d k done ts e ∙ ap (option_and_then (λ p. inner d (array_of k (done ++ p.0 ∷ [])) p.1)) (none d)

pub no_key : (k : List ℕ) (done : List (List ℕ × Json)) (ts : List Token) → read_key ts ≡ None → (d : ℕ)
    → inner d (object_of k done) ts ≡ None
no_key k done ts e d =
    ap (parse_map (λ ms. json.object (before_members done ms))) (members_no_key (value d) (length ts) ts e)

pub no_member : (k : List ℕ) (done : List (List ℕ × Json)) (key : List ℕ) (ts s : List Token)
    → read_key ts ≡ Some (Some key, s) → ((d : ℕ) → value d s ≡ None) → (d : ℕ) → inner d (object_of k done) ts ≡ None
no_member k done key ts s e none d =
    turn_object d k done key ts s e
    ∙ ap (option_and_then (λ p. inner d (object_of k (done ++ (key, p.0) ∷ [])) p.1)) (none d)

pub goes_array : (k : List ℕ) (done : List Json) (key : List ℕ) (ts new : List Token) (b : Begun)
    → after_end_array ts ≡ None → Begins key ts b new → Goes (array_of k done) key ts b new
goes_array k done key ts new b e begins = record { at = ts; turn = λ d. turn_array d k done ts e; begins = begins }

pub goes_object : (k : List ℕ) (done : List (List ℕ × Json)) (key : List ℕ) (ts s new : List Token) (b : Begun)
    → read_key ts ≡ Some (Some key, s) → Begins key s b new → Goes (object_of k done) key ts b new
goes_object k done key ts s new b e begins =
    record { at = s; turn = λ d. turn_object d k done key ts s e; begins = begins }

-- ---- what is closed, as a node

pub view-Array : (v : Vec Node Global) (at : ℕ) → json_in (node.Array v at) ≡ json.array (items_of (map json_in
    v.items))
view-Array v at = search (rules, the_lemmas)

pub view-Object : (v : Vec (Key × Node) Global) (at : ℕ)
    → json_in (node.Object v at) ≡ json.object (members_of (map (λ (m : Key × Node). (m.0, json_in m.1)) v.items))
view-Object v at = search (rules, the_lemmas)

pub all_members : (ms : List (Key × Node))
    → before_members (map pair_of ms) no_members ≡ members_of (map (λ (m : Key × Node). (m.0, json_in m.1)) ms)
all_members [] = refl
all_members (m ∷ ms) = ap (member m.0.name.now (json_in m.1)) (all_members ms)

pub closed_array : (v : Vec Node Global) (key : Key) (at : ℕ)
    → json_in (node.Array v at) ≡ closed (frame_of (held.Array key v at))
closed_array v key at = view-Array v at ∙ ap json.array (sym (all_items (map json_in v.items)))

pub closed_object : (v : Vec (Key × Node) Global) (key : Key) (at : ℕ)
    → json_in (node.Object v at) ≡ closed (frame_of (held.Object key v at))
closed_object v key at = view-Object v at ∙ ap json.object (sym (all_members v.items))
