-- Names and keys that are looked up in a map, noted from the last to the first.
use Rattle.std.proofs.Common.{◌≡◌, ℕ, ℤ, ◌+◌, ◌-◌, ◌<◌, ◌≤◌, List, ◌∷◌, length, drop, get_or}
use Rattle.std.proofs.Common.{Bool, true, false, refl, ap, sym, ◌∙◌, subst, arith, Option, Some, None}
use Rattle.std.proofs.Common.{if◌then◌else◌, Bor, option_copied}
use Rattle.std.proofs.lemmas.Bool.{or_right}
use Rattle.std.proofs.lemmas.List.{drop_more}
use Rattle.std.specs.BTreeMap.{BTreeMap, get_by}
use Rattle.std.specs.Cmp.Lexicographic.{slice_cmp}
use Rattle.std.specs.Ordering.{nat_cmp, int_eq}
use Rattle.std.specs.Str.{bytes_eq}
use Rattle.json.specs.Json.{Members}
use Rattle.xdr_types.specs.Kinds.{Constant}
use Rattle.xdr_types.specs.Fits.{is_constant}
use Rattle.xdr_json.specs.Spelled.{has_key, at_key}
use Rattle.xdr_json_reader.specs.Tape.{json_in, members_of}
use Rattle.xdr_json_reader.specs.Private.Look.{pairs}
use Rattle.xdr_json_reader.specs.Private.Fields.{Finds}
use Rattle.xdr_json_reader.specs.Private.Names.{NumberFound, IsTable}
use Rattle.xdr_json_reader.specs.declared.tape.Key.{Key}
use Rattle.xdr_json_reader.specs.declared.tape.Node.{Node}
use Rattle.xdr_json_reader.proofs.Fields.{finds_more}
use Rattle.xdr_json_reader.proofs.Looks.{named_constant, names_first, names_other}

-- what a map has under a text
abbrev pub At : {X : Type 0} → BTreeMap (Bor (List ℕ)) X → List ℕ → Option X
At m name = get_by (λ k. slice_cmp nat_cmp name k.now) m

-- ---- names of enumerations

pub number_more : (o : Option ℤ) (c : Constant) (cs : List Constant) (name : List ℕ) → NumberFound o cs name
    → NumberFound (if bytes_eq c.name name then Some c.number else o) (c ∷ cs) name
number_more o c cs name h = by_case (bytes_eq c.name name) refl o h
  where
    by_case : (b : Bool) → bytes_eq c.name name ≡ b → (o : Option ℤ) → NumberFound o cs name
        → NumberFound (if b then Some c.number else o) (c ∷ cs) name
    by_case true e o h = let named = names_first c cs name e in (named, named_constant (c ∷ cs) c.number name named)
    by_case false e None h = λ z. names_other c cs z name e ∙ h z
    by_case false e (Some n) h =
        (names_other c cs n name e ∙ h.0, or_right (int_eq c.number n) (is_constant cs n) h.1)

pub numbers_step : (m n : BTreeMap (Bor (List ℕ)) ℤ) (cs : List Constant) (left : ℕ) (c : Constant) → 0 < left
    → left ≤ length cs → get_or cs (left - 1) c ≡ c
    → ((name : List ℕ) → At n name ≡ if bytes_eq c.name name then Some c.number else At m name)
    → IsTable (drop left cs) m → IsTable (drop (left - 1) cs) n
numbers_step m n cs left c pos within at made before = λ name.
    let next : left ≡ (left - 1) + 1 = omega arith in
    let split : drop (left - 1) cs ≡ c ∷ drop left cs =
    drop_more cs (left - 1) c (omega arith) ∙ ap (λ (x : Constant). x ∷ drop (left - 1 + 1) cs) at
    ∙ ap (λ (k : ℕ). c ∷ drop k cs) (sym next) in
    subst (λ (ds : List Constant). NumberFound (At n name) ds name) (sym split)
    (subst (λ (o : Option ℤ). NumberFound o (c ∷ drop left cs) name) (sym (made name))
    (number_more (At m name) c (drop left cs) name (before name)))

-- ---- keys of objects

pub keys_step : (m n : BTreeMap (Bor (List ℕ)) (Bor Node)) (ms : List (Key × Node)) (left : ℕ) (e : Key × Node)
    (b : Bor Node) → 0 < left → left ≤ length ms → get_or ms (left - 1) e ≡ e → json_in b.now ≡ json_in e.1
    → ((key : List ℕ) → At n key ≡ if bytes_eq e.0.name.now key then Some b else At m key)
    → ((key : List ℕ) → Finds (At m key) (members_of (pairs (drop left ms))) key)
    → (key : List ℕ) → Finds (At n key) (members_of (pairs (drop (left - 1) ms))) key
keys_step m n ms left e b pos within at same made before = λ key.
    let next : left ≡ (left - 1) + 1 = omega arith in
    let split : drop (left - 1) ms ≡ e ∷ drop left ms =
    drop_more ms (left - 1) e (omega arith) ∙ ap (λ (x : Key × Node). x ∷ drop (left - 1 + 1) ms) at
    ∙ ap (λ (k : ℕ). e ∷ drop k ms) (sym next) in
    subst (λ (ds : List (Key × Node)). Finds (At n key) (members_of (pairs ds)) key) (sym split)
    (subst (λ (o : Option (Bor Node)). Finds o (members_of (pairs (e ∷ drop left ms))) key) (sym (made key))
    (finds_more (At m key) e b (drop left ms) key same (before key)))

-- what a look-up answers, of a map in which each key finds its member
pub found : (o : Option (Bor (Bor Node))) (n : Bor (Bor Node)) (r : Option (Bor Node)) (ms : Members) (key : List ℕ)
    → o ≡ Some n → option_copied o ≡ r → Finds r ms key
    → (has_key ms key ≡ true) × (at_key ms key ≡ json_in n.now.now)
found o n r ms key e f h = subst (λ (x : Option (Bor Node)). Finds x ms key) (sym f ∙ ap option_copied e) h

pub not_found : (o : Option (Bor (Bor Node))) (r : Option (Bor Node)) (ms : Members) (key : List ℕ) → o ≡ None
    → option_copied o ≡ r → Finds r ms key → has_key ms key ≡ false
not_found o r ms key e f h = subst (λ (x : Option (Bor Node)). Finds x ms key) (sym f ∙ ap option_copied e) h
