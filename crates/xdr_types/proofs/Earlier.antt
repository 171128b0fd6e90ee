-- A set of the names of a schema before one tells whether it is one of them.
use Rattle.std.proofs.Common.{◌≡◌, ◌<◌, ◌+◌, String, ℕ, zero, suc, Bool, true, false, not, if◌then◌else◌, ◌||◌, List}
use Rattle.std.proofs.Common.{[], ◌∷◌, length, map, take, get_or, string_bytes, refl, sym, ap, ◌∙◌, arith}
use Rattle.std.proofs.Math.Bool.{or-false, or_assoc}
use Rattle.std.specs.declared.alloc.Global.{Global}
use Rattle.std.specs.BTreeSet.{BTreeSet, Updates}
use Rattle.std.specs.Str.{bytes_eq}
use Rattle.std.specs.List.{list_any}
use denote.Ref.{Bor}
use Rattle.xdr_types.specs.Kinds.{KindView, Part}
use Rattle.xdr_types.specs.KindViews.{name_of}
use Rattle.xdr_types.specs.Faults.{name_flaw, name_flaw_at}
use Rattle.xdr_types.specs.declared.kind.KindId.{KindId}
use Rattle.xdr_types.proofs.Flawless.{flaw-here}
use Rattle.xdr_units.proofs.Bytes.{bytes_eq-sym}
use Rattle.xdr_types.proofs.Apart.{texts_cmp, has_text, added_text, no_text, was_absent}

-- the set has the names before a place
abbrev pub HasNames : List (String Global × KindId) → ℕ → BTreeSet (Bor (List ℕ)) → Type 0
HasNames names i s = (q : List ℕ) → list_any (λ (p : Part). bytes_eq p.name q)
    (map name_of (take i names)) ≡ has_text s q

or_swap : (a b : Bool) → a || b ≡ b || a
or_swap true true = refl
or_swap true false = refl
or_swap false true = refl
or_swap false false = refl

some_taken : (test : Part → Bool) (names : List (String Global × KindId)) (i : ℕ) (n : String Global × KindId)
    → i < length names → n ≡ get_or names i n
    → list_any test (map name_of (take (suc i) names)) ≡ list_any test (map name_of (take i names)) || test (name_of n)
some_taken test [] i n lt is = absurd (omega arith)
some_taken test (m ∷ names) zero n lt is = or-false (test (name_of m)) ∙ ap (λ k. test (name_of k)) (sym is)
some_taken test (m ∷ names) (suc i) n lt is =
    ap (λ b. test (name_of m) || b) (some_taken test names i n (omega arith) is)
    ∙ sym (or_assoc (test (name_of m)) (list_any test (map name_of (take i names))) (test (name_of n)))

pub no_names : (names : List (String Global × KindId)) (s : BTreeSet (Bor (List ℕ))) → s.keys ≡ [] → HasNames names 0 s
no_names names s e = no_text s e

pub next_name : (names : List (String Global × KindId)) (i : ℕ) (n : String Global × KindId)
    (s t : BTreeSet (Bor (List ℕ))) (k : Bor (List ℕ)) → i < length names → n ≡ get_or names i n
    → k.now ≡ string_bytes n.0
    → Updates texts_cmp s t k true → HasNames names i s → HasNames names (i + 1) t
next_name names i n s t k lt is e u h q =
    let more : i + 1 ≡ suc i = omega arith in
    rw more (some_taken (λ (p : Part). bytes_eq p.name q) names i n lt is
    ∙ ap (λ b. b || bytes_eq (string_bytes n.0) q) (h q)
    ∙ or_swap (has_text s q) (bytes_eq (string_bytes n.0) q)
    ∙ ap (λ b. b || has_text s q) (bytes_eq-sym (string_bytes n.0) q)
    ∙ sym (added_text s t k (string_bytes n.0) e u q))

-- where a name is new, none of those before it need be looked at
looked : (forms : List KindView) (names : List (String Global × KindId)) (i : ℕ) (n : String Global × KindId)
    (s : BTreeSet (Bor (List ℕ))) (is_new : Bool) → is_new ≡ not (has_text s (string_bytes n.0)) → HasNames names i s
    → name_flaw forms (map name_of (take (if is_new then 0 else i) names)) (name_of n) ≡ name_flaw forms
    (map name_of (take i names)) (name_of n)
looked forms names i n s false e h = refl
looked forms names i n s true e h =
    let absent : list_any (λ (p : Part). bytes_eq p.name (string_bytes n.0)) (map name_of (take i names)) ≡ false =
    h (string_bytes n.0) ∙ was_absent true (has_text s (string_bytes n.0)) e refl in
    rw absent refl

-- the flaw of the name at a place, where as many names are looked at as it needs
pub flaw_by_set : (forms : List KindView) (names zs : List (String Global × KindId)) (i before : ℕ)
    (n : String Global × KindId) (s : BTreeSet (Bor (List ℕ))) (k : List ℕ) (is_new : Bool) → i < length names
    → n ≡ get_or names i n → k ≡ string_bytes n.0
    → is_new ≡ not (has_text s k) → before ≡ (if is_new then 0 else i) → zs ≡ names → HasNames names i s
    → name_flaw_at forms (map name_of names) i ≡ name_flaw forms (map name_of (take before zs)) (name_of n)
flaw_by_set forms names zs i before n s k is_new lt is key new e same h =
    flaw-here forms names i n lt is
    ∙ sym (looked forms names i n s is_new (new ∙ ap (λ t. not (has_text s t)) key) h)
    ∙ ap (λ (j : ℕ). name_flaw forms (map name_of (take j names)) (name_of n)) (sym e)
    ∙ ap (λ (z : List (String Global × KindId)). name_flaw forms (map name_of (take before z)) (name_of n)) (sym same)
