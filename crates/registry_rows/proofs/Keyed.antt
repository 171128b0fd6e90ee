-- Keys are equal exactly where their programs, versions and netids are.
use Rattle.std.proofs.Common.{◌≡◌, ℕ, ◌-◌, ◌≤◌, ◌<◌, Bool, true, false, ◌&&◌, ◌||◌, cond, List, [], ◌∷◌, ◌++◌, length}
use Rattle.std.proofs.Common.{take, option_map, replicate, nat_eq, Decides, refl, ap, sym, ◌∙◌, arith, find, Option}
use Rattle.std.proofs.Common.{Some, None, is_some, Bor}
use Rattle.std.specs.Option.{option_copied}
use Rattle.std.proofs.lemmas.Slice.Eq.{bytes_eq-Decides}
use Rattle.std.specs.Str.{bytes_eq}
use Rattle.registry_rows.specs.declared.key.Key.{Key}
use Rattle.registry_rows.specs.declared.row.Row.{Row}
use Rattle.registry_rows.specs.contracts.key.KeyPartialEq.TheImpl as derived
use Rattle.registry_rows.specs.Keys.{key_of}
use Rattle.registry_rows.specs.Rows as plain
use Rattle.registry_rows.specs.Rows.{is_of, is_at}
use Rattle.registry_rows.specs.Views.{plain_row, plain_rows, AreKeyed}
use Rattle.std.specs.Map.{lookup}
use Rattle.std.specs.List.{list_any}
use Rattle.std.proofs.lemmas.Bool.Decides.{Decides-and, Decides-eqb, same_from_decides}
use Rattle.std.proofs.Math.Seq.{take-append_seam}
use Rattle.std.proofs.Math.Bool.{and-false as and_false}

abbrev pub key_eq : Key → Key → Bool
key_eq = derived.eq-value.it

pub key_eq-is : (a b : Key)
    → key_eq a b ≡ (nat_eq a.prog b.prog && (nat_eq a.vers b.vers && (bytes_eq a.name b.name && nat_eq a.len b.len)))
key_eq-is a b = refl

padded_same : (n m : List ℕ) → n ++ replicate (64 - length n) 0 ≡ m ++ replicate (64 - length m) 0 → length n ≡ length m
    → n ≡ m
padded_same n m e len =
    sym (take-append_seam n _) ∙ ap (take (length n)) e ∙ ap (λ k. take k (m ++ replicate (64 - length m) 0)) len
    ∙ take-append_seam m _

Decides-padded : (n m : List ℕ)
    → Decides (bytes_eq (n ++ replicate (64 - length n) 0) (m ++ replicate (64 - length m) 0) && nat_eq (length n)
    (length m)) (n ≡ m)
Decides-padded n m =
    let d = Decides-and _ _ (bytes_eq-Decides (n ++ replicate (64 - length n) 0) (m ++ replicate (64 - length m) 0))
    (Decides-eqb (length n) (length m)) in (
      λ e. let w = d.0 e in padded_same n m w.0 w.1,
      λ e. d.1
          (ap (λ x. x ++ replicate (64 - length x) 0) e, ap length e),
    )

pub padded_test : (n m : List ℕ)
    → (bytes_eq (n ++ replicate (64 - length n) 0) (m ++ replicate (64 - length m) 0) && nat_eq (length n) (length m))
    ≡ bytes_eq n m
padded_test n m = same_from_decides _ (bytes_eq n m) (Decides-padded n m) (bytes_eq-Decides n m)

and_assoc : (a b c : Bool) → (a && (b && c)) ≡ ((a && b) && c)
and_assoc true b c = refl
and_assoc false b c = refl

-- The key of a program, a version and a netid is a row's key exactly where the row is theirs.
pub key_test : (prog vers : ℕ) (netid : List ℕ) (r : Row)
    → key_eq (key_of prog vers netid) (key_of r.prog r.vers r.netid.items) ≡ is_at prog vers netid (plain_row r)
key_test prog vers netid r =
    ap (λ t. nat_eq prog r.prog && (nat_eq vers r.vers && t)) (padded_test netid r.netid.items)
    ∙ and_assoc (nat_eq prog r.prog) (nat_eq vers r.vers) (bytes_eq netid r.netid.items)

-- Looking up by key is finding in the plain rows.
pub find_by_key : (prog vers : ℕ) (netid : List ℕ) (es : List (Key × Row)) → AreKeyed es
    → option_map plain_row (lookup (key_eq (key_of prog vers netid)) es) ≡ find (is_at prog vers netid) (plain_rows es)
find_by_key prog vers netid [] h = refl
find_by_key prog vers netid (e ∷ es) h =
    ap (λ k. option_map plain_row
    (cond (key_eq (key_of prog vers netid) k) (Some e.1) (lookup (key_eq (key_of prog vers netid)) es))) h.0.key
    ∙ ap (λ t. option_map plain_row (cond t (Some e.1) (lookup (key_eq (key_of prog vers netid)) es)))
    (key_test prog vers netid e.1)
    ∙ by (is_at prog vers netid (plain_row e.1)) _ _ (find_by_key prog vers netid es h.1)
  where
    by : (t : Bool) (x : Option Row) (y : Option plain.Row) → option_map plain_row x ≡ y
        → option_map plain_row (cond t (Some e.1) x) ≡ cond t (Some (plain_row e.1)) y
    by true x y p = refl
    by false x y p = p

-- A netid of more than 64 bytes has no row.
pub none_longer : (prog vers : ℕ) (netid : List ℕ) (es : List (Key × Row)) → AreKeyed es → 64 < length netid
    → find (is_at prog vers netid) (plain_rows es) ≡ None
none_longer prog vers netid [] h long = refl
none_longer prog vers netid (e ∷ es) h long =
    ap (λ t. cond t (Some (plain_row e.1)) (find (is_at prog vers netid) (plain_rows es))) other
    ∙ none_longer prog vers netid es h.1 long
  where
    differ : (r : Bool) → bytes_eq netid e.1.netid.items ≡ r → r ≡ false
    differ false q = refl
    differ true q = let same =
        ap length ((bytes_eq-Decides netid e.1.netid.items).0 q) in let within : length e.1.netid.items ≤ 64 =
        h.0.row.netid in absurd (omega (arith, same, within, long))

    other : is_at prog vers netid (plain_row e.1) ≡ false
    other = ap (λ t. is_of prog vers (plain_row e.1) && t) (differ _ refl) ∙ and_false (is_of prog vers (plain_row e.1))

-- Finding in the plain rows finds where some row is there.
pub find_is_any : {X : Type 0} (test : X → Bool) (xs : List X) → is_some (find test xs) ≡ list_any test xs
find_is_any test [] = refl
find_is_any test (x ∷ xs) = by (test x) (find_is_any test xs)
  where
    by : (t : Bool) → is_some (find test xs) ≡ list_any test xs
        → is_some (cond t (Some x) (find test xs)) ≡ (t || list_any test xs)
    by true p = refl
    by false p = p

-- What is found is there, whatever it is seen as.
pub is_some-seen : {X Y : Type 0} (view : X → Y) (x : Option X) → is_some x ≡ is_some (option_map view x)
is_some-seen view None = refl
is_some-seen view (Some x) = refl

pub seen_copied : (r : Option (Bor Row)) → option_map (λ r. plain_row r.now) r ≡ option_map plain_row (option_copied r)
seen_copied None = refl
seen_copied (Some r) = refl
