-- Tables of names, and discriminants by their kinds.
use Rattle.std.proofs.Common.{◌≡◌, ℕ, ℤ, pos, negsuc, ◌<◌, ◌^◌, List, [], Bool, true, false, refl, sym, ◌∙◌}
use Rattle.std.proofs.Common.{subst, Option, Some, None, cond, MatchOption, Bor, option_copied}
use Rattle.std.proofs.lemmas.Bool.{false≢true, ltb-true}
use Rattle.std.proofs.lemmas.Cmp.{ranked}
use Rattle.std.specs.BTreeMap.{BTreeMap, get_by, is_at}
use Rattle.std.specs.Cmp.Lexicographic.{slice_cmp}
use Rattle.std.specs.Map.{lookup}
use Rattle.std.specs.Ordering.{nat_cmp, int_eq, is_eq, MatchOrdering}
use Rattle.std.specs.declared.cmp.Ordering.{Ordering}
use Rattle.std.specs.declared.cmp.Ordering.TheVariants.{Less, Equal, Greater}
use Rattle.json.specs.Json.{Json}
use Rattle.xdr_types.specs.Kinds as xdr
use Rattle.xdr_types.specs.Kinds.{KindView, Constant, kind_at}
use Rattle.xdr_types.specs.Fits.{is_tag_of}
use Rattle.xdr_json.specs.Spelled.{is_number, is_flag, is_tag_json}
use Rattle.xdr_json_reader.specs.Private.Names.{NumberFound, IsTable, MayBeTable, AreTables, constants_in}

abbrev Table : Type 0
Table = BTreeMap (Bor (List ℕ)) ℤ

-- ---- tables

-- none were made
pub no_tables : (kinds : List KindView) (ts : BTreeMap ℕ Table) → ts.entries ≡ [] → AreTables kinds ts
no_tables kinds ts e = λ place.
    subst (λ (es : List (ℕ × Table)). MatchOption (lookup (is_at (nat_cmp place)) es) (Unit {0})
    (λ m. IsTable (constants_in (kind_at kinds place)) m)) (sym e) tt

pub same_place : (p q : ℕ) → is_eq (nat_cmp p q) ≡ true → p ≡ q
same_place p q = by_case (nat_cmp p q) (ranked p q (nat_cmp p q) refl)
  where
    by_case : (o : Ordering) → MatchOrdering o (p < q) (p ≡ q) (q < p) → is_eq o ≡ true → p ≡ q
    by_case Less m h = absurd (false≢true h)
    by_case Equal m h = m
    by_case Greater m h = absurd (false≢true h)

-- one more was made
pub tables_more : (kinds : List KindView) (old new : BTreeMap ℕ Table) (place : ℕ) (m : Table)
    → ((q : ℕ) → get_by (nat_cmp q) new ≡ cond (is_at (nat_cmp place) q) (Some m) (get_by (nat_cmp q) old))
    → IsTable (constants_in (kind_at kinds place)) m → AreTables kinds old → AreTables kinds new
tables_more kinds old new place m made is before = λ q.
    subst (λ (o : Option Table). MatchOption o (Unit {0}) (λ t. IsTable (constants_in (kind_at kinds q)) t))
    (sym (made q)) (by_case q (is_eq (nat_cmp place q)) refl)
  where
    by_case : (q : ℕ) (b : Bool) → is_eq (nat_cmp place q) ≡ b
        → MatchOption (cond b (Some m) (get_by (nat_cmp q) old)) (Unit {0})
        (λ t. IsTable (constants_in (kind_at kinds q)) t)
    by_case q true e = subst (λ (p : ℕ). IsTable (constants_in (kind_at kinds p)) m) (same_place place q e) is
    by_case q false e = before q

-- the table at a place, for an enumeration that is there
pub table_at : (kinds : List KindView) (ts : BTreeMap ℕ Table) (place : ℕ) (cs : List Constant)
    (o : Option (Bor Table)) → AreTables kinds ts → option_copied o ≡ get_by (nat_cmp place) ts
    → constants_in (kind_at kinds place) ≡ cs → MayBeTable cs o
table_at kinds ts place cs o are is e =
    subst (λ (ds : List Constant). MayBeTable ds o) e (given o
    (subst (λ (t : Option Table). MatchOption t (Unit {0}) (λ m. IsTable (constants_in (kind_at kinds place)) m))
    (sym is) (are place)))
  where
    given : (o : Option (Bor Table))
        → MatchOption (option_copied o) (Unit {0}) (λ m. IsTable (constants_in (kind_at kinds place)) m)
        → MayBeTable (constants_in (kind_at kinds place)) o
    given None h = tt
    given (Some t) h = h

-- a name that is looked up in a table
pub looked_up : (cs : List Constant) (name : List ℕ) (m : Table) (o : Option (Bor ℤ)) (r : Option ℤ) → IsTable cs m
    → option_copied o ≡ get_by (λ k. slice_cmp nat_cmp name k.now) m → r ≡ option_copied o → NumberFound r cs name
looked_up cs name m o r is found e =
    subst (λ (x : Option ℤ). NumberFound x cs name) (sym (e ∙ found)) (is name)

-- ---- discriminants

pub no_tag_unsigned : (j : Json) → ((n : ℕ) → n < 2 ^ 32 → is_number (pos n) j ≡ true → ⊥) → (z : ℤ)
    → is_tag_of xdr.unsigned z ≡ true → is_tag_json xdr.unsigned z j ≡ true → ⊥
no_tag_unsigned j none (pos n) h k = none n (ltb-true n (2 ^ 32) h) k
no_tag_unsigned j none (negsuc n) h k = false≢true h

pub no_tag_flag : (j : Json) → ((b : Bool) → is_flag b j ≡ true → ⊥) → (z : ℤ) → is_tag_of xdr.boolean z ≡ true
    → is_tag_json xdr.boolean z j ≡ true → ⊥
no_tag_flag j none z h k = none (int_eq z (pos 1)) k
