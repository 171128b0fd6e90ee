-- Tables of fields, noted from the last to the first, and the kinds that are looked up in them.
use Rattle.std.proofs.Common.{◌≡◌, ℕ, ◌+◌, ◌-◌, ◌<◌, ◌≤◌, List, [], ◌∷◌, length, drop, get_or}
use Rattle.std.proofs.Common.{Bool, true, false, refl, ap, sym, ◌∙◌, subst, arith, Option, Some, None, cond}
use Rattle.std.proofs.Common.{if◌then◌else◌, MatchOption, Bor, option_copied}
use Rattle.std.proofs.lemmas.List.{drop_more}
use Rattle.std.specs.BTreeMap.{BTreeMap, get_by, is_at}
use Rattle.std.specs.Map.{lookup}
use Rattle.std.specs.Ordering.{nat_cmp, is_eq}
use Rattle.std.specs.Str.{bytes_eq}
use Rattle.xdr_types.specs.Kinds.{KindView, Part, kind_at}
use Rattle.xdr_json_reader.specs.Reasons.{kind_under}
use Rattle.xdr_json_reader.specs.Private.Wanted.{IsFieldTable, MayBeFieldTable, AreFieldTables, fields_of}
use Rattle.xdr_json_reader.proofs.Named.{At}
use Rattle.xdr_json_reader.proofs.Tables.{same_place}

abbrev FieldTable : Type 0
FieldTable = BTreeMap (Bor (List ℕ)) ℕ

-- none were made
pub no_field_tables : (kinds : List KindView) (ts : BTreeMap ℕ FieldTable) → ts.entries ≡ []
    → AreFieldTables kinds ts
no_field_tables kinds ts e = λ place.
    subst (λ (es : List (ℕ × FieldTable)). MatchOption (lookup (is_at (nat_cmp place)) es) (Unit {0})
    (λ m. IsFieldTable (fields_of (kind_at kinds place)) m)) (sym e) tt

-- one more was made
pub field_tables_more : (kinds : List KindView) (old new : BTreeMap ℕ FieldTable) (place : ℕ) (m : FieldTable)
    → ((q : ℕ) → get_by (nat_cmp q) new ≡ cond (is_at (nat_cmp place) q) (Some m) (get_by (nat_cmp q) old))
    → IsFieldTable (fields_of (kind_at kinds place)) m → AreFieldTables kinds old → AreFieldTables kinds new
field_tables_more kinds old new place m made is before = λ q.
    subst (λ (o : Option FieldTable).
    MatchOption o (Unit {0}) (λ t. IsFieldTable (fields_of (kind_at kinds q)) t)) (sym (made q))
    (by_case q (is_eq (nat_cmp place q)) refl)
  where
    by_case : (q : ℕ) (b : Bool) → is_eq (nat_cmp place q) ≡ b
        → MatchOption (cond b (Some m) (get_by (nat_cmp q) old)) (Unit {0})
        (λ t. IsFieldTable (fields_of (kind_at kinds q)) t)
    by_case q true e = subst (λ (p : ℕ). IsFieldTable (fields_of (kind_at kinds p)) m) (same_place place q e) is
    by_case q false e = before q

-- the table at a place, where one is
pub field_table_at : (kinds : List KindView) (ts : BTreeMap ℕ FieldTable) (place : ℕ) (o : Option (Bor FieldTable))
    → AreFieldTables kinds ts → option_copied o ≡ get_by (nat_cmp place) ts
    → MayBeFieldTable (fields_of (kind_at kinds place)) o
field_table_at kinds ts place o are is =
    given o
    (subst (λ (t : Option FieldTable).
    MatchOption t (Unit {0}) (λ m. IsFieldTable (fields_of (kind_at kinds place)) m)) (sym is) (are place))
  where
    given : (o : Option (Bor FieldTable))
        → MatchOption (option_copied o) (Unit {0}) (λ m. IsFieldTable (fields_of (kind_at kinds place)) m)
        → MayBeFieldTable (fields_of (kind_at kinds place)) o
    given None h = tt
    given (Some t) h = h

-- one more field was noted
pub fields_step : (m n : FieldTable) (ps : List Part) (left : ℕ) (p : Part) → 0 < left → left ≤ length ps
    → get_or ps (left - 1) p ≡ p
    → ((name : List ℕ) → At n name ≡ if bytes_eq p.name name then Some p.kind else At m name)
    → IsFieldTable (drop left ps) m → IsFieldTable (drop (left - 1) ps) n
fields_step m n ps left p pos within at made before = λ name.
    let next : left ≡ (left - 1) + 1 = omega arith in
    let split : drop (left - 1) ps ≡ p ∷ drop left ps =
    drop_more ps (left - 1) p (omega arith) ∙ ap (λ (x : Part). x ∷ drop (left - 1 + 1) ps) at
    ∙ ap (λ (k : ℕ). p ∷ drop k ps) (sym next) in
    made name ∙ ap (λ (o : Option ℕ). if bytes_eq p.name name then Some p.kind else o) (before name)
    ∙ sym (ap (λ (qs : List Part). kind_under qs name) split)
