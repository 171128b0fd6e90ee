-- A row that may be added goes last.
use Rattle.std.proofs.Common.{◌≡◌, ℕ, false, List, [], ◌∷◌, ◌++◌, refl, ap, ◌∙◌, Option, None, Some}
use Rattle.std.proofs.Common.{is_some, option_map, true≢false}
use Rattle.std.specs.List.{list_any}
use Rattle.std.specs.Map.{lookup}
pub use Rattle.std.proofs.lemmas.Bool.{and_parts as both}
use Rattle.registry_rows.specs.declared.key.Key.{Key}
use Rattle.registry_rows.specs.declared.row.Row.{Row}
use Rattle.registry_rows.specs.Rows as plain
use Rattle.registry_rows.specs.Rows.{is_at}
use Rattle.registry_rows.specs.Keys.{key_of}
use Rattle.registry_rows.specs.Views.{plain_row, plain_rows, AreKeyed, IsKeyed}
use Rattle.registry_rows.proofs.Keyed.{key_eq, find_by_key, find_is_any}

none_from : {X Y : Type 0} (f : X → Y) (x : Option X) → is_some (option_map f x) ≡ false → x ≡ None
none_from f None e = refl
none_from f (Some x) e = absurd (true≢false e)

-- A key that no row has is not found.
pub lookup_none : (prog vers : ℕ) (netid : List ℕ) (es : List (Key × Row)) → AreKeyed es
    → list_any (is_at prog vers netid) (plain_rows es) ≡ false → lookup (key_eq (key_of prog vers netid)) es ≡ None
lookup_none prog vers netid es h e =
    none_from plain_row _
    (ap is_some (find_by_key prog vers netid es h) ∙ find_is_any (is_at prog vers netid) (plain_rows es) ∙ e)

pub AreKeyed-push : (es : List (Key × Row)) (e : Key × Row) → AreKeyed es → IsKeyed e → AreKeyed (es ++ e ∷ [])
AreKeyed-push [] e h k = (k, h)
AreKeyed-push (x ∷ xs) e h k = (h.0, AreKeyed-push xs e h.1 k)

pub plain_rows-push : (es : List (Key × Row)) (e : Key × Row)
    → plain_rows (es ++ e ∷ []) ≡ plain_rows es ++ plain_row e.1 ∷ []
plain_rows-push [] e = refl
plain_rows-push (x ∷ xs) e = ap (λ rs. plain_row x.1 ∷ rs) (plain_rows-push xs e)
