-- A row that may be added keeps to the bounds, and its key is new.
use Rattle.std.proofs.Common.{◌≡◌, ℕ, ◌≤◌, ◌<◌, Bool, true, false, not, List, [], ◌∷◌, length, nat_le, refl, sym, arith}
use Rattle.std.proofs.Common.{true≢false}
use Rattle.std.specs.List.{list_any}
use Rattle.std.proofs.lemmas.Bool.Decides.{Decides-ltb}
use Rattle.std.proofs.lemmas.Bool.{and_parts as both}
use Rattle.registry_rows.specs.Rows.{Row, is_at}
use Rattle.registry_rows.specs.Steps.{may_add, is_empty}

not_true : (a : Bool) → not a ≡ true → a ≡ false
not_true false e = refl
not_true true e = absurd (true≢false (sym e))

le_true : (a b : ℕ) → nat_le a b ≡ true → a ≤ b
le_true a b e = grind (arith, e)

-- A text that is not empty has a byte.
some_byte : (bs : List ℕ) → not (is_empty bs) ≡ true → 0 < length bs
some_byte [] e = absurd (true≢false (sym e))
some_byte (b ∷ bs) e = omega arith

pub record Addable (rows : List Row) (r : Row) : Type 0 where
  pub some_netid : 0 < length r.netid
  pub some_address : 0 < length r.address
  pub netid : length r.netid ≤ 64
  pub address : length r.address ≤ 256
  pub space : length rows < 1024
  pub absent : list_any (is_at r.prog r.vers r.netid) rows ≡ false

pub addable : (rows : List Row) (r : Row) → may_add rows r ≡ true → Addable rows r
addable rows r e =
    let f = both _ _ e in
    let o = both _ _ f.0 in
    let a = both _ _ o.0 in
    let n = both _ _ a.0 in
    let t = both _ _ n.0 in
    record {
      some_netid = some_byte r.netid t.0;
      some_address = some_byte r.address t.1;
      netid = le_true _ _ n.1;
      address = le_true _ _ a.1;
      space = (Decides-ltb _ _).0 o.1;
      absent = not_true _ f.1;
    }
