-- A text that is an array of three items.
use Rattle.std.proofs.Common.{◌≡◌, ℕ, Bool, true, false, List, [], ◌∷◌, Option, None, Some, Result, Ok, Err, IfOk}
use Rattle.std.proofs.Common.{IfSome}
use Rattle.std.proofs.Common.{IfNone, MatchOption, Vec, codes, length, refl, ap, sym, ◌∙◌, arith}
use Rattle.std.specs.Prelude.{⊤}
use Rattle.std.specs.declared.alloc.AllocError.{AllocError}
use Rattle.std.specs.declared.alloc.Global.{Global}
use Rattle.oncrpc_encode.specs.declared.item.Item.{Item}
use Rattle.oncrpc_encode.specs.Arrays.{AreItems, IsBalanced, IsContent, OneReading, Piece}
use Rattle.oncrpc_encode.proofs.Inside.{counted}

abbrev pub text : List ℕ
text = codes "[1, \"a,]\", {\"b\":[2]}]"

abbrev pub three : List Item
three =
    record { begin = 1; end = 2 } ∷ record { begin = 4; end = 9 } ∷ record { begin = 11; end = 20 } ∷ []

number : IsBalanced false (codes "1")
number = IsBalanced.byte false 49 [] refl (IsBalanced.nothing false)

string : IsBalanced false (codes "\"a,]\"")
string =
    IsBalanced.string false 34 (codes "a,]") 34 [] refl
    (IsContent.byte 97 (codes ",]") (λ e. cc) (λ e. cc)
    (IsContent.byte 44 (codes "]") (λ e. cc) (λ e. cc)
    (IsContent.byte 93 [] (λ e. cc) (λ e. cc) IsContent.nothing))) refl (IsBalanced.nothing false)

member : IsBalanced true (codes "\"b\":[2]")
member =
    IsBalanced.string true 34 (codes "b") 34 (codes ":[2]") refl
    (IsContent.byte 98 [] (λ e. cc) (λ e. cc) IsContent.nothing) refl
    (IsBalanced.byte true 58 (codes "[2]") refl
    (IsBalanced.brackets true 91 (codes "2") 93 [] refl
    (IsBalanced.byte true 50 [] refl (IsBalanced.nothing true)) refl (IsBalanced.nothing true)))

object : IsBalanced false (codes "{\"b\":[2]}")
object = IsBalanced.brackets false 123 (codes "\"b\":[2]") 125 [] refl member refl (IsBalanced.nothing false)

-- the items, behind the first
others : List Piece
others =
    record { space = codes " "; body = codes "\"a,]\"" } ∷ record { space = codes " "; body = codes "{\"b\":[2]}" } ∷ []

pub are_three : AreItems text 3 three
unfolding others
are_three = record {
  front = [];
  first = record { space = []; body = codes "1" };
  others = others;
  array = record {
    back = [];
    before = refl;
    behind = refl;
    pieces = (
      record { space = refl; body = number; begins = refl },
      (
        record { space = refl; body = string; begins = refl },
        (record { space = refl; body = object; begins = refl }, tt),
      ),
    );
    joined = refl;
  };
  counted = refl;
  placed = refl;
}

module _ (one : OneReading) where
  pub told_three : (r : Result (Option (Vec Item Global)) AllocError)
      → IfOk r (λ o. IfSome o (λ v. AreItems text 3 v.items))
      → IfOk r (λ o. IfNone o ((items : List Item) → AreItems text 3 items → ⊥))
      → IfOk r (λ o. MatchOption o ⊥ (λ v. v.items ≡ three))
  told_three (Ok None) found none = none three are_three
  told_three (Ok (Some v)) found none = one text 3 3 v.items three found are_three
  told_three (Err e) found none = tt

  pub no_two : (r : Result (Option (Vec Item Global)) AllocError)
      → IfOk r (λ o. IfSome o (λ v. AreItems text 2 v.items)) → IfOk r (λ o. MatchOption o ⊤ (λ v. ⊥))
  no_two (Ok None) found = tt
  no_two (Ok (Some v)) found =
      let same = one text 2 3 v.items three found are_three in
      let both : 2 ≡ 3 = sym (counted text 2 v.items found) ∙ ap length same in absurd (omega (arith, both))
  no_two (Err e) found = tt
