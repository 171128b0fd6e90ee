-- What an item makes of a part, kind by kind.
use Rattle.std.proofs.Common.{◌≡◌, ℕ, ℤ, pos, negsuc, zero, suc, ◌^◌, ◌≤◌}
use Rattle.std.proofs.Common.{◌<◌, ◌&&◌, Bool, true, false, List, [], ◌∷◌, length}
use Rattle.std.proofs.Common.{refl, ap, sym, ◌∙◌, subst, arith, nat_le}
use Rattle.std.proofs.Common.{nat_lt, le-leb, lt-ltb, Option, Some, None, IfSome, ◌++◌}
use Rattle.std.proofs.Common.{replicate, ◌==◌, eq-eqb, ltb-true}
use Rattle.std.proofs.lemmas.Bool.{false≢true, and_from as both_of}
use Rattle.xdr_units.specs.Numbers.{num4, num8, number_of, padded}
use Rattle.xdr_types.specs.Kinds as xdr
use Rattle.xdr_types.specs.Kinds.{KindView, Part, Branch, Constant, kind_at}
use Rattle.xdr_types.specs.Tree as value
use Rattle.xdr_types.specs.Fits.{is_signed, is_unsigned, is_tag_of, is_numbered, is_length, part_of, part_in, are_bytes}
use Rattle.xdr_types.specs.Fits.{item_part}
use Rattle.xdr_writer.specs.Items.{number, flag, count, content}
use Rattle.xdr_filling.specs.Private.Makes.{IsNode}

module _ (s : List KindView) where
  pub int_node : (z : ℤ) (bytes : List ℕ) → is_signed (2 ^ 31) z ≡ true → bytes ≡ num4 z
      → IsNode s xdr.int (number z ∷ []) bytes []
  int_node z bytes legal e = record { head = value.int z; legal = legal; told = refl; spelled = sym e; inside = refl }

  pub unsigned_node : (z : ℤ) (bytes : List ℕ) → is_unsigned (2 ^ 32) z ≡ true → bytes ≡ num4 z
      → IsNode s xdr.unsigned (number z ∷ []) bytes []
  unsigned_node (pos n) bytes legal e =
      record { head = value.unsigned n; legal = legal; told = refl; spelled = sym e; inside = refl }
  unsigned_node (negsuc n) bytes legal e = absurd (false≢true legal)

  pub hyper_node : (z : ℤ) (bytes : List ℕ) → is_signed (2 ^ 63) z ≡ true → bytes ≡ num8 z
      → IsNode s xdr.hyper (number z ∷ []) bytes []
  hyper_node z bytes legal e =
      record { head = value.hyper z; legal = legal; told = refl; spelled = sym e; inside = refl }

  pub unsigned_hyper_node : (z : ℤ) (bytes : List ℕ) → is_unsigned (2 ^ 64) z ≡ true → bytes ≡ num8 z
      → IsNode s xdr.unsigned_hyper (number z ∷ []) bytes []
  unsigned_hyper_node (pos n) bytes legal e =
      record { head = value.unsigned_hyper n; legal = legal; told = refl; spelled = sym e; inside = refl }
  unsigned_hyper_node (negsuc n) bytes legal e = absurd (false≢true legal)

  boolean_node : (b : Bool) (bytes : List ℕ) → bytes ≡ num4 (number_of b)
      → IsNode s xdr.boolean (number (number_of b) ∷ []) bytes []
  boolean_node b bytes e =
      record { head = value.boolean b; legal = refl; told = refl; spelled = sym e; inside = refl }

  -- a kind whose numbers have one unit
  pub unit_node : (k : KindView) (z : ℤ) (bytes : List ℕ) → is_tag_of k z ≡ true → bytes ≡ num4 z
      → IsNode s k (number z ∷ []) bytes []
  unit_node xdr.int z bytes legal e = int_node z bytes legal e
  unit_node xdr.unsigned z bytes legal e = unsigned_node z bytes legal e
  unit_node xdr.boolean (pos zero) bytes legal e = boolean_node false bytes e
  unit_node xdr.boolean (pos (suc zero)) bytes legal e = boolean_node true bytes e
  unit_node xdr.boolean (pos (suc (suc n))) bytes legal e =
      let low = ltb-true (suc (suc n)) 2 legal in absurd (omega arith)
  unit_node xdr.boolean (negsuc n) bytes legal e = absurd (false≢true legal)
  unit_node (xdr.numbered cs) z bytes legal e =
      record { head = value.numbered z; legal = legal; told = refl; spelled = sym e; inside = refl }
  unit_node _ z bytes legal e = absurd (false≢true legal)

  pub choice_node : (tag : ℕ) (arms : List Branch) (other : Option Part) (z : ℤ) (bytes : List ℕ) (p : Part)
      → is_tag_of (kind_at s tag) z ≡ true → part_of arms other z ≡ Some p → bytes ≡ num4 z
      → IsNode s (xdr.choice tag arms other) (number z ∷ []) bytes (p ∷ [])
  choice_node tag arms other z bytes p legal picked e = record {
    head = value.tag z;
    legal = rw (legal, picked);
    told = refl;
    spelled = sym e;
    inside = rw picked;
  }

  pub absent_node : (item : ℕ) (bytes : List ℕ) → bytes ≡ num4 (pos 0)
      → IsNode s (xdr.maybe item) (flag false ∷ []) bytes []
  absent_node item bytes e =
      record { head = value.absent; legal = refl; told = refl; spelled = sym e; inside = refl }

  pub present_node : (item : ℕ) (bytes : List ℕ) → bytes ≡ num4 (pos 1)
      → IsNode s (xdr.maybe item) (flag true ∷ []) bytes (item_part item ∷ [])
  present_node item bytes e =
      record { head = value.present; legal = refl; told = refl; spelled = sym e; inside = refl }

  is_within : (max n : ℕ) → n ≤ max → n < 2 ^ 32 → is_length max n ≡ true
  is_within max n few low =
      both_of (nat_le n max) (nat_lt n (2 ^ 32)) (le-leb n max few) (lt-ltb n (2 ^ 32) low)

  pub count_node : (item max n : ℕ) (bytes : List ℕ) → n ≤ max → n < 2 ^ 32 → bytes ≡ num4 (pos n)
      → IsNode s (xdr.up_to item max) (count n ∷ []) bytes (replicate n (item_part item))
  count_node item max n bytes few low e = record {
    head = value.items n;
    legal = is_within max n few low;
    told = refl;
    spelled = sym e;
    inside = refl;
  }

  fixed_node : (size : ℕ) (bs : List ℕ) → 0 < size → length bs ≡ size → are_bytes bs ≡ true
      → IsNode s (xdr.opaque size) (content bs ∷ []) (padded bs) []
  fixed_node size [] some e are = absurd (omega (arith, some, e))
  fixed_node size (b ∷ bs) some e are = record {
    head = value.bytes (b ∷ bs);
    legal = both_of (length (b ∷ bs) == size) (are_bytes (b ∷ bs)) (eq-eqb (length (b ∷ bs)) size e) are;
    told = refl;
    spelled = refl;
    inside = refl;
  }

  pub opaque_node : (size : ℕ) (bs bytes : List ℕ) → 0 < size → length bs ≡ size → are_bytes bs ≡ true
      → bytes ≡ padded bs → IsNode s (xdr.opaque size) (content bs ∷ []) bytes []
  opaque_node size bs bytes some e are is =
      subst (λ (x : List ℕ). IsNode s (xdr.opaque size) (content bs ∷ []) x []) (sym is)
      (fixed_node size bs some e are)

  pub counted_node : (max : ℕ) (bs : List ℕ) → length bs ≤ max → max < 2 ^ 32 → are_bytes bs ≡ true
      → IsNode s (xdr.opaque_up_to max) (content bs ∷ []) (num4 (pos (length bs)) ++ padded bs) []
  counted_node max bs few low are = record {
    head = value.bytes bs;
    legal = both_of (is_length max (length bs)) (are_bytes bs) (is_within max (length bs) few (omega arith)) are;
    told = refl;
    spelled = refl;
    inside = refl;
  }

  pub text_node : (max : ℕ) (bs : List ℕ) → length bs ≤ max → max < 2 ^ 32 → are_bytes bs ≡ true
      → IsNode s (xdr.text max) (content bs ∷ []) (num4 (pos (length bs)) ++ padded bs) []
  text_node max bs few low are = record {
    head = value.bytes bs;
    legal = both_of (is_length max (length bs)) (are_bytes bs) (is_within max (length bs) few (omega arith)) are;
    told = refl;
    spelled = refl;
    inside = refl;
  }

  -- content behind its length, whichever of both it is
  pub counted_nodes : (max : ℕ) (bs unit : List ℕ) → length bs ≤ max → max < 2 ^ 32 → are_bytes bs ≡ true
      → unit ≡ num4 (pos (length bs)) → IsNode s (xdr.opaque_up_to max) (content bs ∷ []) (unit ++ padded bs) []
      × IsNode s (xdr.text max) (content bs ∷ []) (unit ++ padded bs) []
  counted_nodes max bs unit few low are e =
      let same : num4 (pos (length bs)) ++ padded bs ≡ unit ++ padded bs =
      ap (λ (x : List ℕ). x ++ padded bs) (sym e) in (
        subst (λ (x : List ℕ). IsNode s (xdr.opaque_up_to max) (content bs ∷ []) x []) same
            (counted_node max bs few low are),
        subst (λ (x : List ℕ). IsNode s (xdr.text max) (content bs ∷ []) x []) same (text_node max bs few low are),
      )

  -- nodes without items
  pub fixed_array : (item size : ℕ) → IsNode s (xdr.fixed item size) [] [] (replicate size (item_part item))
  fixed_array item size = record {
    head = value.items size;
    legal = eq-eqb size size refl;
    told = refl;
    spelled = refl;
    inside = refl;
  }

  pub structure_node : (ps : List Part) → IsNode s (xdr.structure ps) [] [] ps
  structure_node ps = record { head = value.fields; legal = refl; told = refl; spelled = refl; inside = refl }

  pub void_node : IsNode s xdr.nothing [] [] []
  void_node = record { head = value.nothing; legal = refl; told = refl; spelled = refl; inside = refl }

-- what a discriminant picks of a union
pub picked_part : (k : KindView) (tag : ℕ) (arms : List Branch) (other : Option Part) (y z : ℤ) (o : Option Part)
    (p : Part) → k ≡ xdr.choice tag arms other → o ≡ part_in k y → o ≡ Some p → y ≡ z → part_of arms other z ≡ Some p
picked_part k tag arms other y z o p is found some same =
    ap (λ (x : ℤ). part_of arms other x) (sym same)
    ∙ sym (found ∙ ap (λ (x : KindView). part_in x y) is) ∙ some

-- what is said of a node that is made
pub on_some : {A : Type 0} → (o : Option A) (P Q : A → Type 0) → ((a : A) → P a → Q a) → IfSome o P → IfSome o Q
on_some None P Q f h = tt
on_some (Some a) P Q f h = f a h
