-- What C's items fill of a value, one after another.
use Rattle.std.proofs.Common.{◌≡◌, ℕ, ℤ, ◌+◌, ◌≤◌, List, [], ◌∷◌, ◌++◌, length, take, drop, refl, sym, ap, subst}
use Rattle.std.proofs.Common.{◌∙◌, zero, suc, arith, length-drop, get_or, append-nil, append_assoc}
use Rattle.std.proofs.Common.{Result, Ok, Err}
use Rattle.std.specs.Prelude.{IfOk}
use Rattle.std.proofs.lemmas.List.{take_all, take-take}
use Rattle.std.proofs.Math.Seq.{take-add}
use Rattle.xdr_types.specs.Kinds.{KindView}
use Rattle.xdr_types.specs.Within.{Bounds}
use Rattle.xdr_writer.specs.Items.{ItemView}
use Rattle.xdr_writer.specs.ItemsOf.{items_of}
use Rattle.xdr_writer.specs.Runs.{as_items}
use Rattle.xdr_filling.specs.Filled.{HasFilled, IsValue, units}
use Rattle.xdr_filling.specs.declared.filling.Filling.{Filling}
use Rattle.c_values.specs.declared.item.ValueItem.{ValueItem}
use Rattle.c_values.specs.Answers.{Question}
use Rattle.c_values.specs.Items.{given, Tells, AreTold}
use Rattle.c_values.specs.Written.{IsEncoded}
use Rattle.c_values.specs.Private.Encodings.{FillsMore}
use Rattle.c_values.proofs.Several.{told_joined, first_alone}

-- the items before the next fill the first parts of a value of the kind, and these are their bytes
pub record AreFilling (q : Question) (f : Filling) (content : List ℕ) (cs : List ValueItem) (at : ℕ) (out : List ℕ)
    : Type 0 where
  pub kinds : f.schema.now.kinds ≡ q.kinds
  pub is : List ItemView
  pub told : AreTold content (take at cs) is
  pub filled : HasFilled f q.place q.limits.depth is out
  pub few : length out ≤ q.limits.bytes
  pub within : at ≤ length cs

pub none_yet : (q : Question) (f : Filling) (content : List ℕ) (cs : List ValueItem) (out : List ℕ) → out ≡ []
    → f.schema.now.kinds ≡ q.kinds → HasFilled f q.place q.limits.depth [] [] → AreFilling q f content cs 0 out
none_yet q f content cs out none kinds filled = record {
  kinds = kinds;
  is = [];
  told = tt;
  filled = subst (λ (x : List ℕ). HasFilled f q.place q.limits.depth [] x) (sym none) filled;
  few = omega (arith, ap (λ (x : List ℕ). length x) none);
  within = omega arith;
}

module _ (q : Question) (f : Filling) (content : List ℕ) (cs : List ValueItem) (at : ℕ) (out : List ℕ)
    (are : AreFilling q f content cs at out) where
  -- with some more
  pub some_more : (rest : List ValueItem) → rest ≡ drop at cs → (n : ℕ) → n ≤ length rest → (g : Filling)
      (new : List ℕ) → FillsMore f g content (take n rest) out new → g.schema.now.kinds ≡ f.schema.now.kinds
      → length new ≤ q.limits.bytes → AreFilling q g content cs (at + n) new
  some_more rest is n some g new fills same few =
      let split : take (at + n) cs ≡ take at cs ++ take n rest =
      take-add at n cs ∙ ap (λ (x : List ValueItem). take at cs ++ take n x) (sym is) in
      let count : length rest ≡ length (drop at cs) = ap (λ (x : List ValueItem). length x) is in
      record {
        kinds = same ∙ are.kinds;
        is = are.is ++ fills.0;
        told = subst (λ (x : List ValueItem). AreTold content x (are.is ++ fills.0)) (sym split)
            (told_joined content (take at cs) (take n rest) are.is fills.0 are.told fills.1);
        filled = subst (λ (x : List ℕ). HasFilled g q.place q.limits.depth (are.is ++ fills.0) x) (sym fills.3)
            (fills.4 q.place q.limits.depth are.is out are.filled);
        few = few;
        within = omega (arith, some, count, length-drop at cs, are.within);
      }

  -- all of them
  pub all_filled : length cs ≤ at
      → ((place depth : ℕ) (is : List ItemView) (bytes : List ℕ) → HasFilled f place depth is bytes
      → IsValue f.schema.now.kinds place depth is bytes) → IsEncoded q (given cs content) out
  all_filled last whole =
      let v = subst (λ (k : List KindView). IsValue k q.place q.limits.depth are.is out) are.kinds
      (whole q.place q.limits.depth are.is out are.filled) in
      record {
        value = v.0;
        fits = (v.1, (v.2, omega (arith, are.few, ap (λ (x : List ℕ). length x) v.4)));
        told = subst (λ (x : List ValueItem). AreTold content x (items_of q.kinds q.place v.0)) (take_all at cs last)
            (subst (λ (x : List ItemView). AreTold content (take at cs) x) (sym v.3) are.told);
        spelled = v.4;
      }

module _ (f : Filling) (place depth : ℕ) (is : List ItemView) (bytes : List ℕ) where
  -- items and bytes that are the same
  same_filled : (js : List ItemView) (more : List ℕ) → is ≡ js → bytes ≡ more → HasFilled f place depth is bytes
      → HasFilled f place depth js more
  same_filled js more e d h =
      subst (λ (x : List ℕ). HasFilled f place depth js x) d
      (subst (λ (x : List ItemView). HasFilled f place depth x bytes) e h)

-- none of them
pub none_fill : (f : Filling) (content : List ℕ) (cs : List ValueItem) (out : List ℕ)
    → FillsMore f f content (take 0 cs) out out
none_fill f content cs out = (
  [],
  tt,
  [],
  sym (append-nil out),
  λ place depth js before h.
      same_filled f place depth js before (js ++ []) (before ++ []) (sym (append-nil js)) (sym (append-nil before)) h,
)

-- some behind others
pub fill_then : (a b c : Filling) (content : List ℕ) (cs ds : List ValueItem) (old mid new : List ℕ)
    → FillsMore a b content cs old mid → FillsMore b c content ds mid new → FillsMore a c content (cs ++ ds) old new
fill_then a b c content cs ds old mid new f g = (
  f.0 ++ g.0,
  told_joined content cs ds f.0 g.0 f.1 g.1,
  f.2 ++ g.2,
  g.3 ∙ ap (λ (x : List ℕ). x ++ g.2) f.3 ∙ append_assoc old f.2 g.2,
  λ place depth js before h.
      same_filled c place depth ((js ++ f.0) ++ g.0) ((before ++ f.2) ++ g.2) (js ++ (f.0 ++ g.0))
      (before ++ (f.2 ++ g.2)) (append_assoc js f.0 g.0) (append_assoc before f.2 g.2)
      (g.4 place depth (js ++ f.0) (before ++ f.2) (f.4 place depth js before h)),
)

-- numbers that are put at once
pub numbers_fill : (f g : Filling) (content : List ℕ) (cs : List ValueItem) (zs : List ℤ) (old new : List ℕ)
    → AreTold content cs (as_items zs) → new ≡ old ++ units zs
    → ((place depth : ℕ) (is : List ItemView) (bytes : List ℕ) → HasFilled f place depth is bytes
    → HasFilled g place depth (is ++ as_items zs) (bytes ++ units zs)) → FillsMore f g content cs old new
numbers_fill f g content cs zs old new told bytes fills = (as_items zs, told, units zs, bytes, fills)

-- one item
pub item_fills : (f g : Filling) (content : List ℕ) (cs : List ValueItem) (d : ValueItem) (i : ItemView)
    (more old new : List ℕ) → 1 ≤ length cs → Tells content (get_or cs 0 d) i → new ≡ old ++ more
    → ((place depth : ℕ) (is : List ItemView) (bytes : List ℕ) → HasFilled f place depth is bytes
    → HasFilled g place depth (is ++ i ∷ []) (bytes ++ more)) → FillsMore f g content (take 1 cs) old new
item_fills f g content cs d i more old new some tells bytes fills = (
  i ∷ [],
  subst (λ (x : List ValueItem). AreTold content x (i ∷ [])) (sym (first_alone cs d some)) (tells, tt),
  more,
  bytes,
  fills,
)

-- the first of items that tell numbers tell the first of these
told_fewer : (bytes : List ℕ) (n : ℕ) (cs : List ValueItem) (zs : List ℤ) → AreTold bytes cs (as_items zs)
    → AreTold bytes (take n cs) (as_items (take n zs))
told_fewer bytes zero cs zs a = tt
told_fewer bytes (suc n) [] [] a = tt
told_fewer bytes (suc n) [] (z ∷ zs) a = absurd a
told_fewer bytes (suc n) (c ∷ cs) [] a = absurd a
told_fewer bytes (suc n) (c ∷ cs) (z ∷ zs) a = (a.0, told_fewer bytes n cs zs a.1)

pub told_front : (bytes : List ℕ) (n m : ℕ) (cs : List ValueItem) (zs : List ℤ) → n ≤ m
    → AreTold bytes (take m cs) (as_items (take m zs)) → AreTold bytes (take n cs) (as_items (take n (take m zs)))
told_front bytes n m cs zs few a =
    subst (λ (x : List ValueItem). AreTold bytes x (as_items (take n (take m zs)))) (take-take n m cs few)
    (told_fewer bytes n (take m cs) (take m zs) a)

-- what three facts of a result make certain
pub all_ok : {A E : Type 0} → (r : Result A E) (P Q R S : A → Type 0) → ((a : A) → P a → Q a → R a → S a) → IfOk r P
    → IfOk r Q → IfOk r R → IfOk r S
all_ok (Ok a) P Q R S f p q r = f a p q r
all_ok (Err e) P Q R S f p q r = tt
