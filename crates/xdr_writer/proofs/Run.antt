-- Numbers of one unit that are due one after another: each stands at its place, and all of them begin each value.
use Rattle.std.proofs.Common.{◌≡◌, ℕ, ℤ, ◌+◌, ◌<◌, Bool, true, false, List, [], ◌∷◌, ◌++◌, length, drop, refl, ap}
use Rattle.std.proofs.Common.{sym, ◌∙◌, subst, arith, append-nil, append_assoc}
use Rattle.xdr_types.specs.Kinds.{KindView}
use Rattle.xdr_types.specs.Tree.{Tree}
use Rattle.xdr_types.specs.Fits.{Fits}
use Rattle.xdr_types.specs.Front.{Front}
use Rattle.xdr_types.specs.Layout.{Entry}
use Rattle.xdr_units.specs.Numbers.{num4}
use Rattle.xdr_writer.specs.Items.{number, NodeItem, of_node, spelled_as, spelled, all_spelled, items}
use Rattle.xdr_writer.specs.ItemsOf.{node_items_of}
use Rattle.xdr_writer.specs.Forms.{IsInRange, is_in_range, IsNext}
use Rattle.xdr_writer.specs.Represents.{Begin, AreDue, word_kind, numbers_in}
use Rattle.xdr_writer.specs.Runs.{as_items}
use Rattle.xdr_writer.specs.Private.Becomes.{in_word}
use Rattle.xdr_writer.specs.Private.Runs.{words, AreWords}
use Rattle.xdr_writer.proofs.Begin.{begin_more}
use Rattle.xdr_writer.proofs.Joined.{spelled_more}
use Rattle.xdr_writer.proofs.Placed.{IsAt, next_stands}

pub word_range : (s : List KindView) (signed : Bool) (z : ℤ) → is_in_range s (word_kind signed) z ≡ in_word signed z
word_range s true z = refl
word_range s false z = refl

pub word_spelled : (signed : Bool) (z : ℤ) → spelled_as (word_kind signed) (number z) ≡ num4 z
word_spelled true z = refl
word_spelled false z = refl

pub word_some : (signed : Bool) (z : ℤ) → length (spelled_as (word_kind signed) (number z)) ≡ 4
word_some true z = refl
word_some false z = refl

pub run_spelled : (signed : Bool) (zs : List ℤ) → all_spelled (numbers_in (word_kind signed) zs) ≡ words zs
run_spelled signed [] = refl
run_spelled signed (z ∷ zs) =
    ap (λ (x : List ℕ). x ++ all_spelled (numbers_in (word_kind signed) zs)) (word_spelled signed z)
    ∙ ap (λ (x : List ℕ). num4 z ++ x) (run_spelled signed zs)

pub run_items : (k : KindView) (zs : List ℤ) → items (numbers_in k zs) ≡ as_items zs
run_items k [] = refl
run_items k (z ∷ zs) = ap (λ (x : List _). number z ∷ x) (run_items k zs)

pub run_count : (k : KindView) (zs : List ℤ) → length (numbers_in k zs) ≡ length zs
run_count k [] = refl
run_count k (z ∷ zs) = omega (arith, run_count k zs)

module _ (s : List KindView) (t : ℕ) (signed : Bool) where
  abbrev node : KindView
  node = word_kind signed

  abbrev one : ℤ → NodeItem
  one z = of_node node (number z)

  next_number : (is : List NodeItem) (z : ℤ) → in_word signed z ≡ true → (v : Tree) → Fits s t v → (ys : List ℤ)
      (more : List NodeItem) → node_items_of s t v ≡ is ++ (numbers_in node ys ++ more) → 0 < length ys
      → (e : Entry) × IsNext s t (all_spelled is) e × IsAt s e (one z)
  next_number is z low v f [] more at some = absurd (omega (arith, some))
  next_number is z low v f (y ∷ ys) more at some =
      let g = next_stands s t v is (one y) (numbers_in node ys ++ more) f at in
      let range : IsInRange s node (number z) = word_range s signed z ∙ low in (
        g.0,
        g.1,
        record {
          kind = g.2.kind;
          known = g.2.known;
          form = g.2.form;
          range = subst (λ (k : KindView). IsInRange s k (number z)) g.2.kind range;
        },
      )

  -- a number in range stands at the next entry
  pub run_next : (is : List NodeItem) (left : ℕ) → Begin s t is → AreDue s t is left node → 0 < left
      → Front s t (all_spelled is) → (z : ℤ) → in_word signed z ≡ true
      → (e : Entry) × IsNext s t (all_spelled is) e × IsAt s e (one z)
  run_next is left begin due some front z low =
      let k = begin.by_bytes front.0 front.1.1 front.1.0 front.1.2 in
      let r = due front.0 k.0 front.1.0 k.1 in
      next_number is z low front.0 front.1.0 r.0 r.1 (k.1 ∙ ap (λ (x : List NodeItem). is ++ x) r.2)
      (omega (arith, some, r.3))

  fewer : (x : NodeItem) (rest : List NodeItem) (zs : List ℤ) (more : List NodeItem) (left : ℕ)
      → x ∷ rest ≡ numbers_in node zs ++ more → length zs ≡ left + 1
      → (ys : List ℤ) × (m : List NodeItem) × (rest ≡ numbers_in node ys ++ m) × (length ys ≡ left)
  fewer x rest [] more left e n = absurd (omega (arith, n))
  fewer x rest (z ∷ zs) more left e n = (zs, more, ap (λ (l : List NodeItem). drop 1 l) e, omega (arith, n))

  -- behind it one less is due
  pub due_less : (is : List NodeItem) (left : ℕ) (z : ℤ) → AreDue s t is (left + 1) node
      → AreDue s t (is ++ one z ∷ []) left node
  due_less is left z due v rest f at =
      let r = due v (one z ∷ rest) f (at ∙ append_assoc is (one z ∷ []) rest) in
      fewer (one z) rest r.0 r.1 left r.2 r.3

  -- each front of the numbers but all of them is one of a value
  abbrev pub Fronts : List NodeItem → List ℤ → Type 0
  Fronts is zs = (xs : List ℤ) (y : ℤ) (ys : List ℤ) → zs ≡ xs ++ y ∷ ys
      → Front s t (all_spelled is ++ all_spelled (numbers_in node xs))

  fronts_more : (is : List NodeItem) (z : ℤ) (zs : List ℤ) → Fronts is (z ∷ zs) → Fronts (is ++ one z ∷ []) zs
  fronts_more is z zs fronts xs y ys e =
      subst (λ (q : List ℕ). Front s t q)
      (sym (append_assoc (all_spelled is) (spelled (one z)) (all_spelled (numbers_in node xs)))
      ∙ ap (λ (q : List ℕ). q ++ all_spelled (numbers_in node xs)) (sym (spelled_more is (one z))))
      (fronts (z ∷ xs) y ys (ap (λ (l : List ℤ). z ∷ l) e))

  -- numbers in range, put behind items that begin each value with them
  pub run_begin : (zs : List ℤ) (is : List NodeItem) (left : ℕ) → Begin s t is → AreDue s t is (length zs + left) node
      → AreWords signed zs → Fronts is zs
      → Begin s t (is ++ numbers_in node zs) × AreDue s t (is ++ numbers_in node zs) left node
  run_begin [] is left begin due low fronts =
      let count : length {A = ℤ} [] + left ≡ left = omega arith in (
        subst (λ (x : List NodeItem). Begin s t x) (sym (append-nil is)) begin,
        subst (λ (x : List NodeItem). AreDue s t x left node) (sym (append-nil is))
            (subst (λ (n : ℕ). AreDue s t is n node) count due),
      )
  run_begin (z ∷ zs) is left begin due low fronts =
      let here : Front s t (all_spelled is) =
      subst (λ (q : List ℕ). Front s t q) (append-nil (all_spelled is)) (fronts [] z zs refl) in
      let next = run_next is (length (z ∷ zs) + left) begin due (omega arith) here z low.0 in
      let more = begin_more s t is next.0 (one z) begin next.1 next.2 (omega (arith, word_some signed z)) in
      let count : length (z ∷ zs) + left ≡ (length zs + left) + 1 = omega arith in
      let less = due_less is (length zs + left) z (subst (λ (n : ℕ). AreDue s t is n node) count due) in
      let rest = run_begin zs (is ++ one z ∷ []) left more less low.1 (fronts_more is z zs fronts) in (
        subst (λ (x : List NodeItem). Begin s t x) (append_assoc is (one z ∷ []) (numbers_in node zs)) rest.0,
        subst (λ (x : List NodeItem). AreDue s t x left node) (append_assoc is (one z ∷ []) (numbers_in node zs))
            rest.1,
      )
