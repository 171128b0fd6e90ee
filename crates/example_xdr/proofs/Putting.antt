-- What a writer's answers say of the items of the pair.
use Rattle.std.proofs.Common.{◌≡◌, ◌≤◌, ℕ, pos, List, [], ◌∷◌, ◌++◌, codes, refl, ap, sym, subst, ◌∙◌, drop}
use Rattle.std.proofs.Common.{Result, Ok, Err, IfErr, length, append-nil}
use Rattle.std.specs.Prelude.{IfOk}
use Rattle.xdr_types.specs.Kinds as xdr
use Rattle.xdr_types.specs.Kinds.{KindView}
use Rattle.xdr_types.specs.Spelling.{bytes_of}
use Rattle.xdr_types.specs.Within.{Bounds}
use Rattle.xdr_types.proofs.Unique.{one}
use Rattle.xdr_writer.specs.Items.{NodeItem, ItemView, of_node, number, content, spelled_as, all_spelled}
use Rattle.xdr_writer.specs.Represents.{Begin}
use Rattle.xdr_writer.specs.Answers.{Takes, HasNoValue}
use Rattle.xdr_writer.specs.declared.refusal.WriteRefusal.{WriteRefusal}
use Rattle.xdr_writer.specs.declared.item.Step.{Step}
use Rattle.xdr_writer.specs.declared.item.Step.TheVariants as step
use Rattle.example_xdr.specs.Pair.{pair_kinds, pair, pair_bytes}

abbrev pub abc : ItemView
abc = content (codes "abc")

abbrev pub three : ItemView
three = number (pos 3)

abbrev pub head_kind : List NodeItem → KindView
head_kind [] = xdr.nothing
head_kind (i ∷ is) = i.kind

abbrev pub tail : List NodeItem → List NodeItem
tail [] = []
tail (i ∷ is) = is

abbrev pub one_item : KindView → List NodeItem
one_item k = of_node k three ∷ []

abbrev pub both : (k m : KindView) → List NodeItem
both k m = of_node k three ∷ of_node m abc ∷ []

-- the first item is of the int
first_kind : (k : KindView) → Begin pair_kinds 2 (one_item k) → k ≡ xdr.int
first_kind k b = sym (ap head_kind (b.by_items pair (abc ∷ []) refl refl).1)

-- and does not make a value whole
pub first_more : (limits : Bounds) (k : KindView) (s : Step) → Begin pair_kinds 2 (one_item k)
    → Takes pair_kinds 2 limits (one_item k) s → s ≡ step.More
first_more limits k step.More b t = refl
first_more limits k step.Done b t =
    let is : bytes_of pair_kinds 2 t.0 ≡ 0 ∷ 0 ∷ 0 ∷ 3 ∷ [] =
    t.3 ∙ ap (λ (x : KindView). all_spelled (one_item x)) (first_kind k b) in
    let rest : drop 4 pair_bytes ≡ [] =
    (one pair_kinds 2 t.0 pair (drop 4 pair_bytes) [] t.1.0 refl
    (ap (λ (z : List ℕ). z ++ drop 4 pair_bytes) is)).1 in absurd cc

-- the second does
pub second_done : (limits : Bounds) (k m : KindView) (s : Step) → Takes pair_kinds 2 limits (both k m) s
    → s ≡ step.Done
second_done limits k m step.More t = absurd (t.unfinished pair refl refl)
second_done limits k m step.Done t = refl

-- and their bytes are the pair's
both_bytes : (k m : KindView) → Begin pair_kinds 2 (both k m) → spelled_as k three ++ spelled_as m abc ≡ pair_bytes
both_bytes k m b =
    let all = (b.by_items pair [] refl refl).1 in
    let first : k ≡ xdr.int = sym (ap head_kind all) in
    let second : m ≡ xdr.text 255 = sym (ap (λ (x : List NodeItem). head_kind (tail x)) all) in
    ap (λ (x : KindView). spelled_as x three ++ spelled_as m abc) first
    ∙ ap (λ (x : KindView). spelled_as xdr.int three ++ spelled_as x abc) second

pub pair_written : (before middle after : List ℕ) (k m : KindView) → before ≡ [] → middle ≡ before ++ spelled_as k three
    → after ≡ middle ++ spelled_as m abc → Begin pair_kinds 2 (both k m) → after ≡ pair_bytes
pair_written before middle after k m none one_more two b =
    two
    ∙ ap (λ (z : List ℕ). z ++ spelled_as m abc) (one_more ∙ ap (λ (z : List ℕ). z ++ spelled_as k three) none)
    ∙ both_bytes k m b

pub both_count : (k m : KindView) → Begin pair_kinds 2 (both k m) → length (all_spelled (both k m)) ≡ 12
both_count k m b =
    ap (λ (z : List ℕ). length (spelled_as k three ++ z)) (append-nil (spelled_as m abc))
    ∙ ap (λ (z : List ℕ). length z) (both_bytes k m b)

pub on_ok : {A : Type 0} → (r : Result A WriteRefusal) (P Q : A → Type 0) → ((a : A) → P a → Q a) → IfOk r P
    → IfOk r Q
on_ok (Ok a) P Q g h = g a h
on_ok (Err f) P Q g h = tt

-- ---- no reason stands against the first item

pub of_error : {A : Type 0} → (r : Result A WriteRefusal) (P Q : WriteRefusal → Type 0)
    → ((f : WriteRefusal) → P f → Q f) → IfErr r P → IfErr r Q
of_error (Ok a) P Q g h = tt
of_error (Err f) P Q g h = g f h

pub has_value : (kinds : List KindView) (kind : ℕ) (limits : Bounds) → kinds ≡ pair_kinds → kind ≡ 2
    → 2 ≤ limits.depth → 12 ≤ limits.bytes → HasNoValue kinds kind limits [] (number (pos 3)) → ⊥
has_value kinds kind limits is at deep room none =
    let here : HasNoValue pair_kinds kind limits [] three =
    subst (λ (x : List KindView). HasNoValue x kind limits [] three) is none in
    let there : HasNoValue pair_kinds 2 limits [] three =
    subst (λ (x : ℕ). HasNoValue pair_kinds x limits [] three) at here in
    there pair (abc ∷ []) (refl, (deep, room)) refl

-- a family over the kinds and the place of the pair
pub moved : (F : List KindView → ℕ → Type 0) → (kinds : List KindView) (kind : ℕ) → kinds ≡ pair_kinds → kind ≡ 2
    → F kinds kind → F pair_kinds 2
moved F kinds kind is at f =
    subst (λ (x : ℕ). F pair_kinds x) at (subst (λ (x : List KindView). F x kind) is f)
