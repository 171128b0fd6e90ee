-- Numbers of an array that are made at once.
use Rattle.std.proofs.Common.{◌≡◌, ℕ, zero, suc, ◌+◌, ◌-◌, ◌*◌, ◌<◌, ◌≤◌, ◌^◌, List, [], ◌∷◌, ◌++◌, length}
use Rattle.std.proofs.Common.{replicate, take, drop, refl, sym, ap, subst, ◌∙◌, arith}
use Rattle.xdr_types.specs.Kinds.{KindView, Part, kind_at}
use Rattle.xdr_types.specs.Fits.{item_part}
use Rattle.xdr_types.specs.View.{tree, values}
use Rattle.xdr_types.specs.declared.value.Value.{Value}
use Rattle.xdr_laws.specs.Held.{count_nodes, count_bytes}
use Rattle.xdr_stream.specs.Frames.{rest_of}
use Rattle.xdr_stream.specs.Nodes.{head_of_leaf}
use Rattle.xdr_stream.specs.Private.Reported.{leaf_tree}
use Rattle.xdr_stream.specs.Private.Complete.{IsOneLeaf}
use Rattle.xdr_stream.specs.Private.Made.{Adds, between, AreMade, IsMade}
use Rattle.xdr_stream.specs.Private.Numbers.{AreNumbers, IsNumber, kind_of, width_of}
use Rattle.xdr_stream.specs.declared.builder.Leaf.{Leaf}
use Rattle.xdr_stream.specs.declared.builder.bulk.Number.{Number}
use Rattle.xdr_stream.specs.declared.builder.bulk.Number.TheVariants.{Int, Unsigned, Hyper, UnsignedHyper}
use Rattle.xdr_stream.specs.declared.builder.tally.Tally.{Tally}
use Rattle.xdr_stream.proofs.Frames.{begins_items}
use Rattle.xdr_stream.proofs.Made.{AreMadeOf, took_none, made_more, made_all, made_leaf}

-- ---- how many bytes they have

pub few_bytes : (n : Number) (count : ℕ) → count < 2 ^ 32 → count * width_of n < 2 ^ 64
few_bytes Int count few = omega (arith, few)
few_bytes Unsigned count few = omega (arith, few)
few_bytes Hyper count few = omega (arith, few)
few_bytes UnsignedHyper count few = omega (arith, few)

-- one is there, and so are those behind it
pub one_there : (n : Number) (left at size : ℕ) → 0 < left → at + left * width_of n ≤ size
    → at + width_of n + (left - 1) * width_of n ≤ size
one_there Int left at size some there = omega (arith, some, there)
one_there Unsigned left at size some there = omega (arith, some, there)
one_there Hyper left at size some there = omega (arith, some, there)
one_there UnsignedHyper left at size some there = omega (arith, some, there)

pub first_there : (n : Number) (left at size : ℕ) → 0 < left → at + left * width_of n ≤ size → at + width_of n ≤ size
first_there Int left at size some there = omega (arith, some, there)
first_there Unsigned left at size some there = omega (arith, some, there)
first_there Hyper left at size some there = omega (arith, some, there)
first_there UnsignedHyper left at size some there = omega (arith, some, there)

-- ---- what is made of them

-- what is counted where so many are made, and these bytes are taken
abbrev pub tally_at : Tally → (done at : ℕ) → Tally
tally_at a done at = record { nodes = a.nodes + done; content = a.content; at = at }

-- so many are made, and so many are left
abbrev pub AreSoFar : Number → (done left : ℕ) → List ℕ → Tally → (at : ℕ) → List Value → Type 0
AreSoFar n done left bytes a at vs = (s : List KindView) (place : ℕ) → kind_of n ≡ kind_at s place
    → AreMadeOf s (replicate (done + left) (item_part place)) (replicate left (item_part place)) bytes a
    (tally_at a done at) vs

pub none_so_far : (n : Number) (count : ℕ) (bytes : List ℕ) (a : Tally) → a.at ≤ length bytes
    → AreSoFar n 0 count bytes a a.at []
none_so_far n count bytes a within s place is = (
  [],
  ap (λ (k : ℕ). replicate k (item_part place)) (omega arith),
  record {
    fits = refl;
    took = took_none bytes a (tally_at a 0 a.at) within refl;
    adds = record { nodes_are = λ few. omega arith; content_is = λ few. omega arith };
  },
)

rest_items : (place left : ℕ) → 0 < left
    → replicate (left - 1) (item_part place) ≡ rest_of (replicate left (item_part place))
rest_items place zero some = absurd (omega (arith, some))
rest_items place (suc n) some = ap (λ (k : ℕ). replicate k (item_part place)) (omega arith)

pub more_so_far : (n : Number) (done left : ℕ) (bytes : List ℕ) (a : Tally) (at : ℕ) (vs : List Value) (v : Value)
    (l : Leaf) → 0 < left → at + width_of n ≤ length bytes → tree v ≡ leaf_tree (head_of_leaf l)
    → IsNumber n (take (width_of n) (drop at bytes)) l → AreSoFar n done left bytes a at vs
    → AreSoFar n (done + 1) (left - 1) bytes a (at + width_of n) (vs ++ v ∷ [])
more_so_far n done left bytes a at vs v l some there is number before s place kind =
    let b : Tally = tally_at a done at in
    let c : Tally = tally_at a (done + 1) (at + width_of n) in
    let size : at + width_of n - at ≡ width_of n = omega arith in
    let one : IsMade s place bytes b c v =
    made_leaf s place bytes b b c v l is
    (subst (λ (k : ℕ). IsOneLeaf s place (take k (drop at bytes)) l) (sym size) (number s place kind))
    (omega arith) there refl refl
    (record { nodes_are = λ few. omega arith; content_is = λ few. omega arith }) in
    let all : done + 1 + (left - 1) ≡ done + left = omega (arith, some) in
    subst (λ (k : ℕ). AreMadeOf s (replicate k (item_part place)) (replicate (left - 1) (item_part place)) bytes a c
    (vs ++ v ∷ [])) (sym all)
    (made_more s (replicate (done + left) (item_part place)) (replicate left (item_part place))
    (replicate (left - 1) (item_part place)) place bytes a b c vs v
    (begins_items place left (λ e. omega (arith, e, some)))
    (rest_items place left some) (before s place kind) one)

pub all_so_far : (n : Number) (done count : ℕ) (bytes : List ℕ) (a b : Tally) (at : ℕ) (vs : List Value)
    → done ≡ count → b.at ≡ at → (a.nodes + count < 2 ^ 64 → b.nodes ≡ a.nodes + count) → b.content ≡ a.content
    → AreSoFar n done 0 bytes a at vs → AreNumbers n count bytes a b (values vs)
all_so_far n done count bytes a b at vs whole moved nodes content before s place kind =
    let made : AreMade s (replicate (done + 0) (item_part place)) bytes a (tally_at a done at) (values vs) =
    made_all s (replicate (done + 0) (item_part place)) [] bytes a (tally_at a done at) vs refl
    (before s place kind) in
    let here : AreMade s (replicate count (item_part place)) bytes a (tally_at a done at) (values vs) =
    subst (λ (k : ℕ). AreMade s (replicate k (item_part place)) bytes a (tally_at a done at) (values vs))
    (omega (arith, whole)) made in record {
      fits = here.fits;
      took = record {
        ordered = omega (arith, here.took.ordered, moved);
        within = omega (arith, here.took.within, moved);
        are = ap (λ (k : ℕ). between a.at k bytes) moved ∙ here.took.are;
      };
      adds = record {
        nodes_are = λ few.
            let known = here.adds.nodes_are few in
            nodes (omega (arith, few, known, whole)) ∙ omega (arith, known, whole);
        content_is = λ few. content ∙ here.adds.content_is few;
      };
    }
