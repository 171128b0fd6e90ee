-- What a walk has taken since it forgot what it had is handed out.
use Rattle.std.proofs.Common.{◌≡◌, ℕ, ◌+◌, ◌<◌, ◌^◌, List, [], ◌∷◌, ◌++◌, length, map, drop, refl, sym, ap, subst, ◌∙◌}
use Rattle.std.proofs.Common.{arith, true}
use Rattle.std.proofs.lemmas.List.{length-append, length-map}
use Rattle.xdr_types.specs.Layout.{Entry}
use Rattle.xdr_laws.specs.Owed.{Completes}
use Rattle.xdr_types.specs.Kinds.{Part}
use Rattle.xdr_stream.specs.Frames.{stack_of, dues}
use Rattle.xdr_parts.specs.Lent.{entry_of, AreLentFrom}
use Rattle.xdr_parts.specs.Coming.{Awaits, HandsOut}
use Rattle.xdr_parts.specs.Private.Taking.{HasTaken}
use Rattle.xdr_parts.specs.Private.Walking.{Aim, AreLow, HasWalked}
use Rattle.xdr_parts.specs.declared.part.Lent.{Lent}
use Rattle.xdr_parts.specs.declared.coming.PartWalk.{PartWalk}
use Rattle.xdr_parts.specs.declared.taken.Taken.{Taken}
use Rattle.xdr_parts.specs.declared.walk.Walk.{Walk}
use Rattle.xdr_parts.proofs.Stepping.{nothing_left}

-- these parts, and all are listed
abbrev pub listing : List Entry → Aim
listing es = record { parts = es; lists = true }

no_part : (ls : List Lent) → length ls ≡ 0 → ls ≡ []
no_part [] e = refl
no_part (l ∷ ls) e = absurd (omega (arith, e))

-- where no part is taken all are left
all_left : (w : Walk) (es : List Entry) (st : HasWalked w (listing es)) → w.taken.parts ≡ 0 → st.left ≡ es
all_left w es st zero =
    let none : st.begun ≡ [] = no_part st.begun (omega (arith, st.taken.parts)) in
    sym (st.joined ∙ ap (λ (ls : List Lent). map entry_of ls ++ st.left) none)

-- before the first part all are still to come
pub all_to_come : (w : PartWalk) (bytes : List ℕ) (es : List Entry) → HasWalked w.walk (listing es)
    → w.walk.taken.parts ≡ 0 → w.walk.bytes.now ≡ bytes → w.handed ≡ 0 → Awaits w bytes es
all_to_come w bytes es st zero same count =
    let all : st.left ≡ es = all_left w.walk es st zero in
    record {
      spelled = same;
      owes = subst (λ (x : List Entry). Completes w.walk.schema.now.kinds w.walk.at
          (dues (stack_of w.walk.work w.walk.parents.items)) (drop w.walk.at w.walk.bytes.now) x) all st.owes;
      within = st.within;
      low = subst (λ (x : List Entry). AreLow x) all st.low;
      lists = st.lists;
      few = omega (arith, st.few, count);
    }

-- a walk that forgets its parts has those that are still to come before it
pub afresh : (w : PartWalk) (bytes : List ℕ) (es : List Entry) (t : Taken) → Awaits w bytes es → HasTaken t []
    → t.lists ≡ w.walk.taken.lists
    → HasWalked (record w.walk { taken = t }) (listing es)
afresh w bytes es t a none same = record {
  left = es;
  owes = a.owes;
  within = a.within;
  begun = [];
  joined = refl;
  low = a.low;
  lent = tt;
  taken = none;
  lists = same ∙ a.lists;
  few = omega (arith, a.few);
}

-- what it then takes is handed out
pub handed : (w w' : PartWalk) (bytes : List ℕ) (es : List Entry) → Awaits w bytes es → HasWalked w'.walk (listing es)
    → w'.walk.bytes.now ≡ bytes → w'.handed ≡ w.handed + w'.walk.taken.parts → HandsOut w' bytes es
handed w w' bytes es a st same count =
    let listed : w'.walk.taken.list.items ≡ st.begun = st.taken.list st.lists in
    record {
      rest = st.left;
      joined = st.joined ∙ ap (λ (ls : List Lent). map entry_of ls ++ st.left) (sym listed);
      lent = subst (λ (ls : List Lent). AreLentFrom bytes ls) (sym listed)
          (subst (λ (b : List ℕ). AreLentFrom b st.begun) same st.lent);
      awaits = record {
        spelled = same;
        owes = st.owes;
        within = st.within;
        low = st.low;
        lists = st.lists;
        few = omega (
          arith,
          a.few,
          count,
          st.taken.parts,
          ap (λ (x : List Entry). length x) st.joined,
          length-append (map entry_of st.begun) st.left,
          length-map st.begun entry_of,
        );
      };
    }

-- no more parts are taken than can be counted
pub countable : (w : PartWalk) (bytes : List ℕ) (es : List Entry) (after : Walk) → Awaits w bytes es
    → HasWalked after (listing es) → w.handed + after.taken.parts + 2 < 2 ^ 64
countable w bytes es after a st = omega (
  arith,
  a.few,
  st.taken.parts,
  ap (λ (x : List Entry). length x) st.joined,
  length-append (map entry_of st.begun) st.left,
  length-map st.begun entry_of,
)

-- where it takes none, since the value has ended, none was still to come
pub none_to_come : (w : Walk) (es : List Entry) (st : HasWalked w (listing es)) → w.taken.parts ≡ 0
    → stack_of w.work w.parents.items ≡ [] ∷ [] → es ≡ []
none_to_come w es st zero ended =
    sym (all_left w es st zero)
    ∙ nothing_left w.schema.now.kinds w.at (drop w.at w.bytes.now) st.left
    (subst (λ (x : List (List Part)). Completes w.schema.now.kinds w.at (dues x) (drop w.at w.bytes.now) st.left) ended
    st.owes)
