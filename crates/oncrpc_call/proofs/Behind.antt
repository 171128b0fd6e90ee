-- Arguments one behind another, as they are judged.
use Rattle.std.proofs.Common.{◌≡◌, ◌≢◌, ℕ, ◌+◌, ◌<◌, ◌≤◌, List, [], ◌∷◌, ◌++◌, length, take, drop, sym, subst, ◌∙◌}
use Rattle.std.proofs.Common.{ap, arith}
use Rattle.std.proofs.Common.{get_or, refl, length-append}
use Rattle.std.proofs.Common.{append_assoc}
use Rattle.std.proofs.lemmas.List.{append-nil, at_drop_more, drop_at, get_or-map, length-map, take-append-drop, take_at}
use Rattle.std.proofs.lemmas.List.{take_more}
use Rattle.xdr_types.specs.Kinds.{KindView}
use Rattle.xdr_types.specs.declared.kind.KindId.{KindId}
use Rattle.xdr_types.specs.Spelling.{bytes_of}
use Rattle.xdr_types.specs.Tree.{Tree}
use Rattle.xdr_types.specs.Within.{Bounds, FitsWithin}
use Rattle.xdr_stream.specs.declared.fault.Reason.{Reason}
use Rattle.xdr_stream.specs.declared.fault.Reason.TheVariants as reason
use Rattle.xdr_codec.specs.Refused.{HasNoneWithin, IsRefused, MayFollow}
use Rattle.xdr_lang.specs.Views.{places}
use Rattle.oncrpc_call.specs.Asking.{AreArguments, FollowsLast, Leaves, Reaches}

-- the place of an argument
abbrev pub place_at : List KindId → (at : ℕ) → ℕ
place_at ids at = (get_or ids at (record { place = 0 })).place

-- where one is left, it is the first of what is left
pub one_left : (ids : List KindId) (at : ℕ) → at < length ids
    → places (drop at ids) ≡ place_at ids at ∷ places (drop (at + 1) ids)
one_left ids at some = at_drop_more places ids at (record { place = 0 }) some

-- the place of an argument among the places of all
pub place_is : (ids : List KindId) (at : ℕ) → at < length ids → get_or (places ids) at 0 ≡ place_at ids at
place_is ids at some = get_or-map (λ (k : KindId). k.place) ids at (record { place = 0 }) 0 some

-- No value begins the bytes of a refusal.
pub none_begins : (kinds : List KindView) (k : ℕ) (limits : Bounds) (b : List ℕ) (why : Reason)
    → why ≢ reason.NoMemory → IsRefused (HasNoneWithin kinds k limits) why b → (v : Tree) (more : List ℕ)
    → FitsWithin kinds k limits v → b ≡ bytes_of kinds k v ++ more → ⊥
none_begins kinds k limits b why known none v more fits joined =
    none [] (ends why known) v more fits (sym joined ∙ sym (append-nil b))
  where
    ends : (w : Reason) → w ≢ reason.NoMemory → MayFollow w []
    ends reason.BadBool other = tt
    ends reason.BadNumbered other = tt
    ends reason.BadCase other = tt
    ends reason.TooLong other = tt
    ends reason.BadPadding other = tt
    ends reason.TooDeep other = tt
    ends reason.TooLarge other = tt
    ends reason.Truncated other = refl
    ends reason.NoMemory other = absurd (other refl)

module _ (kinds : List KindView) (k : ℕ) (ks : List ℕ) (limits : Bounds) (b : List ℕ) where
  -- The first argument is the value that begins the bytes, and the others are those of what follows it.
  module _ (v : Tree) (used : ℕ) (fits : FitsWithin kinds k limits v) (within : used ≤ length b)
      (spelled : bytes_of kinds k v ≡ take used b)
      (only : (t : Tree) (n : ℕ) → FitsWithin kinds k limits t → n ≤ length b → bytes_of kinds k t ≡ take n b
      → (t ≡ v) × (n ≡ used)) where
    pub with_first : AreArguments kinds ks limits (drop used b) → AreArguments kinds (k ∷ ks) limits b
    with_first others = (
      v,
      drop used b,
      fits,
      sym (take-append-drop used b) ∙ ap (λ (x : List ℕ). x ++ drop used b) (sym spelled),
      others,
    )

    pub behind_first : AreArguments kinds (k ∷ ks) limits b → AreArguments kinds ks limits (drop used b)
    behind_first h =
        let own : List ℕ = bytes_of kinds k h.0 in
        let long = length-append own h.1 in
        let whole : length b ≡ length own + length h.1 = ap (λ (x : List ℕ). length x) h.3 ∙ long in
        let front : own ≡ take (length own) b =
        sym (ap (λ (x : List ℕ). take (length own) x) h.3 ∙ take_at own h.1 (length own) refl) in
        let one = only h.0 (length own) h.2 (omega (arith, whole)) front in
        let rest : drop used b ≡ h.1 =
        ap (λ (x : List ℕ). drop used x) h.3 ∙ drop_at own h.1 used one.1 in
        subst (λ (x : List ℕ). AreArguments kinds ks limits x) (sym rest) h.4

  -- No value begins the bytes.
  pub none_first : (why : Reason) → why ≢ reason.NoMemory
      → IsRefused (HasNoneWithin kinds k limits) why b → AreArguments kinds (k ∷ ks) limits b → ⊥
  none_first why known none h = none_begins kinds k limits b why known none h.0 h.1 h.2 h.3

-- one more argument behind others
with_last : (kinds : List KindView) (k : ℕ) (ks : List ℕ) (limits : Bounds) (b : List ℕ) (v : Tree)
    → FitsWithin kinds k limits v → AreArguments kinds ks limits b
    → AreArguments kinds (ks ++ k ∷ []) limits (b ++ bytes_of kinds k v)
with_last kinds k [] limits b v fits h = (
  v,
  [],
  fits,
  ap (λ (x : List ℕ). x ++ bytes_of kinds k v) h ∙ sym (append-nil (bytes_of kinds k v)),
  refl,
)
with_last kinds k (j ∷ js) limits b v fits h = (
  h.0,
  h.1 ++ bytes_of kinds k v,
  h.2,
  ap (λ (x : List ℕ). x ++ bytes_of kinds k v) h.3
      ∙ append_assoc (bytes_of kinds j h.0) h.1 (bytes_of kinds k v),
  with_last kinds k js limits h.1 v fits h.4,
)

-- The bytes begin with no argument at first, and all of them are left.
pub leaves_all : (kinds : List KindView) (places : List ℕ) (limits : Bounds) (bytes : List ℕ)
    → Leaves kinds places limits bytes 0 bytes
leaves_all kinds places limits bytes = record { before = []; judged = refl; joined = refl }

-- One more argument begins what is left.
pub leaves_more : (kinds : List KindView) (places : List ℕ) (at k used : ℕ) (limits : Bounds)
    (bytes rest next : List ℕ) (v : Tree) → Leaves kinds places limits bytes at rest → at < length places
    → get_or places at 0 ≡ k → FitsWithin kinds k limits v → bytes_of kinds k v ≡ take used rest
    → next ≡ drop used rest → Leaves kinds places limits bytes (at + 1) next
leaves_more kinds places at k used limits bytes rest next v l some is fits spelled behind =
    let own : List ℕ = bytes_of kinds k v in
    let more : take at places ++ k ∷ [] ≡ take (at + 1) places =
    ap (λ (x : ℕ). take at places ++ x ∷ []) (sym is) ∙ sym (take_more places at 0 some) in
    let parts : own ++ next ≡ rest =
    ap (λ (x : List ℕ). own ++ x) behind ∙ ap (λ (x : List ℕ). x ++ drop used rest) spelled
    ∙ take-append-drop used rest in
    record {
      before = l.before ++ own;
      judged = subst (λ (ps : List ℕ). AreArguments kinds ps limits (l.before ++ own)) more
          (with_last kinds k (take at places) limits l.before v fits l.judged);
      joined = l.joined ∙ ap (λ (x : List ℕ). l.before ++ x) (sym parts)
          ∙ sym (append_assoc l.before own next);
    }

-- An argument is left, of this kind.
pub reaches_at : (kinds : List KindView) (ids : List KindId) (at : ℕ) (limits : Bounds) (bytes rest : List ℕ)
    → Leaves kinds (places ids) limits bytes at rest → at < length ids
    → Reaches kinds (places ids) limits bytes at (place_at ids at) rest
reaches_at kinds ids at limits bytes rest l some = record {
  behind = l;
  within = omega (arith, some, length-map ids (λ (k : KindId). k.place));
  place_is = sym (place_is ids at some);
}

-- Bytes are left behind the last argument.
pub follows_last : (kinds : List KindView) (ids : List KindId) (limits : Bounds) (bytes rest : List ℕ)
    → Leaves kinds (places ids) limits bytes (length ids) rest → 0 < length rest
    → FollowsLast kinds (places ids) limits bytes (length rest)
follows_last kinds ids limits bytes rest l some =
    let same : length (places ids) ≡ length ids = length-map ids (λ (k : KindId). k.place) in
    record {
      rest = rest;
      behind = subst (λ (n : ℕ). Leaves kinds (places ids) limits bytes n rest) (sym same) l;
      many = refl;
      some = some;
    }
