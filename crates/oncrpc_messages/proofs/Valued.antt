-- Values one behind another, as they are judged and printed.
use Rattle.std.proofs.Common.{◌≡◌, ℕ, ◌+◌, ◌-◌, ◌<◌, ◌≤◌, Bool, true, false, List, [], ◌∷◌, ◌++◌, length, take, drop}
use Rattle.std.proofs.Common.{refl, sym, ap, ◌∙◌, subst, inl, inr, get_or, arith, rules, append_assoc}
use Rattle.std.proofs.lemmas.List.{at_drop_all, at_drop_more, length-take-le, take-append-drop}
use Rattle.xdr_types.specs.Kinds.{KindView}
use Rattle.xdr_types.specs.declared.kind.KindId.{KindId}
use Rattle.xdr_types.specs.Spelling.{bytes_of}
use Rattle.xdr_types.specs.Tree.{Tree}
use Rattle.xdr_types.specs.Within.{Bounds, FitsWithin}
use Rattle.xdr_lang.specs.Views.{places}
use Rattle.oncrpc_messages.specs.declared.form.Form.{Form}
use Rattle.oncrpc_messages.specs.declared.refusal.Why.{Why}
use Rattle.oncrpc_messages.specs.Values.{AreRefused, AreShown, between, shown_in}

-- the place of a kind
abbrev pub place_at : List KindId → (at : ℕ) → ℕ
place_at ids at = (get_or ids at (record { place = 0 })).place

-- where one is left, it is the first of what is left
pub one_left : (ids : List KindId) (at : ℕ) → at < length ids
    → places (drop at ids) ≡ place_at ids at ∷ places (drop (at + 1) ids)
one_left ids at some = at_drop_more places ids at (record { place = 0 }) some

module _ (form : Form) (kinds : List KindView) (limits : Bounds) (k : ℕ) (ks : List ℕ) (rest : List ℕ) (used : ℕ)
    (v : Tree) (fits : FitsWithin kinds k limits v) (within : used ≤ length rest)
    (spelled : bytes_of kinds k v ≡ take used rest) where
  joined : rest ≡ bytes_of kinds k v ++ drop used rest
  joined = sym (take-append-drop used rest) ∙ ap (λ (x : List ℕ). x ++ drop used rest) (sym spelled)

  counted : length (bytes_of kinds k v) ≡ used
  counted = ap (λ (x : List ℕ). length x) spelled ∙ length-take-le used rest within

  -- a value in front of others
  pub shown_more : (first : Bool) (t : List ℕ) → AreShown form kinds limits false ks (drop used rest) t
      → AreShown form kinds limits first (k ∷ ks) rest (between form first ++ (shown_in form kinds k v ++ t))
  shown_more first t h = (v, drop used rest, t, fits, joined, refl, h)

  -- a value in front of what is refused
  pub refused_more : (w : Why) (n : ℕ) → AreRefused kinds limits ks (drop used rest) w n
      → AreRefused kinds limits (k ∷ ks) rest w (used + n)
  refused_more w n h = inr (v, drop used rest, n, fits, joined, ap (λ (x : ℕ). x + n) (sym counted), h)

-- what was printed, and a value and others behind it
pub joined_text : (old new a b u : List ℕ) → new ≡ old ++ (a ++ b) → old ++ (a ++ (b ++ u)) ≡ new ++ u
joined_text old new a b u is = rw is (search (rules, append_assoc))

-- where no kind is left
pub none_left : (ids : List KindId) (at : ℕ) → length ids ≤ at → places (drop at ids) ≡ []
none_left ids at all = at_drop_all places ids at all

-- bytes that begin with others
pub joined_at : (own bytes : List ℕ) (n : ℕ) → own ≡ take n bytes → bytes ≡ own ++ drop n bytes
joined_at own bytes n is = sym (take-append-drop n bytes) ∙ ap (λ (x : List ℕ). x ++ drop n bytes) (sym is)

pub counted_at : (own bytes : List ℕ) (n : ℕ) → n ≤ length bytes → own ≡ take n bytes → n ≡ length own
counted_at own bytes n low is = sym (ap (λ (x : List ℕ). length x) is ∙ length-take-le n bytes low)
