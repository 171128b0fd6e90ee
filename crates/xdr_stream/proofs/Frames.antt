-- The parts that the nodes at work have not begun.
use Rattle.std.proofs.Common.{◌≡◌, ℕ, zero, suc, ◌+◌, ◌≤◌, List, [], ◌∷◌, ◌++◌, length, map, replicate, get_or, refl}
use Rattle.std.proofs.Common.{sym, ap, arith}
use Rattle.std.specs.Prelude.{Option, Some, None, is_some, MatchOption, false}
use Rattle.std.proofs.lemmas.Bool.{false≢true}
use Rattle.xdr_types.specs.Kinds.{Part}
use Rattle.xdr_types.specs.KindViews.{part_of_member}
use Rattle.xdr_types.specs.Fits.{item_part}
use Rattle.xdr_types.specs.declared.kind.Member.{Member}
use Rattle.xdr_stream.specs.declared.machine.frame.Frame.{Frame}
use Rattle.xdr_stream.specs.Frames.{Begins, left_of, onto}

pub begins_map : (ms : List Member) (m : Member) → 1 ≤ length ms → m ≡ get_or ms 0 m
    → Begins (map part_of_member ms) m.kind.place
begins_map [] m h is = absurd (omega arith)
begins_map (n ∷ ms) m h is = (part_of_member n, refl, ap (λ (x : Member). x.kind.place) (sym is))

pub begins_items : (item n : ℕ) → (n ≡ 0 → ⊥) → Begins (replicate n (item_part item)) item
begins_items item zero h = absurd (h refl)
begins_items item (suc n) h = (item_part item, refl, refl)

-- the innermost parent stands last in the list
pub onto_last : (outer : List (List Part)) (fs : List Frame) (f : Frame)
    → onto outer (fs ++ f ∷ []) ≡ left_of f ∷ onto outer fs
onto_last outer [] f = refl
onto_last outer (g ∷ fs) f = onto_last (left_of g ∷ outer) fs f

pub onto_length : (outer : List (List Part)) (fs : List Frame) → length (onto outer fs) ≡ length outer + length fs
onto_length outer [] = omega arith
onto_length outer (f ∷ fs) = let more = onto_length (left_of f ∷ outer) fs in omega arith

pub none_of : {A : Type 0} → (r : Option A) (P : Type 0) (Q : A → Type 0) → is_some r ≡ false → MatchOption r P Q → P
none_of None P Q e m = m
none_of (Some x) P Q e m = absurd (false≢true (sym e))
