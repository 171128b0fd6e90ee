-- The parts that nodes at work have not begun.
use Rattle.std.proofs.Common.{◌≡◌, ℕ, zero, suc, ◌+◌, ◌<◌, List, [], ◌∷◌, ◌++◌, length, map, drop, get_or, refl, sym}
use Rattle.std.proofs.Common.{ap, arith, ◌∙◌}
use Rattle.xdr_types.specs.Kinds.{KindView, Part}
use Rattle.xdr_types.specs.KindViews.{part_of_member}
use Rattle.xdr_types.specs.declared.kind.Member.{Member}
use Rattle.xdr_cursor.specs.Frames.{left_in, onto}
use Rattle.xdr_cursor.specs.declared.frame.Frame.{Frame}

-- the innermost parent stands last in the list
pub onto_last : (kinds : List KindView) (outer : List (List Part)) (fs : List Frame) (f : Frame)
    → onto kinds outer (fs ++ f ∷ []) ≡ left_in kinds f ∷ onto kinds outer fs
onto_last kinds outer [] f = refl
onto_last kinds outer (g ∷ fs) f = onto_last kinds (left_in kinds g ∷ outer) fs f

onto_length : (kinds : List KindView) (outer : List (List Part)) (fs : List Frame)
    → length (onto kinds outer fs) ≡ length outer + length fs
onto_length kinds outer [] = omega arith
onto_length kinds outer (f ∷ fs) = let more = onto_length kinds (left_in kinds f ∷ outer) fs in omega arith

-- the level of the innermost node
pub level : (kinds : List KindView) (parents : List Frame) → length parents + 1 ≡ length (onto kinds [] parents) + 1
level kinds parents = omega (arith, onto_length kinds [] parents)

-- the fields from an index on are the one there and those behind it
pub fields_from : (ms : List Member) (i : ℕ) (m : Member) → i < length ms → m ≡ get_or ms i m
    → drop i (map part_of_member ms) ≡ part_of_member m ∷ drop (i + 1) (map part_of_member ms)
fields_from [] i m h is = absurd (omega arith)
fields_from (n ∷ ms) zero m h is = ap (λ (x : Member). part_of_member x ∷ map part_of_member ms) (sym is)
fields_from (n ∷ ms) (suc i) m h is =
    let more : suc i + 1 ≡ suc (i + 1) = omega arith in
    fields_from ms i m (omega arith) is
    ∙ ap (λ (k : ℕ). part_of_member m ∷ drop k (map part_of_member (n ∷ ms))) (sym more)
