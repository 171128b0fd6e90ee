-- One byte of an item.
use Rattle.std.proofs.Common.{◌≡◌, ℕ, ◌+◌, List, ◌∷◌, Option, None, Some, ap, ◌∙◌}
use Rattle.oncrpc_encode.specs.declared.mark.Mark.{Mark}
use Rattle.oncrpc_encode.specs.declared.scan.Scan.{Scan}
use Rattle.oncrpc_encode.specs.Arrays.{mark_of}
use Rattle.oncrpc_encode.specs.Private.Scanned.{after, end_from}

pub goes_on : (at : ℕ) (s t : Scan) (b : ℕ) (bs : List ℕ) (m : Mark) → mark_of b ≡ m → after s m ≡ Some t
    → end_from at s (b ∷ bs) ≡ end_from (at + 1) t bs
unfolding end_from
goes_on at s t b bs m is on =
    ap (λ (o : Option Scan). elim o as (λ v. Option ℕ) [ None ↦ Some at | Some u ↦ end_from (at + 1) u bs ])
    (ap (after s) is ∙ on)

pub stops : (at : ℕ) (s : Scan) (b : ℕ) (bs : List ℕ) (m : Mark) → mark_of b ≡ m → after s m ≡ None
    → end_from at s (b ∷ bs) ≡ Some at
unfolding end_from
stops at s b bs m is none =
    ap (λ (o : Option Scan). elim o as (λ v. Option ℕ) [ None ↦ Some at | Some u ↦ end_from (at + 1) u bs ])
    (ap (after s) is ∙ none)

pub at_place : (i j : ℕ) (s : Scan) (bs : List ℕ) → i ≡ j → end_from i s bs ≡ end_from j s bs
at_place i j s bs e = ap (λ (k : ℕ). end_from k s bs) e
