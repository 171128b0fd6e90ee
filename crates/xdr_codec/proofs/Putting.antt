-- One put after another.
use Rattle.std.proofs.Common.{◌≡◌, ℕ, List, [], ◌∷◌, ◌++◌, Result, Ok, Err}
use Rattle.std.proofs.lemmas.List.{append-nil}
use Rattle.xdr_types.specs.Kinds.{KindView, Part}
use Rattle.xdr_types.specs.Tree.{none}
use Rattle.xdr_types.specs.Spelling.{spelling}
use Rattle.xdr_codec.specs.Private.PutAll.{PutAll}

pub put_then : {S A E : Type 0} (r : Result A E) (sends cuts : S → S → List ℕ → Type 0)
    → ((a b c : S) (x y : List ℕ) → sends a b x → sends b c y → sends a c (x ++ y))
    → ((a b c : S) (x y : List ℕ) → sends a b x → cuts b c y → cuts a c (x ++ y))
    → (a b c : S) (x y : List ℕ) → sends a b x → PutAll sends cuts b c y r → PutAll sends cuts a c (x ++ y) r
put_then (Ok u) sends cuts trans after a b c x y first second = trans a b c x y first second
put_then (Err e) sends cuts trans after a b c x y first second = after a b c x y first second

-- behind the bytes of a node come none where it has no parts
pub own_alone : (kinds : List KindView) (ps : List Part) (own : List ℕ) → own ++ spelling kinds ps none ≡ own
own_alone kinds [] own = append-nil own
own_alone kinds (p ∷ ps) own = append-nil own
