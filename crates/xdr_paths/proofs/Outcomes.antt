-- What holds of a result that is there.
use Rattle.std.proofs.Common.{◌≡◌, subst, ℕ, List, Option, Some, None, Result, Ok, Err, IfOk}
use Rattle.xdr_types.specs.Kinds.{KindView}
use Rattle.xdr_types.specs.Layout.{Entry}
use Rattle.xdr_types.specs.Within.{Bounds}
use Rattle.xdr_parts.specs.Lent.{entry_of}
use Rattle.xdr_parts.specs.declared.part.Lent.{Lent}
use Rattle.xdr_paths.specs.Private.Standing.{HasPart, Finds, IsAt, Stands}
use Rattle.xdr_paths.specs.Nodes.{Node}
use Rattle.xdr_paths.specs.declared.spot.Spot.{Spot}

pub on_ok : {A E : Type 0} (r : Result A E) (P Q : A → Type 0) → ((x : A) → P x → Q x) → IfOk r P → IfOk r Q
on_ok (Ok x) P Q f h = f x h
on_ok (Err e) P Q f h = h

-- A part of which one fact holds is one of which the other holds.
pub has_part : (bytes : List ℕ) (found : Option Lent) (P Q : Entry → Type 0) → ((e : Entry) → P e → Q e)
    → ((e : Entry) → Q e → P e) → HasPart bytes found P → HasPart bytes found Q
has_part bytes None P Q f g h = λ e q. h e (g e q)
has_part bytes (Some l) P Q f g h = (f (entry_of l) h.0, h.1)

module _ (kinds : List KindView) (limits : Bounds) (bytes : List ℕ) (found : Option Spot) (wanted : Option Node) where
  -- What was found is there.
  pub found_at : (s : Spot) → found ≡ Some s → Finds kinds limits bytes found wanted
      → (m : Node) × (wanted ≡ Some m) × IsAt s m × Stands kinds limits bytes m
  found_at s is h = subst (λ (o : Option Spot). Finds kinds limits bytes o wanted) is h

  -- There is none where none was found.
  pub none_found : found ≡ None → Finds kinds limits bytes found wanted → wanted ≡ None
  none_found is h = subst (λ (o : Option Spot). Finds kinds limits bytes o wanted) is h
