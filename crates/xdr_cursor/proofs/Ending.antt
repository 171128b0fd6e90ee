-- A node that has all its parts ends.
use Rattle.std.proofs.Common.{◌≡◌, ℕ, List, [], ◌∷◌, ◌++◌, drop, ap, subst, ◌∙◌}
use Rattle.std.specs.Prelude.{Option, Some, None}
use Rattle.xdr_types.specs.Kinds.{KindView, Part}
use Rattle.xdr_types.specs.Layout.{Entry}
use Rattle.xdr_parts.proofs.Stepping.{ended, nothing_left}
use Rattle.xdr_cursor.specs.Frames.{left_in, onto, stack_in}
use Rattle.xdr_cursor.specs.Standing.{Owes, Stands}
use Rattle.xdr_cursor.specs.declared.cursor.Cursor.{Cursor}
use Rattle.xdr_cursor.specs.declared.frame.Frame.{Frame}
use Rattle.xdr_cursor.proofs.Onto.{onto_last}

-- no list begins with a part where none is left
no_part : (p : Part) (ps : List Part) (fs gs : List (List Part)) → [] ∷ fs ≡ (p ∷ ps) ∷ gs → ⊥
no_part p ps fs gs e = cc

-- what is owed is owed without a node that has all its parts
pub owed_without : (kinds : List KindView) (at : ℕ) (fs : List (List Part)) (size : Option ℕ) (bytes : List ℕ)
    (es : List Entry) → Owes kinds at ([] ∷ fs) size bytes es → Owes kinds at fs size bytes es
owed_without kinds at fs None bytes es o = ended kinds at fs (drop at bytes) es o
owed_without kinds at fs (Some size) bytes es o = absurd (no_part o.part o.parts fs o.outer o.stack_is)

-- and where no node is left, nothing is owed
owed_none : (kinds : List KindView) (at : ℕ) (size : Option ℕ) (bytes : List ℕ) (es : List Entry)
    → Owes kinds at ([] ∷ []) size bytes es → es ≡ []
owed_none kinds at None bytes es o = nothing_left kinds at (drop at bytes) es o
owed_none kinds at (Some size) bytes es o = absurd (no_part o.part o.parts [] o.outer o.stack_is)

module _ (kinds : List KindView) (bytes : List ℕ) (es : List Entry) (c : Cursor) (st : Stands c kinds bytes es)
    (none : left_in kinds c.work ≡ []) where
  owed : Owes kinds c.at ([] ∷ onto kinds [] c.parents.items) c.content bytes es
  owed = subst (λ (ps : List Part). Owes kinds c.at (ps ∷ onto kinds [] c.parents.items) c.content bytes es) none
      st.owes

  -- its parent is at work then
  pub outer_owed : (parents : List Frame) (parent : Frame) → c.parents.items ≡ parents ++ parent ∷ []
      → Owes kinds c.at (stack_in kinds parent parents) c.content bytes es
  outer_owed parents parent e =
      let outer : onto kinds [] c.parents.items ≡ stack_in kinds parent parents =
      ap (λ (fs : List Frame). onto kinds [] fs) e ∙ onto_last kinds [] parents parent in
      owed_without kinds c.at (stack_in kinds parent parents) c.content bytes es
      (subst (λ (fs : List (List Part)). Owes kinds c.at ([] ∷ fs) c.content bytes es) outer owed)

  -- without a parent the value has ended
  pub all_ended : c.parents.items ≡ [] → es ≡ []
  all_ended e =
      owed_none kinds c.at c.content bytes es
      (subst (λ (fs : List Frame). Owes kinds c.at ([] ∷ onto kinds [] fs) c.content bytes es) e owed)
