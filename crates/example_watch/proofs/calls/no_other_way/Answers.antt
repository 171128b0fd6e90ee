use Rattle.std.proofs.Common.{◌≡◌, None, ◌∙◌, arith, inl, inr}
use Rattle.oncrpc_watch.specs.Waiting.{waiting}
use Rattle.example_watch.proofs.calls.no_other_way.Goals as goal

pub returns : goal.returns
returns c =
    let empty = c.new-table.ensures.empty 4 6 in
    let other = c.in_ok-note.ensures.notes.others 4 6 (omega arith, λ e. omega (arith, e.0)) in
    c.take.ensures.found ∙ elim other.waits [
      | inl same ↦ same ∙ empty
      | inr none ↦ none.0
    ]
