use Rattle.std.proofs.Common.{ℕ, ◌<◌, length, map, Some, slice_set, IfSome, sym, subst}
use Rattle.std.proofs.lemmas.List.{length-set, length-map}
use Rattle.xdr_types.specs.KindViews.{kind_view}
use Rattle.xdr_types.specs.Extent.{IsExtent}
use Rattle.xdr_types.specs.Decided.{IsDecided}
use Rattle.xdr_types.specs.Levels.{IsMostLevels}
use Rattle.xdr_types.specs.Private.Notes.{AreNotes, IsNoted}
use Rattle.xdr_types.specs.declared.notes.Noted.{Noted}
use Rattle.xdr_types.proofs.Marks.{kind-read}
use Rattle.xdr_types.proofs.Leveled.{noted_more}
use Rattle.xdr_types.proofs.notes.note_kind.Goals as goal

pub returns-in-Some : goal.returns-in-Some
returns-in-Some c =
    let kinds = map kind_view c.args.kinds.now.items in
    let notes = c.args.notes.now.items in
    let place = c.args.place in
    let here : place < length kinds =
    subst (λ (n : ℕ). place < n) (sym (length-map c.args.kinds.now.items kind_view)) c.requires.within in
    let within : place < length notes = subst (λ (n : ℕ). place < n) (sym c.requires.notes.lengths) here in
    let extent : IfSome c.extent_of-extent.result (IsExtent kinds place) =
    c.extent_of-extent.ensures kinds place c.requires.notes here
    (kind-read c.args.kinds.now.items place c.index-in-Some.result.now c.requires.within c.index-in-Some.ensures) in
    let levels : IsMostLevels kinds place c.in-Some.levels = c.in-Some.ensures kinds place c.requires.notes here
    (kind-read c.args.kinds.now.items place c.index.result.now c.requires.within c.index.ensures) in
    let decided : IfSome c.decided_of-decided.result (IsDecided kinds place) =
    c.decided_of-decided.ensures kinds c.requires.notes here
    (kind-read c.args.kinds.now.items place c.index-in-Some-2.result.now c.requires.within c.index-in-Some-2.ensures) in
    let was : IsNoted kinds place c.index_mut.result.now =
    c.requires.notes.each place c.index_mut.result.now within c.index_mut.ensures.value in
    let first : Noted = record {
      numbers = c.index_mut.result.now.numbers;
      extent = c.extent_of-extent.result;
      decided = c.index_mut.result.now.decided;
      levels = c.index_mut.result.now.levels;
    } in
    let are : AreNotes kinds (slice_set notes place first) = noted_more kinds notes place first c.requires.notes within
    (record { numbers = was.numbers; extent = extent; decided = was.decided; levels = was.levels }) in
    let there : place < length (slice_set notes place first) =
    subst (λ (n : ℕ). place < n) (sym (length-set notes place first)) within in
    let is : IsNoted kinds place c.index_mut-in-Some.result.now =
    are.each place c.index_mut-in-Some.result.now there c.index_mut-in-Some.ensures.value in
    let second : Noted = record {
      numbers = c.index_mut-in-Some.result.now.numbers;
      extent = c.index_mut-in-Some.result.now.extent;
      decided = c.decided_of-decided.result;
      levels = c.index_mut-in-Some.result.now.levels;
    } in
    let more : AreNotes kinds (slice_set (slice_set notes place first) place second) =
    noted_more kinds (slice_set notes place first) place second are there
    (record { numbers = is.numbers; extent = is.extent; decided = decided; levels = is.levels }) in
    let still : place < length (slice_set (slice_set notes place first) place second) =
    subst (λ (n : ℕ). place < n) (sym (length-set (slice_set notes place first) place second)) there in
    let next : IsNoted kinds place c.index_mut-in-Some-2.result.now =
    more.each place c.index_mut-in-Some-2.result.now still c.index_mut-in-Some-2.ensures.value in
    let then : Noted = record {
      numbers = c.index_mut-in-Some-2.result.now.numbers;
      extent = c.index_mut-in-Some-2.result.now.extent;
      decided = c.index_mut-in-Some-2.result.now.decided;
      levels = Some c.in-Some.levels;
    } in
    noted_more kinds (slice_set (slice_set notes place first) place second) place then more still
    (record { numbers = next.numbers; extent = next.extent; decided = next.decided; levels = levels })
