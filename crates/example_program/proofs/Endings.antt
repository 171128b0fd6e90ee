-- What the status of a task says of what its words ask for.
use Rattle.std.proofs.Common.{◌≡◌, ◌⊎◌, inl, inr, ℕ, ◌≤◌, List, Option, refl, subst, sym, arith}
use Rattle.xdr_io.specs.Reported.{CountsAtMost}
use Rattle.xdr_io.proofs.Chained.{Counts-none}
use Rattle.oncrpc_answers.specs.declared.task.Task.{Task}
use Rattle.oncrpc_answers.specs.declared.task.Task.TheVariants as task
use Rattle.oncrpc_answers.specs.declared.task.ValueTask.{ValueTask}
use Rattle.oncrpc_tasks.specs.declared.question.Form.{Form}
use Rattle.oncrpc_tasks.specs.Devices.{Reports, Stream}
use Rattle.oncrpc_tasks.specs.Ends.{TaskEnds, WordsEnd, IsLookedFor, IsUnasked}
use Rattle.oncrpc_tasks.specs.Tasks.{AsksNothing}
use Rattle.oncrpc_encode.specs.EncodeEnds.{EncodeEnds}

not_done : (reported : List ℕ → Option (List ℕ)) (what : ValueTask) (file : Type 0) (status : ℕ)
    → IsUnasked reported what file status → status ≤ 1 → ⊥
not_done reported what file status (inl h) done = let two = h.0 in omega (arith, two, done)
not_done reported what file status (inr (inl h)) done = let three = h.0 in omega (arith, three, done)
not_done reported what file status (inr (inr four)) done = omega (arith, four, done)

none_asked : (reported : List ℕ → Option (List ℕ)) (what : ValueTask) (file : Type 0) (status : ℕ)
    → IsUnasked reported what file status → status ≡ 2 → AsksNothing reported what
none_asked reported what file status (inl h) two = h.1
none_asked reported what file status (inr (inl h)) two = let three = h.0 in absurd (omega (arith, two, three))
none_asked reported what file status (inr (inr four)) two = absurd (omega (arith, two, four))

module _ {I O F : Type 0} (reported : List ℕ → Option (List ℕ)) (file : Type 0) (reports : Reports I O)
    (stream : Stream F) (i i' : I) (o o' : O) (fs fs' : F) (status : ℕ) where
  -- what is done was asked for
  pub looked_for : (what : ValueTask) (how : Form)
      → WordsEnd reported what how file reports stream i i' o o' fs fs' status
      → status ≤ 1 → IsLookedFor reported what how reports stream i i' o o' fs fs' status
  looked_for what how (inl h) done = h
  looked_for what how (inr h) done = absurd (not_done reported what file status h.0 done)

  -- at 2 nothing is asked
  pub nothing_asked : (what : ValueTask) (how : Form)
      → WordsEnd reported what how file reports stream i i' o o' fs fs' status → status ≡ 2 → AsksNothing reported what
  nothing_asked what how (inl h) two = absurd (h.ends.asked two)
  nothing_asked what how (inr h) two = none_asked reported what file status h.0 two

  -- and nothing is read or printed
  words_unread : (what : ValueTask) (how : Form)
      → WordsEnd reported what how file reports stream i i' o o' fs fs' status
      → status ≡ 2 → (i' ≡ i) × (o' ≡ o)
  words_unread what how (inl h) two = absurd (h.ends.asked two)
  words_unread what how (inr h) two = (h.1, h.2)

  pub unread : (t : Task) → TaskEnds reported t file reports stream i i' o o' fs fs' status → status ≡ 2
      → (i' ≡ i) × (o' ≡ o)
  unread (task.Check what) ends two = words_unread what _ ends two
  unread (task.Show what) ends two = words_unread what _ ends two
  unread (task.Json json) ends two = words_unread json.what _ ends two
  unread (task.Records what) ends two = let h = ends.unasked two in (h.1, h.2)

  words_few_reads : (what : ValueTask) (how : Form)
      → WordsEnd reported what how file reports stream i i' o o' fs fs' status
      → CountsAtMost 1048576 (reports.reads i) (reports.reads i')
  words_few_reads what how (inl h) = h.ends.few_reads
  words_few_reads what how (inr h) =
      subst (λ (j : I). CountsAtMost 1048576 (reports.reads i) (reports.reads j)) (sym h.1)
      (record { calls = 0; few = omega arith; counted = Counts-none _ })

  pub few_reads : (t : Task) → TaskEnds reported t file reports stream i i' o o' fs fs' status
      → CountsAtMost 1048576 (reports.reads i) (reports.reads i')
  few_reads (task.Check what) ends = words_few_reads what _ ends
  few_reads (task.Show what) ends = words_few_reads what _ ends
  few_reads (task.Json json) ends = words_few_reads json.what _ ends
  few_reads (task.Records what) ends = ends.few_reads

  -- where a value was to be read as JSON, too
  pub unencoded : (what : ValueTask)
      → EncodeEnds reported what file reports stream i i' o o' fs fs' status → status ≡ 2 → (i' ≡ i) × (o' ≡ o)
  unencoded what (inl h) two = absurd (h.ends.asked two)
  unencoded what (inr h) two = (h.1, h.2)
