-- Serving a client that sends nothing.
use Rattle.std.proofs.Common.{◌≡◌, ℕ, ◌+◌, suc, List, [], ◌∷◌, ◌++◌, length, Bool, Option, Some, None, Ok, Err}
use Rattle.std.proofs.Common.{refl, ap, sym, ◌∙◌, subst, arith, length-append}
use Rattle.std.proofs.lemmas.List.{append-nil}
use Rattle.std.specs.Io.KnownBytes.{Appends, Consumes}
use Rattle.rpc_record.specs.declared.fault.RecordFault.TheVariants as flaw
use Rattle.rpc_record.specs.Marked.{Stream, Longest, normal}
use Rattle.rpc_record.specs.Reading.{Begins}
use Rattle.rpc_record.proofs.Long.{Marked-length}
use Rattle.registry_rows.specs.Rows.{Row}
use Rattle.registry_rows.specs.Ports.{tcp}
use Rattle.rpc_engine.specs.declared.fault.ServeFault.{ServeFault}
use Rattle.rpc_engine.specs.declared.fault.ServeFault.TheVariants as fault
use Rattle.rpc_engine.specs.declared.fault.Served.{Served}
use Rattle.rpc_engine.specs.Run.{Run}
use Rattle.rpc_engine.specs.Served.{Serves, Stops, CutLast}
use Rattle.oncrpc_service.specs.Listening.{Clients, Arrives, IsFresh, Leaves}
use Rattle.oncrpc_service.specs.Connections.{Outcome, Answers, ServesEach}

-- of no bytes none is read
none_read : (left : Option (List ℕ)) (input : List ℕ) → Consumes (Some []) left input → input ≡ []
none_read None input h = absurd h
none_read (Some rest) [] h = refl
none_read (Some rest) (b ∷ bs) h = let e : 0 ≡ suc (length (bs ++ rest)) = ap length h in absurd (omega (arith, e))

-- no bytes begin with no record
none_begun : (rs : List (List ℕ)) (whole more input : List ℕ) → Stream rs whole → input ≡ whole ++ more → input ≡ []
    → rs ≡ []
none_begun [] whole more input s e none = refl
none_begun (r ∷ rs) whole more input (front, (rest, (m, s, is))) e none =
    let some = Marked-length r front m in
    let both : length whole ≡ length front + length rest = ap length is ∙ length-append front rest in
    let all : length whole + length more ≡ 0 = sym (length-append whole more) ∙ ap length (sym e ∙ none) in
    absurd (omega (arith, some, both, all))

-- no record has no reply
none_replied : (rows new : List Row) (ys : List Bool) (replies : List (List ℕ)) → Run rows tcp [] ys new replies
    → replies ≡ []
none_replied rows new [] replies h = h.1
none_replied rows new (y ∷ ys) replies h = absurd h

module _ (rows new : List Row) (m t u : Option (List ℕ)) where
  none_written : (rs : List (List ℕ)) (ys : List Bool) (replies : List (List ℕ)) → rs ≡ []
      → Run rows tcp rs ys new replies → Appends t u (normal replies) → Appends t u []
  none_written rs ys replies none run wrote =
      let no = none_replied rows new ys replies
      (subst (λ (k : List (List ℕ)). Run rows tcp k ys new replies) none run) in
      subst (λ (k : List (List ℕ)). Appends t u (normal k)) no wrote

  not_cut : (rs replies : List (List ℕ)) (w : ℕ) → CutLast tcp rows rs replies w → rs ≡ [] → Appends t u []
  not_cut rs replies w cut none =
      let last : length rs ≡ length cut.before + 1 =
      ap length cut.records ∙ length-append cut.before (cut.answering ∷ []) in
      let no : length rs ≡ 0 = ap length none in
      absurd (omega (arith, last, no))

  longest_none : (limit : ℕ) (rs : List (List ℕ)) (input : List ℕ) → Longest limit rs input → input ≡ [] → rs ≡ []
  longest_none limit rs input h none = none_begun rs h.whole h.part input h.stream h.spelled none

  begins_none : (limit : ℕ) (rs : List (List ℕ)) (input : List ℕ) → Begins limit rs input → input ≡ [] → rs ≡ []
  begins_none limit rs input h none = none_begun rs h.whole h.more input h.stream h.spelled none

  served_none : (s : Served) → Serves tcp rows new (Some []) m t u s → Appends t u []
  served_none s h =
      let none = none_read m h.input h.read in
      let rs = none_begun h.rs h.input [] h.input h.whole.stream (sym (append-nil h.input)) none in
      none_written h.rs h.refusals h.replies rs h.run h.written

  stopped_none : (f : ServeFault) → Stops tcp rows new (Some []) m t u f → Appends t u []
  stopped_none (fault.Record (flaw.TooLong at)) h =
      let rs = longest_none _ h.rs h.input h.stopped.1 (none_read m h.input h.read) in
      none_written h.rs h.refusals h.replies rs h.run h.stopped.2
  stopped_none (fault.Record (flaw.Truncated at)) h =
      let rs = longest_none _ h.rs h.input h.stopped.2 (none_read m h.input h.read) in
      none_written h.rs h.refusals h.replies rs h.run h.stopped.4
  stopped_none (fault.Record flaw.Read) h = absurd h.stopped
  stopped_none (fault.Record (flaw.Write written)) h = absurd h.stopped
  stopped_none (fault.Record flaw.TooManyReads) h = absurd h.stopped
  stopped_none (fault.Record flaw.NoMemory) h = absurd h.stopped
  stopped_none (fault.Write written) h =
      let rs = begins_none _ h.rs h.input h.stopped.0 (none_read m h.input h.read) in
      not_cut h.rs h.replies h.stopped.1.0 h.stopped.1.1.0 rs
  stopped_none fault.NoMemory h =
      let rs = begins_none _ h.rs h.input h.stopped.0 (none_read m h.input h.read) in
      none_written h.rs h.refusals h.replies rs h.run h.stopped.2
  stopped_none fault.Read h =
      let rs = longest_none _ h.rs h.input h.stopped.0 (none_read m h.input h.read) in
      none_written h.rs h.refusals h.replies rs h.run h.stopped.1
  stopped_none fault.TooManyReads h =
      let rs = longest_none _ h.rs h.input h.stopped.0 (none_read m h.input h.read) in
      none_written h.rs h.refusals h.replies rs h.run h.stopped.1

  answered_none : (o : Outcome) → Answers rows new (Some []) m t u o → Appends t u []
  answered_none (Ok s) h = served_none s h
  answered_none (Err f) h = stopped_none f h

-- what went to the first client is nothing, where nothing did before and nothing since
nothing_went : (t u : Option (List ℕ)) (sent : Option (List (List ℕ))) → IsFresh (Some []) t → Appends t u []
    → Leaves (Some []) sent u → sent ≡ Some ([] ∷ [])
nothing_went None u sent fresh wrote leaves = absurd fresh
nothing_went (Some a) None sent fresh wrote leaves = absurd wrote
nothing_went (Some a) (Some b) sent fresh wrote leaves =
    leaves ∙ ap (λ (x : List ℕ). Some (x ∷ [])) (wrote ∙ ap (λ (x : List ℕ). x ++ []) fresh)

-- where the one client sends nothing, nothing goes to it
pub silent_client : {W : Type 0} (went : W → Option (List ℕ)) (rows new : List Row) (w w' : Clients) (os : List Outcome)
    → length os ≡ 1 → ServesEach went rows w os new w' → w.waiting ≡ Some ([] ∷ []) → w.sent ≡ Some []
    → w'.sent ≡ Some ([] ∷ [])
silent_client went rows new w w' [] one s waits none = absurd (omega (arith, one))
silent_client went rows new w w' (o ∷ []) one s waits none =
    let n = s.1.1.0 in
    let came = subst (λ (k : Option (List (List ℕ))). Arrives k s.1.0.waiting n.left) waits n.arrived in
    let fresh = subst (λ (k : Option (List (List ℕ))). IsFresh k (went n.writer)) none n.fresh in
    let leaves = subst (λ (k : Option (List (List ℕ))). Leaves k s.1.0.sent (went n.writer')) none n.ended in
    let answered = subst (λ (l : Option (List ℕ)). Answers rows s.0 l n.left' (went n.writer) (went n.writer') o)
    came.1 n.answered in
    let wrote = answered_none rows s.0 n.left' (went n.writer) (went n.writer') o answered in
    ap (λ (k : Clients). k.sent) s.1.1.1.1 ∙ nothing_went (went n.writer) (went n.writer') s.1.0.sent fresh wrote leaves
silent_client went rows new w w' (o ∷ p ∷ os) one s waits none = absurd (omega (arith, one))
