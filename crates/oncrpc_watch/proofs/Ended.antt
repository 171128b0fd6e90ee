-- What the exit status says where something failed.
use Rattle.std.proofs.Common.{◌≡◌, ◌⊎◌, ℕ, List, [], ◌∷◌, Option, None, Some, String, refl, sym, ◌∙◌}
use Rattle.std.proofs.Common.{subst, ap, inl, inr, arith}
use Rattle.std.specs.declared.alloc.Global.{Global}
use Rattle.xdr_io.proofs.Chained.{Counts-none, Counts-trans}
use Rattle.xdr_io.specs.Reported.{Counts}
use Rattle.xdr_lang.specs.Declarations.{Declared}
use Rattle.oncrpc_answers.specs.Status.{failure_status}
use Rattle.oncrpc_answers.specs.declared.failure.Failure.{Failure}
use Rattle.oncrpc_answers.specs.declared.failure.Failure.TheVariants as failure
use Rattle.oncrpc_tasks.specs.Devices.{Reports}
use Rattle.oncrpc_tasks.specs.Sources.{FileFails, HasNone}
use Rattle.oncrpc_tasks.specs.Status.{Ends}
use Rattle.oncrpc_tasks.specs.declared.unusable.Unusable.{Unusable}
use Rattle.oncrpc_tasks.specs.declared.unusable.Unusable.TheVariants as unusable
use Rattle.oncrpc_watch.specs.declared.task.MessagesTask.{MessagesTask}
use Rattle.oncrpc_watch.specs.Ends.{MessagesEnd}
use Rattle.oncrpc_watch.specs.Private.Steps.{IsOpened, IsUnopened, ReportsOther, sunk}
use Rattle.oncrpc_watch.specs.Private.Steps.{Reports as ReportsOne}
use Rattle.oncrpc_watch.specs.Stopped.{DeviceFails, OneFails, PrintsMessagesPart, RepliesFail}

-- a file that failed behind one that did not
pub files_more : {T : Type 0} (left : T → Option (List ℕ)) (failed : T → Option ℕ)
    (reported : List ℕ → Option (List ℕ)) (files : List (String Global)) (a b c : Option ℕ) → Counts 0 a b
    → FileFails left failed reported files b c → FileFails left failed reported files a c
files_more left failed reported [] a b c none h = absurd h
files_more left failed reported (f ∷ fs) a b c none (inl (inl one)) = inl (inl (Counts-trans a b c 0 1 1 refl none one))
files_more left failed reported (f ∷ fs) a b c none (inl (inr text)) = inl (inr text)
files_more left failed reported (f ∷ fs) a b c none (inr more) =
    inr (files_more left failed reported fs a b c none more)

-- the one of a device, the other of memory
abbrev pub FailsAs : (device wanting : Type 0) → Failure → Type 0
FailsAs device wanting failure.Read = device
FailsAs device wanting failure.Write = device
FailsAs device wanting failure.TooManyReads = device
FailsAs device wanting failure.NoMemory = wanting

module _ {I T O : Type 0} (known : List Declared) (reported : List ℕ → Option (List ℕ)) (what : MessagesTask)
    (reports : Reports I O) (texts : Reports T O) (unopened unopened' : Option ℕ) (input : I)
    (output output' : O) where
  abbrev Fails : Type 0
  Fails = DeviceFails reported what reports texts unopened unopened' input output output'

  abbrev Part : Type 0
  Part = (output' ≡ output)
      ⊎ PrintsMessagesPart known reported what (reports.left input) (reports.taken output) (reports.taken output')

  abbrev EndsAt : (status : ℕ) → Type 0
  EndsAt status =
      MessagesEnd known reported what reports texts unopened unopened' input output output' status

  at_three : (status : ℕ) → status ≡ 3 → Part → Fails → EndsAt status
  at_three status is part fails = record {
    some_status = omega (arith, is);
    printed = λ x. absurd (elim x [
      | inl e ↦ omega (arith, is, e)
      | inr e ↦ omega (arith, is, e)
    ]);
    refused = λ e. absurd (omega (arith, is, e));
    in_part = λ x. part;
    device = λ x. fails;
    wanting = λ e. absurd (omega (arith, is, e));
  }

  at_four : (status : ℕ) → status ≡ 4 → Part → Counts 0 (reports.lost output) (reports.lost output') → EndsAt status
  at_four status is part unlost = record {
    some_status = omega (arith, is);
    printed = λ x. absurd (elim x [
      | inl e ↦ omega (arith, is, e)
      | inr e ↦ omega (arith, is, e)
    ]);
    refused = λ e. absurd (omega (arith, is, e));
    in_part = λ x. part;
    device = λ e. absurd (omega (arith, is, e));
    wanting = λ x. unlost;
  }

  pub ends_failed : (f : Failure) (status : ℕ) → status ≡ failure_status f → Part
      → FailsAs Fails (Counts 0 (reports.lost output) (reports.lost output')) f → EndsAt status
  ends_failed failure.Read status is part h = at_three status is part h
  ends_failed failure.Write status is part h = at_three status is part h
  ends_failed failure.TooManyReads status is part h = at_three status is part h
  ends_failed failure.NoMemory status is part h = at_four status is part h

  unlost_same : output' ≡ output → Counts 0 (reports.lost output) (reports.lost output')
  unlost_same same = subst (λ k. Counts 0 (reports.lost output) (reports.lost k)) (sym same)
      (Counts-none (reports.lost output))

  -- printing failed
  one_fails : (f : Failure) → ReportsOne reports.failures reports.reads input (sunk reports.taken reports.lost output)
      (sunk reports.taken reports.lost output') f
      → FailsAs Fails (Counts 0 (reports.lost output) (reports.lost output')) f
  one_fails failure.Read (later, h) = inl (failure.Read, later, h)
  one_fails failure.TooManyReads (later, h) = inl (failure.TooManyReads, later, h)
  one_fails failure.Write h = inl (failure.Write, input, h)
  one_fails failure.NoMemory h = h

  other_fails : (text : T) → OneFails texts text output output' → (name : Option (String Global))
      → IsOpened texts.left reported name (Some text)
      → RepliesFail reported texts name unopened unopened' output output'
  other_fails text h None opened = absurd opened
  other_fails text h (Some name) opened = inr (text, opened, h)

  pub printing_fails : (other : Option T) (f : Failure) → IsOpened texts.left reported what.replies other
      → texts.lost ≡ reports.lost
      → ReportsOne reports.failures reports.reads input (sunk reports.taken reports.lost output)
      (sunk reports.taken reports.lost output') f
      ⊎ ReportsOther texts.failures texts.reads other (sunk texts.taken texts.lost output)
      (sunk texts.taken texts.lost output') f
      → FailsAs Fails (Counts 0 (reports.lost output) (reports.lost output')) f
  printing_fails other f opened same (inl h) = one_fails f h
  printing_fails None f opened same (inr h) = absurd h
  printing_fails (Some text) failure.Read opened same (inr (later, h)) =
      inr (inl (other_fails text (failure.Read, later, h) what.replies opened))
  printing_fails (Some text) failure.TooManyReads opened same (inr (later, h)) =
      inr (inl (other_fails text (failure.TooManyReads, later, h) what.replies opened))
  printing_fails (Some text) failure.Write opened same (inr h) =
      inr (inl (other_fails text (failure.Write, text, h) what.replies opened))
  printing_fails (Some text) failure.NoMemory opened same (inr h) =
      subst (λ (lost : O → Option ℕ). Counts 0 (lost output) (lost output')) same h

  -- the file with the other direction was not opened
  pub ends_unopened : (f : Failure) (status : ℕ) → status ≡ failure_status f → output' ≡ output
      → IsUnopened what.replies unopened unopened' f → EndsAt status
  ends_unopened f status is same h =
      let failed = unopened_fails what.replies h in
      at_three status (is ∙ ap failure_status failed.0) (inl same) (inr (inl failed.1))
    where
      unopened_fails : (name : Option (String Global)) → IsUnopened name unopened unopened' f
          → (f ≡ failure.Read) × RepliesFail reported texts name unopened unopened' output output'
      unopened_fails None h = absurd h
      unopened_fails (Some name) (is, h) = (is, inl h)

  -- the texts have no meaning, or could not be read
  pub ends_unusable : (why : Unusable) (status : ℕ) → Ends why status → HasNone reported what.types why
      → output' ≡ output
      → (why ≡ unusable.Failed failure.Read
      → FileFails texts.left texts.failures reported what.types.files.items unopened unopened')
      → EndsAt status
  ends_unusable (unusable.Declaration file fault) status (inl two) none same fails = record {
    some_status = omega (arith, two);
    printed = λ x. absurd (elim x [
      | inl e ↦ omega (arith, two, e)
      | inr e ↦ omega (arith, two, e)
    ]);
    refused = λ e. (none, same);
    in_part = λ x. inl same;
    device = λ e. absurd (omega (arith, two, e));
    wanting = λ e. absurd (omega (arith, two, e));
  }
  ends_unusable (unusable.Declaration file fault) status (inr four) none same fails =
      at_four status four (inl same) (unlost_same same)
  ends_unusable unusable.Name status is none same fails = absurd none
  ends_unusable unusable.Limits status is none same fails = absurd none
  ends_unusable (unusable.Failed f) status is (inl read) same fails =
      at_three status (is ∙ ap failure_status read) (inl same)
      (inr (inr (fails (ap (λ k. unusable.Failed k) read))))
  ends_unusable (unusable.Failed f) status is (inr memory) same fails =
      at_four status (is ∙ ap failure_status memory) (inl same) (unlost_same same)
