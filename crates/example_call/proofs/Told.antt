-- What is printed and said of the case of an input.
use Rattle.std.proofs.Common.{◌≡◌, ℕ, List, [], ◌++◌, Option, Some, None, Result, Ok, Err, codes, decimal}
use Rattle.std.proofs.Common.{ap, sym, subst, arith}
use Rattle.std.specs.Io.KnownBytes.{Appends}
use Rattle.rpc_record.specs.declared.fault.RecordFault.TheVariants as flaw
use Rattle.rpc_message.specs.declared.fault.ReplyFault.{ReplyFault}
use Rattle.rpc_message.specs.declared.message.Reply.{Reply}
use Rattle.rpc_message.specs.View.{reply_view}
use Rattle.rpc_engine.specs.declared.fault.ClientFault.{ClientFault}
use Rattle.rpc_engine.specs.declared.fault.ClientFault.TheVariants as fault
use Rattle.rpc_engine.specs.Exchanged.{Outcome, Replied, OtherXid, NoReply, TooLong, Truncated, IsOutcome, IsExact}
use Rattle.rpc_engine.specs.Laws.{OneOutcome}
use Rattle.oncrpc_answers.specs.declared.failure.Failure.{Failure}
use Rattle.oncrpc_answers.specs.declared.failure.Failure.TheVariants as failure
use Rattle.oncrpc_answers.specs.Lines.{failure_line}
use Rattle.oncrpc_answers.specs.Status.{failure_status}
use Rattle.oncrpc_service.specs.Infos.{reply_fault_name}
use Rattle.oncrpc_tasks.specs.Checked.{IsSaid}
use Rattle.oncrpc_tasks.specs.Devices.{Stream}
use Rattle.oncrpc_call.specs.Asked.{Wanted}
use Rattle.oncrpc_call.specs.Replies.{Refuses, RefusesReply, Shows, ShowsReply}

-- what is printed of the case
abbrev pub IsShown : Wanted → Outcome → (text : List ℕ) → Type 0
IsShown w (Replied reply) text = ShowsReply w reply text
IsShown w (OtherXid got) text = ⊥
IsShown w NoReply text = ⊥
IsShown w (TooLong at) text = ⊥
IsShown w (Truncated at) text = ⊥

-- what is said of it
abbrev pub IsTold : Wanted → Outcome → (line : List ℕ) → Type 0
IsTold w (Replied reply) line = RefusesReply w reply line
IsTold w (OtherXid got) line = line ≡ codes "refused WrongXid " ++ decimal got ++ codes "\n"
IsTold w NoReply line = (f : ReplyFault) × (line ≡ codes "refused " ++ reply_fault_name f ++ codes "\n")
IsTold w (TooLong at) line = line ≡ codes "refused TooLong at " ++ decimal at ++ codes "\n"
IsTold w (Truncated at) line = line ≡ codes "refused Truncated at " ++ decimal at ++ codes "\n"

module _ (one : OneOutcome) (w : Wanted) (bytes : List ℕ) (two : ℕ) (own : Outcome) (is : IsOutcome two bytes own)
    (xid : ℕ) (xid_is : xid ≡ two) (left : Option (List ℕ)) (reported : left ≡ Some bytes) where
  -- the input has this case, and no other
  only : (o : Outcome) → IsOutcome xid bytes o → o ≡ own
  only o case = one xid bytes o own case (subst (λ (n : ℕ). IsOutcome n bytes own) (sym xid_is) is)

  pub shown_as : (answer : Result Reply ClientFault) (text : List ℕ) → IsExact xid left answer → Shows w answer text
      → IsShown w own text
  shown_as (Ok reply) text h s =
      subst (λ (o : Outcome). IsShown w o text) (only (Replied (reply_view reply)) (h bytes reported)) s
  shown_as (Err f) text h s = absurd s

  told_as : (o : Outcome) (line : List ℕ) → IsOutcome xid bytes o → IsTold w o line → IsTold w own line
  told_as o line case t = subst (λ (p : Outcome). IsTold w p line) (only o case) t

  pub refused_as : (answer : Result Reply ClientFault) (line : List ℕ) → IsExact xid left answer
      → Refuses w answer line → IsTold w own line
  refused_as (Ok reply) line h r = told_as (Replied (reply_view reply)) line (h bytes reported) r
  refused_as (Err (fault.WrongXid got)) line h r = told_as (OtherXid got) line (h bytes reported) r
  refused_as (Err (fault.Reply f)) line h r = told_as NoReply line (h bytes reported) (f, r)
  refused_as (Err (fault.Record (flaw.TooLong at))) line h r = told_as (TooLong at) line (h bytes reported) r
  refused_as (Err (fault.Record (flaw.Truncated at))) line h r = told_as (Truncated at) line (h bytes reported) r
  refused_as (Err (fault.Record flaw.Read)) line h r = absurd r
  refused_as (Err (fault.Record (flaw.Write written))) line h r = absurd r
  refused_as (Err (fault.Record flaw.TooManyReads)) line h r = absurd r
  refused_as (Err (fault.Record flaw.NoMemory)) line h r = absurd r
  refused_as (Err fault.Read) line h r = absurd r
  refused_as (Err (fault.Write written)) line h r = absurd r
  refused_as (Err fault.TooManyReads) line h r = absurd r
  refused_as (Err fault.NoMemory) line h r = absurd r

-- what was written after nothing is all that was written
of_known : (text : List ℕ) (taken : Option (List ℕ)) → Appends (Some []) taken text → taken ≡ Some text
of_known text None h = absurd h
of_known text (Some all) h = ap Some h

pub all_written : (text : List ℕ) (taken taken' : Option (List ℕ)) → taken ≡ Some [] → Appends taken taken' text
    → taken' ≡ Some text
all_written text taken taken' e h = of_known text taken' (subst (λ k. Appends k taken' text) e h)

-- a line that was said is what it is equal to
pub said_as : {F : Type 0} (stream : Stream F) (f f' : F) (line text : List ℕ) → line ≡ text → IsSaid stream f f' line
    → IsSaid stream f f' text
said_as stream f f' line text e s = subst (λ (l : List ℕ). IsSaid stream f f' l) e s

-- status 4 is that of refused memory
pub memory_said : {F : Type 0} (stream : Stream F) (f f' : F) (why : Failure) (status : ℕ) → status ≡ failure_status why
    → status ≡ 4 → IsSaid stream f f' (failure_line why) → IsSaid stream f f' (codes "out of memory\n")
memory_said stream f f' failure.NoMemory status is four s = s
memory_said stream f f' failure.Read status is four s = absurd (omega (arith, is, four))
memory_said stream f f' failure.Write status is four s = absurd (omega (arith, is, four))
memory_said stream f f' failure.TooManyReads status is four s = absurd (omega (arith, is, four))
