-- The first record of an input, and what the answer to a call says of it.
use Rattle.std.proofs.Common.{◌≡◌, ℕ, inr, List, [], ◌∷◌, ◌++◌, length, true, Option, Result, Ok, Err, refl, sym, ap}
use Rattle.std.proofs.Common.{◌∙◌, subst, append_assoc, arith}
use Rattle.std.specs.declared.vec.Vec.{Vec}
use Rattle.std.specs.declared.alloc.Global.{Global}
use Rattle.std.specs.Io.KnownBytes.{Appends}
use Rattle.rpc_record.specs.declared.fault.RecordFault.{RecordFault}
use Rattle.rpc_record.specs.declared.fault.RecordFault.TheVariants as flaw
use Rattle.rpc_record.specs.declared.reader.RecordReader.{RecordReader}
use Rattle.rpc_record.specs.Marked.{fragment}
use Rattle.rpc_record.specs.Reading.{Begins, capped}
use Rattle.rpc_record.specs.Failures.{reads_failed as flaw_reads}
use Rattle.rpc_record.specs.Streamed.{HasTaken, IsRead, FailsAt, Fails}
use Rattle.rpc_message.specs.declared.message.Reply.{Reply}
use Rattle.rpc_engine.specs.declared.fault.ClientFault.{ClientFault}
use Rattle.rpc_engine.specs.declared.fault.ClientFault.TheVariants as fault
use Rattle.rpc_engine.specs.Exchanged.{most_reply, IsFirst, Exchanged, Wrote, reads_failed, read_failures}
use Rattle.rpc_engine.specs.Exchanged.{writes_failed, write_failures}
use Rattle.rpc_engine.specs.DatagramExchange.{Replies}
use Rattle.rpc_engine.specs.Private.Looking.{FirstReads, FirstRead, client_fault_of}

-- whole records at the front stay there, however the bytes go on
pub begins_more : (limit : ℕ) (rs : List (List ℕ)) (bytes more : List ℕ) → Begins limit rs bytes
    → Begins limit rs (bytes ++ more)
begins_more limit rs bytes more h = record {
  whole = h.whole;
  more = h.more ++ more;
  stream = h.stream;
  within = h.within;
  spelled = ap (λ b. b ++ more) h.spelled ∙ append_assoc h.whole h.more more;
}

pub first_found : (reader : RecordReader) (held : List ℕ) (l m : Option (List ℕ)) (v : Vec ℕ Global)
    → HasTaken most_reply reader held (v.items ∷ []) l m → FirstRead l m (Ok v)
first_found reader held l m v h = record { input = h.input; read = h.read; reads = h.begins }

pub first_failed : (l m : Option (List ℕ)) (f : RecordFault) → Fails most_reply [] l m f
    → FirstRead l m (Err (client_fault_of f))
first_failed l m f h = record { input = h.input; read = h.read; reads = by f h.fails }
  where
    by : (f : RecordFault) → FailsAt most_reply [] h.input m f → FirstReads h.input m (Err (client_fault_of f))
    by (flaw.TooLong at) k = k.0
    by (flaw.Truncated at) (e, inside, longest, end, none) = ((e, longest, none), end)
    by flaw.NoMemory k = tt
    by flaw.Read k = k
    by flaw.TooManyReads k = k
    by (flaw.Write written) k = absurd k

-- it is as many failed reads
pub reads_same : (f : RecordFault) → flaw_reads f ≡ reads_failed (client_fault_of f)
reads_same flaw.Read = refl
reads_same flaw.TooManyReads = refl
reads_same flaw.NoMemory = refl
reads_same (flaw.TooLong at) = refl
reads_same (flaw.Truncated at) = refl
reads_same (flaw.Write written) = refl

-- the input has ended before its first byte
pub first_ended : (l m : Option (List ℕ)) → IsRead most_reply [] l m
    → FirstRead l m (Err (fault.Record (flaw.Truncated 0)))
first_ended l m h = record {
  input = h.input;
  read = h.read;
  reads = ((ap (λ k. capped (length k)) (sym h.whole.stream), h.longest, h.no_long), h.end);
}

-- ---- the answer

pub exchanged_ok : (xid : ℕ) (l m : Option (List ℕ)) (v : Vec ℕ Global) (given : List ℕ)
    (result : Result Reply ClientFault) → given ≡ v.items → FirstRead l m (Ok v) → Replies xid given result
    → Exchanged xid l m result
exchanged_ok xid l m v given result e f h = by result h
  where
    first : IsFirst given f.input
    first = subst (λ x. IsFirst x f.input) (sym e) f.reads

    by : (result : Result Reply ClientFault) → Replies xid given result → Exchanged xid l m result
    by (Ok reply) h = record { input = f.input; read = f.read; reads = (given, (first, h.0, h.1)) }
    by (Err (fault.WrongXid got)) h = record { input = f.input; read = f.read; reads = (given, (first, h.0, h.1)) }
    by (Err (fault.Reply why)) h = record {
      input = f.input;
      read = f.read;
      reads = ((given, (first, h.0)), (given, (first, h.1)), h.2);
    }
    by (Err fault.NoMemory) h = record { input = f.input; read = f.read; reads = tt }
    by (Err (fault.Record g)) h = absurd h
    by (Err fault.Read) h = absurd h
    by (Err (fault.Write written)) h = absurd h
    by (Err fault.TooManyReads) h = absurd h

pub exchanged_err : (xid : ℕ) (l m : Option (List ℕ)) (f : ClientFault) → FirstRead l m (Err f)
    → Exchanged xid l m (Err f)
exchanged_err xid l m (fault.Record (flaw.TooLong at)) h = record { input = h.input; read = h.read; reads = h.reads }
exchanged_err xid l m (fault.Record (flaw.Truncated at)) h = record { input = h.input; read = h.read; reads = h.reads }
exchanged_err xid l m (fault.Record flaw.NoMemory) h = absurd h.reads
exchanged_err xid l m (fault.Record flaw.Read) h = absurd h.reads
exchanged_err xid l m (fault.Record (flaw.Write written)) h = absurd h.reads
exchanged_err xid l m (fault.Record flaw.TooManyReads) h = absurd h.reads
exchanged_err xid l m fault.Read h = record { input = h.input; read = h.read; reads = h.reads }
exchanged_err xid l m fault.TooManyReads h = record { input = h.input; read = h.read; reads = h.reads }
exchanged_err xid l m fault.NoMemory h = record { input = h.input; read = h.read; reads = tt }
exchanged_err xid l m (fault.Write written) h = absurd h.reads
exchanged_err xid l m (fault.Reply why) h = absurd h.reads
exchanged_err xid l m (fault.WrongXid got) h = absurd h.reads

pub unwritten_err : (l m : Option (List ℕ)) (f : ClientFault) → FirstRead l m (Err f) → writes_failed f ≡ 0
unwritten_err l m (fault.Write written) h = absurd h.reads
unwritten_err l m (fault.Record g) h = refl
unwritten_err l m fault.Read h = refl
unwritten_err l m fault.TooManyReads h = refl
unwritten_err l m fault.NoMemory h = refl
unwritten_err l m (fault.Reply why) h = refl
unwritten_err l m (fault.WrongXid got) h = refl

pub unwritten_ok : (xid : ℕ) (given : List ℕ) (result : Result Reply ClientFault) → Replies xid given result
    → write_failures result ≡ 0
unwritten_ok xid given (Ok reply) h = refl
unwritten_ok xid given (Err (fault.Write written)) h = absurd h
unwritten_ok xid given (Err (fault.Record g)) h = refl
unwritten_ok xid given (Err fault.Read) h = refl
unwritten_ok xid given (Err fault.TooManyReads) h = refl
unwritten_ok xid given (Err fault.NoMemory) h = refl
unwritten_ok xid given (Err (fault.Reply why)) h = refl
unwritten_ok xid given (Err (fault.WrongXid got)) h = refl

-- looking at the reply is no failed read
pub unread_ok : (xid : ℕ) (given : List ℕ) (result : Result Reply ClientFault) → Replies xid given result
    → 0 ≡ read_failures result
unread_ok xid given (Ok reply) h = refl
unread_ok xid given (Err fault.Read) h = absurd h
unread_ok xid given (Err (fault.Record g)) h = refl
unread_ok xid given (Err (fault.Write written)) h = refl
unread_ok xid given (Err fault.NoMemory) h = refl
unread_ok xid given (Err fault.TooManyReads) h = refl
unread_ok xid given (Err (fault.Reply why)) h = refl
unread_ok xid given (Err (fault.WrongXid got)) h = refl

-- the call is written whole where no write failed
pub wrote_all : (call : List ℕ) (t u : Option (List ℕ)) (result : Result Reply ClientFault) → write_failures result ≡ 0
    → Appends t u (fragment true call) → Wrote call t u result
wrote_all call t u (Ok reply) e w = w
wrote_all call t u (Err (fault.Write written)) e w = absurd (omega (arith, e))
wrote_all call t u (Err fault.NoMemory) e w = inr w
wrote_all call t u (Err (fault.Record g)) e w = w
wrote_all call t u (Err fault.Read) e w = w
wrote_all call t u (Err fault.TooManyReads) e w = w
wrote_all call t u (Err (fault.Reply why)) e w = w
wrote_all call t u (Err (fault.WrongXid got)) e w = w
