-- What serving comes to.
use Rattle.std.proofs.Common.{◌≡◌, ℕ, ◌+◌, true, List, [], ◌∷◌, ◌++◌, length, take, Option, Some, refl, sym, ap, ◌∙◌}
use Rattle.std.proofs.Common.{subst, length-append, arith}
use Rattle.std.specs.Io.KnownBytes.{Appends}
use Rattle.xdr_io.proofs.Chained.{take_past}
use Rattle.registry_rows.specs.Rows.{Row}
use Rattle.rpc_record.specs.declared.fault.RecordFault.{RecordFault}
use Rattle.rpc_record.specs.declared.fault.RecordFault.TheVariants as flaw
use Rattle.rpc_record.specs.declared.reader.RecordReader.{RecordReader}
use Rattle.rpc_record.specs.Marked.{fragment, normal}
use Rattle.rpc_record.specs.Failures.{reads_failed as flaw_reads}
use Rattle.rpc_record.specs.Streamed.{HasTaken, IsRead, FailsAt, Fails}
use Rattle.rpc_engine.specs.declared.fault.ServeFault.{ServeFault}
use Rattle.rpc_engine.specs.declared.fault.ServeFault.TheVariants as fault
use Rattle.rpc_engine.specs.declared.session.Session.{Session}
use Rattle.rpc_engine.specs.Run.{Run}
use Rattle.rpc_engine.specs.Served.{Serves, StopsBy, Stops, CutLast, most_record, reads_failed, writes_failed}
use Rattle.rpc_engine.specs.Private.Serving.{HasCounted, Does, Loses, LosesBy, fault_of}
use Rattle.rpc_engine.proofs.Pieces.{loses_after}
use Rattle.rpc_engine.proofs.Runs.{run_one, runs_join}
use Rattle.rpc_engine.proofs.Sessions.{normal_append, normal_one}

-- From a session that has counted nothing on, these records were answered.
module _ (netid : List ℕ) (rows mid : List Row) (start s : Session) (rs : List (List ℕ)) (l m t u : Option (List ℕ))
    (begun : HasCounted start [] []) (p : Does netid rows mid start s rs t u) where
  -- the input has ended
  pub serves : IsRead most_record rs l m → Serves netid rows mid l m t u s.served
  serves h = record {
    input = h.input;
    rs = rs;
    refusals = p.refusals;
    replies = p.others;
    read = h.read;
    end = h.end;
    whole = h.whole;
    run = p.run;
    written = p.wrote;
    counted = (p.counts [] [] begun).served_is;
  }

  -- no further record could be had
  pub stops_failed : (f : RecordFault) → Fails most_record rs l m f → Stops netid rows mid l m t u (fault_of f)
  stops_failed f h = record {
    input = h.input;
    rs = rs;
    refusals = p.refusals;
    replies = p.others;
    read = h.read;
    run = p.run;
    stopped = by f h.fails;
  }
    where
      by : (f : RecordFault) → FailsAt most_record rs h.input m f
          → StopsBy netid rows rs p.others h.input m t u (fault_of f)
      by (flaw.TooLong at) k = (k.0, k.1, p.wrote)
      by (flaw.Truncated at) (e, inside, longest, end, none) = (e, inside, longest, end, p.wrote, none)
      by flaw.NoMemory k = (k.0, k.1, p.wrote)
      by flaw.Read k = (k.0, p.wrote)
      by flaw.TooManyReads k = (k.0, p.wrote)
      by (flaw.Write written) k = absurd k

-- a write failed while the reply to the last record went out
module _ (netid : List ℕ) (rows new : List Row) (start : Session) (rs : List (List ℕ)) (l m t v : Option (List ℕ))
    (reader : RecordReader) (held : List ℕ) (h : HasTaken most_record reader held rs l m) (written : ℕ)
    (begun : HasCounted start [] []) (q : Loses netid rows new start rs t v written) where
  abbrev replies : List (List ℕ)
  replies = q.others ++ q.last ∷ []

  abbrev place : ℕ
  place = length (normal q.others) + q.went

  last_bytes : normal replies ≡ normal q.others ++ fragment true q.last
  last_bytes = normal_append q.others (q.last ∷ []) ∙ ap (λ k. normal q.others ++ k) (normal_one q.last)

  last_cut : CutLast netid rows rs replies place
  last_cut = record {
    before = q.before;
    answering = q.answering;
    refusals = q.refusals;
    mid = q.mid;
    others = q.others;
    last = q.last;
    records = q.records;
    run = q.run;
    replies_are = refl;
    whole = omega arith;
    short = omega (arith, q.short, ap length last_bytes, length-append (normal q.others) (fragment true q.last));
  }

  went : Appends t v (take place (normal replies))
  went = subst (λ k. Appends t v k) (take_past (normal q.others) (fragment true q.last) q.went
      ∙ ap (λ k. take place k) (sym last_bytes)) q.wrote

  loses : Stops netid rows new l m t v (fault.Write written)
  loses = record {
    input = h.input;
    rs = rs;
    refusals = q.refusals ++ q.refused ∷ [];
    replies = replies;
    read = h.read;
    run = subst (λ k. Run rows netid k (q.refusals ++ q.refused ∷ []) new replies) (sym q.records)
        (runs_join rows q.mid new netid q.before (q.answering ∷ []) q.refusals (q.refused ∷ []) q.others
        (q.last ∷ []) q.run (run_one q.mid new netid q.answering q.refused (Some q.last) q.answer));
    stopped = (h.begins, (place, (last_cut, omega (arith, q.place [] [] begun), went)));
  }

pub stops_lost : (netid : List ℕ) (rows mid new : List Row) (start s : Session) (rs : List (List ℕ)) (r given : List ℕ)
    (l m t u v : Option (List ℕ)) (reader : RecordReader) (held : List ℕ) (f : ServeFault) → given ≡ r
    → HasTaken most_record reader held (rs ++ r ∷ []) l m → HasCounted start [] [] → Does netid rows mid start s rs t u
    → LosesBy netid mid new s (given ∷ []) u v f → Stops netid rows new l m t v f
stops_lost netid rows mid new start s rs r given l m t u v reader held (fault.Write written) e h begun p q =
    loses netid rows new start (rs ++ r ∷ []) l m t v reader held h written begun
    (loses_after netid rows mid new start s rs (r ∷ []) t u v written p
    (subst (λ k. Loses netid mid new s (k ∷ []) u v written) e q))
stops_lost netid rows mid new start s rs r given l m t u v reader held (fault.Record f) e h begun p q = absurd q
stops_lost netid rows mid new start s rs r given l m t u v reader held fault.Read e h begun p q = absurd q
stops_lost netid rows mid new start s rs r given l m t u v reader held fault.TooManyReads e h begun p q = absurd q
stops_lost netid rows mid new start s rs r given l m t u v reader held fault.NoMemory e h begun p q = absurd q

-- ---- a fault of the record reader as the server reports it

pub fault_many : (f : RecordFault) → fault_of f ≡ fault.TooManyReads → f ≡ flaw.TooManyReads
fault_many flaw.TooManyReads e = refl
fault_many flaw.Read e = cc
fault_many flaw.NoMemory e = cc
fault_many (flaw.TooLong at) e = cc
fault_many (flaw.Truncated at) e = cc
fault_many (flaw.Write written) e = cc

-- it is as many failed reads
pub reads_same : (f : RecordFault) → flaw_reads f ≡ reads_failed (fault_of f)
reads_same flaw.Read = refl
reads_same flaw.TooManyReads = refl
reads_same flaw.NoMemory = refl
reads_same (flaw.TooLong at) = refl
reads_same (flaw.Truncated at) = refl
reads_same (flaw.Write written) = refl

-- and no failed write
pub fails_unwritten : (rs : List (List ℕ)) (l m : Option (List ℕ)) (f : RecordFault) → Fails most_record rs l m f
    → 0 ≡ writes_failed (fault_of f)
fails_unwritten rs l m (flaw.TooLong at) h = refl
fails_unwritten rs l m (flaw.Truncated at) h = refl
fails_unwritten rs l m flaw.NoMemory h = refl
fails_unwritten rs l m flaw.Read h = refl
fails_unwritten rs l m flaw.TooManyReads h = refl
fails_unwritten rs l m (flaw.Write written) h = absurd h.fails

-- an answer's fault is one failed write, and no failed read
pub lost_is : (netid : List ℕ) (rows new : List Row) (s : Session) (more : List (List ℕ)) (t u : Option (List ℕ))
    (f : ServeFault) → LosesBy netid rows new s more t u f → (1 ≡ writes_failed f) × (0 ≡ reads_failed f)
lost_is netid rows new s more t u (fault.Write written) h = (refl, refl)
lost_is netid rows new s more t u (fault.Record f) h = absurd h
lost_is netid rows new s more t u fault.Read h = absurd h
lost_is netid rows new s more t u fault.TooManyReads h = absurd h
lost_is netid rows new s more t u fault.NoMemory h = absurd h
