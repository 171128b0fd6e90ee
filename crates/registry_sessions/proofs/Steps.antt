-- What taking bytes of a piece does to a session.
use Rattle.std.proofs.Common.{◌≡◌, ℕ, ◌≤◌, List, [], ◌∷◌, ◌++◌, length, take, drop, Ok, Err, refl, sym, ap}
use Rattle.std.proofs.Common.{◌∙◌, subst, arith, length-append, Some}
use Rattle.std.proofs.lemmas.List.{append-nil, drop-append-le}
use Rattle.registry_rows.specs.Rows.{Row}
use Rattle.rpc_record.specs.declared.fault.RecordFault.{RecordFault}
use Rattle.rpc_record.specs.declared.fault.RecordFault.TheVariants as flaw
use Rattle.rpc_record.specs.declared.fault.RecordStep.TheVariants as step
use Rattle.rpc_record.specs.declared.reader.RecordReader.{RecordReader}
use Rattle.rpc_record.specs.Marked.{normal, Longest}
use Rattle.rpc_record.specs.Reading.{FaultyIn, IsFeedFault, IsWhole, TooLongEnds}
use Rattle.rpc_record.specs.Represents as reader
use Rattle.rpc_record.proofs.Counting.{normal-append}
use Rattle.rpc_record.proofs.Readers.{between_taking}
use Rattle.rpc_engine.specs.Run.{listed}
use Rattle.rpc_engine.specs.Served.{most_record}
use Rattle.registry_sessions.specs.declared.session.Session.{Session}
use Rattle.registry_sessions.specs.declared.fault.SessionFault.TheVariants as fault
use Rattle.registry_sessions.specs.declared.fault.Taken.TheVariants as taken
use Rattle.registry_sessions.specs.Represents.{output_of, origin_of, Replies, Takes, Flawed}
use Rattle.registry_sessions.specs.Represents.{Breaks}
use Rattle.registry_sessions.specs.Private.Replying.{AnswersNext, fault_of}
use Rattle.registry_sessions.proofs.Refused.{refused_whole}

-- replies behind those that wait
pub replies_more : (old new : Session) (more : List (List ℕ)) → new.sent ≡ old.sent
    → old.sent ≤ length old.output.items → new.output.items ≡ old.output.items ++ normal more → Replies old new more
replies_more old new more same within out replies count h =
    let joined = normal-append replies more in
    record {
      few = omega (arith, h.few, ap length joined, length-append (normal replies) (normal more));
      waits = ap (λ n. drop n new.output.items) same ∙ ap (drop old.sent) out
          ∙ drop-append-le old.sent old.output.items (normal more) within ∙ ap (λ x. x ++ normal more) h.waits
          ∙ sym (drop-append-le count (normal replies) (normal more) h.few) ∙ ap (drop count) (sym joined);
    }

-- a record was whole, and it was answered
pub takes_record : (old new : Session) (fed : RecordReader) (rows after : List Row) (piece : List ℕ) (used : ℕ)
    → reader.limit_of fed ≡ reader.limit_of old.records
    → reader.Feeds old.records fed piece (Ok (step.Whole used)) → new.fault ≡ old.fault → new.sent ≡ old.sent
    → old.sent ≤ length old.output.items
    → AnswersNext (origin_of old) rows fed new.records after old.output.items new.output.items
    → Takes old new rows after piece (taken.Answered used)
takes_record old new fed rows after piece used limit feeds fault sent within next = (
  feeds.1,
  (λ bytes rs h. feeds.3 h.taking),
  record {
    message = next.message;
    refused = next.pushes.refused;
    sent = next.pushes.sent;
    answer = next.pushes.answer;
    ends = λ bytes rs h. subst (λ n. IsWhole n (rs ++ next.message ∷ []) (bytes ++ take used piece)) (limit ∙ h.limit)
        (next.handed (bytes ++ take used piece) rs (feeds.2 bytes rs h.represents));
    reads = λ bytes rs h. record {
      sound = fault ∙ h.sound;
      taking = between_taking new.records next.between;
      limit = next.limit ∙ limit ∙ h.limit;
      represents = subst (λ x. reader.Represents new.records x (rs ++ next.message ∷ []))
          (append-nil (bytes ++ take used piece))
          (next.moves (bytes ++ take used piece) rs (feeds.2 bytes rs h.represents));
    };
    replies = replies_more old new (listed next.pushes.sent) sent within next.pushes.added;
  },
)

-- the bytes are flawed
pub breaks_flawed : TooLongEnds → (old new : Session) (fed : RecordReader) (rows : List Row)
    (piece : List ℕ) (f : RecordFault) → new.fault ≡ Some (fault_of f) → output_of new ≡ output_of old
    → reader.Feeds old.records fed piece (Err f) → reader.Reports old.records piece (Err f)
    → Breaks old new rows rows piece (fault_of f)
breaks_flawed ends old new fed rows piece f broken out feeds reports = record {
  broken = broken;
  same_rows = refl;
  same_output = out;
  flawed = λ bytes rs h. by f (feeds.2 h.taking) rs (bytes ++ piece)
      (subst (λ n. FaultyIn n rs f (length piece) (bytes ++ piece)) h.limit
      ((reports bytes rs h.represents).1 h.taking));
}
  where
    by : (g : RecordFault) → IsFeedFault g → (rs : List (List ℕ)) (bytes : List ℕ)
        → FaultyIn most_record rs g (length piece) bytes → Flawed rs (fault_of g) (length piece) bytes
    by (flaw.TooLong at) i rs bytes k =
        (k, subst (λ x. Longest most_record rs x) (append-nil bytes) (ends most_record at rs bytes [] k).1)
    by flaw.NoMemory i rs bytes k = k
    by (flaw.Truncated at) i rs bytes k = absurd i
    by flaw.Read i rs bytes k = absurd i
    by (flaw.Write written) i rs bytes k = absurd i
    by flaw.TooManyReads i rs bytes k = absurd i

-- memory was refused for a reply
pub breaks_refused : (old new : Session) (fed : RecordReader) (rows after : List Row) (piece : List ℕ) (used : ℕ)
    → reader.Feeds old.records fed piece (Ok (step.Whole used))
    → reader.Reports old.records piece (Ok (step.Whole used)) → after ≡ rows
    → new.fault ≡ Some fault.NoMemory → output_of new ≡ output_of old → Breaks old new rows after piece fault.NoMemory
breaks_refused old new fed rows after piece used feeds reports same broken out = record {
  broken = broken;
  same_rows = same;
  same_output = out;
  flawed = λ bytes rs h.
      let whole = reports bytes rs h.represents in
      refused_whole most_record rs bytes piece whole.0 used (feeds.3 h.taking) feeds.1
      (subst (λ n. IsWhole n (rs ++ whole.0 ∷ []) (bytes ++ take used piece)) h.limit whole.1);
}
