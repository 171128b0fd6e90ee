-- What the reader in a handle does with a piece, where no record waits.
use Rattle.std.proofs.Common.{◌≡◌, ℕ, Bool, true, false, List, refl, sym}
use Rattle.std.proofs.Common.{Ok, Err, Result, Some}
use Rattle.std.proofs.lemmas.Bool.{false≢true}
use Rattle.rpc_record.specs.declared.fault.RecordFault.{RecordFault}
use Rattle.rpc_record.specs.declared.fault.RecordStep.{RecordStep}
use Rattle.rpc_record.specs.declared.fault.RecordStep.TheVariants as step
use Rattle.rpc_record.specs.declared.reader.RecordReader.{RecordReader}
use Rattle.rpc_record.specs.Represents.{Fills, IsFilled, Reports, Stays, limit_of}
use Rattle.rpc_record.proofs.Readers.{between_taking}
use Rattle.c_records.specs.declared.answer.Answer.TheVariants as answer
use Rattle.c_records.specs.Fed.{IsFed}
use Rattle.c_records.specs.Held.{waiting_of}

well_bad : {s : RecordStep} {f : RecordFault} → ◌≡◌ {A = Result RecordStep RecordFault} (Ok s) (Err f) → ⊥
well_bad e = cc

refused_same : {f g : RecordFault} → ◌≡◌ {A = Result RecordStep RecordFault} (Err f) (Err g)
    → answer.Refused f ≡ answer.Refused g
refused_same e = cc

pub more : (old new : RecordReader) (w : Bool) (last last' piece buffer : List ℕ) → w ≡ false
    → limit_of new ≡ limit_of old → Fills old new piece buffer (Ok step.More) → Reports old piece (Ok step.More)
    → Stays old (Ok step.More)
    → IsFed (record { reader = old; waits = waiting_of w last }) piece
    (record { reader = new; waits = waiting_of w last' })
    answer.More
more old new true last last' piece buffer e l feeds reports stays = absurd (false≢true (sym e))
more old new false last last' piece buffer e l feeds reports stays = record {
  limit = l;
  fed = record {
    taking = (refl, feeds.0);
    takes = feeds.1;
    longest = λ bytes rs s. (reports bytes rs s).0;
    short = λ bytes rs s. (reports bytes rs s).1;
  };
  again = λ f b. absurd (well_bad (stays.broken f b.1));
}

-- the record that is whole is handed out, and waits
pub whole : (old new : RecordReader) (w : Bool) (last piece content : List ℕ) (used : ℕ) → w ≡ false
    → limit_of new ≡ limit_of old → Fills old new piece content (Ok (step.Whole used))
    → IsFilled old piece content (Ok (step.Whole used)) → Stays old (Ok (step.Whole used))
    → IsFed (record { reader = old; waits = waiting_of w last }) piece (record { reader = new; waits = Some content })
    (answer.Whole used)
whole old new true last piece content used e l fills is stays = absurd (false≢true (sym e))
whole old new false last piece content used e l fills is stays = record {
  limit = l;
  fed = record {
    content = content;
    waits = (refl, between_taking new fills.0);
    within = fills.1;
    some = λ i. fills.3 i.1;
    takes = fills.2;
    whole = is;
  };
  again = λ f b. absurd (well_bad (stays.broken f b.1));
}

pub refused : (old new : RecordReader) (w : Bool) (last last' piece buffer : List ℕ) (f : RecordFault)
    → w ≡ false → limit_of new ≡ limit_of old → Fills old new piece buffer (Err f)
    → Reports old piece (Err f) → Stays old (Err f)
    → IsFed (record { reader = old; waits = waiting_of w last }) piece
    (record { reader = new; waits = waiting_of w last' })
    (answer.Refused f)
refused old new true last last' piece buffer f e l feeds reports stays = absurd (false≢true (sym e))
refused old new false last last' piece buffer f e l feeds reports stays = record {
  limit = l;
  fed = record {
    broken = (refl, feeds.0);
    takes = feeds.1;
    says = λ bytes rs s. (reports bytes rs s).0;
    kind = λ i. feeds.2 i.1;
    here = λ i bytes rs s. (reports bytes rs s).1 i.1;
  };
  again = λ g b. refused_same (stays.broken g b.1);
}
