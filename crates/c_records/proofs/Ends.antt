-- What the reader in a handle says of the stream's end, where no record waits.
use Rattle.std.proofs.Common.{◌≡◌, ℕ, ◌⊎◌, inl, inr, Bool, true, false, List, ◌++◌, refl, sym, ap}
use Rattle.std.proofs.Common.{◌∙◌, subst, Ok, Err, Option, None}
use Rattle.std.proofs.lemmas.Bool.{false≢true}
use Rattle.std.proofs.lemmas.List.{append-nil}
use Rattle.rpc_record.specs.declared.fault.RecordFault.{RecordFault}
use Rattle.rpc_record.specs.declared.fault.RecordFault.TheVariants as fault
use Rattle.rpc_record.specs.declared.place.Place.{Place}
use Rattle.rpc_record.specs.declared.place.Place.TheVariants as place
use Rattle.rpc_record.specs.declared.reader.RecordReader.{RecordReader}
use Rattle.rpc_record.specs.Fields.{IsBrokenAt}
use Rattle.rpc_record.specs.Reading.{IsWhole}
use Rattle.rpc_record.proofs.Reported.{not_broken}
use Rattle.rpc_record.specs.Represents.{IsBetween, IsWaiting, IsTaking, IsBroken, TruncatedAt}
use Rattle.rpc_record.specs.Represents.{Ends, Concludes, limit_of}
use Rattle.c_records.specs.declared.answer.Answer.TheVariants as answer
use Rattle.c_records.specs.Ended.{IsEnded, IsCut}
use Rattle.c_records.specs.Held as held
use Rattle.c_records.specs.Held.{Held, waiting_of}

-- one fault was answered at most, and none while bytes are taken
one_fault : (p : Place) (f g : RecordFault) → IsBrokenAt p f → IsBrokenAt p g → f ≡ g
one_fault place.Between f g b c = absurd b
one_fault (place.Header at part) f g b c = absurd b
one_fault (place.Content w) f g b c = absurd b
one_fault place.Whole f g b c = absurd b
one_fault (place.Broken h) f g b c = sym b ∙ c

none_well : (reader : RecordReader) (f : RecordFault) → IsBetween reader ⊎ IsWaiting reader → IsBroken reader f → ⊥
none_well reader f (inl e) b = subst (λ (p : Place). IsBrokenAt p f) e b
none_well reader f (inr e) b = subst (λ (p : Place). IsBrokenAt p f) e b

-- with that reader
abbrev retained : Option (List ℕ) → RecordReader → Held
retained waits reader = record { reader = reader; waits = waits }

pub well : (old new : RecordReader) (w : Bool) (last : List ℕ) (u : Unit {0}) → w ≡ false
    → limit_of new ≡ limit_of old → Ends old new (Ok u) → Concludes old (Ok u)
    → IsEnded (record { reader = old; waits = waiting_of w last }) (record { reader = new; waits = waiting_of w last })
    (answer.Whole 0)
well old new true last u e l ends says = absurd (false≢true (sym e))
well old new false last u e l ends says = record {
  limit = l;
  ended = (
    refl,
    ap (retained None) ends.1,
    λ i bytes rs s. let t = says bytes rs s in
        subst (λ (x : List (List ℕ)). IsWhole (limit_of old) x bytes)
        (ap (λ (x : List (List ℕ)). rs ++ x) (t.1.2 i.1) ∙ append-nil rs) t.1.1,
  );
  again = λ f b. absurd (none_well old f ends.0 b.1);
}

cut : (old : RecordReader) (f : RecordFault) → TruncatedAt old f → IsCut (record { reader = old; waits = None }) f
cut old (fault.Truncated at) t = t
cut old (fault.TooLong at) t = absurd t
cut old fault.NoMemory t = absurd t
cut old fault.Read t = absurd t
cut old (fault.Write written) t = absurd t
cut old fault.TooManyReads t = absurd t

same : (old : RecordReader) (f g : RecordFault) → IsBroken old f ⊎ (IsTaking old × TruncatedAt old f) → IsBroken old g
    → f ≡ g
same old f g (inl b) c = one_fault old.place f g b c
same old f g (inr t) c = absurd (not_broken old.place g t.0 c)

pub bad : (old new : RecordReader) (w : Bool) (last : List ℕ) (f : RecordFault) → w ≡ false
    → limit_of new ≡ limit_of old → Ends old new (Err f) → Concludes old (Err f)
    → IsEnded (record { reader = old; waits = waiting_of w last }) (record { reader = new; waits = waiting_of w last })
    (answer.Refused f)
bad old new true last f e l ends says = absurd (false≢true (sym e))
bad old new false last f e l ends says = record {
  limit = l;
  ended = record {
    broken = (refl, ends.0);
    stays = ends.1;
    says = λ bytes rs s. (says bytes rs s).0;
    why = why ends.2;
  };
  again = λ g b. ap answer.Refused (same old f g ends.2 b.1);
}
  where
    h : Held
    h = record { reader = old; waits = None }

    why : IsBroken old f ⊎ (IsTaking old × TruncatedAt old f) → held.IsBroken h f ⊎ (held.IsTaking h × IsCut h f)
    why (inl b) = inl (refl, b)
    why (inr t) = inr ((refl, t.0), cut old f t.1)
