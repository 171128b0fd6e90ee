-- What normalising a buffer says of all of it.
use Rattle.std.proofs.Common.{◌≡◌, ℕ, ◌<◌, ◌^◌, List, [], ◌++◌, length, refl, sym, subst, Option, None, Some}
use Rattle.std.specs.Io.KnownBytes.{Consumes}
use Rattle.xdr_io.proofs.Ended.{all_read}
use Rattle.rpc_record.specs.declared.fault.Count.{Count}
use Rattle.rpc_record.specs.declared.fault.RecordFault.TheVariants as fault
use Rattle.rpc_record.specs.Marked.{Longest}
use Rattle.rpc_record.specs.Reading.{IsWhole, IsInside, TooLongAt, HasNoLong}
use Rattle.rpc_record.specs.Normalised.{Normalised, Stops}
use Rattle.rpc_record.proofs.Readers.{TooLongAt-more}
use Rattle.rpc_record.proofs.Places.{Longest-long}
use Rattle.xdr_stream.specs.declared.fault.Reason.TheVariants as reason
use Rattle.c_values.specs.Normal.{IsForm}

-- what a source gave stands at the front
front_read : (input : List ℕ) (left : Option (List ℕ)) (read : List ℕ) → Consumes (Some input) left read
    → (rest : List ℕ) × (input ≡ read ++ rest)
front_read input None read took = absurd took
front_read input (Some rest) read took = (rest, took)

pub form_whole : (limit : ℕ) (input form : List ℕ) (left : Option (List ℕ)) (count : Count)
    → limit < 2 ^ 31 → Normalised limit (Some input) left (Some []) (Some form) count → IsForm limit input form None
form_whole limit input form left count i n = record {
  in_range = i;
  rs = n.rs;
  ends = subst (λ (b : List ℕ). IsWhole limit n.rs b) (sym (all_read input n.input left n.read n.end)) n.whole;
  marked = n.written;
}

pub form_long : (limit at : ℕ) (input form : List ℕ) (left : Option (List ℕ))
    → limit < 2 ^ 31 → Stops limit (Some input) left (Some []) (Some form) (fault.TooLong at)
    → IsForm limit input form (Some (record { why = reason.TooLong; at = at }))
form_long limit at input form left i s =
    let front = front_read input left s.input s.read in
    let there : TooLongAt limit s.rs at input =
    subst (λ (b : List ℕ). TooLongAt limit s.rs at b) (sym front.1)
    (TooLongAt-more limit at s.rs s.input front.0 s.stopped.0) in
    record {
      in_range = i;
      rs = s.rs;
      ends = (there, Longest-long limit at s.rs input there);
      marked = s.stopped.2;
    }

pub form_cut : (limit at : ℕ) (input form : List ℕ) (left : Option (List ℕ))
    → limit < 2 ^ 31 → Stops limit (Some input) left (Some []) (Some form) (fault.Truncated at)
    → IsForm limit input form (Some (record { why = reason.Truncated; at = length input }))
form_cut limit at input form left i s =
    let all = all_read input s.input left s.read s.stopped.3 in
    record {
      in_range = i;
      rs = s.rs;
      ends = (
        refl,
        subst (λ (b : List ℕ). IsInside limit s.rs b) (sym all) s.stopped.1,
        subst (λ (b : List ℕ). Longest limit s.rs b) (sym all) s.stopped.2,
        subst (λ (b : List ℕ). HasNoLong limit b) (sym all) s.stopped.5,
      );
      marked = s.stopped.4;
    }
