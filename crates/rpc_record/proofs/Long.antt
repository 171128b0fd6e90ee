-- A header above the limit before any record, and how many bytes a header takes.
use Rattle.std.proofs.Common.{◌≡◌, ℕ, ◌^◌, ◌<◌, ◌≤◌, ◌⊎◌, inl, inr, Bool, true, false, List, [], ◌∷◌, ◌++◌, length}
use Rattle.std.proofs.Common.{take, drop, refl, sym, ap, length-append, arith}
use Rattle.std.proofs.lemmas.List.{take-append-drop}
use Rattle.std.specs.List.{flat_map}
use Rattle.rpc_record.specs.declared.fault.RecordFault.{RecordFault}
use Rattle.rpc_record.specs.declared.fault.RecordFault.TheVariants as fault
use Rattle.rpc_record.specs.Marked.{header, fragment, Marked}
use Rattle.rpc_record.specs.Reading.{TooLongAt, IsWhole, FaultyIn, IsFeedFault}
use Rattle.rpc_record.proofs.Exact.{one_too_long}
use Rattle.rpc_record.proofs.Headers.{length-header}
use Rattle.rpc_record.proofs.Places.{Longest-long}
use Rattle.rpc_record.proofs.Streams.{Upto-none}

pub Marked-length : (r bytes : List ℕ) → Marked r bytes → 4 ≤ length bytes
Marked-length r bytes m =
    let head = header true (length m.last) in
    omega (
      arith,
      ap length m.spelled,
      length-append (flat_map (fragment false) m.firsts) (head ++ m.last),
      length-append head m.last,
      length-header true (length m.last),
    )

pub TooLongAt-length : (limit at : ℕ) (rs : List (List ℕ)) (bytes : List ℕ) → TooLongAt limit rs at bytes
    → 4 ≤ length bytes
TooLongAt-length limit at rs bytes h =
    let head = header h.last h.count in
    omega (
      arith,
      ap length h.spelled,
      length-append h.before (head ++ h.more),
      length-append head h.more,
      length-header h.last h.count,
    )

-- the bytes begin with such a header
pub long_first : (limit count : ℕ) (last : Bool) (more : List ℕ) → limit < count → count < 2 ^ 31
    → TooLongAt limit [] 0 (header last count ++ more)
long_first limit count last more above fits = record {
  before = [];
  content = [];
  last = last;
  count = count;
  more = more;
  upto = Upto-none limit;
  place = refl;
  counted = fits;
  passes = omega (arith, above);
  spelled = refl;
}

module _ (limit at : ℕ) (bytes : List ℕ) (long : TooLongAt limit [] at bytes) where
  -- no front of the bytes is a whole record
  pub none_whole : (used : ℕ) (r : List ℕ) → IsWhole limit (r ∷ []) (take used bytes) → ⊥
  none_whole used r w =
      let more = (Longest-long limit at [] bytes long).only (r ∷ []) (take used bytes) (drop used bytes) w.within
      w.stream (sym (take-append-drop used bytes)) in
      omega (arith, ap length more.1)

  -- They are refused at that header, or by an allocation failure.
  pub refused_at : (f : RecordFault) (n : ℕ) → IsFeedFault f → FaultyIn limit [] f n bytes
      → (f ≡ fault.TooLong at) ⊎ (f ≡ fault.NoMemory)
  refused_at (fault.TooLong other) n i h = inl (ap fault.TooLong (one_too_long limit other at [] bytes h long))
  refused_at fault.NoMemory n i h = inr refl
  refused_at (fault.Truncated other) n i h = absurd i
  refused_at fault.Read n i h = absurd i
  refused_at (fault.Write written) n i h = absurd i
  refused_at fault.TooManyReads n i h = absurd i

-- Where no header behind these records is above the limit, feeding fails by an allocation failure alone.
pub only_memory : (limit n : ℕ) (rs : List (List ℕ)) (f : RecordFault) (bytes : List ℕ)
    → ((at : ℕ) → TooLongAt limit rs at bytes → ⊥) → IsFeedFault f → FaultyIn limit rs f n bytes → f ≡ fault.NoMemory
only_memory limit n rs (fault.TooLong at) bytes none i h = absurd (none at h)
only_memory limit n rs fault.NoMemory bytes none i h = refl
only_memory limit n rs (fault.Truncated at) bytes none i h = absurd i
only_memory limit n rs fault.Read bytes none i h = absurd i
only_memory limit n rs (fault.Write written) bytes none i h = absurd i
only_memory limit n rs fault.TooManyReads bytes none i h = absurd i
