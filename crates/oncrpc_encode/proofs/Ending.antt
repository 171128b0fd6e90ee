-- What was written and said of what an input stands for.
use Rattle.std.proofs.Common.{◌≡◌, ◌≢◌, ℕ, Bool, List, Option, Vec, subst}
use Rattle.std.specs.declared.alloc.Global.{Global}
use Rattle.std.specs.Io.KnownBytes.{Appends}
use Rattle.xdr_io.proofs.Chained.{Counts-none}
use Rattle.xdr_io.specs.Reported.{Counts}
use Rattle.oncrpc_answers.specs.Lines.{failure_line}
use Rattle.oncrpc_answers.specs.Status.{failure_status}
use Rattle.oncrpc_answers.specs.declared.failure.Failure.{Failure}
use Rattle.oncrpc_answers.specs.declared.failure.Failure.TheVariants as failure
use Rattle.oncrpc_tasks.specs.Checked.{IsSaid}
use Rattle.oncrpc_tasks.specs.Devices.{Fails, Reports, Stream}
use Rattle.oncrpc_tasks.specs.Private.Printed.{IsCut}
use Rattle.oncrpc_encode.specs.EncodeEnds.{FailureSaid, Refuses, Writes, WritesInPart}
use Rattle.oncrpc_encode.specs.Encoding.{Sought, IsRightFor}
use Rattle.oncrpc_encode.specs.Lines.{refusal_line, written_in}
use Rattle.oncrpc_encode.specs.declared.encoded.Encoded.{Encoded}
use Rattle.oncrpc_encode.specs.declared.encoded.Encoded.TheVariants as encoded
use Rattle.oncrpc_encode.specs.declared.refusal.Refusal.{Refusal}

module _ (s : Sought) (hex : Bool) (left taken taken' : Option (List ℕ)) (e : Encoded) (bytes : Vec ℕ Global)
    (right : IsRightFor s left e) (is : e ≡ encoded.Bytes bytes) where
  is_right : IsRightFor s left (encoded.Bytes bytes)
  is_right = subst (λ (x : Encoded). IsRightFor s left x) is right

  -- the bytes, all of them
  pub written_by : Appends taken taken' (written_in hex bytes.items) → Writes s hex left taken taken'
  written_by written = record { bytes = bytes; right = is_right; written = written }

  -- or their beginning
  pub cut_by : IsCut (written_in hex bytes.items) taken taken' → WritesInPart s hex left taken taken'
  cut_by part = record {
    bytes = bytes;
    right = is_right;
    count = part.count;
    cut = part.cut;
    written = part.written;
  }

-- the line of a refusal
pub refused_by : {F : Type 0} (s : Sought) (left : Option (List ℕ)) (stream : Stream F) (f f' : F) (e : Encoded)
    (r : Refusal) → IsRightFor s left e → e ≡ encoded.Refused r → IsSaid stream f f' (refusal_line r)
    → Refuses s left stream f f'
refused_by s left stream f f' e r right is said =
    record { refusal = r; right = subst (λ (x : Encoded). IsRightFor s left x) is right; said = said }

-- the line of what failed
pub failed_by : {I O F : Type 0} (reports : Reports I O) (stream : Stream F) (i i' : I) (o o' : O) (f f' : F)
    (status : ℕ) (why : Failure) → (why ≢ failure.NoMemory → Fails reports i i' o o' why)
    → (why ≢ failure.Read → Counts 0 (reports.failures i) (reports.failures i')) → status ≡ failure_status why
    → IsSaid stream f f' (failure_line why) → FailureSaid reports stream i i' o o' f f' status
failed_by reports stream i i' o o' f f' status why fails unfailed is said =
    record { why = why; fails = fails; unfailed = unfailed; status_is = is; said = said }

-- what was written and said, and that nothing was counted of what was not touched
pub ruleset endings = (written_by, cut_by, refused_by, failed_by, Counts-none)
