-- What is said on the stream of faults.
use Rattle.std.proofs.Common.{◌≡◌, inl, inr, ℕ, ◌<◌, Bool, true, List, length, take, sym, subst, Result}
use Rattle.std.proofs.Common.{Ok, Err, OnOk, OnErr, IfErr}
use Rattle.std.specs.Io.KnownBytes.{Appends}
use Rattle.xdr_io.specs.Reported.{Counts}
use Rattle.xdr_io.specs.declared.whole.Cut.{Cut}
use Rattle.oncrpc_tasks.specs.Checked.{SaysLine, IsSaid}
use Rattle.oncrpc_tasks.specs.Devices.{Stream}

module _ {F : Type 0} (reports : Stream F) (f f' : F) (text : List ℕ) where
  -- a line that was written, or its beginning
  pub whole_or_cut : {A : Type 0} (r : Result A Cut) → OnOk r (Appends (reports.taken f) (reports.taken f') text)
      → IfErr r (λ e. (e.written < length text) × Appends (reports.taken f) (reports.taken f') (take e.written text))
      → OnErr r (Counts 1 (reports.lost f) (reports.lost f')) → IsSaid reports f f' text
  whole_or_cut (Ok v) ok cut failed = inl ok
  whole_or_cut (Err e) ok cut failed = inr (failed, (e.written, cut.0, cut.1))

  -- a line that was written as far as that could be done
  pub line_said : {A : Type 0} (said : Bool) (r : Result A Cut) → said ≡ true
      → OnOk r (Appends (reports.taken f) (reports.taken f') text)
      → IfErr r (λ e. (e.written < length text) × Appends (reports.taken f) (reports.taken f') (take e.written text))
      → OnErr r (Counts 1 (reports.lost f) (reports.lost f')) → SaysLine reports f f' text said
  line_said said (Ok v) is ok cut failed = subst (λ (b : Bool). SaysLine reports f f' text b) (sym is) (inl ok)
  line_said said (Err e) is ok cut failed =
      subst (λ (b : Bool). SaysLine reports f f' text b) (sym is) (inr (failed, (e.written, cut.0, cut.1)))
