-- How answering datagrams ends.
use Rattle.std.specs.Prelude.{◌≡◌, ◌⊎◌, ℕ, ◌≤◌, List, length, Option}
use Rattle.std.specs.Io.KnownBytes.{Appends}
use Rattle.xdr_io.specs.Reported.{Counts}
use Rattle.registry_rows.specs.Rows.{Row}
use Rattle.rpc_engine.specs.Ports.{Reported}
use Rattle.oncrpc_answers.specs.declared.failure.Failure.{Failure}
use Rattle.oncrpc_service.specs.Datagrams.{Ended, Finishes, FinishesEach, Reporting, datagram_line, datagram_lines}
use Rattle.oncrpc_service.specs.Written.{InPart, IsCut}

-- What a port and a writer tell, and what failed.
pub record Desk (P O : Type 0) : Type 0 where
  pub reports : P → Reporting
  pub taken : O → Option (List ℕ)
  pub lost : O → Option ℕ

-- the same by what each of them tells
abbrev pub desk_of : {P O : Type 0} → (left sent : P → Reported) → (unreceived unsent : P → Option ℕ)
    → (taken : O → Option (List ℕ)) → (lost : O → Option ℕ) → Desk P O
desk_of left sent unreceived unsent taken lost = record {
  reports = λ p. record { left = left p; sent = sent p; unreceived = unreceived p; unsent = unsent p };
  taken = taken;
  lost = lost;
}

-- Datagrams were answered, at most so many, and this is what the status says of them, of the output and of the writer
-- for faults. At 4 the last line could not be made.
pub record DatagramsEnd {P O F : Type 0} (count : ℕ) (desk : Desk P O) (rows new : List Row) (port port' : P)
    (output output' : O) (faults faults' : F) (status : ℕ) : Type 0 where
  pub ended : List Ended
  pub finished : FinishesEach rows (desk.reports port) ended new (desk.reports port')
  pub few : length ended ≤ count
  pub known : (status ≡ 0) ⊎ ((status ≡ 3) ⊎ (status ≡ 4))
  pub all : status ≡ 0 → length ended ≡ count
  pub lines : status ≡ 0 → Appends (desk.taken output) (desk.taken output') (datagram_lines ended)
  pub unlost : status ≡ 0 → Counts 0 (desk.lost output) (desk.lost output')
  pub silent : status ≡ 0 → faults' ≡ faults
  pub device : status ≡ 3 → InPart (datagram_lines ended) (desk.taken output) (desk.taken output')
      × Counts 1 (desk.lost output) (desk.lost output')
  pub wanting : status ≡ 4 → InPart (datagram_lines ended) (desk.taken output) (desk.taken output')

-- ---- steps between the code and what its public contract says

-- so many datagrams were answered, and their lines written
pub record HasFinished {P O : Type 0} (count : ℕ) (desk : Desk P O) (rows new : List Row) (port port' : P)
    (output output' : O) : Type 0 where
  pub ended : List Ended
  pub finished : FinishesEach rows (desk.reports port) ended new (desk.reports port')
  pub counted : length ended ≡ count
  pub lines : Appends (desk.taken output) (desk.taken output') (datagram_lines ended)
  pub unlost : Counts 0 (desk.lost output) (desk.lost output')

-- answering stopped before so many datagrams had their lines
pub record HasBroken {P O : Type 0} (count : ℕ) (desk : Desk P O) (rows new : List Row) (port port' : P)
    (output output' : O) (why : Failure) : Type 0 where
  pub ended : List Ended
  pub finished : FinishesEach rows (desk.reports port) ended new (desk.reports port')
  pub few : length ended ≤ count
  pub cut : IsCut (datagram_lines ended) (desk.taken output) (desk.taken output') (desk.lost output)
      (desk.lost output') why

-- one datagram was answered, and its line written
pub record HasFinishedOne {P O : Type 0} (number : ℕ) (desk : Desk P O) (rows new : List Row) (port port' : P)
    (output output' : O) : Type 0 where
  pub ended : Ended
  pub finished : Finishes rows new (desk.reports port) (desk.reports port') ended
  pub line : Appends (desk.taken output) (desk.taken output') (datagram_line number ended)
  pub unlost : Counts 0 (desk.lost output) (desk.lost output')

-- one datagram was answered, and its line not written
pub record HasLostLine {P O : Type 0} (number : ℕ) (desk : Desk P O) (rows new : List Row) (port port' : P)
    (output output' : O) (why : Failure) : Type 0 where
  pub ended : Ended
  pub finished : Finishes rows new (desk.reports port) (desk.reports port') ended
  pub cut : IsCut (datagram_line number ended) (desk.taken output) (desk.taken output') (desk.lost output)
      (desk.lost output') why
