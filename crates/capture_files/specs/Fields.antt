-- What holds of a reader's fields.
use Rattle.std.specs.Prelude.{ℕ, ◌+◌}
use Rattle.capture_files.specs.declared.progress.Progress.{Progress}
use Rattle.capture_files.specs.declared.progress.Progress.TheVariants.{Gathering, Waiting}

-- a byte at least is missing
abbrev pub open_of : Progress → ℕ
open_of Gathering = 1
open_of _ = 0

-- where the packet that waits ends in its unit
abbrev pub end_of : Progress → ℕ
end_of (Waiting found) = found.from + found.size
end_of _ = 0
