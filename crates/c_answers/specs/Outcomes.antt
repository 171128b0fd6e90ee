-- What C sees beside a status.
use Rattle.std.specs.Prelude.{ℕ}
use Rattle.c_answers.specs.declared.outcome.Outcome.{Outcome}

-- a count or a place, and nothing else
abbrev pub only_at : ℕ → Outcome
only_at at = record { at = at; line = 0; column = 0; why = 0; inner = 0 }
