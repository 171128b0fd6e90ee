-- The exit status of words that name nothing.
use Rattle.std.specs.Prelude.{◌≡◌, ◌⊎◌, ℕ}
use Rattle.oncrpc_answers.specs.Status.{failure_status}
use Rattle.oncrpc_tasks.specs.declared.unusable.Unusable.{Unusable}
use Rattle.oncrpc_tasks.specs.declared.unusable.Unusable.TheVariants as unusable

-- 2 where the words are refused, or 4 where there is no memory to say so; else what the failure gives
abbrev pub Ends : Unusable → ℕ → Type 0
Ends (unusable.Failed f) status = status ≡ failure_status f
Ends _ status = (status ≡ 2) ⊎ (status ≡ 4)
