-- The texts of owners, and callers as values.
use Rattle.std.specs.Prelude.{List, ℕ}
use Rattle.registry_answer.specs.Callers as plain
use Rattle.registry_answer.specs.Callers.{unknown, owner_of}
use Rattle.registry_answer.specs.declared.callers.Owner.{Owner}
use Rattle.registry_answer.specs.declared.callers.Owner.TheVariants as owner
use Rattle.registry_answer.specs.declared.callers.Caller.{Caller}
use Rattle.registry_answer.specs.declared.callers.Caller.TheVariants as caller

-- the text of an owner
abbrev pub owner_text : Owner → List ℕ
owner_text owner.Unknown = unknown
owner_text (owner.User uid) = owner_of uid

-- the caller without where it lies in memory
abbrev pub caller_view : Caller → plain.Caller
caller_view (caller.Owner o) = plain.Owner (owner_text o)
caller_view (caller.Refused stat) = plain.Refused stat
