-- The procedure that a call asks for, where it is declared (RFC 5531 sections 9 and 12.2).
use Rattle.std.specs.Prelude.{ℕ, ◌==◌, Bool, List, [], ◌∷◌, length, nat_lt, Option, None, Some, if◌then◌else◌}
use Rattle.std.specs.List.{list_all}
use Rattle.xdr_types.specs.Kinds.{KindView}
use Rattle.xdr_lang.specs.Declarations.{Declared, Procedure, procedure_of_program}
use Rattle.rpc_message.specs.Message.{CallView}
use Rattle.oncrpc_messages.specs.declared.asked.Asked.{Asked}

-- the procedure with those numbers
abbrev pub declared_in : Declared → (program version procedure : ℕ) → Option Procedure
declared_in d program version procedure = procedure_of_program program version procedure d.programs

-- its name
abbrev pub name_in : Option Procedure → Option (List ℕ)
name_in None = None
name_in (Some p) = Some p.name

-- the kind of a result as a list: void is none
abbrev pub results_of : Option ℕ → List ℕ
results_of None = []
results_of (Some k) = k ∷ []

-- places that are all those of kinds
abbrev pub known_places : List KindView → List ℕ → Option (List ℕ)
known_places kinds places = if list_all (λ k. nat_lt k (length kinds)) places then Some places else None

-- a flavor under which arguments and results may be wrapped: RPCSEC_GSS (RFC 2203 section 5.3.2)
abbrev pub is_wrapped : (flavor : ℕ) → Bool
is_wrapped flavor = flavor == 6

-- the kinds by which the arguments of a call are judged; none where they are wrapped or not declared
abbrev pub places_in : List KindView → (flavor : ℕ) → (places : Option (List ℕ)) → Option (List ℕ)
places_in kinds flavor None = None
places_in kinds flavor (Some places) = if is_wrapped flavor then None else known_places kinds places

abbrev pub arguments_in : Option Procedure → Option (List ℕ)
arguments_in None = None
arguments_in (Some p) = Some p.arguments

abbrev pub results_in : Option Procedure → Option (List ℕ)
results_in None = None
results_in (Some p) = Some (results_of p.result)

-- what a call asks for
abbrev pub asked_by : CallView → (time : ℕ) → Asked
asked_by c time = record {
  program = c.prog;
  version = c.vers;
  procedure = c.proc;
  flavor = c.cred.flavor;
  time = time;
}
