-- The registry's procedures (RFC 1833 sections 2.2.1 and 3.2).
use Rattle.std.specs.Prelude.{ℕ, ◌&&◌, List, [], ◌∷◌, ◌==◌, Option, Some, if◌then◌else◌, slice_get, slice_index_or}
use Rattle.xdr_types.specs.Tree as value
use Rattle.xdr_types.specs.Tree.{Head, Values, Tree}
use Rattle.registry_rows.specs.Rows.{Row, row_of}
use Rattle.registry_rows.specs.Steps.{Step, set, unset, getversaddr}
use Rattle.registry_rows.specs.LookUp.{getaddr}
use Rattle.registry_rows.specs.Ports.{set_port, unset_port, get_port}
use Rattle.registry_dumps.specs.Dir.{unsigned_kind, bool_kind, void_kind, string_kind, rpcb_kind, rpcb_list_kind}
use Rattle.registry_dumps.specs.Dir.{mapping_kind, mapping_list_kind}
use Rattle.registry_dumps.specs.Dumps.{number, content, rpcb_list, mapping_list}

-- A procedure: the places of its arguments' kind and its results' kind among the registry's kinds, and its step. That
-- makes of the rows, the transport's netid, the owner and the arguments the new rows and the results.
pub record Procedure : Type 0 where
  pub takes : ℕ
  pub gives : ℕ
  pub step : List Row → List ℕ → List ℕ → Tree → List Row × Tree

-- the heads of values one after another
abbrev pub heads : Values → List Head
heads value.none = []
heads (value.node h inner rest) = h ∷ heads rest

-- the head of a field of a structure
abbrev pub field : ℕ → Tree → Head
field i t = slice_index_or (heads t.1) i value.nothing

-- the number of a head, 0 where it has none
abbrev pub number_in : Head → ℕ
number_in (value.unsigned n) = n
number_in _ = 0

-- the bytes of a head, none where it has none
abbrev pub content_in : Head → List ℕ
content_in (value.bytes bs) = bs
content_in _ = []

-- the fields of a `mapping` (RFC 1833 section 3.1)
abbrev pub prog_of_mapping : Tree → ℕ
prog_of_mapping t = number_in (field 0 t)

abbrev pub vers_of_mapping : Tree → ℕ
vers_of_mapping t = number_in (field 1 t)

abbrev pub prot_of_mapping : Tree → ℕ
prot_of_mapping t = number_in (field 2 t)

abbrev pub port_of_mapping : Tree → ℕ
port_of_mapping t = number_in (field 3 t)

-- the fields of an `rpcb` up to its owner (RFC 1833 section 2.1)
abbrev pub prog_of_rpcb : Tree → ℕ
prog_of_rpcb t = number_in (field 0 t)

abbrev pub vers_of_rpcb : Tree → ℕ
vers_of_rpcb t = number_in (field 1 t)

abbrev pub netid_of_rpcb : Tree → List ℕ
netid_of_rpcb t = content_in (field 2 t)

abbrev pub address_of_rpcb : Tree → List ℕ
address_of_rpcb t = content_in (field 3 t)

-- no results (RFC 4506 section 4.16)
abbrev pub void : Tree
void = (value.nothing, value.none)

-- the answer of a step as a bool (RFC 4506 section 4.4)
abbrev pub reported : Step → List Row × Tree
reported s = (s.0, (value.boolean s.1, value.none))

-- procedure 0 of every version: no arguments and no results (RFC 5531 section 12.1)
abbrev pub null : Procedure
null = record { takes = void_kind; gives = void_kind; step = λ rows netid owner t. (rows, void) }

-- ---- version 2: the argument is a `mapping` of prog, vers, prot and port (RFC 1833 section 3.2)

-- registers a port (PMAPPROC_SET)
abbrev pub set_2 : Procedure
set_2 = record {
  takes = mapping_kind;
  gives = bool_kind;
  step = λ rows netid owner t. reported
      (set_port rows (prog_of_mapping t) (vers_of_mapping t) (prot_of_mapping t) (port_of_mapping t) owner);
}

-- removes what is registered over both transports; prot and port are ignored (PMAPPROC_UNSET)
abbrev pub unset_2 : Procedure
unset_2 = record {
  takes = mapping_kind;
  gives = bool_kind;
  step = λ rows netid owner t. reported (unset_port rows (prog_of_mapping t) (vers_of_mapping t) owner);
}

-- looks a port up; the argument's port is ignored (PMAPPROC_GETPORT)
abbrev pub getport_2 : Procedure
getport_2 = record {
  takes = mapping_kind;
  gives = unsigned_kind;
  step = λ rows netid owner t.
      (rows, number (get_port rows (prog_of_mapping t) (vers_of_mapping t) (prot_of_mapping t)));
}

-- lists the ports (PMAPPROC_DUMP)
abbrev pub dump_2 : Procedure
dump_2 = record { takes = void_kind; gives = mapping_list_kind; step = λ rows netid owner t. (rows, mapping_list rows) }

-- ---- versions 3 and 4: the argument is an `rpcb` of prog, vers, netid, address and owner (RFC 1833 section 2.2.1)

-- registers an address; the argument's owner is ignored (RPCBPROC_SET)
abbrev pub set_3 : Procedure
set_3 = record {
  takes = rpcb_kind;
  gives = bool_kind;
  step = λ rows netid owner t. reported
      (set rows (row_of (prog_of_rpcb t) (vers_of_rpcb t) (netid_of_rpcb t) (address_of_rpcb t) owner));
}

-- removes what is registered; address and owner are ignored (RPCBPROC_UNSET)
abbrev pub unset_3 : Procedure
unset_3 = record {
  takes = rpcb_kind;
  gives = bool_kind;
  step = λ rows netid owner t. reported (unset rows (prog_of_rpcb t) (vers_of_rpcb t) (netid_of_rpcb t) owner);
}

-- looks an address up over the call's own transport, of the greatest version where the argument's is not registered;
-- the argument's netid is ignored (RPCBPROC_GETADDR)
abbrev pub getaddr_3 : Procedure
getaddr_3 = record {
  takes = rpcb_kind;
  gives = string_kind;
  step = λ rows netid owner t. (rows, content (getaddr rows (prog_of_rpcb t) (vers_of_rpcb t) netid));
}

-- lists the rows (RPCBPROC_DUMP)
abbrev pub dump_3 : Procedure
dump_3 = record { takes = void_kind; gives = rpcb_list_kind; step = λ rows netid owner t. (rows, rpcb_list rows) }

-- looks up the address of just this version; the argument's netid is ignored (RPCBPROC_GETVERSADDR)
abbrev pub getversaddr_4 : Procedure
getversaddr_4 = record {
  takes = rpcb_kind;
  gives = string_kind;
  step = λ rows netid owner t. (rows, content (getversaddr rows (prog_of_rpcb t) (vers_of_rpcb t) netid));
}

-- the procedures of version 2, from number 0
abbrev pub procedures_2 : List Procedure
procedures_2 = null ∷ set_2 ∷ unset_2 ∷ getport_2 ∷ dump_2 ∷ []

-- and of versions 3 and 4
abbrev pub procedures_3 : List Procedure
procedures_3 = null ∷ set_3 ∷ unset_3 ∷ getaddr_3 ∷ dump_3 ∷ []

-- the procedure with a number in version 2, 3 or 4; version 4 has number 9 besides
abbrev pub procedure_at : ℕ → ℕ → Option Procedure
procedure_at vers proc =
    if vers == 4 && proc == 9 then Some getversaddr_4
    else slice_get (if vers == 2 then procedures_2 else procedures_3) proc
