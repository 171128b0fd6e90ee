-- What is asked of a server, and what its results are to be.
use Rattle.std.specs.Prelude.{ℕ, ◌<◌, ◌≤◌, List, length}
use Rattle.xdr_types.specs.Kinds.{KindView}
use Rattle.xdr_types.specs.Within.{Bounds}
use Rattle.rpc_message.specs.Spelling.{call}
use Rattle.rpc_message.specs.View.{call_view}
use Rattle.oncrpc_call.specs.declared.asked.Asked.{Asked}
use Rattle.oncrpc_call.specs.declared.asked.Form.{Form}

-- the kind of the results, by its place among kinds, the limits on them, and what is printed of them
pub record Wanted : Type 0 where
  pub kinds : List KindView
  pub place : ℕ
  pub limits : Bounds
  pub form : Form

abbrev pub wanted_of : Asked → Wanted
wanted_of a = record { kinds = a.schema.kinds; place = a.result.place; limits = a.limits; form = a.form }

-- The call can be made and its results be judged. The schema has their kind; credential and verifier are short enough
-- for a message (RFC 5531 section 8.2), and the call is for one fragment (RFC 5531 section 11).
pub record CanBeMade (a : Asked) : Type 0 where
  pub known : a.result.place < length a.schema.kinds
  pub cred : length a.call.cred.body.items ≤ 400
  pub verf : length a.call.verf.body.items ≤ 400
  pub short : length (call (call_view a.call)) ≤ 2147483647
