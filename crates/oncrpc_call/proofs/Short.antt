-- The question for a port is short.
use Rattle.std.proofs.Common.{◌≡◌, ℕ, ◌≤◌, ◌==◌, Bool, true, false, List, [], length, ap, sym, subst, arith}
use Rattle.std.proofs.Common.{if◌then◌else◌}
use Rattle.rpc_message.specs.Message.{CallView}
use Rattle.rpc_message.specs.Spelling.{call}
use Rattle.rpc_message.specs.View.{call_view}
use Rattle.rpc_message.specs.declared.message.Call.{Call}
use Rattle.oncrpc_call.specs.Questions.{CanBeSent, address_args, port_args, question}
use Rattle.oncrpc_call.specs.declared.transport.Transport.{Transport}
use Rattle.oncrpc_call.specs.declared.transport.Transport.TheVariants as over

args_short : (program version : ℕ) (b : Bool) (t : Transport)
    → length (if b then port_args program version t else address_args program version t) ≤ 24
args_short program version true t = omega arith
args_short program version false over.Tcp = omega arith
args_short program version false over.Udp = omega arith
args_short program version false over.Tcp6 = omega arith
args_short program version false over.Udp6 = omega arith

-- with arguments of at most 24 bytes
call_short : (registry : ℕ) (args : List ℕ) → length args ≤ 24 → length (call (record {
  xid = registry;
  prog = 100000;
  vers = registry;
  proc = 3;
  cred = record { flavor = 0; body = [] };
  verf = record { flavor = 0; body = [] };
  args = args;
})) ≤ 65507
call_short registry args short = omega (arith, short)

pub can_be_sent : (registry program version : ℕ) (t : Transport) (c : Call)
    → call_view c ≡ question registry program version t → CanBeSent c
can_be_sent registry program version t c is =
    let cred : length c.cred.body.items ≡ 0 = ap (λ (v : CallView). length v.cred.body) is in
    let verf : length c.verf.body.items ≡ 0 = ap (λ (v : CallView). length v.verf.body) is in
    record {
      cred = omega (arith, cred);
      verf = omega (arith, verf);
      short = subst (λ (v : CallView). length (call v) ≤ 65507) (sym is)
          (call_short registry _ (args_short program version (registry == 2) t));
    }
