-- What stands at the front of the buffer once a message is written.
use Rattle.std.proofs.Common.{◌≡◌, ℕ, List, length, take, drop, sym, subst, arith}
use Rattle.std.proofs.Math.Seq.{take-append_seam}
use Rattle.rpc_message.specs.Message.{CallView}
use Rattle.rpc_message.specs.Spelling.{AuthSysBytes, CallBytes}
use Rattle.c_messages.specs.declared.answer.Answer.{Answer}
use Rattle.c_messages.specs.declared.answer.Answer.TheVariants as answer
use Rattle.c_messages.specs.declared.credentials.AuthSysParts.{AuthSysParts}
use Rattle.c_messages.specs.Statuses.{status_of}
use Rattle.c_messages.specs.Buffers.{IsPlaced}
use Rattle.c_messages.specs.Calls.{IsCallWritten}
use Rattle.c_messages.specs.Credentials.{auth_sys_of, IsAuthSysWritten}

front_placed : (bytes old new : List ℕ) (count : ℕ) → IsPlaced bytes old new count answer.Whole → take count new ≡ bytes
front_placed bytes old new count p = rw (p.1, p.0) (take-append_seam bytes (drop (length bytes) old))

pub call_written : (c : CallView) (old new : List ℕ) (count : ℕ) (a : Answer) → IsCallWritten c old new count a
    → 0 ≡ status_of a → CallBytes c (take count new)
call_written c old new count answer.Whole w e =
    subst (λ (b : List ℕ). CallBytes c b) (sym (front_placed w.0 old new count w.2)) w.1
call_written c old new count answer.NoMemory w e = absurd (omega (arith, e))
call_written c old new count answer.NoRoom w e = absurd (omega (arith, e))
call_written c old new count answer.BadCredential w e = absurd (omega (arith, e))
call_written c old new count answer.BadVerifier w e = absurd (omega (arith, e))
call_written c old new count answer.BadStatus w e = absurd w
call_written c old new count answer.NoAuthSys w e = absurd w

pub body_written : (p : AuthSysParts) (machine old new : List ℕ) (count : ℕ) (a : Answer)
    → IsAuthSysWritten p machine old new count a → 0 ≡ status_of a
    → AuthSysBytes (auth_sys_of p machine) (take count new)
body_written p machine old new count answer.Whole w e =
    subst (λ (b : List ℕ). AuthSysBytes (auth_sys_of p machine) b) (sym (front_placed w.1 old new count w.3)) w.2
body_written p machine old new count answer.NoMemory w e = absurd (omega (arith, e))
body_written p machine old new count answer.NoRoom w e = absurd (omega (arith, e))
body_written p machine old new count answer.BadCredential w e = absurd w
body_written p machine old new count answer.BadVerifier w e = absurd w
body_written p machine old new count answer.BadStatus w e = absurd w
body_written p machine old new count answer.NoAuthSys w e = absurd (omega (arith, e))
