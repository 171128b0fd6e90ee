-- Which call a message answers, and what its program is.
use Rattle.std.proofs.Common.{◌≡◌, ℕ, ◌<◌, ◌^◌, List, ◌++◌, Option, None, Some, sym, ◌∙◌, subst, append_assoc, arith}
use Rattle.std.specs.Prelude.{MatchOption, ⊤}
use Rattle.xdr_units.specs.Numbers.{word}
use Rattle.xdr_units.proofs.Bytes.{same_word}
use Rattle.rpc_message.specs.Constants.{call_type, msg_accepted, msg_denied, reply_type, rpc_version}
use Rattle.rpc_message.specs.Message.{Accepted, CallView, Denied, ReplyView}
use Rattle.rpc_message.specs.Spelling.{CallBytes, ReplyBytes, auth, status, why}
use Rattle.oncrpc_messages.specs.declared.asked.Asked.{Asked}
use Rattle.oncrpc_messages.specs.declared.page.Said.{Said}
use Rattle.oncrpc_messages.specs.declared.page.Said.TheVariants as said
use Rattle.oncrpc_messages.specs.declared.refusal.Verdict.{Verdict}
use Rattle.oncrpc_messages.specs.Lines.{xid_of}
use Rattle.oncrpc_messages.specs.Messages.{SaysReply, Tells}
use Rattle.oncrpc_messages.specs.Settings.{Settings}
use Rattle.oncrpc_watch.specs.declared.table.CallTable.{CallTable}
use Rattle.oncrpc_watch.specs.Heard.{Answers, Heard, IsKnownCall}
use Rattle.oncrpc_watch.specs.Represents.{Recalls}
use Rattle.oncrpc_watch.specs.Run.{IsProgram}
use Rattle.oncrpc_watch.specs.Waiting.{waiting}

-- a reply says that it is one
pub reply_says : (r : ReplyView) (bytes : List ℕ) → ReplyBytes r bytes → SaysReply (xid_of r) bytes
reply_says (Accepted xid verf s) bytes h = (
  word msg_accepted ++ (auth verf ++ status s),
  h.fits.0,
  h.parts ∙ append_assoc (word xid ++ word reply_type) (word msg_accepted) (auth verf ++ status s)
      ∙ append_assoc (word xid) (word reply_type) (word msg_accepted ++ (auth verf ++ status s)),
)
reply_says (Denied xid w) bytes h = (
  word msg_denied ++ why w,
  h.fits.0,
  h.parts ∙ append_assoc (word xid ++ word reply_type) (word msg_denied) (why w)
      ∙ append_assoc (word xid) (word reply_type) (word msg_denied ++ why w),
)

-- bytes say one xid
pub says_one : (x y : ℕ) (bytes : List ℕ) → SaysReply x bytes → SaysReply y bytes → x ≡ y
says_one x y bytes (r, few, is) (q, few', is') =
    (same_word x y (word reply_type ++ r) (word reply_type ++ q) few few' (sym is ∙ is')).0

-- a call says that it is one
call_says : (c : CallView) (bytes : List ℕ) → CallBytes c bytes
    → (rest : List ℕ) × (bytes ≡ word c.xid ++ (word call_type ++ rest))
call_says c bytes h =
    let end = auth c.cred ++ (auth c.verf ++ c.args) in
    let a = word c.xid in
    let b = a ++ word call_type in
    let d = b ++ word rpc_version in
    let e = d ++ word c.prog in
    let f = e ++ word c.vers in
    let w = word c.proc ++ end in
    let x = word c.vers ++ w in
    let y = word c.prog ++ x in
    let z = word rpc_version ++ y in (
      z,
      h.parts ∙ append_assoc f (word c.proc) end ∙ append_assoc e (word c.vers) w ∙ append_assoc d (word c.prog) x
          ∙ append_assoc b (word rpc_version) y ∙ append_assoc a (word call_type) z,
    )

-- no call is a reply
pub call_no_reply : (c : CallView) (r : ReplyView) (bytes : List ℕ) → CallBytes c bytes → ReplyBytes r bytes → ⊥
call_no_reply c r bytes h k =
    let one = call_says c bytes h in
    let two = reply_says r bytes k in
    let rest = (same_word c.xid (xid_of r) (word call_type ++ one.0) (word reply_type ++ two.0) h.fits.xid two.1
    (sym one.1 ∙ two.2)).1 in
    omega (arith, (same_word call_type reply_type one.0 two.0 (omega arith) (omega arith) rest).0)

-- it answers the call that waits
pub answers_of : (s : Settings) (table : CallTable) (history : List Heard) (way : ℕ) (bytes text : List ℕ)
    (v : Verdict) (m : Said) (asked : Option Asked) → Recalls table history
    → ((xid : ℕ) → SaysReply xid bytes → asked ≡ waiting table way xid) → Tells s asked bytes text v m
    → Answers history way m asked
answers_of s table history way bytes text v (said.Call xid a) asked r is t = tt
answers_of s table history way bytes text v (said.Reply xid) asked r is t =
    let says = reply_says t.0 bytes t.1.spelled in
    subst (λ (x : ℕ). IsKnownCall history way x asked) (sym t.2)
    (subst (λ (y : Option Asked). IsKnownCall history way (xid_of t.0) y) (sym (is (xid_of t.0) says))
    (r.each way (xid_of t.0) says.1))
answers_of s table history way bytes text v said.Neither asked r is t = tt

-- its program, or that of the call to which it answers
pub is_program : (s : Settings) (bytes text : List ℕ) (v : Verdict) (m : Said) (asked : Option Asked) (program : ℕ)
    → ((c : CallView) → CallBytes c bytes → program ≡ c.prog)
    → ((r : ReplyView) → ReplyBytes r bytes → MatchOption asked ⊤ (λ (a : Asked). program ≡ a.program))
    → Tells s asked bytes text v m → IsProgram m asked program
is_program s bytes text v (said.Call xid a) asked program call reply t = call t.0 t.1.spelled ∙ sym t.3
is_program s bytes text v (said.Reply xid) None program call reply t = tt
is_program s bytes text v (said.Reply xid) (Some a) program call reply t = reply t.0 t.1.spelled
is_program s bytes text v said.Neither asked program call reply t = tt
