-- What is found to be canonical is an encoding.
use Rattle.std.proofs.Common.{◌≡◌, ℕ, ◌-◌, Bool, true, false, List, [], ◌∷◌, length, Option, Some, None, sym, subst}
use Rattle.std.proofs.Common.{inl, inr}
use Rattle.std.specs.Prelude.{⊤}
use Rattle.xdr_types.specs.Kinds.{KindView}
use Rattle.xdr_types.specs.Within.{Bounds}
use Rattle.rpc_message.specs.Message.{AuthView, CallView, ReplyView, Accepted, Denied, Success, ProgUnavail}
use Rattle.rpc_message.specs.Message.{ProgMismatch, ProcUnavail, GarbageArgs, SystemErr}
use Rattle.oncrpc_messages.specs.declared.asked.Asked.{Asked}
use Rattle.oncrpc_messages.specs.declared.form.Form.{Form}
use Rattle.oncrpc_messages.specs.declared.form.Form.TheVariants as form
use Rattle.oncrpc_messages.specs.declared.page.Said.TheVariants as said
use Rattle.oncrpc_messages.specs.declared.refusal.Refusal.{Refusal}
use Rattle.oncrpc_messages.specs.declared.refusal.Verdict.{Verdict}
use Rattle.oncrpc_messages.specs.declared.refusal.Verdict.TheVariants as verdict
use Rattle.oncrpc_messages.specs.Asked.{arguments_in, declared_in, places_in}
use Rattle.oncrpc_messages.specs.Bodies.{TellsBody, TellsFields}
use Rattle.oncrpc_messages.specs.Canonical.{AreCanonicalResults, AreValues, AreValuesIn, CanonicalIsEncoded}
use Rattle.oncrpc_messages.specs.Canonical.{IsCanonicalCall, IsCanonicalCred, IsCanonicalReply}
use Rattle.oncrpc_messages.specs.Messages.{TellsArguments, TellsCall, TellsEnding, TellsReply, results_of_call}
use Rattle.oncrpc_messages.specs.Settings.{Settings}
use Rattle.oncrpc_messages.specs.Values.{AreShown}

-- values that are printed are values
shown_values : (form : Form) (kinds : List KindView) (limits : Bounds) (first : Bool) (ks bytes text : List ℕ)
    → AreShown form kinds limits first ks bytes text → AreValues kinds limits ks bytes
shown_values form kinds limits first [] bytes text h = h.0
shown_values form kinds limits first (k ∷ ks) bytes text h =
    (h.0, h.1, h.3, h.4, shown_values form kinds limits false ks h.1 h.2 h.6)

-- a canonical body is judged by kinds
body_values : (s : Settings) (call : Bool) (places : Option (List ℕ)) (start : ℕ) (bytes text : List ℕ)
    → TellsBody s call places start bytes text verdict.Canonical → AreValuesIn s places bytes
body_values s call None start bytes text h = h
body_values s call (Some places) start bytes text h =
    shown_values s.form s.declared.schema.kinds s.limits true places bytes h.0 h.1

-- nothing is canonical and refused
abbrev IsRefusal : Verdict → Type 0
IsRefusal (verdict.Refused r) = ⊤
IsRefusal _ = ⊥

not_refused : (r : Refusal) → verdict.Canonical ≡ verdict.Refused r → ⊥
not_refused r e = subst (λ (v : Verdict). IsRefusal v) (sym e) tt

-- the credential and the arguments of a call
cred_values : (s : Settings) (a : AuthView) (fields : Option (List ℕ)) → TellsFields s 32 a fields None
    → IsCanonicalCred s a
cred_values s a None h is = absurd (h is)
cred_values s a (Some fields) h is = shown_values form.Json s.heads.kinds s.limits true (s.heads.auth_sys ∷ []) a.body
    fields h.1

abbrev places_of_call : Settings → CallView → Option (List ℕ)
places_of_call s c =
    places_in s.declared.schema.kinds c.cred.flavor (arguments_in (declared_in s.declared c.prog c.vers c.proc))

parts_of_call : (s : Settings) (bytes : List ℕ) (c : CallView) (fields : Option (List ℕ)) (refused : Option Refusal)
    (text : List ℕ) → TellsFields s 32 c.cred fields refused
    → TellsArguments s bytes c refused text verdict.Canonical
    → IsCanonicalCred s c.cred × AreValuesIn s (places_of_call s c) c.args
parts_of_call s bytes c fields (Some r) text cred args = absurd (not_refused r args.0)
parts_of_call s bytes c fields None text cred args = (
  cred_values s c.cred fields cred,
  body_values s true (places_of_call s c) (length bytes - length c.args) c.args text args,
)

call_encoded : (s : Settings) (bytes : List ℕ) (c : CallView) (text : List ℕ)
    → TellsCall s bytes c text verdict.Canonical → IsCanonicalCall s bytes
call_encoded s bytes c text t =
    let parts = parts_of_call s bytes c t.fields t.refused t.arguments t.cred t.args in
    record { call = c; spelled = t.spelled; cred = parts.0; args = parts.1 }

-- the results of a reply
results_values : (s : Settings) (asked : Option Asked) (size : ℕ) (r : ReplyView) (text : List ℕ)
    → TellsEnding s (results_of_call s asked) size r text verdict.Canonical → AreCanonicalResults s asked r
results_values s asked size (Accepted xid verf (Success results)) text h =
    body_values s false (results_of_call s asked) (size - length results) results text h
results_values s asked size (Accepted xid verf ProgUnavail) text h = tt
results_values s asked size (Accepted xid verf (ProgMismatch low high)) text h = tt
results_values s asked size (Accepted xid verf ProcUnavail) text h = tt
results_values s asked size (Accepted xid verf GarbageArgs) text h = tt
results_values s asked size (Accepted xid verf SystemErr) text h = tt
results_values s asked size (Denied xid w) text h = tt

reply_encoded : (s : Settings) (asked : Option Asked) (bytes : List ℕ) (r : ReplyView) (text : List ℕ)
    → TellsReply s asked bytes r text verdict.Canonical → IsCanonicalReply s asked bytes
reply_encoded s asked bytes r text t =
    record { reply = r; spelled = t.spelled; results = results_values s asked (length bytes) r t.ending t.results }

pub encoded : CanonicalIsEncoded
encoded s asked bytes text (said.Call xid a) t = inl (call_encoded s bytes t.0 text t.1)
encoded s asked bytes text (said.Reply xid) t = inr (reply_encoded s asked bytes t.0 text t.1)
encoded s asked bytes text said.Neither t = absurd (not_refused t.flaw t.refused)
