-- Which fault stands in the bytes of the examples: at the type of a message and at a status.
use Rattle.std.proofs.Common.{◌≡◌, ◌⊎◌, ℕ, ◌+◌, ◌<◌, ◌≤◌, List, [], ◌∷◌, ◌++◌, length, get_or, Result, Ok, Err, refl}
use Rattle.std.proofs.Common.{sym, ap, ◌∙◌, arith, inl, inr, length-append, MatchResult}
use Rattle.std.specs.Prelude.{IfOk, IfErr}
use Rattle.xdr_units.specs.Numbers.{word}
use Rattle.xdr_units.proofs.Bytes.{same_word}
use Rattle.rpc_message.specs.Message.{ReplyView, Accepted, Denied}
use Rattle.rpc_message.specs.declared.fault.ReplyFault.{ReplyFault}
use Rattle.rpc_message.specs.declared.fault.ReplyFault.TheVariants as faults
use Rattle.rpc_message.specs.declared.message.Reply.{Reply}
use Rattle.rpc_message.specs.View.{reply_view}
use Rattle.rpc_message.specs.Spelling.{reply, ReplyBytes}
use Rattle.rpc_message.specs.Faults.{Place, Xid, MessageType, ReplyStat, AcceptStat, AcceptLow, AcceptHigh, RejectStat}
use Rattle.rpc_message.specs.Faults.{RejectLow, RejectHigh, AuthStat, before, IsNoStatus, IsOtherKind, StandsIn}

-- this fault, or an allocation failure
abbrev pub Is : ReplyFault → ReplyFault → Type 0
Is f g = (f ≡ g) ⊎ (f ≡ faults.NoMemory)

abbrev pub Fails : Result Reply ReplyFault → ReplyFault → Type 0
Fails r g = MatchResult r (λ x. ⊥) (λ f. Is f g)

kind_of_reply : (r : ReplyView) (bytes more : List ℕ) → bytes ≡ reply r ++ more → get_or bytes 7 0 ≡ 1
kind_of_reply (Accepted xid verf s) bytes more e = ap (λ (t : List ℕ). get_or t 7 0) e
kind_of_reply (Denied xid w) bytes more e = ap (λ (t : List ℕ). get_or t 7 0) e

kind_of_whole : (r : ReplyView) (bytes : List ℕ) → ReplyBytes r bytes → get_or bytes 7 0 ≡ 1
kind_of_whole (Accepted xid verf s) bytes h = ap (λ (t : List ℕ). get_or t 7 0) h.parts
kind_of_whole (Denied xid w) bytes h = ap (λ (t : List ℕ). get_or t 7 0) h.parts

kind_of_status : (p : Place) (stat : ℕ) (bytes rest : List ℕ) → IsNoStatus p stat
    → bytes ≡ before p ++ (word stat ++ rest) → get_or bytes 7 0 ≡ 1
kind_of_status Xid stat bytes rest n e = absurd n
kind_of_status (MessageType xid) stat bytes rest n e = absurd n
kind_of_status (ReplyStat xid) stat bytes rest n e = ap (λ (t : List ℕ). get_or t 7 0) e
kind_of_status (AcceptStat xid verf) stat bytes rest n e = ap (λ (t : List ℕ). get_or t 7 0) e
kind_of_status (AcceptLow xid verf) stat bytes rest n e = absurd n
kind_of_status (AcceptHigh xid verf low) stat bytes rest n e = absurd n
kind_of_status (RejectStat xid) stat bytes rest n e = ap (λ (t : List ℕ). get_or t 7 0) e
kind_of_status (RejectLow xid) stat bytes rest n e = absurd n
kind_of_status (RejectHigh xid low) stat bytes rest n e = absurd n
kind_of_status (AuthStat xid) stat bytes rest n e = absurd n

kind_of_cut : (p : Place) (last bytes : List ℕ) → length last < 4 → 8 ≤ length bytes → bytes ≡ before p ++ last
    → get_or bytes 7 0 ≡ 1
kind_of_cut Xid last bytes lt many e = absurd (omega (arith, lt, many, ap length e))
kind_of_cut (MessageType xid) last bytes lt many e =
    let size : length bytes ≡ 4 + length last = ap length e ∙ length-append (before (MessageType xid)) last in
    absurd (omega (arith, lt, many, size))
kind_of_cut (ReplyStat xid) last bytes lt many e = ap (λ (t : List ℕ). get_or t 7 0) e
kind_of_cut (AcceptStat xid verf) last bytes lt many e = ap (λ (t : List ℕ). get_or t 7 0) e
kind_of_cut (AcceptLow xid verf) last bytes lt many e = ap (λ (t : List ℕ). get_or t 7 0) e
kind_of_cut (AcceptHigh xid verf low) last bytes lt many e = ap (λ (t : List ℕ). get_or t 7 0) e
kind_of_cut (RejectStat xid) last bytes lt many e = ap (λ (t : List ℕ). get_or t 7 0) e
kind_of_cut (RejectLow xid) last bytes lt many e = ap (λ (t : List ℕ). get_or t 7 0) e
kind_of_cut (RejectHigh xid low) last bytes lt many e = ap (λ (t : List ℕ). get_or t 7 0) e
kind_of_cut (AuthStat xid) last bytes lt many e = ap (λ (t : List ℕ). get_or t 7 0) e

pub no_kind : (b : ℕ) → b ≡ 0 → b ≡ 1 → ⊥
no_kind b zero_is one_is = omega (arith, zero_is, one_is)

-- Four bytes are only cut.
cut_fault : (f : ReplyFault) (bytes : List ℕ) → bytes ≡ 0 ∷ 0 ∷ 0 ∷ 1 ∷ [] → StandsIn f bytes → Is f faults.Truncated
cut_fault faults.Truncated bytes e h = inl refl
cut_fault faults.NoMemory bytes e h = inr refl
cut_fault faults.NotAReply bytes e h =
    let size : length bytes ≡ 8 + length h.rest = ap length h.parts
    ∙ length-append (word h.xid ++ word h.kind) h.rest in
    absurd (omega (arith, size, ap length e))
cut_fault faults.BadStatus bytes e h = absurd (no_kind (get_or bytes 7 0) (ap (λ (t : List ℕ). get_or t 7 0) e)
    (kind_of_status h.place h.stat bytes h.rest h.none h.parts))
cut_fault faults.BadAuth bytes e h = absurd (no_kind (get_or bytes 7 0) (ap (λ (t : List ℕ). get_or t 7 0) e)
    (ap (λ (t : List ℕ). get_or t 7 0) h.parts))
cut_fault faults.Rest bytes e h = absurd (no_kind (get_or bytes 7 0) (ap (λ (t : List ℕ). get_or t 7 0) e)
    (kind_of_reply h.r bytes (h.byte ∷ h.rest) h.parts))

pub is_cut : (r : Result Reply ReplyFault) (bytes : List ℕ) → bytes ≡ 0 ∷ 0 ∷ 0 ∷ 1 ∷ []
    → IfOk r (λ x. ReplyBytes (reply_view x) bytes) → IfErr r (λ f. StandsIn f bytes) → Fails r faults.Truncated
is_cut (Err f) bytes e found h = cut_fault f bytes e h
is_cut (Ok x) bytes e found h = no_kind (get_or bytes 7 0) (ap (λ (t : List ℕ). get_or t 7 0) e)
    (kind_of_whole (reply_view x) bytes found)

-- A second word of 0 is that of no reply.
kind_fault : (f : ReplyFault) (bytes : List ℕ) → bytes ≡ 0 ∷ 0 ∷ 0 ∷ 1 ∷ 0 ∷ 0 ∷ 0 ∷ 0 ∷ [] → StandsIn f bytes
    → Is f faults.NotAReply
kind_fault faults.Truncated bytes e (inl h) = absurd (no_kind (get_or bytes 7 0)
    (ap (λ (t : List ℕ). get_or t 7 0) e)
    (kind_of_cut h.place h.last bytes h.short (omega (arith, ap length e)) h.parts))
kind_fault faults.Truncated bytes e (inr h) = absurd (no_kind (get_or bytes 7 0)
    (ap (λ (t : List ℕ). get_or t 7 0) e) (ap (λ (t : List ℕ). get_or t 7 0) h.parts))
kind_fault faults.NoMemory bytes e h = inr refl
kind_fault faults.NotAReply bytes e h = inl refl
kind_fault faults.BadStatus bytes e h = absurd (no_kind (get_or bytes 7 0) (ap (λ (t : List ℕ). get_or t 7 0) e)
    (kind_of_status h.place h.stat bytes h.rest h.none h.parts))
kind_fault faults.BadAuth bytes e h = absurd (no_kind (get_or bytes 7 0) (ap (λ (t : List ℕ). get_or t 7 0) e)
    (ap (λ (t : List ℕ). get_or t 7 0) h.parts))
kind_fault faults.Rest bytes e h = absurd (no_kind (get_or bytes 7 0) (ap (λ (t : List ℕ). get_or t 7 0) e)
    (kind_of_reply h.r bytes (h.byte ∷ h.rest) h.parts))

pub is_another_kind : (r : Result Reply ReplyFault) (bytes : List ℕ)
    → bytes ≡ 0 ∷ 0 ∷ 0 ∷ 1 ∷ 0 ∷ 0 ∷ 0 ∷ 0 ∷ []
    → IfOk r (λ x. ReplyBytes (reply_view x) bytes) → IfErr r (λ f. StandsIn f bytes) → Fails r faults.NotAReply
is_another_kind (Err f) bytes e found h = kind_fault f bytes e h
is_another_kind (Ok x) bytes e found h = no_kind (get_or bytes 7 0) (ap (λ (t : List ℕ). get_or t 7 0) e)
    (kind_of_whole (reply_view x) bytes found)

pub no_other_kind : (more bytes : List ℕ) → bytes ≡ word 1 ++ (word 1 ++ more) → IsOtherKind bytes → ⊥
no_other_kind more bytes e h =
    let parts : word 1 ++ (word 1 ++ more) ≡ word h.xid ++ (word h.kind ++ h.rest) = sym e ∙ h.parts in
    let second = (same_word 1 h.xid (word 1 ++ more) (word h.kind ++ h.rest) (omega arith) h.fits.0 parts).1 in
    h.other (sym (same_word 1 h.kind more h.rest (omega arith) h.fits.1 second).0)

stat_of_whole : (r : ReplyView) (bytes : List ℕ) → ReplyBytes r bytes → get_or bytes 11 0 ≤ 1
stat_of_whole (Accepted xid verf s) bytes h =
    let is : get_or bytes 11 0 ≡ 0 = ap (λ (t : List ℕ). get_or t 11 0) h.parts in omega (arith, is)
stat_of_whole (Denied xid w) bytes h =
    let is : get_or bytes 11 0 ≡ 1 = ap (λ (t : List ℕ). get_or t 11 0) h.parts in omega (arith, is)

stat_of_reply : (r : ReplyView) (bytes more : List ℕ) → bytes ≡ reply r ++ more → get_or bytes 11 0 ≤ 1
stat_of_reply (Accepted xid verf s) bytes more e =
    let is : get_or bytes 11 0 ≡ 0 = ap (λ (t : List ℕ). get_or t 11 0) e in omega (arith, is)
stat_of_reply (Denied xid w) bytes more e =
    let is : get_or bytes 11 0 ≡ 1 = ap (λ (t : List ℕ). get_or t 11 0) e in omega (arith, is)

stat_of_cut : (p : Place) (last bytes : List ℕ) → length last < 4 → 12 ≤ length bytes → bytes ≡ before p ++ last
    → get_or bytes 11 0 ≤ 1
stat_of_cut Xid last bytes lt many e = absurd (omega (arith, lt, many, ap length e))
stat_of_cut (MessageType xid) last bytes lt many e =
    let size : length bytes ≡ 4 + length last = ap length e ∙ length-append (before (MessageType xid)) last in
    absurd (omega (arith, lt, many, size))
stat_of_cut (ReplyStat xid) last bytes lt many e =
    let size : length bytes ≡ 8 + length last = ap length e ∙ length-append (before (ReplyStat xid)) last in
    absurd (omega (arith, lt, many, size))
stat_of_cut (AcceptStat xid verf) last bytes lt many e =
    let is : get_or bytes 11 0 ≡ 0 = ap (λ (t : List ℕ). get_or t 11 0) e in omega (arith, is)
stat_of_cut (AcceptLow xid verf) last bytes lt many e =
    let is : get_or bytes 11 0 ≡ 0 = ap (λ (t : List ℕ). get_or t 11 0) e in omega (arith, is)
stat_of_cut (AcceptHigh xid verf low) last bytes lt many e =
    let is : get_or bytes 11 0 ≡ 0 = ap (λ (t : List ℕ). get_or t 11 0) e in omega (arith, is)
stat_of_cut (RejectStat xid) last bytes lt many e =
    let is : get_or bytes 11 0 ≡ 1 = ap (λ (t : List ℕ). get_or t 11 0) e in omega (arith, is)
stat_of_cut (RejectLow xid) last bytes lt many e =
    let is : get_or bytes 11 0 ≡ 1 = ap (λ (t : List ℕ). get_or t 11 0) e in omega (arith, is)
stat_of_cut (RejectHigh xid low) last bytes lt many e =
    let is : get_or bytes 11 0 ≡ 1 = ap (λ (t : List ℕ). get_or t 11 0) e in omega (arith, is)
stat_of_cut (AuthStat xid) last bytes lt many e =
    let is : get_or bytes 11 0 ≡ 1 = ap (λ (t : List ℕ). get_or t 11 0) e in omega (arith, is)

no_stat : (b : ℕ) → b ≡ 2 → b ≤ 1 → ⊥
no_stat b two_is few = omega (arith, two_is, few)

-- A third word of 2 is no status.
stat_fault : (f : ReplyFault) (bytes : List ℕ) → bytes ≡ 0 ∷ 0 ∷ 0 ∷ 1 ∷ 0 ∷ 0 ∷ 0 ∷ 1 ∷ 0 ∷ 0 ∷ 0 ∷ 2 ∷ []
    → StandsIn f bytes → Is f faults.BadStatus
stat_fault faults.Truncated bytes e (inl h) = absurd (no_stat (get_or bytes 11 0)
    (ap (λ (t : List ℕ). get_or t 11 0) e)
    (stat_of_cut h.place h.last bytes h.short (omega (arith, ap length e)) h.parts))
stat_fault faults.Truncated bytes e (inr h) =
    let is : get_or bytes 11 0 ≡ 0 = ap (λ (t : List ℕ). get_or t 11 0) h.parts in
    absurd (no_stat (get_or bytes 11 0) (ap (λ (t : List ℕ). get_or t 11 0) e) (omega (arith, is)))
stat_fault faults.NoMemory bytes e h = inr refl
stat_fault faults.NotAReply bytes e h = absurd (no_other_kind (word 2) bytes e h)
stat_fault faults.BadStatus bytes e h = inl refl
stat_fault faults.BadAuth bytes e h =
    let is : get_or bytes 11 0 ≡ 0 = ap (λ (t : List ℕ). get_or t 11 0) h.parts in
    absurd (no_stat (get_or bytes 11 0) (ap (λ (t : List ℕ). get_or t 11 0) e) (omega (arith, is)))
stat_fault faults.Rest bytes e h = absurd (no_stat (get_or bytes 11 0) (ap (λ (t : List ℕ). get_or t 11 0) e)
    (stat_of_reply h.r bytes (h.byte ∷ h.rest) h.parts))

pub is_bad_status : (r : Result Reply ReplyFault) (bytes : List ℕ)
    → bytes ≡ 0 ∷ 0 ∷ 0 ∷ 1 ∷ 0 ∷ 0 ∷ 0 ∷ 1 ∷ 0 ∷ 0 ∷ 0 ∷ 2 ∷ []
    → IfOk r (λ x. ReplyBytes (reply_view x) bytes) → IfErr r (λ f. StandsIn f bytes) → Fails r faults.BadStatus
is_bad_status (Err f) bytes e found h = stat_fault f bytes e h
is_bad_status (Ok x) bytes e found h = no_stat (get_or bytes 11 0) (ap (λ (t : List ℕ). get_or t 11 0) e)
    (stat_of_whole (reply_view x) bytes found)
