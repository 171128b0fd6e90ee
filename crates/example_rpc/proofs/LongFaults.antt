-- Which fault stands behind a long verifier, and which behind a denial.
use Rattle.std.proofs.Common.{◌≡◌, ℕ, ◌+◌, ◌<◌, List, [], ◌∷◌, ◌++◌, length, drop, get_or, Result, Ok, Err, refl, sym}
use Rattle.std.proofs.Common.{ap, ◌∙◌, arith, inl, inr, append_assoc, length-append, replicate}
use Rattle.std.specs.Prelude.{IfOk, IfErr}
use Rattle.std.proofs.lemmas.List.{append-nil}
use Rattle.xdr_units.specs.Numbers.{word, IsWord}
use Rattle.xdr_units.proofs.Bytes.{same_word}
use Rattle.rpc_message.specs.Message.{AuthView, ReplyView, Accepted, Denied, RpcMismatch, AuthError}
use Rattle.rpc_message.specs.declared.fault.ReplyFault.{ReplyFault}
use Rattle.rpc_message.specs.declared.fault.ReplyFault.TheVariants as faults
use Rattle.rpc_message.specs.declared.message.Reply.{Reply}
use Rattle.rpc_message.specs.View.{reply_view}
use Rattle.rpc_message.specs.Spelling.{auth, reply, status, IsAuth, IsReply, ReplyBytes}
use Rattle.rpc_message.specs.Faults.{Place, Xid, MessageType, ReplyStat, AcceptStat, AcceptLow, AcceptHigh, RejectStat}
use Rattle.rpc_message.specs.Faults.{RejectLow, RejectHigh, AuthStat, before, IsPlace, IsNoStatus, IsCutAuth, StandsIn}
use Rattle.example_rpc.proofs.Reported.{long_is_no_auth}
use Rattle.example_rpc.proofs.Faults.{Is, Fails, no_kind, no_other_kind}

abbrev pub long_front : List ℕ
long_front = 0 ∷ 0 ∷ 0 ∷ 1 ∷ 0 ∷ 0 ∷ 0 ∷ 1 ∷ 0 ∷ 0 ∷ 0 ∷ 0 ∷ 0 ∷ 0 ∷ 0 ∷ 0 ∷ 0 ∷ 0 ∷ 1 ∷ 145 ∷ []

-- No verifier stands behind its third word.
no_verf : (a : AuthView) (bytes rest : List ℕ) → bytes ≡ long_front → IsAuth a → drop 12 bytes ≡ auth a ++ rest → ⊥
no_verf a bytes rest e fits behind = long_is_no_auth a rest fits (ap (drop 12) (sym e) ∙ behind)

not_denied : (bytes : List ℕ) → bytes ≡ long_front → get_or bytes 11 0 ≡ 1 → ⊥
not_denied bytes e one_is = no_kind (get_or bytes 11 0) (ap (λ (t : List ℕ). get_or t 11 0) e) one_is

long_whole : (r : ReplyView) (bytes more : List ℕ) → bytes ≡ long_front → IsReply r → bytes ≡ reply r ++ more → ⊥
long_whole (Accepted xid verf s) bytes more e fits h =
    no_verf verf bytes (status s ++ more) e fits.1 (ap (drop 12) h ∙ append_assoc (auth verf) (status s) more)
long_whole (Denied xid w) bytes more e fits h = not_denied bytes e (ap (λ (t : List ℕ). get_or t 11 0) h)

long_cut : (p : Place) (last bytes : List ℕ) → bytes ≡ long_front → length last < 4 → IsPlace p
    → bytes ≡ before p ++ last → ⊥
long_cut Xid last bytes e lt fits h = omega (arith, lt, ap length e, ap length h)
long_cut (MessageType xid) last bytes e lt fits h =
    let size : length bytes ≡ 4 + length last = ap length h ∙ length-append (before (MessageType xid)) last in
    omega (arith, lt, ap length e, size)
long_cut (ReplyStat xid) last bytes e lt fits h =
    let size : length bytes ≡ 8 + length last = ap length h ∙ length-append (before (ReplyStat xid)) last in
    omega (arith, lt, ap length e, size)
long_cut (AcceptStat xid verf) last bytes e lt fits h = no_verf verf bytes last e fits.1 (ap (drop 12) h)
long_cut (AcceptLow xid verf) last bytes e lt fits h =
    no_verf verf bytes (word 2 ++ last) e fits.1 (ap (drop 12) h ∙ append_assoc (auth verf) (word 2) last)
long_cut (AcceptHigh xid verf low) last bytes e lt fits h =
    no_verf verf bytes (word 2 ++ (word low ++ last)) e fits.1
    (ap (drop 12) h ∙ append_assoc (auth verf ++ word 2) (word low) last
    ∙ append_assoc (auth verf) (word 2) (word low ++ last))
long_cut (RejectStat xid) last bytes e lt fits h = not_denied bytes e (ap (λ (t : List ℕ). get_or t 11 0) h)
long_cut (RejectLow xid) last bytes e lt fits h = not_denied bytes e (ap (λ (t : List ℕ). get_or t 11 0) h)
long_cut (RejectHigh xid low) last bytes e lt fits h = not_denied bytes e (ap (λ (t : List ℕ). get_or t 11 0) h)
long_cut (AuthStat xid) last bytes e lt fits h = not_denied bytes e (ap (λ (t : List ℕ). get_or t 11 0) h)

-- its length is whole, and it has no body that could be cut
long_is_not_cut : (rest : List ℕ) → word 0 ++ word 401 ≡ rest → IsCutAuth rest → ⊥
long_is_not_cut rest e (inl h) = omega (arith, h, ap length (sym e))
long_is_not_cut rest e (inr (inl h)) =
    let size : length rest ≡ 4 + length h.last = ap length h.parts ∙ length-append (word h.flavor) h.last in
    omega (arith, h.short, size, ap length (sym e))
long_is_not_cut rest e (inr (inr (inl h))) =
    let behind = (same_word 0 h.flavor (word 401) (word h.count ++ h.body) (omega arith) h.fits (e ∙ h.parts)).1 in
    let size : 401 ≡ h.count = (same_word 401 h.count [] h.body (omega arith) (omega (arith, h.few)) behind).0 in
    omega (arith, size, h.few)
long_is_not_cut rest e (inr (inr (inr h))) =
    let behind = (same_word 0 h.a.flavor (word 401) (word (length h.a.body) ++ (h.a.body ++ replicate h.zeros 0))
    (omega arith) h.fits.flavor (e ∙ h.parts)).1 in
    let size : 401 ≡ length h.a.body = (same_word 401 (length h.a.body) [] (h.a.body ++ replicate h.zeros 0)
    (omega arith) (omega (arith, h.fits.short)) behind).0 in
    omega (arith, size, h.fits.short)

long_status : (p : Place) (stat : ℕ) (bytes rest : List ℕ) → bytes ≡ long_front → IsPlace p → IsWord stat
    → IsNoStatus p stat → bytes ≡ before p ++ (word stat ++ rest) → ⊥
long_status Xid stat bytes rest e p w n h = n
long_status (MessageType xid) stat bytes rest e p w n h = n
long_status (ReplyStat xid) stat bytes rest e p w n h =
    let behind : word 0 ++ (word 0 ++ word 401) ≡ word stat ++ rest = ap (drop 8) (sym e) ∙ ap (drop 8) h in
    let is : 0 ≡ stat = (same_word 0 stat (word 0 ++ word 401) rest (omega arith) w behind).0 in
    omega (arith, is, n)
long_status (AcceptStat xid verf) stat bytes rest e p w n h =
    no_verf verf bytes (word stat ++ rest) e p.1 (ap (drop 12) h)
long_status (AcceptLow xid verf) stat bytes rest e p w n h = n
long_status (AcceptHigh xid verf low) stat bytes rest e p w n h = n
long_status (RejectStat xid) stat bytes rest e p w n h = not_denied bytes e (ap (λ (t : List ℕ). get_or t 11 0) h)
long_status (RejectLow xid) stat bytes rest e p w n h = n
long_status (RejectHigh xid low) stat bytes rest e p w n h = n
long_status (AuthStat xid) stat bytes rest e p w n h = n

long_fault : (f : ReplyFault) (bytes : List ℕ) → bytes ≡ long_front → StandsIn f bytes → Is f faults.BadAuth
long_fault faults.Truncated bytes e (inl h) = absurd (long_cut h.place h.last bytes e h.short h.fits h.parts)
long_fault faults.Truncated bytes e (inr h) =
    absurd (long_is_not_cut h.rest (ap (drop 12) (sym e) ∙ ap (drop 12) h.parts) h.cut)
long_fault faults.NoMemory bytes e h = inr refl
long_fault faults.NotAReply bytes e h = absurd (no_other_kind (word 0 ++ (word 0 ++ word 401)) bytes e h)
long_fault faults.BadStatus bytes e h =
    absurd (long_status h.place h.stat bytes h.rest e h.fits.0 h.fits.1 h.none h.parts)
long_fault faults.BadAuth bytes e h = inl refl
long_fault faults.Rest bytes e h = absurd (long_whole h.r bytes (h.byte ∷ h.rest) e h.fits h.parts)

pub is_bad_auth : (r : Result Reply ReplyFault) (bytes : List ℕ) → bytes ≡ long_front
    → IfOk r (λ x. ReplyBytes (reply_view x) bytes) → IfErr r (λ f. StandsIn f bytes) → Fails r faults.BadAuth
is_bad_auth (Err f) bytes e found h = long_fault f bytes e h
is_bad_auth (Ok x) bytes e found h =
    long_whole (reply_view x) bytes [] e found.fits (found.parts ∙ sym (append-nil (reply (reply_view x))))

abbrev pub denial_and_more : List ℕ
denial_and_more = 0 ∷ 0 ∷ 0 ∷ 1 ∷ 0 ∷ 0 ∷ 0 ∷ 1 ∷ 0 ∷ 0 ∷ 0 ∷ 1 ∷ 0 ∷ 0 ∷ 0 ∷ 1 ∷ 0 ∷ 0 ∷ 0 ∷ 1 ∷ 0 ∷ []

not_accepted : (bytes : List ℕ) → bytes ≡ denial_and_more → get_or bytes 11 0 ≡ 0 → ⊥
not_accepted bytes e zero_is = no_kind (get_or bytes 11 0) zero_is (ap (λ (t : List ℕ). get_or t 11 0) e)

not_of_version : (bytes : List ℕ) → bytes ≡ denial_and_more → get_or bytes 15 0 ≡ 0 → ⊥
not_of_version bytes e zero_is = no_kind (get_or bytes 15 0) zero_is (ap (λ (t : List ℕ). get_or t 15 0) e)

denial_whole : (r : ReplyView) (bytes : List ℕ) → bytes ≡ denial_and_more → bytes ≡ reply r → ⊥
denial_whole (Accepted xid verf s) bytes e h = not_accepted bytes e (ap (λ (t : List ℕ). get_or t 11 0) h)
denial_whole (Denied xid (RpcMismatch low high)) bytes e h =
    not_of_version bytes e (ap (λ (t : List ℕ). get_or t 15 0) h)
denial_whole (Denied xid (AuthError stat)) bytes e h = omega (arith, ap length e, ap length h)

denial_cut : (p : Place) (last bytes : List ℕ) → bytes ≡ denial_and_more → length last < 4 → bytes ≡ before p ++ last
    → ⊥
denial_cut Xid last bytes e lt h = omega (arith, lt, ap length e, ap length h)
denial_cut (MessageType xid) last bytes e lt h =
    let size : length bytes ≡ 4 + length last = ap length h ∙ length-append (before (MessageType xid)) last in
    omega (arith, lt, ap length e, size)
denial_cut (ReplyStat xid) last bytes e lt h =
    let size : length bytes ≡ 8 + length last = ap length h ∙ length-append (before (ReplyStat xid)) last in
    omega (arith, lt, ap length e, size)
denial_cut (AcceptStat xid verf) last bytes e lt h = not_accepted bytes e (ap (λ (t : List ℕ). get_or t 11 0) h)
denial_cut (AcceptLow xid verf) last bytes e lt h = not_accepted bytes e (ap (λ (t : List ℕ). get_or t 11 0) h)
denial_cut (AcceptHigh xid verf low) last bytes e lt h = not_accepted bytes e (ap (λ (t : List ℕ). get_or t 11 0) h)
denial_cut (RejectStat xid) last bytes e lt h =
    let size : length bytes ≡ 12 + length last = ap length h ∙ length-append (before (RejectStat xid)) last in
    omega (arith, lt, ap length e, size)
denial_cut (RejectLow xid) last bytes e lt h = not_of_version bytes e (ap (λ (t : List ℕ). get_or t 15 0) h)
denial_cut (RejectHigh xid low) last bytes e lt h = not_of_version bytes e (ap (λ (t : List ℕ). get_or t 15 0) h)
denial_cut (AuthStat xid) last bytes e lt h =
    let size : length bytes ≡ 16 + length last = ap length h ∙ length-append (before (AuthStat xid)) last in
    omega (arith, lt, ap length e, size)

denial_status : (p : Place) (stat : ℕ) (bytes rest : List ℕ) → bytes ≡ denial_and_more → IsWord stat
    → IsNoStatus p stat → bytes ≡ before p ++ (word stat ++ rest) → ⊥
denial_status Xid stat bytes rest e w n h = n
denial_status (MessageType xid) stat bytes rest e w n h = n
denial_status (ReplyStat xid) stat bytes rest e w n h =
    let behind : word 1 ++ (word 1 ++ word 1 ++ 0 ∷ []) ≡ word stat ++ rest = ap (drop 8) (sym e) ∙ ap (drop 8) h in
    let is : 1 ≡ stat = (same_word 1 stat (word 1 ++ word 1 ++ 0 ∷ []) rest (omega arith) w behind).0 in
    omega (arith, is, n)
denial_status (AcceptStat xid verf) stat bytes rest e w n h =
    not_accepted bytes e (ap (λ (t : List ℕ). get_or t 11 0) h)
denial_status (AcceptLow xid verf) stat bytes rest e w n h = n
denial_status (AcceptHigh xid verf low) stat bytes rest e w n h = n
denial_status (RejectStat xid) stat bytes rest e w n h =
    let behind : word 1 ++ (word 1 ++ 0 ∷ []) ≡ word stat ++ rest = ap (drop 12) (sym e) ∙ ap (drop 12) h in
    let is : 1 ≡ stat = (same_word 1 stat (word 1 ++ 0 ∷ []) rest (omega arith) w behind).0 in
    omega (arith, is, n)
denial_status (RejectLow xid) stat bytes rest e w n h = n
denial_status (RejectHigh xid low) stat bytes rest e w n h = n
denial_status (AuthStat xid) stat bytes rest e w n h = n

denial_fault : (f : ReplyFault) (bytes : List ℕ) → bytes ≡ denial_and_more → StandsIn f bytes → Is f faults.Rest
denial_fault faults.Truncated bytes e (inl h) = absurd (denial_cut h.place h.last bytes e h.short h.parts)
denial_fault faults.Truncated bytes e (inr h) =
    absurd (not_accepted bytes e (ap (λ (t : List ℕ). get_or t 11 0) h.parts))
denial_fault faults.NoMemory bytes e h = inr refl
denial_fault faults.NotAReply bytes e h = absurd (no_other_kind (word 1 ++ word 1 ++ word 1 ++ 0 ∷ []) bytes e h)
denial_fault faults.BadStatus bytes e h =
    absurd (denial_status h.place h.stat bytes h.rest e h.fits.1 h.none h.parts)
denial_fault faults.BadAuth bytes e h = absurd (not_accepted bytes e (ap (λ (t : List ℕ). get_or t 11 0) h.parts))
denial_fault faults.Rest bytes e h = inl refl

pub is_rest : (r : Result Reply ReplyFault) (bytes : List ℕ) → bytes ≡ denial_and_more
    → IfOk r (λ x. ReplyBytes (reply_view x) bytes) → IfErr r (λ f. StandsIn f bytes) → Fails r faults.Rest
is_rest (Err f) bytes e found h = denial_fault f bytes e h
is_rest (Ok x) bytes e found h = denial_whole (reply_view x) bytes e found.parts
