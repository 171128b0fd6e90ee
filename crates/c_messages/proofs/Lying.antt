-- Where the parts of a message lie in it.
use Rattle.std.proofs.Common.{◌≡◌, ℕ, ◌+◌, List, [], ◌++◌, length, drop, refl, ap, ◌∙◌, arith}
use Rattle.std.proofs.Common.{append_assoc, append-nil}
use Rattle.std.specs.List.{flat_map}
use Rattle.std.proofs.lemmas.List.{length-append, length-replicate}
use Rattle.std.proofs.Math.Seq.{drop-append_seam, take-append_seam}
use Rattle.xdr_units.specs.Numbers.{gap, pad, padded, word}
use Rattle.rpc_message.specs.Message.{CallView, CaseView, Whole, OtherVersion, BadCred, BadVerf, NotACall}
use Rattle.rpc_message.specs.Message.{AuthSysView, ReplyView, Accepted, Denied, Success, ProgUnavail, ProgMismatch}
use Rattle.rpc_message.specs.Message.{ProcUnavail, GarbageArgs, SystemErr, RpcMismatch, AuthError}
use Rattle.rpc_message.specs.Spelling.{auth, AuthSysBytes, CallBytes, ReplyBytes}
use Rattle.rpc_message.specs.Cases.{IsCase}
use Rattle.c_messages.specs.Parts.{LiesAt, part, none, padded_size}
use Rattle.c_messages.specs.Replies.{results_of}
use Rattle.c_messages.specs.Replies.{reported_of as reply_reported}
use Rattle.c_messages.specs.Calls.{AreShort}

-- a part behind so many bytes
pub lies : (bytes before these behind : List ℕ) (at : ℕ) → bytes ≡ before ++ (these ++ behind) → at ≡ length before
    → LiesAt bytes (part at these) these
lies bytes before these behind at e size =
    let all : length bytes ≡ length before + (length these + length behind) =
    ap length e ∙ length-append before (these ++ behind)
    ∙ ap (λ (n : ℕ). length before + n) (length-append these behind)
    in
    let there : drop at bytes ≡ these ++ behind = rw (e, size) (drop-append_seam before (these ++ behind)) in
    record { within = omega arith; same = rw there (take-append_seam these behind) }

-- the size of padded bytes
pub padded_long : (bytes : List ℕ) → length (padded bytes) ≡ padded_size (length bytes)
padded_long bytes =
    length-append bytes (pad (length bytes))
    ∙ ap (λ (n : ℕ). length bytes + n) (length-replicate (gap (length bytes)) 0)

abbrev front : CallView → List ℕ
front c = word c.xid ++ word 0 ++ word 2 ++ word c.prog ++ word c.vers ++ word c.proc

pub credential_lies : (c : CallView) (bytes : List ℕ) → CallBytes c bytes
    → LiesAt bytes (part 32 c.cred.body) c.cred.body
credential_lies c bytes h =
    let before = front c ++ (word c.cred.flavor ++ word (length c.cred.body)) in
    let behind = pad (length c.cred.body) ++ (auth c.verf ++ c.args) in
    let parts : bytes ≡ before ++ (c.cred.body ++ behind) = h.parts ∙ simp append_assoc in
    lies bytes before c.cred.body behind 32 parts refl

pub verifier_lies : (c : CallView) (bytes : List ℕ) → CallBytes c bytes
    → LiesAt bytes (part (40 + padded_size (length c.cred.body)) c.verf.body) c.verf.body
verifier_lies c bytes h =
    let before = (front c ++ (word c.cred.flavor ++ word (length c.cred.body)))
    ++ (padded c.cred.body ++ (word c.verf.flavor ++ word (length c.verf.body))) in
    let parts : bytes ≡ before ++ (c.verf.body ++ (pad (length c.verf.body) ++ c.args)) =
    h.parts ∙ simp append_assoc in
    let size : length before ≡ 32 + (length (padded c.cred.body) + 8) =
    length-append (front c ++ (word c.cred.flavor ++ word (length c.cred.body)))
    (padded c.cred.body ++ (word c.verf.flavor ++ word (length c.verf.body)))
    ∙ ap (λ (n : ℕ). 32 + n) (length-append (padded c.cred.body) (word c.verf.flavor ++ word (length c.verf.body))) in
    lies bytes before c.verf.body (pad (length c.verf.body) ++ c.args) _ parts
    (omega (arith, size, padded_long c.cred.body))

pub arguments_lie : (c : CallView) (bytes : List ℕ) → CallBytes c bytes
    → LiesAt bytes (part (40 + padded_size (length c.cred.body) + padded_size (length c.verf.body)) c.args) c.args
arguments_lie c bytes h =
    let first = front c ++ (word c.cred.flavor ++ word (length c.cred.body)) in
    let middle = padded c.cred.body ++ (word c.verf.flavor ++ word (length c.verf.body)) in
    let before = first ++ (middle ++ padded c.verf.body) in
    let parts : bytes ≡ before ++ (c.args ++ []) = h.parts ∙ simp (append_assoc, append-nil {A = ℕ}) in
    let outer : length before ≡ 32 + length (middle ++ padded c.verf.body) =
    length-append first (middle ++ padded c.verf.body) in
    let inner : length (middle ++ padded c.verf.body) ≡ length middle + length (padded c.verf.body) =
    length-append middle (padded c.verf.body) in
    let size : length middle ≡ length (padded c.cred.body) + 8 =
    length-append (padded c.cred.body) (word c.verf.flavor ++ word (length c.verf.body)) in
    lies bytes before c.args [] _ parts
    (omega (arith, outer, inner, size, padded_long c.cred.body, padded_long c.verf.body))

-- a call that is whole has short bodies
pub short_case : (bytes : List ℕ) (k : CaseView) → IsCase bytes k → AreShort k
short_case bytes (Whole c) h = (h.fits.cred.short, h.fits.verf.short)
short_case bytes (OtherVersion xid version) h = tt
short_case bytes (BadCred xid) h = tt
short_case bytes (BadVerf xid) h = tt
short_case bytes NotACall h = tt

-- nothing lies anywhere
none_lies : (bytes : List ℕ) → LiesAt bytes none []
none_lies bytes = record { within = omega arith; same = refl }

pub results_lie : (r : ReplyView) (bytes : List ℕ) → ReplyBytes r bytes
    → LiesAt bytes (reply_reported r).results (results_of r)
results_lie (Accepted xid verf (Success results)) bytes h =
    let first = word xid ++ word 1 ++ word 0 ++ (word verf.flavor ++ word (length verf.body)) in
    let before = first ++ (padded verf.body ++ word 0) in
    let parts : bytes ≡ before ++ (results ++ []) = h.parts ∙ simp (append_assoc, append-nil {A = ℕ}) in
    let size : length before ≡ 20 + (length (padded verf.body) + 4) =
    length-append first (padded verf.body ++ word 0)
    ∙ ap (λ (n : ℕ). 20 + n) (length-append (padded verf.body) (word 0)) in
    lies bytes before results [] _ parts (omega (arith, size, padded_long verf.body))
results_lie (Accepted xid verf ProgUnavail) bytes h = none_lies bytes
results_lie (Accepted xid verf (ProgMismatch low high)) bytes h = none_lies bytes
results_lie (Accepted xid verf ProcUnavail) bytes h = none_lies bytes
results_lie (Accepted xid verf GarbageArgs) bytes h = none_lies bytes
results_lie (Accepted xid verf SystemErr) bytes h = none_lies bytes
results_lie (Denied xid (RpcMismatch low high)) bytes h = none_lies bytes
results_lie (Denied xid (AuthError stat)) bytes h = none_lies bytes

-- the machine name of AUTH_SYS is behind two numbers
pub machine_lies : (a : AuthSysView) (bytes : List ℕ) → AuthSysBytes a bytes → LiesAt bytes (part 8 a.machine) a.machine
machine_lies a bytes h =
    let before = word a.stamp ++ word (length a.machine) in
    let behind = pad (length a.machine)
    ++ (word a.uid ++ word a.gid ++ word (length a.gids) ++ flat_map word a.gids) in
    let parts : bytes ≡ before ++ (a.machine ++ behind) = h.parts ∙ simp append_assoc in
    lies bytes before a.machine behind 8 parts refl
