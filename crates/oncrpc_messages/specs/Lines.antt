-- The line that stands over each message, as text and as JSON (RFC 5531 sections 8.2 and 9).
use Rattle.std.specs.Prelude.{ℕ, ◌==◌, List, [], ◌∷◌, ◌++◌, codes, decimal, Option, None, Some, if◌then◌else◌}
use Rattle.std.specs.Prelude.{slice_get}
use Rattle.rpc_message.specs.Message.{CallView, ReplyView, StatusView, WhyView, Accepted, Denied, Success, ProgUnavail}
use Rattle.rpc_message.specs.Message.{ProgMismatch, ProcUnavail, GarbageArgs, SystemErr, RpcMismatch, AuthError}
use Rattle.oncrpc_messages.specs.declared.asked.Asked.{Asked}
use Rattle.oncrpc_messages.specs.declared.form.Form.{Form}
use Rattle.oncrpc_messages.specs.declared.form.Form.TheVariants as form

-- ---- a procedure

-- its program, version and number: with a dot between two, as a procedure is named, or as members of a JSON object
abbrev pub numbers_text : Form → (program version procedure : ℕ) → List ℕ
numbers_text form.Lines program version procedure =
    codes " " ++ decimal program ++ codes "." ++ decimal version ++ codes "." ++ decimal procedure
numbers_text form.Json program version procedure =
    codes ",\"program\":" ++ decimal program ++ codes ",\"version\":" ++ decimal version
    ++ codes ",\"procedure\":" ++ decimal procedure

-- its own name
abbrev pub name_part : Form → (name : List ℕ) → List ℕ
name_part form.Lines name = codes " " ++ name
name_part form.Json name = codes ",\"name\":\"" ++ name ++ codes "\""

-- its numbers, and its name where it is declared
abbrev pub target_text : Form → (program version procedure : ℕ) → (name : Option (List ℕ)) → List ℕ
target_text form program version procedure None = numbers_text form program version procedure
target_text form program version procedure (Some name) =
    numbers_text form program version procedure ++ name_part form name

-- ---- a call

-- the name of a flavor (RFC 5531 section 8.2; RFC 2203 section 3), or its number
abbrev pub flavor_text : ℕ → List ℕ
flavor_text flavor =
    if flavor == 0 then codes "AUTH_NONE" else if flavor == 1 then codes "AUTH_SYS" else
    if flavor == 2 then codes "AUTH_SHORT" else if flavor == 3 then codes "AUTH_DH" else
    if flavor == 6 then codes "RPCSEC_GSS" else codes "flavor " ++ decimal flavor

-- the front of a call: its xid and its procedure
abbrev pub call_front : Form → CallView → (name : Option (List ℕ)) → List ℕ
call_front form.Lines c name = codes "call " ++ decimal c.xid ++ target_text form.Lines c.prog c.vers c.proc name
call_front form.Json c name =
    codes "{\"type\":\"call\",\"xid\":" ++ decimal c.xid ++ target_text form.Json c.prog c.vers c.proc name

-- the flavor of its credential
abbrev pub flavor_part : Form → (flavor : ℕ) → List ℕ
flavor_part form.Lines flavor = codes " " ++ flavor_text flavor
flavor_part form.Json flavor = codes ",\"flavor\":\"" ++ flavor_text flavor ++ codes "\""

-- what stands before the fields of a credential
abbrev pub fields_key : Form → List ℕ
fields_key form.Lines = codes " "
fields_key form.Json = codes ",\"credential\":"

-- its credential: the flavor, and of AUTH_SYS the fields as JSON where they can be read
abbrev pub cred_text : Form → (flavor : ℕ) → (fields : Option (List ℕ)) → List ℕ
cred_text form flavor None = flavor_part form flavor
cred_text form flavor (Some fields) = flavor_part form flavor ++ (fields_key form ++ fields)

-- ---- a reply

-- the status of a call that was accepted (RFC 5531 section 9)
abbrev pub status_text : StatusView → List ℕ
status_text (Success results) = codes "SUCCESS"
status_text ProgUnavail = codes "PROG_UNAVAIL"
status_text (ProgMismatch low high) = codes "PROG_MISMATCH " ++ decimal low ++ codes " " ++ decimal high
status_text ProcUnavail = codes "PROC_UNAVAIL"
status_text GarbageArgs = codes "GARBAGE_ARGS"
status_text SystemErr = codes "SYSTEM_ERR"

-- why a call was denied (RFC 5531 section 9)
abbrev pub why_text : WhyView → List ℕ
why_text (RpcMismatch low high) = codes "RPC_MISMATCH " ++ decimal low ++ codes " " ++ decimal high
why_text (AuthError stat) = codes "AUTH_ERROR " ++ decimal stat

abbrev pub ending_text : ReplyView → List ℕ
ending_text (Accepted xid verf s) = status_text s
ending_text (Denied xid w) = why_text w

abbrev pub xid_of : ReplyView → ℕ
xid_of (Accepted xid verf s) = xid
xid_of (Denied xid w) = xid

-- the procedure of the call to which it answers, or that no call of its xid is known
abbrev pub known_text : Form → Option Asked → (name : Option (List ℕ)) → List ℕ
known_text form.Lines None name = codes " no call"
known_text form.Json None name = codes ",\"call\":false"
known_text f (Some a) name = target_text f a.program a.version a.procedure name

-- an xid, a procedure and a status
abbrev pub reply_line : Form → (xid : ℕ) → (target ending : List ℕ) → List ℕ
reply_line form.Lines xid target ending = codes "reply " ++ decimal xid ++ target ++ codes " " ++ ending
reply_line form.Json xid target ending =
    codes "{\"type\":\"reply\",\"xid\":" ++ decimal xid ++ target ++ codes ",\"status\":\"" ++ ending ++ codes "\""

-- the front of a reply: its xid, the procedure, and the status
abbrev pub reply_front : Form → ReplyView → Option Asked → (name : Option (List ℕ)) → List ℕ
reply_front form r asked name = reply_line form (xid_of r) (known_text form asked name) (ending_text r)

-- ---- what is neither

abbrev pub record_front : Form → List ℕ
record_front form.Lines = codes "record"
record_front form.Json = codes "{\"type\":\"record\""
