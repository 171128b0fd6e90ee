-- The types by which the head of a message and a credential of AUTH_SYS are judged (RFC 5531 section 9, appendix A).
use Rattle.std.specs.Prelude.{◌≡◌, ℕ, List, ◌++◌, Some, codes}
use Rattle.xdr_types.specs.Kinds.{KindView}
use Rattle.xdr_types.specs.Named.{place_named}
use Rattle.xdr_lang.specs.Declarations.{Declared}
use Rattle.xdr_lang.specs.Means.{Means}
use Rattle.xdr_lang.specs.Views.{declared_of}
use Rattle.oncrpc_messages.specs.declared.heads.Heads as code

-- the declarations of RFC 5531, up to what a procedure has, in which the version of RPC is the one number 2, and a
-- flavor and an auth_stat are any number

-- the enumerations (section 9)
abbrev pub enums_text : List ℕ
enums_text =
    codes "enum rpc_version { RPC_VERSION = 2 };\n"
    ++ codes "enum msg_type { CALL = 0, REPLY = 1 };\n"
    ++ codes "enum reply_stat { MSG_ACCEPTED = 0, MSG_DENIED = 1 };\n"
    ++ codes "enum accept_stat { SUCCESS = 0, PROG_UNAVAIL = 1, PROG_MISMATCH = 2, PROC_UNAVAIL = 3,\n"
    ++ codes "    GARBAGE_ARGS = 4, SYSTEM_ERR = 5 };\n"
    ++ codes "enum reject_stat { RPC_MISMATCH = 0, AUTH_ERROR = 1 };\n"

abbrev pub auth_line : List ℕ
auth_line = codes "struct opaque_auth { unsigned int flavor; opaque body<400>; };\n"

abbrev pub call_line : List ℕ
call_line = codes "struct call_body { rpc_version rpcvers; unsigned int prog; unsigned int vers;\n"

abbrev pub procedure_line : List ℕ
procedure_line = codes "    unsigned int proc; opaque_auth cred; opaque_auth verf; };\n"

abbrev pub reply_line : List ℕ
reply_line = codes "union reply_body switch (reply_stat stat) {\n"

abbrev pub accepted_line : List ℕ
accepted_line = codes "    case MSG_ACCEPTED: accepted_reply areply; case MSG_DENIED: rejected_reply rreply; };\n"

abbrev pub body_line : List ℕ
body_line =
    codes "union rpc_body switch (msg_type mtype) { case CALL: call_body cbody; case REPLY: reply_body rbody; };\n"

abbrev pub message_line : List ℕ
message_line = codes "struct rpc_msg { unsigned int xid; rpc_body body; };\n"

-- a credential, and a call before its arguments (sections 8.2 and 9)
abbrev pub calls_text : List ℕ
calls_text =
    auth_line
    ++ call_line
    ++ procedure_line

-- a reply before its results (section 9)
abbrev pub replies_text : List ℕ
replies_text =
    codes "struct mismatch { unsigned int low; unsigned int high; };\n"
    ++ codes "union reply_data switch (accept_stat stat) {\n"
    ++ codes "    case PROG_MISMATCH: mismatch mismatch_info; default: void; };\n"
    ++ codes "struct accepted_reply { opaque_auth verf; reply_data data; };\n"
    ++ codes "union rejected_reply switch (reject_stat stat) {\n"
    ++ codes "    case RPC_MISMATCH: mismatch mismatch_info; case AUTH_ERROR: unsigned int auth_error; };\n"

abbrev pub names_line : List ℕ
names_line = codes "struct authsys_parms { unsigned int stamp; string machinename<255>; unsigned int uid;\n"

abbrev pub groups_line : List ℕ
groups_line = codes "    unsigned int gid; unsigned int gids<16>; };\n"

-- a message (section 9), and the body of AUTH_SYS (appendix A)
abbrev pub bodies_text : List ℕ
bodies_text = reply_line ++ accepted_line ++ body_line

abbrev pub ends_text : List ℕ
ends_text = message_line ++ names_line ++ groups_line

-- all of them
abbrev pub firsts_text : List ℕ
firsts_text = enums_text ++ calls_text ++ replies_text

abbrev pub head_text : List ℕ
head_text = firsts_text ++ (bodies_text ++ ends_text)

-- The kinds of a text, and the places among them of a message's head and of the body of AUTH_SYS.
pub record Heads : Type 0 where
  pub kinds : List KindView
  pub message : ℕ
  pub auth_sys : ℕ

abbrev pub heads_of : code.Heads → Heads
heads_of h = record { kinds = h.declared.schema.kinds; message = h.message.place; auth_sys = h.auth_sys.place }

-- The kinds are those that the text declares, and the places those of the two types.
pub record AreHeads (h : code.Heads) : Type 0 where
  pub means : Means head_text (declared_of h.declared)
  pub message : place_named h.declared.schema.names (codes "rpc_msg") ≡ Some h.message.place
  pub auth_sys : place_named h.declared.schema.names (codes "authsys_parms") ≡ Some h.auth_sys.place
