-- The numbers that messages carry, by the names of RFC 5531.
use Rattle.std.specs.Prelude.{ℕ}

-- ---- the version of RPC (section 9)

abbrev pub rpc_version : ℕ
rpc_version = 2

-- ---- msg_type: CALL and REPLY (section 9)

abbrev pub call_type : ℕ
call_type = 0

abbrev pub reply_type : ℕ
reply_type = 1

-- ---- reply_stat (section 9)

abbrev pub msg_accepted : ℕ
msg_accepted = 0

abbrev pub msg_denied : ℕ
msg_denied = 1

-- ---- accept_stat (section 9)

abbrev pub success : ℕ
success = 0

abbrev pub prog_unavail : ℕ
prog_unavail = 1

abbrev pub prog_mismatch : ℕ
prog_mismatch = 2

abbrev pub proc_unavail : ℕ
proc_unavail = 3

abbrev pub garbage_args : ℕ
garbage_args = 4

abbrev pub system_err : ℕ
system_err = 5

-- ---- reject_stat (section 9)

abbrev pub rpc_mismatch : ℕ
rpc_mismatch = 0

abbrev pub auth_error : ℕ
auth_error = 1

-- ---- auth_stat, the ones that the registry answers (section 9)

abbrev pub auth_badcred : ℕ
auth_badcred = 1

abbrev pub auth_rejectedcred : ℕ
auth_rejectedcred = 2

abbrev pub auth_badverf : ℕ
auth_badverf = 3

-- ---- auth_flavor, the ones that the registry knows (section 8.2)

abbrev pub auth_none : ℕ
auth_none = 0

abbrev pub auth_sys_flavor : ℕ
auth_sys_flavor = 1
