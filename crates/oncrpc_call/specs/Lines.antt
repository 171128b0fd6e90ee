-- The lines that say why a call has no result.
use Rattle.std.specs.Prelude.{ℕ, List, [], ◌∷◌, ◌++◌, Option, None, Some, codes, decimal, slice_get}
use Rattle.xdr_stream.specs.declared.fault.DecodeFault.{DecodeFault}
use Rattle.rpc_message.specs.Message.{WhyView, RpcMismatch, AuthError}
use Rattle.oncrpc_answers.specs.declared.answer.Answer.TheVariants as answer
use Rattle.oncrpc_answers.specs.Lines.{line}

-- the names of auth_stat, in the order of their numbers from 0 (RFC 5531 section 9)
abbrev pub auth_stat_names : List (List ℕ)
auth_stat_names =
    codes "AUTH_OK" ∷ codes "AUTH_BADCRED" ∷ codes "AUTH_REJECTEDCRED" ∷ codes "AUTH_BADVERF"
    ∷ codes "AUTH_REJECTEDVERF" ∷ codes "AUTH_TOOWEAK" ∷ codes "AUTH_INVALIDRESP" ∷ codes "AUTH_FAILED"
    ∷ codes "AUTH_KERB_GENERIC" ∷ codes "AUTH_TIMEEXPIRE" ∷ codes "AUTH_TKT_FILE" ∷ codes "AUTH_DECODE"
    ∷ codes "AUTH_NET_ADDR" ∷ codes "RPCSEC_GSS_CREDPROBLEM" ∷ codes "RPCSEC_GSS_CTXPROBLEM" ∷ []

-- a name, or the number where there is none
abbrev pub named_or : Option (List ℕ) → ℕ → List ℕ
named_or None stat = decimal stat
named_or (Some name) stat = name

abbrev pub auth_stat_text : ℕ → List ℕ
auth_stat_text stat = named_or (slice_get auth_stat_names stat) stat

-- the line of what denies a call (RFC 5531 section 9)
abbrev pub denied_line : WhyView → List ℕ
denied_line (RpcMismatch low high) =
    codes "refused RPC_MISMATCH " ++ decimal low ++ codes " " ++ decimal high ++ codes "\n"
denied_line (AuthError stat) = codes "refused AUTH_ERROR " ++ auth_stat_text stat ++ codes "\n"

-- the line of results that begin with no value, by the reason and the place of their outcome
abbrev pub refused_line : DecodeFault → List ℕ
refused_line f = codes "result " ++ line (answer.Refused f)

-- the line of results that go on behind a value, which ends at this place
abbrev pub follows_line : (at : ℕ) → List ℕ
follows_line at = codes "result ends at " ++ decimal at ++ codes ", more follows\n"
