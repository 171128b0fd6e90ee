-- Why bytes of a message are refused, and where.
use Rattle.std.specs.Prelude.{ℕ, List, codes}
use Rattle.oncrpc_answers.specs.Lines.{name}
use Rattle.oncrpc_messages.specs.declared.refusal.Why.{Why}
use Rattle.oncrpc_messages.specs.declared.refusal.Why.TheVariants as why

-- the word of a reason: that of the outcome of decoding (RFC 4506 sections 3 and 4), or that bytes follow
abbrev pub why_name : Why → List ℕ
why_name (why.Bytes reason) = name reason
why_name why.MoreFollows = codes "MoreFollows"
