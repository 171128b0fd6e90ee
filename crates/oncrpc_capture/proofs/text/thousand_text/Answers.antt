use Rattle.std.proofs.Common.{rules, append_assoc}
use Rattle.oncrpc_capture.proofs.text.thousand_text.Goals as goal

pub returns : goal.returns
returns c = search (rules, append_assoc)
