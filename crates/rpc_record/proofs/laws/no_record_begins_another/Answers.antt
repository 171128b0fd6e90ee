use Rattle.std.proofs.Common.{[], ◌++◌, sym}
use Rattle.std.proofs.lemmas.List.{append-nil}
use Rattle.rpc_record.proofs.Longest.{Marked-same}
use Rattle.rpc_record.proofs.Exact.{Longest-same}
use Rattle.rpc_record.proofs.Places.{Longest-whole}
use Rattle.rpc_record.proofs.laws.no_record_begins_another.Goals as goal

pub returns-clause-apart : goal.returns-clause-apart
returns-clause-apart c r other front back m n =
    let s = Marked-same r other front (front ++ back) back [] m n (sym (append-nil (front ++ back))) in
    (sym s.0, s.1)

pub returns-clause-longest : goal.returns-clause-longest
returns-clause-longest c = Longest-same

pub returns-clause-whole : goal.returns-clause-whole
returns-clause-whole c = Longest-whole
