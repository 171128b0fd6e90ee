use Rattle.std.proofs.Common.{◌≡◌, ℕ, ◌+◌, ◌-◌, ◌++◌, List, take, slice_set, ap, sym, ◌∙◌, arith}
use Rattle.std.proofs.lemmas.List.{set-append_right}
use Rattle.std.proofs.Math.Seq.{take-append-add}
use Rattle.rpc_message.specs.Heads.{accepted_head}
use Rattle.rpc_message.proofs.heads.cut_to_system_error.Goals as goal

pub returns : goal.returns
returns c old results xid e f =
    let before : ℕ = c.args.before in
    let retained : c.truncate.new.self.items ≡ old ++ accepted_head xid 0 =
    c.truncate.ensures.items ∙ ap (take (c.args.before + 24)) f
    ∙ ap (λ (n : ℕ). take (n + 24) (old ++ (accepted_head xid 0 ++ results))) (sym e)
    ∙ take-append-add old (accepted_head xid 0 ++ results) 24 in
    let place : c.args.before + 23 - c.args.before ≡ 23 = omega arith in
    ap (λ (l : List ℕ). slice_set l (c.args.before + 23) 5) retained
    ∙ set-append_right old (accepted_head xid 0) c.args.before (c.args.before + 23) 5 e (omega arith)
    ∙ ap (λ (k : ℕ). old ++ slice_set (accepted_head xid 0) k 5) place
