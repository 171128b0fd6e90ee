use Rattle.std.proofs.Common.{refl, arith}
use Rattle.xdr_stream.specs.Nodes.{head_of_node}
use Rattle.xdr_stream.proofs.Levels.{opened}
use Rattle.xdr_stream.proofs.Reported.{reports_open}
use Rattle.xdr_stream.proofs.builder.values.ValuesBuild.open.Goals as goal

pub returns : goal.returns
returns c = λ t reported.
    reports_open c.args.self.now _ (head_of_node c.args.node) t
    (opened c.args.self.now.content.items c.args.self.now.work c.replace-parent.new.dest c.replace-parent.result
    c.args.self.now.parents.items c.push.new.self.items
    (head_of_node c.args.node) t
    (rw c.replace-parent.ensures.after c.in_ok-level.ensures) c.replace-parent.ensures.value
    c.in_ok-push.ensures.items reported.trace)
    (λ few. omega (arith, c.saturating_add-self.ensures, few)) refl reported
