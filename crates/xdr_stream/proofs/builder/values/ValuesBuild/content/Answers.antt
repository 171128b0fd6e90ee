use Rattle.std.proofs.Common.{ap, refl, ◌∙◌, arith}
use Rattle.xdr_types.specs.Tree as value
use Rattle.xdr_stream.specs.Private.Reported.{leaf_tree}
use Rattle.xdr_stream.proofs.Reported.{reports_content}
use Rattle.xdr_stream.proofs.builder.values.ValuesBuild.content.Goals as goal

pub returns-clause-reported : goal.returns-clause-reported
returns-clause-reported c = λ t reported space.
    reports_content c.args.self.now _ c.content_value.result t
    (c.content_value.ensures ∙ ap (λ x. leaf_tree (value.bytes x.items)) c.replace-content.ensures.value)
    c.in_ok-add.ensures.added refl (ap (λ x. x.items) c.replace-content.ensures.after ∙ c.new.ensures.items)
    (λ few. omega (arith, c.saturating_add-self.ensures, few)) refl reported space
