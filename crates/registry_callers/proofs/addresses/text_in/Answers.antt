use Rattle.std.proofs.Common.{[], length, sym, ◌∙◌, append-nil, true≢false}
use Rattle.std.proofs.lemmas.Bool.Decides.{Decides-eqb}
use Rattle.rpc_message.specs.Spelling.{opaque}
use Rattle.registry_callers.proofs.Texts.{nothing_behind, whole_text}
use Rattle.registry_callers.proofs.addresses.text_in.Goals as goal

pub returns-in_err-text : goal.returns-in_err-text
returns-in_err-text c =
    rw c.from_residual.ensures (λ text few e. c.in_err-text.ensures text [] few (e ∙ sym (append-nil (opaque text))))

pub returns-then-not-is_empty : goal.returns-then-not-is_empty
returns-then-not-is_empty c = λ text few e.
    let t = c.in_ok-text in
    let z = nothing_behind c.args.results.now text t.text.now t.rest.now few t.ensures.0 t.ensures.1 e in
    true≢false (sym ((Decides-eqb (length t.rest.now) 0).1 z) ∙ sym c.is_empty.ensures ∙ c.if-not-is_empty.true)

pub returns : goal.returns
returns c =
    let t = c.in_ok-text in (
      t.ensures.0,
      whole_text c.args.results.now t.text.now t.rest.now t.ensures.1
          ((Decides-eqb (length t.rest.now) 0).0 (sym c.is_empty.ensures ∙ c.if-not-is_empty.false)),
    )
