use Rattle.std.proofs.Common.{sym, ◌∙◌, ap, codes}
use Rattle.std.specs.Str.{bytes_eq}
use Rattle.std.proofs.lemmas.Bool.{false≢true}
use Rattle.std.proofs.lemmas.Slice.Eq.{bytes_eq-Decides}
use Rattle.xdr_json_reader.proofs.Looks.{unsigned_zero, unsigned_none, unsigned_only}
use Rattle.xdr_json_reader.proofs.reading_number.unsigned_text.Goals as goal

pub returns-then-eq-clause-only : goal.returns-then-eq-clause-only
returns-then-eq-clause-only c =
    unsigned_zero c.args.text.now ((bytes_eq-Decides c.args.text.now (codes "-0")).0 (sym c.eq.ensures ∙ c.if-eq.true))

pub returns-in_err-number-clause-only : goal.returns-in_err-number-clause-only
returns-in_err-number-clause-only c = λ z h k.
    absurd (unsigned_none c.args.text.now c.parse.result c.parse.ensures.value.0 (sym c.ok.ensures.value
    ∙ c.in_err-number.was)
    (λ e. false≢true (sym c.if-eq.false ∙ c.eq.ensures ∙ (bytes_eq-Decides c.args.text.now (codes "-0")).1 e)) z h k)

pub returns-clause-only : goal.returns-clause-only
returns-clause-only c = λ z h k.
    c.then_some.ensures
    ∙ unsigned_only c.args.text.now c.parse.result c.in_ok-number.number c.eq-2.result c.parse.ensures.value.0
    (sym c.ok.ensures.value ∙ c.in_ok-number.was)
    (c.eq-2.ensures ∙ ap (λ t. bytes_eq t c.args.text.now) c.format.ensures.text)
    (λ e. false≢true (sym c.if-eq.false ∙ c.eq.ensures ∙ (bytes_eq-Decides c.args.text.now (codes "-0")).1 e)) z h k
