use Rattle.std.proofs.Common.{ap, sym, ◌∙◌}
use Rattle.std.specs.Str.{bytes_eq}
use Rattle.xdr_units.proofs.Parsed.{no_number_utf8, utf8_same, no_number_parsed, number_parsed}
use Rattle.xdr_units.proofs.decimals.decimal_number.Goals as goal

pub returns-in_err-ok-clause-only : goal.returns-in_err-ok-clause-only
returns-in_err-ok-clause-only c = λ n small same.
    absurd (no_number_utf8 c.from_utf8.result _ _ c.args.text.now c.from_utf8.ensures.cases
    (sym c.ok.ensures.value ∙ c.in_err-ok.was) n small same)

pub returns-in_err-number-clause-only : goal.returns-in_err-number-clause-only
returns-in_err-number-clause-only c = λ n small same.
    let digits = utf8_same (λ s. s.now) c.from_utf8.result _ _ c.args.text.now c.in_ok-ok.field-0
    c.from_utf8.ensures.cases (sym c.ok.ensures.value ∙ c.in_ok-ok.was) in
    absurd (no_number_parsed c.parse.result c.in_ok-ok.field-0.now c.args.text.now digits c.parse.ensures.value.0
    (sym c.ok-2.ensures.value ∙ c.in_err-number.was) n small same)

pub returns-clause-only : goal.returns-clause-only
returns-clause-only c = λ n small same.
    let digits = utf8_same (λ s. s.now) c.from_utf8.result _ _ c.args.text.now c.in_ok-ok.field-0
    c.from_utf8.ensures.cases (sym c.ok.ensures.value ∙ c.in_ok-ok.was) in
    c.then_some.ensures
    ∙ number_parsed c.parse.result c.in_ok-ok.field-0.now c.args.text.now c.in_ok-number.number c.eq.result digits
    c.parse.ensures.value.0 (sym c.ok-2.ensures.value ∙ c.in_ok-number.was)
    (c.eq.ensures ∙ ap (λ t. bytes_eq t c.args.text.now)
    (c.as_bytes.ensures.value ∙ c.format.ensures.text)) n small same
