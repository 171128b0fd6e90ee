use Rattle.std.proofs.Common.{◌≡◌, ℤ, sym, ◌∙◌, ap, codes, rules, w64, to_z, of_z}
use Rattle.std.specs.Bool.{then_some}
use Rattle.std.specs.Fmt.{signed_decimal}
use Rattle.std.specs.Str.{bytes_eq}
use Rattle.std.proofs.lemmas.Bool.{false≢true}
use Rattle.std.proofs.lemmas.Slice.Eq.{bytes_eq-Decides}
use Rattle.xdr_json_reader.proofs.Looks.{signed_zero, signed_none, signed_only}
use Rattle.xdr_json_reader.proofs.reading_number.signed_text.Goals as goal

pub returns-then-eq-clause-only : goal.returns-then-eq-clause-only
returns-then-eq-clause-only c =
    signed_zero c.args.text.now ((bytes_eq-Decides c.args.text.now (codes "-0")).0 (sym c.eq.ensures ∙ c.if-eq.true))

pub returns-in_err-number-clause-only : goal.returns-in_err-number-clause-only
returns-in_err-number-clause-only c = λ z h k.
    absurd (signed_none c.args.text.now c.parse.result c.parse.ensures.value.0 (sym c.ok.ensures.value
    ∙ c.in_err-number.was)
    (λ e. false≢true (sym c.if-eq.false ∙ c.eq.ensures ∙ (bytes_eq-Decides c.args.text.now (codes "-0")).1 e)) z h k)

pub returns-clause-only : goal.returns-clause-only
returns-clause-only c = λ z h k.
    let same : to_z w64 (of_z w64 c.in_ok-number.number) ≡ c.in_ok-number.number = search rules in
    let text : c.eq-2.result ≡ bytes_eq (signed_decimal c.in_ok-number.number) c.args.text.now =
    c.eq-2.ensures ∙ ap (λ t. bytes_eq t c.args.text.now) c.format.ensures.text
    ∙ ap (λ (y : ℤ). bytes_eq (signed_decimal y) c.args.text.now) same in
    c.then_some.ensures ∙ ap (λ (y : ℤ). then_some c.eq-2.result y) same
    ∙ signed_only c.args.text.now c.parse.result c.in_ok-number.number c.eq-2.result c.parse.ensures.value.0
    (sym c.ok.ensures.value ∙ c.in_ok-number.was) text
    (λ e. false≢true (sym c.if-eq.false ∙ c.eq.ensures ∙ (bytes_eq-Decides c.args.text.now (codes "-0")).1 e)) z h k
