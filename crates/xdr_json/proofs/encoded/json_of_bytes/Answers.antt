use Rattle.std.proofs.Common.{◌≡◌, ◌++◌, List, [], arith, ap, sym, ◌∙◌}
use Rattle.std.proofs.lemmas.List.{append-nil}
use Rattle.json.specs.Token.{Token}
use Rattle.json.specs.Tree.{json_tokens}
use Rattle.xdr_types.specs.Spelling.{bytes_of}
use Rattle.xdr_json.specs.declared.output.Layout.{Layout}
use Rattle.xdr_json.specs.Mapping.{json_of}
use Rattle.xdr_json.specs.Written.{text_of}
use Rattle.xdr_json.proofs.encoded.json_of_bytes.Goals as goal

pub returns : goal.returns
returns c = λ v fits spelled.
    let S = c.args.schema.now.kinds in
    let place = c.args.kind.place in
    let more = json_tokens (json_of S place v) in
    let s = c.in_ok-push_node.ensures.told v [] (omega (arith, fits.1.0, c.depth.ensures.value))
    (record { fits = fits.0; spelled = spelled ∙ sym (append-nil (bytes_of S place v)) }) in
    c.into_text.ensures.text
    ∙ ap (λ (l : Layout). text_of l c.push_node.new.out.tokens)
    (c.in_ok-push_node.ensures.layout ∙ c.new-out.ensures.layout)
    ∙ ap (λ (ts : List Token). text_of c.args.layout ts)
    (s.told ∙ ap (λ (z : List Token). z ++ more) c.new-out.ensures.tokens)
