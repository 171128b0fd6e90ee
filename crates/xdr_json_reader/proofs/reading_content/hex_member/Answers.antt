use Rattle.std.proofs.Common.{◌≡◌, false, true, sym, ◌∙◌, arith}
use Rattle.std.specs.Str.{bytes_eq}
use Rattle.std.proofs.lemmas.Bool.{not-true, not-false}
use Rattle.xdr_json.specs.Mapping.{hex_key}
use Rattle.xdr_json_reader.proofs.Looks.{one_member, other_many, hex_named, hex_other}
use Rattle.xdr_json_reader.proofs.reading_content.hex_member.Goals as goal

pub returns-then-len-ne1 : goal.returns-then-len-ne1
returns-then-len-ne1 c = other_many c.args.members.now.items _ (λ e. omega (arith, e))

pub returns-then-ne : goal.returns-then-ne
returns-then-ne c =
    let ms = c.args.members.now.items in
    let m = c.index-member.result.now in
    let other : bytes_eq m.0.name.now hex_key ≡ false =
    not-true (bytes_eq m.0.name.now hex_key) (sym c.ne.ensures ∙ c.if-ne.true) in
    hex_other ms m (one_member ms m (omega arith) c.index-member.ensures) other

pub returns : goal.returns
returns c =
    let ms = c.args.members.now.items in
    let m = c.index-member.result.now in
    let named : bytes_eq m.0.name.now hex_key ≡ true =
    not-false (bytes_eq m.0.name.now hex_key) (sym c.ne.ensures ∙ c.if-ne.false) in
    hex_named ms m (one_member ms m (omega arith) c.index-member.ensures) named
