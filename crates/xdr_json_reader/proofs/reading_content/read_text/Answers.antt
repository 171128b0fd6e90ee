use Rattle.std.proofs.Common.{◌≡◌, ℕ, List, true, sym, ◌∙◌, ap, subst}
use Rattle.xdr_json_reader.specs.Private.Leaves.{TextRead}
use Rattle.xdr_json_reader.specs.Private.Look.{seen, pairs}
use Rattle.xdr_json.specs.Spelled.{is_text, is_hex}
use Rattle.xdr_json_reader.specs.Tape.{members_of, json_in}
use Rattle.xdr_json_reader.proofs.Leaves.{text_read}
use Rattle.xdr_json_reader.proofs.Looks.{text_shown, hex_shown}
use Rattle.xdr_json_reader.proofs.reading_content.read_text.Goals as goal

pub returns-in-Text : goal.returns-in-Text
returns-in-Text c =
    let shown : is_text c.in-Text.text.now (seen c.args.json) ≡ true =
    rw c.in-Text.is (text_shown c.in-Text.text.now) in
    text_read c.args.max (seen c.args.json) c.in-Text.text.now c.args.out.now.items _ c.put_text.result shown
    (subst (λ (bs : List ℕ). TextRead c.args.max bs c.args.out.now.items c.put_text.new.out.items c.put_text.result)
    c.as_bytes.ensures.value c.put_text.ensures)

pub returns-in-Ok : goal.returns-in-Ok
returns-in-Ok c =
    let bs = c.in-Ok.bytes.items in
    let j = json_in c.in-Some.node.now in
    let hex : is_hex c.in-Ok.bytes.items (json_in c.in-Some.node.now) ≡ true =
    ap (is_hex c.in-Ok.bytes.items) (sym c.look.ensures) ∙ c.in-Ok.ensures.found in
    let shown : is_text c.in-Ok.bytes.items (seen c.args.json) ≡ true =
    rw c.in-Object.is
    (hex_shown (members_of (pairs c.in-Object.members.now.items)) bs j c.in-Some.ensures.0 c.in-Some.ensures.1 hex) in
    text_read c.args.max (seen c.args.json) c.in-Ok.bytes.items c.args.out.now.items _ c.put_text-in-Ok.result shown
    (subst (λ (cs : List ℕ). TextRead c.args.max cs c.args.out.now.items c.put_text-in-Ok.new.out.items
    c.put_text-in-Ok.result) c.as_slice.ensures.value c.put_text-in-Ok.ensures)
