use Rattle.std.proofs.Common.{◌≡◌, [], ◌+◌, take, drop, get_or}
use Rattle.std.specs.Prelude.{filter}
use Rattle.std.specs.Str.{bytes_eq}
use Rattle.xdr_grammar.specs.declared.outline.Name.{Name}
use Rattle.xdr_lang.specs.Views.{texts}
use Rattle.xdr_lang.specs.Distinct.{repeats, is_name, names_repeat}
use Rattle.xdr_lang.proofs.Few.{again, again_not, one_on}
use Rattle.xdr_lang.proofs.distinct.few_repeat.Goals as goal

pub returns-then-is_again : goal.returns-then-is_again
returns-then-is_again c =
    let ns = c.args.names.now in
    let i = c.loop-at.at in
    let d : Name = record { text = record { ref_ptr = (0, 0); now = [] }; left = 0 } in
    let step = one_on ns i d c.loop-at-test.true in
    let so_far : repeats bytes_eq (filter is_name (texts (take i ns))) (filter is_name (texts (drop i ns)))
    ≡ names_repeat (texts ns) = c.loop-at.invariant in
    again (texts (take i ns)) (get_or ns i d).text.now (texts (drop (i + 1) ns)) (names_repeat (texts ns))
    c.if-is_again.ensures (rw step.1 at so_far)

pub loop-at-preserved : goal.loop-at-preserved
loop-at-preserved c =
    let ns = c.args.names.now in
    let i = c.loop-at.at in
    let d : Name = record { text = record { ref_ptr = (0, 0); now = [] }; left = 0 } in
    let step = one_on ns i d c.loop-at-test.true in
    let so_far : repeats bytes_eq (filter is_name (texts (take i ns))) (filter is_name (texts (drop i ns)))
    ≡ names_repeat (texts ns) = c.loop-at.invariant in
    rw step.0 (again_not (texts (take i ns)) (get_or ns i d).text.now (texts (drop (i + 1) ns))
    (names_repeat (texts ns)) c.if-is_again.ensures (rw step.1 at so_far))
