use Rattle.std.specs.Prelude.{filter}
use Rattle.std.specs.Str.{bytes_eq}
use Rattle.std.proofs.Common.{◌≡◌, ◌<◌, ◌+◌, [], ◌∷◌, length, drop, drop-cons, add-one, get_or, refl, sym, ap, ◌∙◌}
use Rattle.std.proofs.Common.{arith}
use Rattle.xdr_grammar.specs.declared.outline.Name.{Name}
use Rattle.xdr_lang.specs.Views.{texts}
use Rattle.xdr_constants.specs.Tables.{key_texts}
use Rattle.xdr_lang.specs.Distinct.{repeats, is_name, names_repeat}
use Rattle.xdr_lang.proofs.Sets.{was_absent, was_there, by_name, named, goes_on, is_twice}
use Rattle.xdr_lang.proofs.distinct.many_repeat.Goals as goal

pub returns-then-not-branch : goal.returns-then-not-branch
returns-then-not-branch c =
    let d : Name = record { text = record { ref_ptr = (0, 0); now = [] }; left = 0 } in
    let lt : c.loop-name.name-index < length c.args.names.now = omega arith in
    let cut : drop c.loop-name.name-index c.args.names.now ≡ get_or c.args.names.now c.loop-name.name-index d ∷ drop
    (c.loop-name.name-index + 1) c.args.names.now = rw
    (add-one, drop-cons c.args.names.now c.loop-name.name-index d) refl in
    let name = (get_or c.args.names.now c.loop-name.name-index d).text in
    let rest = texts (drop (c.loop-name.name-index + 1) c.args.names.now) in
    let so_far : repeats bytes_eq (key_texts c.loop-name.before.keys)
    (filter is_name (texts (drop c.loop-name.name-index c.args.names.now))) ≡ names_repeat (texts c.args.names.now) =
    c.loop-name.invariant in
    let here : repeats bytes_eq (key_texts c.loop-name.before.keys) (filter is_name (name.now ∷ rest)) ≡ names_repeat
    (texts c.args.names.now) = rw cut at so_far in
    let next : repeats bytes_eq (key_texts c.loop-name.before.keys) (name.now ∷ filter is_name rest) ≡ names_repeat
    (texts c.args.names.now) = sym (ap (repeats bytes_eq (key_texts c.loop-name.before.keys))
    (named name.now rest (sym c.eq.ensures ∙ c.if-eq.false))) ∙ here in
    is_twice by_name c.loop-name.before name (filter is_name rest) (names_repeat (texts c.args.names.now))
    (was_there _ _ c.in_ok-insert.ensures.added c.if-not-branch.true) next

pub loop-name-preserved : goal.loop-name-preserved
loop-name-preserved c =
    let d : Name = record { text = record { ref_ptr = (0, 0); now = [] }; left = 0 } in
    let lt : c.loop-name.name-index < length c.args.names.now = omega arith in
    let cut : drop c.loop-name.name-index c.args.names.now ≡ get_or c.args.names.now c.loop-name.name-index d ∷ drop
    (c.loop-name.name-index + 1) c.args.names.now = rw
    (add-one, drop-cons c.args.names.now c.loop-name.name-index d) refl in
    let name = (get_or c.args.names.now c.loop-name.name-index d).text in
    let rest = texts (drop (c.loop-name.name-index + 1) c.args.names.now) in
    let so_far : repeats bytes_eq (key_texts c.loop-name.before.keys)
    (filter is_name (texts (drop c.loop-name.name-index c.args.names.now))) ≡ names_repeat (texts c.args.names.now) =
    c.loop-name.invariant in
    let here : repeats bytes_eq (key_texts c.loop-name.before.keys) (filter is_name (name.now ∷ rest)) ≡ names_repeat
    (texts c.args.names.now) = rw cut at so_far in
    let next : repeats bytes_eq (key_texts c.loop-name.before.keys) (name.now ∷ filter is_name rest) ≡ names_repeat
    (texts c.args.names.now) = sym (ap (repeats bytes_eq (key_texts c.loop-name.before.keys))
    (named name.now rest (sym c.eq.ensures ∙ c.if-eq.false))) ∙ here in
    goes_on by_name c.loop-name.before c.insert.new.self name (filter is_name rest)
    (names_repeat (texts c.args.names.now))
    (was_absent _ _ c.in_ok-insert.ensures.added c.if-not-branch.false) c.in_ok-insert.ensures.updates next
