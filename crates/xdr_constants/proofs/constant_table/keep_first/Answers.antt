use Rattle.std.proofs.Common.{◌≡◌, ℕ, ℤ, Bool, false, Some, is_some, length, rules, refl, sym, ap, subst}
use Rattle.std.specs.BTreeMap.{Updates}
use mir.Val.{to_z, of_z}
use mir.Syntax.{w128}
use Rattle.xdr_constants.specs.Tables.{at_name}
use Rattle.xdr_constants.specs.Views.{known_of}
use Rattle.xdr_types.proofs.Apart.{texts_cmp as names_cmp}
use Rattle.xdr_constants.proofs.Tables.{new_constant, earlier_constant, has_no_other}
use Rattle.xdr_constants.proofs.constant_table.keep_first.Goals as goal

pub returns-in-Some-clause-retained : goal.returns-in-Some-clause-retained
returns-in-Some-clause-retained c = λ ks has len.
    let old = rw c.in-Some.is at c.in_ok-earlier.ensures.old in
    earlier_constant c.args.first.now c.insert.new.self c.insert-in-Some.new.self ks
    (known_of c.args.known) c.args.known.name.text _ _ has refl c.in_ok-earlier.ensures.updates
    c.in_ok-insert.ensures.updates (sym old)

pub returns-clause-retained : goal.returns-clause-retained
returns-clause-retained c = λ ks has len.
    let old = rw c.in_default.is at c.in_ok-earlier.ensures.old in
    let absent : is_some (at_name c.args.known.name.text.now c.args.first.now) ≡ false = ap is_some (sym old) in
    let value : to_z w128 (of_z w128 c.args.known.value) ≡ c.args.known.value = search rules in
    let place : c.args.place ≡ length ks = sym len in
    let same : (c.args.place, to_z w128 (of_z w128 c.args.known.value), c.args.known.by_const) ≡
    (length ks, c.args.known.value, c.args.known.by_const) = rw (value, place) refl in
    let updates : Updates names_cmp c.args.first.now c.insert.new.self c.args.known.name.text
    (Some (length ks, c.args.known.value, c.args.known.by_const)) = subst
    (λ (w : ℕ × ℤ × Bool). Updates names_cmp c.args.first.now c.insert.new.self c.args.known.name.text
    (Some w)) same c.in_ok-earlier.ensures.updates in
    new_constant c.args.first.now c.insert.new.self ks (known_of c.args.known) c.args.known.name.text has refl
    absent updates

pub returns-clause-alone : goal.returns-clause-alone
returns-clause-alone c = λ ks has yes.
    let old = rw c.in_default.is at c.in_ok-earlier.ensures.old in
    let absent : is_some (at_name c.args.known.name.text.now c.args.first.now) ≡ false = ap is_some (sym old) in
    has_no_other c.args.first.now ks c.args.known.name.text.now has absent
