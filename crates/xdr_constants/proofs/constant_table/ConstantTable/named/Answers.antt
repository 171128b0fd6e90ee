use Rattle.std.proofs.Common.{rules, ◌≡◌, Some, None, take, refl, sym, ◌∙◌}
use Rattle.std.proofs.lemmas.Bool.{le-ltb, lt-ltb}
use Rattle.xdr_tokens.specs.Options.{◌>>=◌}
use Rattle.xdr_constants.specs.Constants.{known}
use Rattle.xdr_constants.specs.Tables.{at_name}
use Rattle.xdr_constants.specs.Views.{knowns}
use Rattle.xdr_constants.proofs.Tables.{within, known_before}
use Rattle.xdr_constants.proofs.constant_table.ConstantTable.named.Goals as goal

pub returns-in-Some : goal.returns-in-Some
returns-in-Some c =
    let found : at_name c.args.name.now c.args.self.now.first ≡ Some c.in-Some.field-0.now =
    sym c.in-Some.ensures.value in
    let here : (at_name c.args.name.now c.args.self.now.first >>= within c.args.before) ≡ Some (
      c.in-Some.field-0.now.1,
      c.in-Some.field-0.now.2,
    ) = rw
    (found, lt-ltb c.in-Some.field-0.now.0 c.args.before c.if-place-before.true) refl in
    let all : known c.args.name.now (take c.args.before (knowns c.args.self.now.list.items)) ≡ Some
    (c.in-Some.field-0.now.1, c.in-Some.field-0.now.2) = sym
    (known_before c.args.self.now.first
    (knowns c.args.self.now.list.items) c.args.name.now c.args.before c.args.self.now.is_first) ∙ here in
    rw all (search rules)

pub returns-in_default : goal.returns-in_default
returns-in_default c =
    let found : at_name c.args.name.now c.args.self.now.first ≡ Some c.in-Some.field-0.now =
    sym c.in-Some.ensures.value in
    let here : (at_name c.args.name.now c.args.self.now.first >>= within c.args.before) ≡ None = rw
    (found, le-ltb c.in-Some.field-0.now.0 c.args.before c.if-place-before.false) refl in
    sym here ∙ known_before c.args.self.now.first
    (knowns c.args.self.now.list.items) c.args.name.now c.args.before c.args.self.now.is_first

pub returns-in_default-2 : goal.returns-in_default-2
returns-in_default-2 c =
    let found : at_name c.args.name.now c.args.self.now.first ≡ None = sym
    (rw c.in_default.is at c.get.ensures.value) in
    let here : (at_name c.args.name.now c.args.self.now.first >>= within c.args.before) ≡ None = rw found refl in
    sym here ∙ known_before c.args.self.now.first
    (knowns c.args.self.now.list.items) c.args.name.now c.args.before c.args.self.now.is_first
