use Rattle.std.proofs.Common.{map, ap, sym, ◌∙◌}
use Rattle.std.proofs.lemmas.Result.{err_from_is_err_and}
use Rattle.xdr_grammar.specs.View.{outline_of, entry_of, program_of}
use Rattle.xdr_constants.specs.Names.{names}
use Rattle.xdr_constants.specs.Views.{knowns}
use Rattle.xdr_lang.specs.Views.{types_of}
use Rattle.xdr_lang.proofs.Sharing.{same_names}
use Rattle.xdr_lang.proofs.Distinctly.{no_numbers, once, declared_once}
use Rattle.xdr_lang.proofs.meaning.resolved_once.Goals as goal

pub returns-in_err-known : goal.returns-in_err-known
returns-in_err-known c =
    let p = err_from_is_err_and c.from_residual.result c.from_residual.ensures.1 in
    rw (p.1, p.2) (no_numbers c.in_err-known.field-0.0 (outline_of c.args.outline.now)
    (rw c.deref.ensures.value at c.in_err-known.ensures))

pub has_twice-requires : goal.has_twice-requires
has_twice-requires c = λ yes.
    let found = rw c.deref.ensures.value at c.in_ok-known.ensures in
    let ks = knowns c.in_ok-known.known.list.items in
    let same = same_names (map entry_of c.args.outline.now.constants.items) ks found in
    declared_once (outline_of c.args.outline.now) (names ks) (types_of c.in_ok-types.types.list.items)
    (map program_of c.deref-3.result.now) same (rw c.deref-2.ensures.value at c.in_ok-types.ensures)
    (ap (map program_of) c.deref-3.ensures.value) (c.in_ok-apart.ensures yes)

pub returns : goal.returns
returns c =
    let found = rw c.deref.ensures.value at c.in_ok-known.ensures in
    let types = rw c.deref-2.ensures.value at c.in_ok-types.ensures in
    rw (once (outline_of c.args.outline.now) (knowns c.in_ok-known.known.list.items)
    (types_of c.learn_all.new.self.list.items) found (c.learn_all.ensures ∙ types)
    (sym c.in_ok-has_twice.ensures ∙ c.if-branch.false))
    c.resolved.ensures
