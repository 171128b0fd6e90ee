use Rattle.std.proofs.Common.{Some, sym, subst, ◌∙◌}
use Rattle.xdr_tokens.specs.Due.{Gives}
use Rattle.xdr_types.specs.Faults.{IsWellFormed}
use Rattle.xdr_types.specs.Sound.{IsSound}
use Rattle.xdr_grammar.specs.View.{outline_of}
use Rattle.xdr_tokens.proofs.Options.{some_is}
use Rattle.xdr_lang.specs.Declarations.{Declared}
use Rattle.xdr_lang.specs.Private.Meaning.{distinct_meaning}
use Rattle.xdr_lang.specs.Views.{declared_of, listed_of}
use Rattle.xdr_lang.proofs.Distinctly.{joined, found_meant, fails_on}
use Rattle.xdr_lang.proofs.meaning.meaning.Goals as goal

pub returns-in-Ok-clause-found : goal.returns-in-Ok-clause-found
returns-in-Ok-clause-found c = found_meant (outline_of c.args.outline.now)
    (listed_of c.in-Ok.listed) c.built.result c.in-Ok.ensures c.built.ensures.same c.built.ensures.well_formed
    c.built.ensures.sound

pub returns-in-Ok-clause-only : goal.returns-in-Ok-clause-only
returns-in-Ok-clause-only c = λ d m.
    let same = some_is (listed_of c.in-Ok.listed) d
    (sym c.in-Ok.ensures ∙ joined (outline_of c.args.outline.now) d m.distinct m.meant) in
    let wf = subst (λ (x : Declared). IsWellFormed x.schema) (sym same) m.well_formed in
    let so = subst (λ (x : Declared). IsSound x.schema.kinds) (sym same) m.sound in
    subst (λ (x : Declared). Gives declared_of c.built.result (Some x)) same (c.built.ensures.only wf so)

pub returns-in-Err-clause-only : goal.returns-in-Err-clause-only
returns-in-Err-clause-only c = λ d m. fails_on c.in-Err.fault c.first_fault.result
    (distinct_meaning (outline_of c.args.outline.now)) d
    (joined (outline_of c.args.outline.now) d m.distinct m.meant) c.in-Err.ensures c.first_fault.ensures
