-- What is shown of an answer.
use Rattle.std.proofs.Common.{◌≡◌, ℕ, true, List, [], arith, rules, subst}
use Rattle.std.proofs.lemmas.List.{length-take}
use Rattle.oncrpc_answers.specs.declared.answer.Answer.{Answer}
use Rattle.oncrpc_tasks.specs.Right.{IsRight, asked_of}
use Rattle.oncrpc_tasks.specs.Private.Judged.{keeps_of, unshown}
use Rattle.oncrpc_tasks.proofs.Showing.{lines_whole, lines_before, shows_none, whole_value, value_before, used_within}
use Rattle.oncrpc_tasks.proofs.check.shown_of.Goals as goal

pub value_shown-requires : goal.value_shown-requires
value_shown-requires c =
    let q = unshown (asked_of c.args.question.now) in
    let asked : keeps_of c.args.question.now.form ≡ true = search rules in
    let h = subst (λ (x : Answer). IsRight q c.args.bytes.now x []) c.in-Whole.is (c.requires.right asked) in
    record { whole = (h.0.value, whole_value q c.args.bytes.now c.in-Whole.used h) }

pub slice_bounds-value_shown-end : goal.slice_bounds-value_shown-end
slice_bounds-value_shown-end c =
    let q = unshown (asked_of c.args.question.now) in
    let asked : keeps_of c.args.question.now.form ≡ true = search rules in
    let h = subst (λ (x : Answer). IsRight q c.args.bytes.now x []) c.in-MoreFollows.is (c.requires.right asked) in
    let within = used_within q c.args.bytes.now c.in-MoreFollows.used h in
    omega (arith, within, length-take c.in-MoreFollows.used c.args.bytes.now)

pub value_shown-requires-in-MoreFollows : goal.value_shown-requires-in-MoreFollows
value_shown-requires-in-MoreFollows c =
    let q = unshown (asked_of c.args.question.now) in
    let asked : keeps_of c.args.question.now.form ≡ true = search rules in
    let h = subst (λ (x : Answer). IsRight q c.args.bytes.now x []) c.in-MoreFollows.is (c.requires.right asked) in
    record { whole = (h.2.0.value, value_before q c.args.bytes.now c.in-MoreFollows.used h) }

pub returns-in-Whole-clause-right : goal.returns-in-Whole-clause-right
returns-in-Whole-clause-right c =
    let q = asked_of c.args.question.now in
    let asked : keeps_of c.args.question.now.form ≡ true = search rules in
    lines_whole q c.args.bytes.now c.args.answer c.in-Whole.used c.in-Whole.is (c.requires.right asked)
    c.value_shown.result c.value_shown.ensures.shown

pub returns-in-MoreFollows-clause-right : goal.returns-in-MoreFollows-clause-right
returns-in-MoreFollows-clause-right c =
    let q = asked_of c.args.question.now in
    let asked : keeps_of c.args.question.now.form ≡ true = search rules in
    lines_before q c.args.bytes.now c.args.answer c.in-MoreFollows.used c.in-MoreFollows.is
    (c.requires.right asked) c.value_shown-in-MoreFollows.result c.value_shown-in-MoreFollows.ensures.shown

pub returns-in-Refused : goal.returns-in-Refused
returns-in-Refused c =
    let q = asked_of c.args.question.now in
    record {
      right = shows_none q c.args.bytes.now c.args.answer _ c.new-in-Refused.ensures.items c.in-Refused.is;
      memory = tt;
    }
