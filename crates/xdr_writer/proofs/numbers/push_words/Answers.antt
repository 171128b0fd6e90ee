use Rattle.std.proofs.Common.{◌≡◌, ◌++◌, ℕ, ℤ, List, true, pos, get_or, take, ap, sym, ◌∙◌, subst, append_assoc, rules}
use Rattle.std.proofs.Common.{to_z, of_z}
use mir.Syntax.{w128}
use Rattle.xdr_units.specs.Numbers.{num4}
use Rattle.xdr_writer.specs.Private.Becomes.{in_word}
use Rattle.xdr_writer.specs.Private.Runs.{words}
use Rattle.xdr_writer.proofs.Words.{word_at, bytes_next, front_left, on_error}
use Rattle.xdr_writer.proofs.numbers.push_words.Goals as goal

pub word-requires : goal.word-requires
word-requires c =
    let same : to_z w128 (of_z w128 (get_or c.args.numbers.now c.loop-number.number-index (pos 0)))
    ≡ get_or c.args.numbers.now c.loop-number.number-index (pos 0) = search rules in
    subst (λ (x : ℤ). in_word c.args.signed x ≡ true) (sym same)
    (word_at c.args.signed c.args.numbers.now c.loop-number.number-index (pos 0) c.loop-number-test.true c.requires)

pub returns-in_err-extend_from_slice-clause-some : goal.returns-in_err-extend_from_slice-clause-some
returns-in_err-extend_from_slice-clause-some c =
    let kept : c.extend_from_slice.new.self.items ≡ c.loop-number.out.items =
    rw c.in_err-extend_from_slice.was at c.extend_from_slice.ensures.items in
    on_error c.from_residual.result _
    (front_left c.args.out.now.items (words (take c.loop-number.number-index c.args.numbers.now))
    c.extend_from_slice.new.self.items (kept ∙ c.loop-number.invariant))

pub loop-number-preserved : goal.loop-number-preserved
loop-number-preserved c =
    let same : to_z w128 (of_z w128 (get_or c.args.numbers.now c.loop-number.number-index (pos 0)))
    ≡ get_or c.args.numbers.now c.loop-number.number-index (pos 0) = search rules in
    let z : ℤ = get_or c.args.numbers.now c.loop-number.number-index (pos 0) in
    let before : List ℕ = words (take c.loop-number.number-index c.args.numbers.now) in
    let now : c.extend_from_slice.new.self.items ≡ c.loop-number.out.items ++ c.word.result =
    rw c.in_ok-extend_from_slice.was at c.extend_from_slice.ensures.items in
    now
    ∙ ap (λ (q : List ℕ). c.loop-number.out.items ++ q) (c.word.ensures ∙ ap (λ (x : ℤ). num4 x) same)
    ∙ ap (λ (q : List ℕ). q ++ num4 z) c.loop-number.invariant
    ∙ append_assoc c.args.out.now.items before (num4 z)
    ∙ ap (λ (q : List ℕ). c.args.out.now.items ++ q)
    (sym (bytes_next c.args.numbers.now c.loop-number.number-index (pos 0) c.loop-number-test.true))
