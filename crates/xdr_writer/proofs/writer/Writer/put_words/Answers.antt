use Rattle.std.proofs.Common.{◌≡◌, ◌+◌, ◌*◌, ◌++◌, ℕ, ℤ, List, length, take, ap, ◌∙◌, refl, arith}
use Rattle.std.specs.Prelude.{Ok, Err}
use Rattle.std.proofs.lemmas.Bool.{false≢true}
use Rattle.xdr_writer.specs.Items.{all_spelled}
use Rattle.xdr_writer.specs.Private.Runs.{words}
use Rattle.xdr_writer.specs.Private.Judged.{Judges}
use Rattle.xdr_writer.proofs.Several.{words_took, words_rejects}
use Rattle.xdr_writer.proofs.Words.{none_taken, none_refused, judged_words, took_whole}
use Rattle.xdr_writer.proofs.writer.Writer.put_words.Goals as goal

pub returns-in-Err : goal.returns-in-Err
returns-in-Err c =
    let start : c.len-start.result ≡ length c.args.out.now.items = c.len-start.ensures ∙ c.args.out.now.ok.0 in
    let retained : c.truncate.new.self.items ≡ c.args.out.now.items =
    c.truncate.ensures.items ∙ ap (λ (n : ℕ). take n c.push_words.new.out.items) start ∙ c.in-Err.ensures.some in
    record {
      some = tt;
      took = tt;
      rejects = none_taken c.args.self.now _ c.args.numbers.now c.args.out.now.items c.truncate.new.self.items
          c.refuse.result c.requires.some retained c.refuse.ensures.why c.refuse.ensures.item c.refuse.ensures.refused;
      refused = c.refuse.ensures.refused;
      same = record { checker = record { schema_is = refl; kind_is = refl; limits_are = refl }; limits_are = refl };
    }

pub invariant_of-self : goal.invariant_of-self
invariant_of-self c = record {
  few = c.args.self.now.few;
  low = c.args.self.now.low;
  limits_are = c.args.self.now.limits_are;
  schema_is = c.args.self.now.schema_is;
  waiting = λ w no. absurd (false≢true w);
  sound = λ none. absurd (none_refused c.refuse.ensures.refused none);
}

pub invariant_of-self-in-Ok : goal.invariant_of-self-in-Ok
invariant_of-self-in-Ok c =
    let judges = c.in-Ok.ensures.judges in record {
      few = omega (arith, c.args.self.now.few);
      low = omega (arith, c.requires.may.low, c.depth-in_range.ensures.range.most_bytes);
      limits_are = judges.same.limits_are ∙ c.args.self.now.limits_are;
      schema_is = judges.same.schema_is ∙ c.args.self.now.schema_is;
      waiting = λ w no. no (judges.waits (ap Ok (c.behind-self.ensures.waits w)));
      sound = λ none. judges.sound (c.args.self.now.sound none);
    }

pub invariant_of-self-in-Err-judge : goal.invariant_of-self-in-Err-judge
invariant_of-self-in-Err-judge c =
    let judges = c.in-Err-judge.ensures.judges in record {
      few = c.args.self.now.few;
      low = c.args.self.now.low;
      limits_are = judges.same.limits_are ∙ c.args.self.now.limits_are;
      schema_is = judges.same.schema_is ∙ c.args.self.now.schema_is;
      waiting = λ w no. absurd (false≢true w);
      sound = λ none. absurd (none_refused c.refuse-in-Err-judge.ensures.refused none);
    }

pub returns-in-Ok : goal.returns-in-Ok
returns-in-Ok c =
    let zs : List ℤ = c.args.numbers.now in
    let start : c.len-start.result ≡ length c.args.out.now.items = c.len-start.ensures ∙ c.args.out.now.ok.0 in
    let judges : Judges c.args.self.now.checker c.judge.new.checker (words zs) (Ok c.in-Ok.step) =
    judged_words c.args.self.now.checker c.judge.new.checker c.deref.result.now c.args.out.now.items
    c.len-start.result zs (Ok c.in-Ok.step) start (c.deref.ensures.value ∙ c.in_default.ensures.ok)
    c.in-Ok.ensures.judges in
    record {
      some = (c.requires.some, omega arith);
      took = λ is r.
          took_whole c.args.self.now _ is zs c.args.out.now.items c.push_words.new.out.items c.in-Ok.step
          (words_took c.args.self.now _ is r zs c.requires.words c.requires.may c.requires.some
          c.depth-in_range.ensures.range.units c.depth-in_range.ensures.range.most_bytes judges.same
          c.args.out.now.items c.push_words.new.out.items c.in-Ok.step (judges.judged (all_spelled is) r.bytes)
          c.requires.goes_on refl refl c.behind-self.ensures.left c.behind-self.ensures.signed c.in_default.ensures.ok);
      rejects = tt;
      refused = tt;
      same = record { checker = judges.same; limits_are = refl };
    }

pub returns-in-Err-judge : goal.returns-in-Err-judge
returns-in-Err-judge c =
    let zs : List ℤ = c.args.numbers.now in
    let start : c.len-start.result ≡ length c.args.out.now.items = c.len-start.ensures ∙ c.args.out.now.ok.0 in
    let judges : Judges c.args.self.now.checker c.judge.new.checker (words zs) (Err c.in-Err-judge.why) =
    judged_words c.args.self.now.checker c.judge.new.checker c.deref.result.now c.args.out.now.items
    c.len-start.result zs (Err c.in-Err-judge.why) start (c.deref.ensures.value ∙ c.in_default.ensures.ok)
    c.in-Err-judge.ensures.judges in
    let taken : ℕ = c.taken_before-taken.result in
    let cut : c.truncate-in-Err-judge.new.self.items
    ≡ take (length c.args.out.now.items + 4 * taken) (c.args.out.now.items ++ words zs) =
    c.truncate-in-Err-judge.ensures.items
    ∙ ap (λ (n : ℕ). take (n + 4 * taken) c.push_words.new.out.items) start
    ∙ ap (λ (l : List ℕ). take (length c.args.out.now.items + 4 * taken) l) c.in_default.ensures.ok in
    record {
      some = tt;
      took = tt;
      rejects = λ is r.
          words_rejects c.args.self.now _ is r zs c.requires.words c.requires.may c.requires.some
          c.depth-in_range.ensures.range.units c.depth-in_range.ensures.range.most_bytes judges.same
          c.args.out.now.items c.truncate-in-Err-judge.new.self.items c.in-Err-judge.why taken
          c.refuse-in-Err-judge.result (judges.judged (all_spelled is) r.bytes) c.taken_before-taken.ensures.right
          c.taken_before-taken.ensures.few c.refuse-in-Err-judge.ensures.why c.refuse-in-Err-judge.ensures.item cut;
      refused = c.refuse-in-Err-judge.ensures.refused;
      same = record { checker = judges.same; limits_are = refl };
    }
