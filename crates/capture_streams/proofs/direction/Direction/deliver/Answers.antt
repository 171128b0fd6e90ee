use Rattle.std.proofs.Common.{◌≡◌, ◌+◌, ◌-◌, ℕ, List, take, false, is_err, sym, subst}
use Rattle.std.proofs.Common.{◌∙◌, refl, arith}
use Rattle.std.proofs.lemmas.List.{take_rest}
use Rattle.capture_streams.specs.Private.Steps.{Steps}
use Rattle.capture_streams.proofs.Delivering.{steps_more, where_ok}
use Rattle.capture_streams.proofs.direction.Direction.deliver.Goals as goal

pub loop-self-preserved : goal.loop-self-preserved
loop-self-preserved c =
    let old = c.args.self.now in
    let mid = c.loop-self.self in
    let new = c.deliver_next.new.self in
    let bytes = c.args.bytes.now in
    let was = c.loop-self.invariant in
    let done : ℕ = mid.due - old.due in
    let more : ℕ = new.due - mid.due in
    let ok : is_err c.deliver_next.result ≡ false = sym c.is_err.ensures.value ∙ c.if-is_err.false in
    let further = where_ok c.deliver_next.result ok c.deliver_next.ensures.further in
    let from = was.further in
    let less = c.loop-self-test.true in
    let at : mid.due ≡ old.due + done = omega arith in
    let all : done + more ≡ new.due - old.due = omega arith in
    let steps = steps_more old mid new old.due done more bytes c.args.out.now.items c.loop-self.out.items
    c.deliver_next.new.out.items was.steps at (omega arith)
    (subst (λ (zs : List ℕ). Steps mid new mid.due (take more zs) c.loop-self.out.items c.deliver_next.new.out.items)
    (take_rest bytes done) (where_ok c.deliver_next.result ok c.deliver_next.ensures.ok)) in
    record {
      same = record {
        first = c.deliver_next.ensures.same.first ∙ was.same.first;
        limit = c.deliver_next.ensures.same.limit ∙ was.same.limit;
      };
      begun = refl;
      further = omega arith;
      steps = subst
          (λ (n : ℕ). Steps old new old.due (take n bytes) c.args.out.now.items c.deliver_next.new.out.items) all steps;
    }
