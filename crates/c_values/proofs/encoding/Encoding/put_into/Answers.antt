-- The bytes, the content and its zeros stand behind one another.
use Rattle.std.proofs.Common.{◌≡◌, ◌+◌, ◌++◌, ℕ, List, length, refl, subst, arith}
use Rattle.c_answers.specs.Buffers.{AreAtFront}
use Rattle.c_values.proofs.Encodings.{all_put}
use Rattle.c_values.proofs.encoding.Encoding.put_into.Goals as goal

pub returns : goal.returns
returns c =
    let old : List ℕ = c.args.buffer.now in
    let a : List ℕ = c.args.self.now.front.items in
    let b : List ℕ = c.args.self.now.content.now in
    let zeros : List ℕ = c.zeros_behind-zeros.result.now in
    let at : ℕ = c.len-at.result in
    let here : at ≡ length a = omega arith in
    subst (λ (z : List ℕ). AreAtFront (a ++ (b ++ z)) old c.put_at-3.new.buffer) c.zeros_behind-zeros.ensures
    (all_put old a b zeros c.deref.result.now c.put_at.new.buffer c.put_at-2.new.buffer c.put_at-3.new.buffer at
    (at + length b) c.deref.ensures.value here refl c.put_at.ensures c.put_at-2.ensures c.put_at-3.ensures)
