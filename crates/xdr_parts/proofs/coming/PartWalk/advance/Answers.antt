-- What is handed out was still to come.
use Rattle.std.proofs.Common.{◌≡◌, ℕ, ◌==◌, false, not, arith, ◌∙◌}
use Rattle.xdr_parts.proofs.Handing.{listing, afresh, handed, countable, none_to_come}
use Rattle.xdr_parts.proofs.coming.PartWalk.advance.Goals as goal

no_parts : (n : ℕ) → not (n == 0) ≡ false → n ≡ 0
no_parts n e = grind arith

pub take_up_to-requires : goal.take_up_to-requires
take_up_to-requires c = (
  listing c.requires.1,
  afresh c.args.self.now c.requires.0 c.requires.1 _ c.requires.2 c.clear.ensures.taken c.clear.ensures.lists,
)

pub overflow_add-self : goal.overflow_add-self
overflow_add-self c =
    let w = c.args.self.now in
    let st = c.in_ok-take_up_to.ensures.walked (listing c.requires.1)
    (afresh w c.requires.0 c.requires.1 _ c.requires.2 c.clear.ensures.taken c.clear.ensures.lists) in
    omega (arith, countable w c.requires.0 c.requires.1 c.take_up_to.new.self c.requires.2 st)

pub returns-clause-parts : goal.returns-clause-parts
returns-clause-parts c = λ bytes es a.
    let st = c.in_ok-take_up_to.ensures.walked (listing es)
    (afresh c.args.self.now bytes es _ a c.clear.ensures.taken c.clear.ensures.lists) in
    handed c.args.self.now _ bytes es a st (c.in_ok-take_up_to.ensures.bytes ∙ a.spelled) (omega arith)

pub returns-clause-none : goal.returns-clause-none
returns-clause-none c = λ no bytes es a.
    let st = c.in_ok-take_up_to.ensures.walked (listing es)
    (afresh c.args.self.now bytes es _ a c.clear.ensures.taken c.clear.ensures.lists) in
    let zero = no_parts c.take_up_to.new.self.taken.parts no in
    none_to_come c.take_up_to.new.self es st zero (c.in_ok-take_up_to.ensures.ended (omega (arith, zero)))
