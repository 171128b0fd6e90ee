use Rattle.std.proofs.Common.{ℕ, ◌+◌, ◌-◌, length, refl, arith}
use Rattle.capture_streams.proofs.Putting.{is_put}
use Rattle.capture_streams.proofs.pieces.Pieces.put.Goals as goal

pub invariant_of-self : goal.invariant_of-self
invariant_of-self c =
    let m = c.args.self.now.by_last in
    let at : ℕ = c.args.at in
    let put = is_put m c.insert.new.self at (at + (length c.args.bytes.now - 1))
    (record { at = at; bytes = c.in-Ok.copy }) c.args.bytes.now refl c.in-Ok.ensures.items c.args.self.now.apart
    c.requires.some c.requires.fits refl
    c.requires.gap c.in-Ok-insert.ensures.updates c.insert.ensures.was_ordered c.in-Ok-insert.ensures.entries in
    let counted = c.args.self.now.counted in
    let cost = put.cost in
    record { apart = put.apart; counted = omega arith; within = omega arith; ordered = c.insert.ensures.ordered }

pub returns-in-Ok-insert-clause-ok : goal.returns-in-Ok-insert-clause-ok
returns-in-Ok-insert-clause-ok c =
    let m = c.args.self.now.by_last in
    let at : ℕ = c.args.at in
    let put = is_put m c.insert.new.self at (at + (length c.args.bytes.now - 1))
    (record { at = at; bytes = c.in-Ok.copy }) c.args.bytes.now refl c.in-Ok.ensures.items c.args.self.now.apart
    c.requires.some c.requires.fits refl
    c.requires.gap c.in-Ok-insert.ensures.updates c.insert.ensures.was_ordered c.in-Ok-insert.ensures.entries in
    put.puts
