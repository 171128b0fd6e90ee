-- Items of an array that are numbers of one unit fill its next parts.
use Rattle.std.proofs.Common.{◌≡◌, ◌-◌, ◌≤◌, ◌++◌, ◌∷◌, ℕ, ℤ}
use Rattle.std.proofs.Common.{List, [], length, take, replicate, subst, arith, length-take}
use Rattle.std.proofs.lemmas.List.{length-take-le}
use Rattle.xdr_types.specs.Fits.{item_part}
use Rattle.xdr_stream.specs.Frames.{left_of}
use Rattle.xdr_stream.specs.declared.machine.frame.Frame.{Frame}
use Rattle.xdr_writer.specs.Runs.{as_items}
use Rattle.xdr_filling.specs.Holes.{Hole, hole, Goes}
use Rattle.xdr_filling.specs.Filled.{onto, root, units}
use Rattle.xdr_filling.specs.Private.Makes.{AreUnits}
use Rattle.xdr_filling.proofs.Running.{run_goes, front_units}
use Rattle.xdr_filling.proofs.filling.Filling.take_numbers.Goals as goal

pub returns-clause-filled : goal.returns-clause-filled
returns-clause-filled c = λ place depth is bytes h.
    let s = c.args.self.now.schema.now.kinds in
    let w = c.args.self.now.work in
    let r = c.in-Some.run' in
    let hs : List Hole = onto [] c.args.self.now.around.items in
    let n = c.units_in_front-count.result in
    let zs : List ℤ = take n c.args.numbers.now in
    let most : n ≤ c.min-most.result = omega (arith, length-take c.min-most.result c.args.numbers.now) in
    let within : n ≤ length c.args.numbers.now = omega (arith, length-take c.min-most.result c.args.numbers.now) in
    let low : n ≤ r.left = omega arith in
    let count : length zs ≡ n = length-take-le n c.args.numbers.now within in
    let few : length zs ≤ r.left = omega arith in
    let all : AreUnits r.signed zs =
    front_units r.signed n c.min-most.result c.args.numbers.now most c.units_in_front-count.ensures.units in
    let before : Goes s (root place depth) (hole (replicate r.left (item_part r.item.place)) w.room ∷ hs) is bytes =
    subst (λ (f : Frame). Goes s (root place depth) (hole (left_of f) w.room ∷ hs) is bytes)
    c.in-Some.ensures.frame h in
    subst (λ (m : ℕ). Goes s (root place depth) (hole (replicate (r.left - m) (item_part r.item.place)) w.room ∷ hs)
    (is ++ as_items zs) (bytes ++ units zs)) count
    (run_goes s r.item.place w.room c.in-Some.ensures.room hs r.signed zs r.left (root place depth) is bytes
    c.in-Some.ensures.kind all few before)
