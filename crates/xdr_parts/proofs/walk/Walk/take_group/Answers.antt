use Rattle.std.proofs.Common.{◌+◌, [], ◌∷◌, length, refl, ap, arith}
use Rattle.xdr_types.specs.Layout.{Entry, entry, of_group}
use Rattle.xdr_stream.specs.Frames.{left_of, rest_of, onto}
use Rattle.xdr_parts.specs.Private.Walking.{part_of}
use Rattle.xdr_parts.proofs.Stepping.{group_of}
use Rattle.xdr_parts.proofs.Keeping.{due, entry_same, goes_on, is_few, is_shallow, level}
use Rattle.xdr_parts.proofs.walk.Walk.take_group.Goals as goal

pub open-requires-clause-deep : goal.open-requires-clause-deep
open-requires-clause-deep c =
    is_shallow c.args.self.now c.args.next c.requires.walked.0 c.requires.walked.1 c.requires.next

pub open-requires-clause-few : goal.open-requires-clause-few
open-requires-clause-few c =
    omega (arith, is_few c.args.self.now c.requires.walked.0 c.requires.walked.1)

pub returns-clause-walked : goal.returns-clause-walked
returns-clause-walked c =
    let w = c.args.self.now in
    let n = c.args.next in
    let fs = onto [] w.parents.items in
    let d = length w.parents.items + 1 in
    goes_on c.open.result w c.open.new.self n (entry w.at 0 d (part_of n) of_group ∷ [])
    (entry w.at 0 (length fs + 1) (part_of n) of_group ∷ []) 0
    (left_of c.args.frame ∷ rest_of (left_of w.work) ∷ fs) c.requires.next
    (ap (λ (e : Entry). e ∷ [])
    (entry_same w.at w.at 0 0 d (length fs + 1) (part_of n) of_group of_group refl refl (level w.parents.items) refl))
    (λ all st. group_of w.schema.now.kinds w.at w.bytes.now (part_of n) (rest_of (left_of w.work)) fs st.left st.within
    (due w n all st c.requires.next) _ c.requires.kind (left_of c.args.frame) c.requires.silent c.requires.frame)
    c.open.ensures
