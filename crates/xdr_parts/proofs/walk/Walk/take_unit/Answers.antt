use Rattle.std.proofs.Common.{◌≡◌, ℕ, ◌+◌, ◌≤◌, [], ◌∷◌, length, refl, sym, ap, subst, arith}
use Rattle.xdr_types.specs.Kinds.{KindView, kind_at}
use Rattle.xdr_types.specs.KindViews.{kind_view}
use Rattle.xdr_types.specs.Layout.{Entry, entry}
use Rattle.xdr_units.specs.Numbers.{gap}
use Rattle.xdr_laws.specs.Owed.{lead_of, HasUnit, role_of}
use Rattle.xdr_laws.proofs.Counted.{counted}
use Rattle.xdr_stream.specs.Frames.{left_of, rest_of, onto}
use Rattle.xdr_stream.specs.Taking.{Takes}
use Rattle.xdr_stream.specs.declared.machine.number.Made.{Made}
use Rattle.xdr_parts.specs.Lent.{size_in, role_in}
use Rattle.xdr_parts.specs.Private.Walking.{Aim, HasWalked, IsNext, part_of}
use Rattle.xdr_parts.specs.declared.next.Next.{Next}
use Rattle.xdr_parts.specs.declared.walk.Walk.{Walk}
use Rattle.xdr_parts.proofs.Stepping.{Goes, unit_there_of, accepted_of, leaf_of, open_of, length_of}
use Rattle.xdr_parts.proofs.Keeping.{due, entry_same, goes_on, is_few, is_shallow, level}
use Rattle.xdr_parts.proofs.walk.Walk.take_unit.Goals as goal

-- the first unit is there
is_there : (w : Walk) (n : Next) (k : KindView) → (all : Aim) × HasWalked w all → IsNext w n
    → k ≡ kind_at w.schema.now.kinds n.kind.place → HasUnit (lead_of k) → w.at + 4 ≤ length w.bytes.now
is_there w n k some next same unit =
    unit_there_of w.schema.now.kinds w.at w.bytes.now (part_of n) (rest_of (left_of w.work)) (onto [] w.parents.items)
    some.1.left some.1.within (due w n some.0 some.1 next) k same unit

pub unit_at-number-requires : goal.unit_at-number-requires
unit_at-number-requires c =
    is_there c.args.self.now c.args.next _ c.requires.walked c.requires.next c.requires.kind c.requires.unit

pub unreachable-requires : goal.unreachable-requires
unreachable-requires c =
    let w = c.args.self.now in
    let st = c.requires.walked.1 in
    c.in_default.ensures.0
    (accepted_of w.schema.now.kinds w.at w.bytes.now (part_of c.args.next) (rest_of (left_of w.work))
    (onto [] w.parents.items) st.left st.within (due w c.args.next c.requires.walked.0 st c.requires.next) _
    c.requires.kind c.unit_at-number.result c.requires.unit c.unit_at-number.type_inv c.unit_at-number.ensures)

pub leaf-requires-clause-there : goal.leaf-requires-clause-there
leaf-requires-clause-there c = is_there c.args.self.now c.args.next _ c.requires.walked c.requires.next c.requires.kind
    c.requires.unit

pub leaf-requires-clause-moved : goal.leaf-requires-clause-moved
leaf-requires-clause-moved c = is_there c.args.self.now c.args.next _ c.requires.walked c.requires.next c.requires.kind
    c.requires.unit

pub leaf-requires-clause-deep : goal.leaf-requires-clause-deep
leaf-requires-clause-deep c =
    is_shallow c.args.self.now c.args.next c.requires.walked.0 c.requires.walked.1 c.requires.next

pub leaf-requires-clause-few : goal.leaf-requires-clause-few
leaf-requires-clause-few c =
    omega (arith, is_few c.args.self.now c.requires.walked.0 c.requires.walked.1)

pub open-requires-clause-there : goal.open-requires-clause-there
open-requires-clause-there c = is_there c.args.self.now c.args.next _ c.requires.walked c.requires.next c.requires.kind
    c.requires.unit

pub open-requires-clause-deep : goal.open-requires-clause-deep
open-requires-clause-deep c =
    is_shallow c.args.self.now c.args.next c.requires.walked.0 c.requires.walked.1 c.requires.next

pub open-requires-clause-few : goal.open-requires-clause-few
open-requires-clause-few c =
    omega (arith, is_few c.args.self.now c.requires.walked.0 c.requires.walked.1)

pub counted-requires-clause-there : goal.counted-requires-clause-there
counted-requires-clause-there c =
    let w = c.args.self.now in
    let st = c.requires.walked.1 in
    let t = subst (λ (m : Made). Takes w.schema.now.kinds (kind_view c.args.kind.now) c.unit_at-number.result m)
    c.in-Length.is c.in-Ok.ensures in
    let g = length_of w.schema.now.kinds w.at w.bytes.now (part_of c.args.next) (rest_of (left_of w.work))
    (onto [] w.parents.items) st.left st.within (due w c.args.next c.requires.walked.0 st c.requires.next) _
    c.requires.kind c.unit_at-number.result t.1.0 t.0 c.unit_at-number.ensures
    (is_there c.args.self.now c.args.next _ c.requires.walked c.requires.next c.requires.kind c.requires.unit) in
    subst (λ (m : ℕ). w.at + (4 + (m + gap m)) ≤ length w.bytes.now) (sym t.1.1) g.within

pub counted-requires-clause-deep : goal.counted-requires-clause-deep
counted-requires-clause-deep c =
    is_shallow c.args.self.now c.args.next c.requires.walked.0 c.requires.walked.1 c.requires.next

pub counted-requires-clause-few : goal.counted-requires-clause-few
counted-requires-clause-few c =
    omega (arith, is_few c.args.self.now c.requires.walked.0 c.requires.walked.1)

pub returns-in-Leaf-clause-walked : goal.returns-in-Leaf-clause-walked
returns-in-Leaf-clause-walked c =
    let w = c.args.self.now in
    let n = c.args.next in
    let fs = onto [] w.parents.items in
    let role = c.unit_role-role.result in
    let k = kind_view c.args.kind.now in
    let t = subst (λ (m : Made). Takes w.schema.now.kinds k c.unit_at-number.result m) c.in-Leaf.is c.in-Ok.ensures in
    goes_on c.leaf.result w c.leaf.new.self n
    (entry w.at (size_in role 4) (length w.parents.items + 1) (part_of n) (role_in role 4) ∷ [])
    (entry w.at 4 (length fs + 1) (part_of n) (role_of k) ∷ []) 4 (rest_of (left_of w.work) ∷ fs) c.requires.next
    (ap (λ (e : Entry). e ∷ [])
    (entry_same w.at w.at (size_in role 4) 4 (length w.parents.items + 1) (length fs + 1) (part_of n) (role_in role 4)
    (role_of k) refl c.unit_role-role.ensures.size (level w.parents.items) c.unit_role-role.ensures.role))
    (λ all st. leaf_of w.schema.now.kinds w.at w.bytes.now (part_of n) (rest_of (left_of w.work)) fs st.left st.within
    (due w n all st c.requires.next) _ c.requires.kind c.unit_at-number.result t.1.0 t.0 c.unit_at-number.ensures
    (is_there c.args.self.now c.args.next _ c.requires.walked c.requires.next c.requires.kind c.requires.unit) t.1.2)
    c.leaf.ensures

pub returns-in-Open-clause-walked : goal.returns-in-Open-clause-walked
returns-in-Open-clause-walked c =
    let w = c.args.self.now in
    let n = c.args.next in
    let fs = onto [] w.parents.items in
    let role = c.unit_role-role.result in
    let k = kind_view c.args.kind.now in
    let t = subst (λ (m : Made). Takes w.schema.now.kinds k c.unit_at-number.result m) c.in-Open.is c.in-Ok.ensures in
    goes_on c.open.result w c.open.new.self n
    (entry w.at (size_in role 4) (length w.parents.items + 1) (part_of n) (role_in role 4) ∷ [])
    (entry w.at 4 (length fs + 1) (part_of n) (role_of k) ∷ []) 4
    (left_of c.in-Open.frame ∷ rest_of (left_of w.work) ∷ fs) c.requires.next
    (ap (λ (e : Entry). e ∷ [])
    (entry_same w.at w.at (size_in role 4) 4 (length w.parents.items + 1) (length fs + 1) (part_of n) (role_in role 4)
    (role_of k) refl c.unit_role-role.ensures.size (level w.parents.items) c.unit_role-role.ensures.role))
    (λ all st. open_of w.schema.now.kinds w.at w.bytes.now (part_of n) (rest_of (left_of w.work)) fs st.left st.within
    (due w n all st c.requires.next) _ c.requires.kind c.unit_at-number.result (left_of c.in-Open.frame) t.1.0 t.0
    c.unit_at-number.ensures (is_there c.args.self.now c.args.next _ c.requires.walked c.requires.next c.requires.kind
    c.requires.unit) t.1.3)
    c.open.ensures

pub returns-in-Length-clause-walked : goal.returns-in-Length-clause-walked
returns-in-Length-clause-walked c =
    let w = c.args.self.now in
    let n = c.args.next in
    let fs = onto [] w.parents.items in
    let x = c.in-Length.size in
    let k = kind_view c.args.kind.now in
    let t = subst (λ (m : Made). Takes w.schema.now.kinds k c.unit_at-number.result m) c.in-Length.is c.in-Ok.ensures in
    goes_on c.counted.result w c.counted.new.self n
    (counted w.at (length w.parents.items + 1) (part_of n) x) (counted w.at (length fs + 1) (part_of n) x)
    (4 + (x + gap x)) (rest_of (left_of w.work) ∷ fs) c.requires.next
    (ap (λ (d : ℕ). counted w.at d (part_of n) x) (level w.parents.items))
    (λ all st. subst (λ (m : ℕ). Goes w.schema.now.kinds w.at w.bytes.now st.left
    (counted w.at (length fs + 1) (part_of n) m) (4 + (m + gap m)) (rest_of (left_of w.work) ∷ fs)) (sym t.1.1)
    (length_of w.schema.now.kinds w.at w.bytes.now (part_of n) (rest_of (left_of w.work)) fs st.left st.within
    (due w n all st c.requires.next) _ c.requires.kind c.unit_at-number.result t.1.0 t.0 c.unit_at-number.ensures
    (is_there c.args.self.now c.args.next _ c.requires.walked c.requires.next c.requires.kind c.requires.unit)))
    c.counted.ensures
