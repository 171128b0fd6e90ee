use Rattle.std.proofs.Common.{subst, ◌∙◌, List, ℕ, arith}
use Rattle.xdr_types.specs.Layout.{entries}
use Rattle.xdr_parts.specs.Private.Taking.{HasAll}
use Rattle.xdr_parts.specs.Private.Walking.{Aim}
use Rattle.xdr_parts.proofs.Keeping.{finished, is_few}
use Rattle.xdr_parts.proofs.whole.spelled_parts.Goals as goal

pub take_up_to-requires : goal.take_up_to-requires
take_up_to-requires c =
    let all : Aim =
    record { parts = entries c.args.schema.now.kinds c.args.kind.place c.requires.0; lists = c.args.lists } in
    (all, c.start-walk.ensures.walked c.requires.0 c.requires.1)

pub returns-clause-parts : goal.returns-clause-parts
returns-clause-parts c = λ v f.
    let all : Aim = record { parts = entries c.args.schema.now.kinds c.args.kind.place v; lists = c.args.lists } in
    let st = c.in_ok-take_up_to.ensures.walked all (c.start-walk.ensures.walked v f) in
    subst (λ (x : List ℕ). HasAll x all.parts c.take_up_to.new.self.taken)
    (c.in_ok-take_up_to.ensures.bytes ∙ c.start-walk.ensures.bytes)
    (finished c.take_up_to.new.self all st
    (c.in_ok-take_up_to.ensures.ended (omega (arith, is_few c.take_up_to.new.self all st))))

pub returns-clause-lists : goal.returns-clause-lists
returns-clause-lists c =
    let all : Aim =
    record { parts = entries c.args.schema.now.kinds c.args.kind.place c.requires.0; lists = c.args.lists } in
    (c.in_ok-take_up_to.ensures.walked all (c.start-walk.ensures.walked c.requires.0 c.requires.1)).lists
