use Rattle.std.proofs.Common.{◌≡◌, [], ◌∷◌, length, arith, inl, inr}
use Rattle.xdr_json_reader.specs.Private.Entries.{due_of, dues}
use Rattle.xdr_json_reader.proofs.Firsts.{kept_start, kept_on, kept_turn, kept_refused, kept_less, kept_end}
use Rattle.xdr_json_reader.proofs.FirstTables.{no_field_tables}
use Rattle.xdr_json_reader.proofs.Groups.{not_some}
use Rattle.xdr_json_reader.proofs.Tables.{no_tables}
use Rattle.xdr_json_reader.proofs.Trees.{first_due, no_items}
use Rattle.xdr_json_reader.proofs.first_fault.first_with.Goals as goal

pub loop-next-init : goal.loop-next-init
loop-next-init c =
    let kinds = c.args.schema.now.kinds in
    let root = due_of c.args.root in
    let is : dues c.push_node.new.due.items ≡ due_of c.args.root ∷ [] =
    first_due c.push_node.result c.is_err.result root c.new-due.result.items c.push_node.new.due.items
    c.is_err.ensures.value c.if-is_err.false c.new-due.ensures.items c.push_node.ensures in (
      kept_start kinds root (dues c.push_node.new.due.items) c.args.found.why is,
      no_tables kinds c.new-tables.result c.new-tables.ensures.empty,
      no_field_tables kinds c.new-groups.result c.new-groups.ensures.empty,
    )

pub loop-next-preserved-in-Ok-None : goal.loop-next-preserved-in-Ok-None
loop-next-preserved-in-Ok-None c = (
  kept_on c.args.schema.now.kinds (due_of c.args.root) c.loop-next.due.items c.pop.new.self.items c.in-Some.next
      c.loop-next.told.why c.in-Some.ensures.items c.loop-next.invariant.0 (dues c.judge.new.due.items)
      (rw c.in-Ok-None.field-0-is at c.in-Ok-None.ensures),
  c.note_names.ensures,
  c.note_fields.ensures,
)

pub loop-next-preserved : goal.loop-next-preserved
loop-next-preserved c = (
  kept_turn c.args.schema.now.kinds (due_of c.args.root) c.loop-next.due.items c.pop.new.self.items c.in-Some.next
      c.loop-next.told.why c.in-Some.ensures.items c.loop-next.invariant.0 (dues c.judge.new.due.items)
      c.in-Ok-Some.fault.why (rw c.in-Ok-Some.field-0-is at c.in-Ok-Some.ensures),
  c.note_names.ensures,
  c.note_fields.ensures,
)

pub loop-next-smaller-in-Ok-None : goal.loop-next-smaller-in-Ok-None
loop-next-smaller-in-Ok-None c =
    kept_less c.args.schema.now.kinds c.loop-next.due.items c.pop.new.self.items c.in-Some.next
    (dues c.judge.new.due.items) c.in-Some.ensures.items (rw c.in-Ok-None.field-0-is at c.in-Ok-None.ensures).less

pub loop-next-smaller : goal.loop-next-smaller
loop-next-smaller c =
    kept_less c.args.schema.now.kinds c.loop-next.due.items c.pop.new.self.items c.in-Some.next
    (dues c.judge.new.due.items) c.in-Some.ensures.items (rw c.in-Ok-Some.field-0-is at c.in-Ok-Some.ensures).less

pub returns-in-Err : goal.returns-in-Err
returns-in-Err c =
    elim c.in-Err.ensures [
      | inl m ↦ inl m
      | inr f ↦
          inr (inl (kept_refused c.args.schema.now.kinds (due_of c.args.root) c.loop-next.due.items
          c.pop.new.self.items c.in-Some.next c.loop-next.told.why c.in-Some.ensures.items c.loop-next.invariant.0
          c.in-Err.fault.why f))
    ]

pub returns : goal.returns
returns c =
    let none = not_some c.pop.result c.in_default.not-Some in
    let empty = rw none at c.pop.ensures.cases in
    let zero : length c.loop-next.due.items ≡ 0 = omega (arith, empty.0, c.loop-next.due.ok.0) in
    inr (kept_end c.args.schema.now.kinds (due_of c.args.root) c.loop-next.due.items c.loop-next.told.why
    (no_items c.loop-next.due.items zero) c.loop-next.invariant.0)
