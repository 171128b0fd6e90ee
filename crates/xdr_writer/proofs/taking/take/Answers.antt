use Rattle.std.proofs.Common.{◌≡◌, refl, vec_capacity}
use Rattle.xdr_codec.specs.Checks as checks
use Rattle.xdr_writer.specs.Items.{item_view, all_spelled}
use Rattle.xdr_writer.specs.declared.refusal.Why.TheVariants.{NoMemory}
use Rattle.xdr_writer.proofs.Joined.{all_units}
use Rattle.xdr_writer.proofs.Putting.{undue_refuses}
use Rattle.xdr_writer.proofs.Finding.{keeps_since}
use Rattle.xdr_writer.proofs.Following.{follows}
use Rattle.xdr_writer.proofs.OneMore.{form_refused, form_known, took_all, refuses_all, grants_all}
use Rattle.xdr_writer.proofs.taking.take.Goals as goal

pub returns-in-Err-clause-refuses : goal.returns-in-Err-clause-refuses
returns-in-Err-clause-refuses c =
    let w = c.args.checker.now in
    record {
      refuses = λ is after room.
          undue_refuses (checks.kinds_of w) (checks.kind_of w).place (checks.limits_of w) is after.begin
          c.requires.units (item_view c.args.item) c.in-Err.why
          (c.in-Err.ensures.finds.says (all_spelled is) after.bytes (all_units is));
      retained = refl;
    }

pub returns-in-Err-coded_of-clause-refuses : goal.returns-in-Err-coded_of-clause-refuses
returns-in-Err-coded_of-clause-refuses c =
    let w = c.args.checker.now in
    record {
      refuses = λ is after room.
          form_refused w c.args.schema.now c.requires.schema c.requires.units is after c.in-Ok.due
          (c.in-Ok.ensures.finds.says (all_spelled is) after.bytes (all_units is)) (item_view c.args.item)
          c.in-Err-coded_of.why c.in-Err-coded_of.ensures;
      retained = refl;
    }

pub returns-in-Err-coded_of-clause-granted : goal.returns-in-Err-coded_of-clause-granted
returns-in-Err-coded_of-clause-granted c = λ is after room flat e.
    let same : c.in-Err-coded_of.why ≡ NoMemory = cc e in
    form_known c.args.checker.now c.args.schema.now c.requires.schema c.requires.units is after c.in-Ok.due
    (c.in-Ok.ensures.finds.says (all_spelled is) after.bytes (all_units is)) (item_view c.args.item)
    c.in-Err-coded_of.why c.in-Err-coded_of.ensures same

pub returns-in-Ok-coded_of-clause-took : goal.returns-in-Ok-coded_of-clause-took
returns-in-Ok-coded_of-clause-took c =
    took_all c.args.checker.now c.next_due.new.checker c.write_within.new.checker c.args.schema.now c.requires.schema
    c.requires.units c.in-Ok.due c.in-Ok.ensures.finds (item_view c.args.item) c.in-Ok-coded_of.coded
    c.in-Ok-coded_of.ensures c.args.space c.args.out.now.items c.write_within.new.out.items c.write_within.result
    c.write_within.ensures.judged c.write_within.ensures.written c.write_within.ensures.kept c.requires.low

pub returns-in-Ok-coded_of-clause-refuses : goal.returns-in-Ok-coded_of-clause-refuses
returns-in-Ok-coded_of-clause-refuses c =
    refuses_all c.args.checker.now c.next_due.new.checker c.write_within.new.checker c.args.schema.now c.requires.schema
    c.requires.units c.in-Ok.due c.in-Ok.ensures.finds (item_view c.args.item) c.in-Ok-coded_of.coded
    c.in-Ok-coded_of.ensures c.args.space c.args.out.now.items c.write_within.new.out.items c.write_within.result
    c.write_within.ensures.judged c.write_within.ensures.written c.write_within.ensures.kept

pub returns-in-Ok-coded_of-clause-granted : goal.returns-in-Ok-coded_of-clause-granted
returns-in-Ok-coded_of-clause-granted c =
    grants_all c.args.checker.now c.next_due.new.checker c.write_within.new.checker c.args.schema.now c.requires.schema
    c.requires.units c.in-Ok.due c.in-Ok.ensures.finds (item_view c.args.item) c.in-Ok-coded_of.coded
    c.in-Ok-coded_of.ensures c.args.space c.args.out.now.items c.write_within.new.out.items c.write_within.result
    (vec_capacity c.args.out.now) c.write_within.ensures.granted

pub returns-in-Ok-coded_of-clause-kept : goal.returns-in-Ok-coded_of-clause-kept
returns-in-Ok-coded_of-clause-kept c =
    keeps_since c.args.checker.now c.next_due.new.checker c.write_within.new.checker c.args.space
    c.args.out.now.items c.write_within.new.out.items c.write_within.result c.in-Ok.ensures.finds.same
    c.in-Ok.ensures.finds.sound c.write_within.ensures.kept

pub returns-in-Ok-coded_of-clause-run : goal.returns-in-Ok-coded_of-clause-run
returns-in-Ok-coded_of-clause-run c =
    follows c.args.checker.now c.args.schema.now c.requires.schema (item_view c.args.item) c.run_of-known.result
    c.in-Ok.due (λ is after. (c.in-Ok.ensures.finds.says (all_spelled is) after.bytes (all_units is)).0)
    c.run_of-known.ensures c.write_within.result
