use Rattle.std.proofs.Common.{inl, inr}
use Rattle.xdr_json.proofs.Apart.{are_apart}
use Rattle.xdr_json_reader.specs.Tape.{json_in}
use Rattle.xdr_json_reader.specs.Private.Entries.{due_of, dues}
use Rattle.xdr_json_reader.proofs.Firsts.{opens_took, first_here}
use Rattle.xdr_json_reader.proofs.first_fault.judge_alone.Goals as goal

pub returns-in-Ok : goal.returns-in-Ok
returns-in-Ok c =
    opens_took c.args.schema.now.kinds (are_apart c.args.schema.now c.len-known.ensures.well_formed)
    c.args.turn.next.kind.place (json_in c.args.turn.next.node.now) _ _ (dues c.args.due.now.items)
    (dues c.read_node.new.due.items) c.requires.alone c.in-Ok.ensures

pub returns-in-Err : goal.returns-in-Err
returns-in-Err c =
    elim c.in-Err.ensures [
      | inl m ↦ inl m
      | inr w ↦
          inr (first_here c.args.schema.now.kinds (due_of c.args.turn.next) c.in-Err.fault.why c.requires.alone w)
    ]
