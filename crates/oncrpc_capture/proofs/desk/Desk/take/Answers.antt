use Rattle.std.proofs.Common.{◌+◌, refl, ◌∙◌}
use Rattle.capture_packets.specs.View.{segment_view}
use Rattle.oncrpc_capture.proofs.Followed.{first_number, next_bytes, next_number, seen_part}
use Rattle.oncrpc_capture.proofs.Going.{on_goes, on_none, on_takes}
use Rattle.oncrpc_capture.proofs.desk.Desk.take.Goals as goal

pub pieces-init : goal.pieces-init
pieces-init g c = record {
  goes = on_none _ _ _ _;
  at = (
    0,
    first_number _ _ c.first_of-sequence.ensures.number c.first_of-sequence.ensures.small,
    c.bytes_of-rest.ensures,
  );
  ports = refl;
  frame = refl;
}

pub pieces-preserved : goal.pieces-preserved
pieces-preserved g c =
    let inv = c.pieces.invariant in
    let s = segment_view c.args.segment in
    record {
      goes = on_goes _ _ _ _ _ _ _ _ _ _
          (on_goes _ _ _ _ _ _ _ _ _ _
          (on_takes s _ _ _ _ _ _ _ _ _ _ _ (seen_part s _ c.args.seen c.pair_of-up.result.0 c.pair_of-up.result.1
          inv.at.0 _ _ c.requires c.pair_of-up.ensures.from c.pair_of-up.ensures.to inv.at.1 inv.at.2) inv.goes
          c.in_ok-taken.ensures)
          c.in_ok-records.ensures.goes) c.in_ok-go_behind.ensures.goes;
      at = (
        inv.at.0 + c.in-Some.count,
        next_number _ inv.at.0 _ _ _ inv.at.1 c.number_behind-sequence.ensures,
        next_bytes inv.at.0 _ _ _ _ inv.at.2 c.behind-rest.ensures,
      );
      ports = c.go_behind.ensures.same.0 ∙ c.records.ensures.same.0 ∙ inv.ports;
      frame = c.go_behind.ensures.same.1 ∙ c.records.ensures.same.1 ∙ inv.frame;
    }

pub returns-in_default-clause-goes : goal.returns-in_default-clause-goes
returns-in_default-clause-goes g c =
    let inv = c.pieces.invariant in
    let s = segment_view c.args.segment in
    on_goes _ _ _ _ _ _ _ _ _ _
    (on_takes s _ _ _ _ _ _ _ _ _ _ _ (seen_part s _ c.args.seen c.pair_of-up.result.0 c.pair_of-up.result.1 inv.at.0
    _ _ c.requires c.pair_of-up.ensures.from
    c.pair_of-up.ensures.to inv.at.1 inv.at.2) inv.goes c.in_ok-taken.ensures) c.in_ok-records.ensures.goes
