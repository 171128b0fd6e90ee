use Rattle.std.proofs.Common.{[], ap, refl, ◌++◌, take, ◌∙◌}
use Rattle.oncrpc_capture.proofs.Fed.{fed_broken, fed_more, fed_none, fed_packet, parts_of, reports_more, takes_more}
use Rattle.oncrpc_capture.proofs.Fed.{takes_packet}
use Rattle.oncrpc_capture.proofs.desk.Desk.feed.Goals as goal

pub packets-init : goal.packets-init
packets-init g c = record { through = ([], refl, fed_none _ _ _ _ _ _); ports = refl }

pub packets-preserved : goal.packets-preserved
packets-preserved g c =
    let inv = c.packets.invariant in
    let arm = c.in-Ok-Packet in
    record {
      through = (
        inv.through.0 ++ take arm.used c.packets.rest.now,
        parts_of c.args.piece.now inv.through.0 c.packets.rest.now arm.used inv.through.1,
        fed_packet _ _ _ _ _ _ _ _ _ c.feed.new.self _ _ _ _ inv.through.2
            _ _ _ arm.used _ _ (ap (λ k. k.now) inv.ports)
            (takes_packet c.packets.reader c.feed.new.self c.packets.rest.now arm.field-0 arm.used arm.field-0-is
            arm.ensures.takes) c.in_ok-next_packet-in-Ok-Packet.ensures.prints,
      );
      ports = c.next_packet.ensures.ports ∙ inv.ports;
    }

pub returns-in-Ok-More-clause-feeds : goal.returns-in-Ok-More-clause-feeds
returns-in-Ok-More-clause-feeds g c =
    let inv = c.packets.invariant in
    let arm = c.in-Ok-More in
    fed_more _ _ _ _ _ _ _ _ _ c.feed.new.self _ _ _ _ inv.through.2
    _ inv.through.1
    (takes_more c.packets.reader c.feed.new.self c.packets.rest.now arm.field-0 arm.field-0-is arm.ensures.takes)
    (reports_more c.packets.reader c.feed.new.self c.packets.rest.now arm.field-0 arm.field-0-is arm.ensures.reports)

pub returns-in-Err-clause-feeds : goal.returns-in-Err-clause-feeds
returns-in-Err-clause-feeds g c =
    let inv = c.packets.invariant in
    let refused = c.in_ok-refuse_file-in-Err.ensures in
    fed_broken _ _ _ _ _ _ _ _ _ c.feed.new.self _ _ _ _ inv.through.2
    _ _ c.refuse_file.new.self.frame _ _ c.in-Err.fault inv.through.1 c.in-Err.ensures.takes
    c.in-Err.ensures.reports refused.reason c.in-Err.ensures.refused.inside refused.told c.refuse_file.ensures.flows
