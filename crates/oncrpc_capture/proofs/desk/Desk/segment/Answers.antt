use Rattle.oncrpc_capture.proofs.Followed.{keep_all}
use Rattle.oncrpc_capture.proofs.Going.{by_unwanted, by_wanted, goes_join, goes_kept}
use Rattle.oncrpc_capture.proofs.Printed.{on_ok}
use Rattle.std.proofs.Common.{refl, sym, ◌∙◌}
use Rattle.capture_packets.specs.View.{segment_view}
use Rattle.oncrpc_capture.proofs.desk.Desk.segment.Goals as goal

pub returns-then-not-is_wanted-clause-goes : goal.returns-then-not-is_wanted-clause-goes
returns-then-not-is_wanted-clause-goes g c =
    by_unwanted c.args.self.now.ports.now (segment_view c.args.segment) _ _ _

pub returns-clause-goes : goal.returns-clause-goes
returns-clause-goes g c = on_ok _
    (λ h. by_wanted c.args.self.now.ports.now (segment_view c.args.segment) _ _ _ _ _ _ _ _ _ _ _ _
    (sym c.is_wanted.ensures ∙ c.if-not-is_wanted.false)
    (goes_join _ _ _ _ _ _ _ _ _ c.in_ok-place.ensures.goes (goes_join _ _ _ _ _ _ _ _ _
    (goes_kept c.flow_of.new.self.flows _ _ _ (keep_all _ _ refl)) c.in_ok-begin.ensures.goes))
    c.in_ok-take.ensures.goes h) c.hold.ensures.goes
