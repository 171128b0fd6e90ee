use Rattle.std.proofs.Common.{refl}
use Rattle.xdr_cursor.proofs.Ending.{outer_owed}
use Rattle.xdr_cursor.proofs.cursor.Cursor.due.Goals as goal

pub loop-next-init : goal.loop-next-init
loop-next-init c = ((λ bytes es st. st), record { used = refl; lost = refl }, refl)

pub loop-next-preserved : goal.loop-next-preserved
loop-next-preserved c = (
  (λ bytes es h.
      let w = c.loop-next.self in
      let st = c.loop-next.invariant.0 bytes es h in
      record {
        owes = outer_owed c.args.schema.now.kinds bytes es w st c.in_default.ensures c.pop.new.self.items
            c.in-Some-pop.parent c.in-Some-pop.ensures.items;
        within = st.within;
        low = st.low;
        few = st.few;
      }),
  record { used = c.loop-next.invariant.1.used; lost = c.loop-next.invariant.1.lost },
  c.loop-next.invariant.2,
)
