-- All parts of the value are owed before the first.
use Rattle.std.proofs.Common.{refl, sym, subst, arith, List, take, drop}
use Rattle.xdr_types.specs.Layout.{entries}
use Rattle.xdr_laws.specs.Owed.{Completes}
use Rattle.xdr_stream.specs.Frames.{dues}
use Rattle.xdr_parts.proofs.Judging.{spelled}
use Rattle.xdr_cursor.specs.Frames.{stack_in}
use Rattle.xdr_cursor.specs.declared.frame.Frame.{Frame}
use Rattle.xdr_cursor.specs.declared.frame.Frame.TheVariants.{Items}
use Rattle.xdr_cursor.proofs.Starting.{owes_all}
use Rattle.xdr_cursor.proofs.cursor.Cursor.start.Goals as goal

pub returns-clause-begun : goal.returns-clause-begun
returns-clause-begun c =
    let schema = c.args.schema.now in
    let kind = c.args.kind.place in
    let input = c.args.input.now in
    let used = c.in_ok-used.used in
    let o = c.in_ok-used.ensures.whole in
    let well = c.len-known.ensures.well_formed in
    let sound = c.len-known.ensures.sound in
    let range = c.depth-in_range.ensures.range in
    let f = spelled schema well sound kind c.args.limits input o.0 used range o.1 in (
      o.0,
      o.1,
      record {
        there = o.1.0.within;
        known = refl;
        stands = record {
          owes = subst (λ (fs : List Frame). Completes schema.kinds 0 (dues (stack_in schema.kinds
              (Items c.args.kind 1) fs)) (drop 0 (take used input)) (entries schema.kinds kind o.0))
              (sym c.new.ensures.items) (owes_all schema well sound kind c.args.limits input o.0 used range o.1);
          within = omega arith;
          low = f.low;
          few = omega (arith, f.few);
        };
      },
    )
