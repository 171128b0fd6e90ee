use Rattle.std.proofs.Common.{ap, sym, arith}
use Rattle.xdr_types.specs.Kinds.{Part}
use Rattle.xdr_paths.proofs.Counted.{no_item}
use Rattle.xdr_paths.proofs.look.Look.counted.Goals as goal

pub returns-then-index-count : goal.returns-then-index-count
returns-then-index-count c =
    λ vs s. no_item c.args.self.now.schema.now.kinds c.args.self.now.limits c.args.self.now.bytes.now
    c.args.item.place c.args.count c.args.index c.args.at c.args.depth vs (omega (arith, c.if-index-count.true))

pub returns : goal.returns
returns c =
    λ vs s.
    let m = c.in_ok-at.ensures c.args.depth vs s in (
      m.0,
      m.1,
      record {
        place = sym m.2.0;
        depth = sym m.2.1;
        kind = sym (ap (λ (p : Part). p.kind) m.2.2);
        name = sym (ap (λ (p : Part). p.name) m.2.2);
      },
      m.2.3,
    )
