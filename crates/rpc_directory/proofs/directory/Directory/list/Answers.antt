use Rattle.std.proofs.Common.{◌≡◌, ◌∙◌, ap, sym, arith, option_map, ◌-◌, drop, ℕ}
use Rattle.xdr_types.specs.View.{tree}
use Rattle.registry_rows.specs.Views.{plain_row}
use Rattle.rpc_directory.proofs.Steps.{none_past}
use Rattle.rpc_directory.specs.Private.Listings.{list_of}
use Rattle.rpc_directory.proofs.Listed.{list_more, list_less}
use Rattle.rpc_directory.proofs.directory.Directory.list.Goals as goal

pub loop-left-preserved-in-Some-2 : goal.loop-left-preserved-in-Some-2
loop-left-preserved-in-Some-2 g c =
    let at = sym c.row.ensures.value ∙ ap (option_map (λ r. plain_row r.now)) c.in-Some.is in
    let has = sym (ap (option_map tree) c.in-Some-2.is) ∙ c.in_ok-first-in-Some.ensures in
    record {
      within = omega (arith, c.loop-left.invariant.within);
      listed = c.in_ok-list-in-Some-2.ensures
          ∙ list_more c.args.listing c.args.self.now (c.loop-left.left - 1) c.loop-left.left
          (plain_row c.in-Some.row.now)
          (tree c.in-Some-2.first) (tree c.loop-left.list) (omega (arith, c.loop-left-test.true)) at has
          c.loop-left.invariant.listed;
    }

pub loop-left-preserved : goal.loop-left-preserved
loop-left-preserved g c =
    let at = sym c.row.ensures.value ∙ ap (option_map (λ r. plain_row r.now)) c.in-Some.is in
    let has = sym (ap (option_map tree) c.in-None-2.is) ∙ c.in_ok-first-in-Some.ensures in
    record {
      within = omega (arith, c.loop-left.invariant.within);
      listed = list_less c.args.listing c.args.self.now (c.loop-left.left - 1) c.loop-left.left
          (plain_row c.in-Some.row.now) (tree c.loop-left.list) (omega (arith, c.loop-left-test.true)) at has
          c.loop-left.invariant.listed;
    }

pub unreachable-requires : goal.unreachable-requires
unreachable-requires g c =
    let none = sym c.row.ensures.value ∙ ap (option_map (λ r. plain_row r.now)) c.in-None.is in
    let past = none_past c.args.self.now (c.loop-left.left - 1) none in
    omega (arith, past, c.loop-left.invariant.within, c.loop-left-test.true)

pub returns-clause-all : goal.returns-clause-all
returns-clause-all g c =
    let none_left : c.loop-left.left ≡ 0 = omega (arith, c.loop-left-test.false) in
    c.loop-left.invariant.listed ∙ ap (λ (k : ℕ). list_of c.args.listing (drop k c.args.self.now)) none_left
