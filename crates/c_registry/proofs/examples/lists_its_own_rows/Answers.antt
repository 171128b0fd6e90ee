-- What is held is what was started, and its rows are counted and stand in front.
use Rattle.std.proofs.Common.{List, sym, ap, ◌∙◌, take, None, option_map}
use Rattle.std.specs.Fmt.{digits}
use Rattle.registry_rows.specs.Ports.{own_rows}
use Rattle.c_registry.specs.declared.row.RowParts.{RowParts}
use Rattle.c_registry.specs.Held.{Held, held_of}
use Rattle.c_registry.specs.Listed.{buffers}
use Rattle.c_registry.proofs.Denied.{started}
use Rattle.c_registry.proofs.Told.{counted, in_front}
use Rattle.c_registry.proofs.examples.lists_its_own_rows.Goals as goal

pub returns-clause-counts : goal.returns-clause-counts
unfolding digits
returns-clause-counts c = λ e f.
    let s = c.start_registry-started.ensures in
    let l = c.list_rows-listed.ensures.answer in
    let own : Held = record { rows = own_rows 111; waits = None } in
    let held = started 111 (option_map held_of c.start_registry-started.new.handle.held) s.0 s.1 (sym e ∙ s.2) in
    l.3 ∙ counted own (buffers c.args.rows.now c.args.bytes.now)
    (buffers c.list_rows-listed.new.rows c.list_rows-listed.new.bytes) l.0 (rw held at l.1) (sym f ∙ l.2)

pub returns-clause-first : goal.returns-clause-first
unfolding digits
returns-clause-first c = λ e f.
    let s = c.start_registry-started.ensures in
    let l = c.list_rows-listed.ensures.answer in
    let own : Held = record { rows = own_rows 111; waits = None } in
    let held = started 111 (option_map held_of c.start_registry-started.new.handle.held) s.0 s.1 (sym e ∙ s.2) in
    ap (λ (rs : List RowParts). take 1 rs)
    (in_front own (buffers c.args.rows.now c.args.bytes.now)
    (buffers c.list_rows-listed.new.rows c.list_rows-listed.new.bytes) l.0 (rw held at l.1) (sym f ∙ l.2))
