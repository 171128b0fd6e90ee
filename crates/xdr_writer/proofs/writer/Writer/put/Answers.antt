use Rattle.std.proofs.Common.{◌≡◌, ◌+◌, ◌-◌, ℕ, length, ap, ◌∙◌, refl, arith}
use Rattle.xdr_writer.specs.Items.{item_view}
use Rattle.xdr_writer.proofs.OneMore.{took_by}
use Rattle.xdr_writer.proofs.Refusing.{rejects}
use Rattle.xdr_writer.proofs.writer.Writer.put.Goals as goal

pub returns-in-Ok-clause-took : goal.returns-in-Ok-clause-took
returns-in-Ok-clause-took c = λ is st.
    let w = c.args.self.now in
    let after : c.len.result ≡ length c.take.new.out.items = c.len.ensures ∙ c.take.new.out.ok.0 in
    let before : c.len-before.result ≡ length c.args.out.now.items = c.len-before.ensures ∙ c.args.out.now.ok.0 in
    took_by w _ is (item_view c.args.item) c.args.out.now.items c.take.new.out.items c.in-Ok.step st
    (c.in-Ok.ensures.took is (record { bytes = st.bytes; begin = st.begin })) st.goes_on
    (ap (λ (n : ℕ). w.written + (n - c.len-before.result)) after
    ∙ ap (λ (n : ℕ). w.written + (length c.take.new.out.items - n)) before) refl c.in-Ok.ensures.run
    c.take.ensures.kept.same

pub returns-in-Err-clause-refuses : goal.returns-in-Err-clause-refuses
returns-in-Err-clause-refuses c =
    rejects c.args.self.now _ (item_view c.args.item) c.args.out.now.items c.take.new.out.items
    c.saturating_sub-space.result _ c.depth-in_range.ensures.range.units
    (omega (arith, c.saturating_sub-space.ensures, c.bytes.ensures)) refl c.in-Err.ensures.refuses refl
