use Rattle.std.proofs.lemmas.Bool.{false≢true}
use Rattle.std.proofs.Common.{◌≡◌, ℕ, List, ◌++◌, length, take, drop, subst, sym, ap, ◌∙◌, true}
use Rattle.std.proofs.Common.{append-nil, append_assoc, arith}
use Rattle.std.proofs.lemmas.List.{length-append, length-take, length-drop}
use Rattle.std.proofs.Math.Seq.{take-add}
use Rattle.std.specs.Int.{w64, from_be_bytes}
use Rattle.xdr_units.proofs.Bytes.{AreBytes-take, AreBytes-drop, bytes_at}
use Rattle.xdr_types.specs.Kinds.{KindView}
use Rattle.xdr_types.specs.Fits.{are_bytes}
use Rattle.xdr_laws.proofs.Legal.{bytes_are, are_bytes_of}
use Rattle.xdr_stream.specs.Frames.{stack_of}
use Rattle.xdr_stream.specs.Sees.{make_wide}
use Rattle.xdr_stream.specs.Trace.{Trace}
use Rattle.xdr_stream.specs.Private.Reported.{HasSpace, leaf_in}
use Rattle.xdr_stream.specs.Represents.{RepresentsAs, RepresentsBytes}
use Rattle.xdr_stream.specs.declared.machine.Awaits.TheVariants.{Wide}
use Rattle.xdr_stream.specs.declared.reader.State.{State}
use Rattle.xdr_stream.proofs.BuiltContent.{With, seen_space}
use Rattle.xdr_stream.proofs.Units.{bytes_taken}
use Rattle.xdr_stream.proofs.Hypers.{both_units}
use Rattle.xdr_stream.proofs.Sparing.{seen_alone}
use Rattle.xdr_stream.proofs.reader.Reader.take_hyper.Goals as goal

pub returns-in-Ok-clause-represents : goal.returns-in-Ok-clause-represents
returns-in-Ok-clause-represents g c = λ b state none space st.
    let a = c.args.self.now in
    let s : List KindView = a.schema.now.kinds in
    let H : Trace → Type 0 = g.B.Build.reports a.built in
    let I : Trace → Type 0 = g.B.Build.reports c.leaf.new.self in
    let fs = stack_of a.work a.parents.items in
    let r = subst (λ (x : State). RepresentsAs g.B.Build.spares s a.kind.place a.limits H fs a.read a.unit
    a.pending x b) state st in
    let q : List ℕ = r.0 in
    let bs : List ℕ = c.args.bytes.now in
    let u : List ℕ = take 4 bs in
    let v : List ℕ = take 4 (drop 4 bs) in
    let both : take 8 bs ≡ u ++ v = take-add 4 4 bs in
    let are : are_bytes (u ++ v) ≡ true =
    subst (λ (x : List ℕ). are_bytes x ≡ true) both (bytes_taken 8 bs (λ i. omega (arith, c.type_inv.bytes i))) in
    let first : are_bytes u ≡ true = bytes_taken 4 bs (λ i. omega (arith, c.type_inv.bytes i)) in
    let second : are_bytes v ≡ true =
    are_bytes_of v (AreBytes-take 4 (drop 4 bs) (AreBytes-drop 4 bs
    (bytes_at bs (λ i. omega (arith, c.type_inv.bytes i))))) in
    let len : length u ≡ 4 = omega (arith, length-take 4 bs, c.requires) in
    let more : length v ≡ 4 = omega (arith, length-take 4 (drop 4 bs), length-drop 4 bs, c.requires) in
    let reports : (x : Trace) → With H HasSpace x → I (leaf_in (make_wide c.args.signed (u ++ v)) x) = λ x w.
    subst (λ h. I (leaf_in h x))
    (c.hyper_leaf.ensures (u ++ v) (c.hyper_at.ensures ∙ ap (λ (y : List ℕ). from_be_bytes w64 y) both))
    (c.in-Ok.ensures.reported x w.0 w.1) in
    let next = both_units s c.len-known.ensures.valued c.len-known.ensures.known a.kind.place a.limits
    (With H HasSpace) I fs c.args.signed q u v len more (bytes_are u first) (bytes_are v second)
    are (omega (arith, r.2, space)) reports
    (seen_space s a.kind.place a.limits H (Wide c.args.signed) fs q tt r.4) in
    let far : length ((q ++ u) ++ v) ≡ c.saturating_add-self.result =
    omega (
      arith,
      length-append q u,
      length-append (q ++ u) v,
      len,
      more,
      r.2,
      space,
      c.depth-in_range.ensures.range.most_bytes,
      c.saturating_add-self.ensures,
    ) in
    let joined : (q ++ u) ++ v ≡ b ++ take 8 bs =
    append_assoc q u v ∙ ap (λ (x : List ℕ). q ++ x) (sym both)
    ∙ ap (λ (x : List ℕ). x ++ take 8 bs)
    (sym (r.1 ∙ ap (λ (k : ℕ). q ++ take k a.unit) none ∙ append-nil q)) in
    subst (λ (x : List ℕ). RepresentsBytes g.B.Build.spares g.B.Build.reports c.settle.new.self x) joined
    (c.settle.ensures.represents ((q ++ u) ++ v) far none tt next)

pub returns-in-Err-clause-represents : goal.returns-in-Err-clause-represents
returns-in-Err-clause-represents g c = λ b state none space st.
    let a = c.args.self.now in
    let z : Type 0 = g.B.Build.spares in
    let H : Trace → Type 0 = g.B.Build.reports a.built in
    let fs = stack_of a.work a.parents.items in
    let r = subst (λ (x : State). RepresentsAs z a.schema.now.kinds a.kind.place a.limits H fs a.read a.unit a.pending
    x b) state st in
    c.fail.ensures.represents (b ++ take 8 c.args.bytes.now) (λ rest. tt)
    (omega (
      arith,
      r.2,
      space,
      ap (λ (x : List ℕ). length x) r.1,
      length-append r.0 (take a.pending a.unit),
      length-append b (take 8 c.args.bytes.now),
      length-take 8 c.args.bytes.now,
      c.requires,
      c.depth-in_range.ensures.range.most_bytes,
      c.saturating_add-self-in-Err.ensures,
    ))
    (λ free.
    let e = seen_alone z a.schema.now.kinds a.kind.place free a.limits H (Wide c.args.signed) fs r.0 r.4 in
    false≢true (c.in-Err.ensures.granted e.0 e.1 e.2))
