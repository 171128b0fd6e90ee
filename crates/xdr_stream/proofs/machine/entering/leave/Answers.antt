use Rattle.std.proofs.Common.{List, sym, subst}
use Rattle.std.proofs.lemmas.Result.{err_from_is_err_and}
use Rattle.xdr_types.specs.Kinds.{KindView, Part}
use Rattle.xdr_stream.specs.Frames.{left_of}
use Rattle.xdr_stream.specs.Private.Sound.{AreSolid}
use Rattle.xdr_stream.proofs.Sounding.{solid_known}
use Rattle.xdr_stream.proofs.machine.entering.leave.Goals as goal

pub returns-in_err-whole-clause-spared : goal.returns-in_err-whole-clause-spared
returns-in_err-whole-clause-spared g c =
    let p = err_from_is_err_and c.from_residual.result c.from_residual.ensures.1 in
    rw p.1 (c.in_err-whole.ensures.spared c.args.schema.now.kinds c.args.limits)

pub returns-in_err-whole-clause-sound : goal.returns-in_err-whole-clause-sound
returns-in_err-whole-clause-sound g c =
    let s : List KindView = c.args.schema.now.kinds in
    let empty = c.requires.none in
    let after = c.end_nodes.ensures.solid s
    ((subst (λ (qs : List Part). AreSolid s qs) (sym empty) tt, c.requires.sound.1)) in
    (solid_known s (left_of c.end_nodes.new.work) after.0, after.1)

pub returns-clause-follows : goal.returns-clause-follows
returns-clause-follows g c = λ kind q h.
    (c.in_ok-whole.ensures.follows c.args.schema.now.kinds).0 kind c.args.limits q h

pub returns-clause-sound : goal.returns-clause-sound
returns-clause-sound g c =
    let s : List KindView = c.args.schema.now.kinds in
    let empty = c.requires.none in
    let after = c.end_nodes.ensures.solid s
    ((subst (λ (qs : List Part). AreSolid s qs) (sym empty) tt, c.requires.sound.1)) in
    (solid_known s (left_of c.end_nodes.new.work) after.0, after.1)
