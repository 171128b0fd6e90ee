-- There is one dot.
use Rattle.std.proofs.Common.{codes, refl}
use Rattle.xdr_lang.specs.Views.{declared_of}
use Rattle.oncrpc_procedures.proofs.Cuts.{no_second}
use Rattle.example_procedures.proofs.Texts.{has_no_dot}
use Rattle.example_procedures.proofs.Worked.{is_cut_short}
use Rattle.example_procedures.proofs.mount.is_cut_short.Goals as goal

pub returns : goal.returns
returns c =
    is_cut_short (codes "100005.3") (declared_of c.args.declared.now).programs
    (no_second (codes "100005.3") (codes "100005") (codes "3") (has_no_dot (codes "100005") refl) refl
    (has_no_dot (codes "3") refl)) c.procedure_named.result c.procedure_named.ensures.found
    c.procedure_named.ensures.refused
