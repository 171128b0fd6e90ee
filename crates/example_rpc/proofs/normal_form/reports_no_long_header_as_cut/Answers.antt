use Rattle.example_rpc.proofs.normal_form.Cut.{not_cut}
use Rattle.example_rpc.proofs.normal_form.reports_no_long_header_as_cut.Goals as goal

pub returns : goal.returns
returns g c = λ e.
    let stops = rw (e, c.new-source.ensures.left) at c.normalise.ensures.fault in
    not_cut _ _ _ c.args.place stops
