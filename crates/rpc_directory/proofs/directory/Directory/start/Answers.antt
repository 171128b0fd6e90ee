use Rattle.std.proofs.Common.{ap, ◌∙◌, List, ℕ}
use Rattle.registry_rows.specs.Ports.{at_port}
use Rattle.std.proofs.lemmas.Bool.{le-leb}
use Rattle.rpc_directory.specs.Private.Own.{set_both}
use Rattle.rpc_directory.proofs.Own.{own_set, length-at_port, is_empty-not}
use Rattle.rpc_directory.proofs.directory.Directory.start.Goals as goal

pub returns : goal.returns
returns g c =
    let len = length-at_port c.args.port c.ranges.port.fits in
    let a1 = c.deref.ensures.value ∙ c.in_ok-address.ensures in
    let a2 = c.deref-2.ensures.value ∙ c.in_ok-address.ensures in
    let a3 = c.deref-3.ensures.value ∙ c.in_ok-address.ensures in
    own_set (at_port c.args.port) (is_empty-not _ len.0) (le-leb _ _ len.1) _ _ _ _ c.new-directory.ensures
    (c.in_ok-set_own.ensures ∙ ap (λ (t : List ℕ). set_both c.new-directory.result 2 t) a1)
    (c.in_ok-set_own-2.ensures ∙ ap (λ (t : List ℕ). set_both c.set_own.new.self 3 t) a2)
    (c.in_ok-set_own-3.ensures ∙ ap (λ (t : List ℕ). set_both c.set_own-2.new.self 4 t) a3)
