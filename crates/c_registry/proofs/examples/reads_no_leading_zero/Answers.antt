-- The text is read by the definition.
use Rattle.std.proofs.Common.{ℕ, List, ap, ◌∙◌}
use Rattle.std.specs.Fmt.{digits}
use Rattle.registry_uaddr.specs.Uaddrs.{uaddr_of}
use Rattle.registry_uaddr.specs.declared.address.Uaddr.{Uaddr}
use Rattle.c_registry.specs.Addresses.{reported_of}
use Rattle.c_registry.proofs.examples.reads_no_leading_zero.Goals as goal

pub returns : goal.returns
unfolding digits
returns c =
    let e = c.read_address.ensures.value ∙ ap (λ (t : List ℕ). reported_of (uaddr_of t)) c.requires in (
      ap (λ (p : ℕ × Uaddr). p.0) e,
      ap (λ (p : ℕ × Uaddr). p.1.host) e,
      ap (λ (p : ℕ × Uaddr). p.1.port) e,
    )
