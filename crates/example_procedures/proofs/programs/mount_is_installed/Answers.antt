-- The first part is the number of a program in the table.
use Rattle.std.proofs.Common.{◌≡◌, ℕ, List, Option, None, Some, Bor, MatchOption, codes, refl, ap, sym, ◌∙◌, inl, inr}
use Rattle.std.specs.Option.{option_map}
use Rattle.xdr_units.proofs.Cutting.{no_cut, same_cut}
use Rattle.oncrpc_procedures.specs.Installed.{IsFirstPart, text_for}
use Rattle.example_procedures.proofs.Decimals.{mount_text, nfs_text, rpcbind_text, yp_text}
use Rattle.example_procedures.proofs.Texts.{has_no_dot}
use Rattle.example_procedures.proofs.programs.mount_is_installed.Goals as goal

first : (part : List ℕ) → IsFirstPart part (codes "100005.V3.EXPORT") → part ≡ codes "100005"
first part (own, inl is) = absurd (no_cut (codes "100005") (codes "V3.EXPORT") part own (sym is))
first part (own, inr more) =
    (same_cut part (codes "100005") more.0 (codes "V3.EXPORT") own (has_no_dot (codes "100005") refl) (sym more.1)).0

mount : text_for (codes "100005") ≡ Some (codes "mount")
mount = rw (rpcbind_text, nfs_text, yp_text, mount_text) refl

told : (o : Option (Bor (List ℕ))) → option_map (λ (b : Bor (List ℕ)). b.now) o ≡ Some (codes "mount")
    → MatchOption o ⊥ (λ name. name.now ≡ codes "mount")
told None is = cc
told (Some b) is = cc

pub returns : goal.returns
returns c =
    let e = c.installed_text.ensures in
    told c.installed_text.result (e.2 ∙ ap text_for (first e.0 e.1) ∙ mount)
