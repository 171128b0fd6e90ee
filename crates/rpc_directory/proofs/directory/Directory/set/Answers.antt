use Rattle.std.proofs.Common.{◌≡◌, ◌≤◌, ◌<◌, ℕ, List, [], length, subst, sym, ◌∙◌, arith}
use Rattle.xdr_units.specs.Numbers.{AreBytes}
use Rattle.xdr_units.proofs.Bytes.{bytes_at}
use Rattle.registry_rows.specs.Rows.{row_of}
use Rattle.rpc_directory.proofs.Addable.{addable}
use Rattle.rpc_directory.proofs.directory.Directory.set.Goals as goal

pub append_beside-requires-clause-row : goal.append_beside-requires-clause-row
append_beside-requires-clause-row g c =
    let may = addable _ (row_of c.args.prog c.args.vers c.args.netid.now c.args.address.now [])
    (sym c.may_add.ensures ∙ c.if-not-may_add.false) in
    let netid : c.in_ok-from_slice.field-0.items ≡ c.args.netid.now = c.in_ok-from_slice.ensures.items in
    let address : c.in_ok-from_slice-2.field-0.items ≡ c.args.address.now = c.in_ok-from_slice-2.ensures.items in
    let owner : c.in_ok-from_slice-3.field-0.items ≡ c.args.owner.now = c.in_ok-from_slice-3.ensures.items in
    record {
      prog = c.ranges.prog.fits;
      vers = c.ranges.vers.fits;
      some_netid = subst (λ (t : List ℕ). 0 < length t) (sym netid) may.some_netid;
      some_address = subst (λ (t : List ℕ). 0 < length t) (sym address) may.some_address;
      netid = subst (λ (t : List ℕ). length t ≤ 64) (sym netid) may.netid;
      address = subst (λ (t : List ℕ). length t ≤ 256) (sym address) may.address;
      owner = subst (λ (t : List ℕ). length t ≤ 10) (sym owner) c.requires;
      netid_bytes = subst AreBytes (sym netid) (bytes_at c.args.netid.now (λ i. omega (arith, c.type_inv.netid i)));
      address_bytes = subst AreBytes (sym address)
          (bytes_at c.args.address.now (λ i. omega (arith, c.type_inv.address i)));
      owner_bytes = subst AreBytes (sym owner) (bytes_at c.args.owner.now (λ i. omega (arith, c.type_inv.owner i)));
    }
