use Rattle.std.proofs.Common.{length, sym, ◌∙◌}
use Rattle.xdr_lang.specs.Views.{types_of}
use Rattle.xdr_lang.proofs.type_table.TypeTable.is_endless.Goals as goal

pub returns : goal.returns
returns c = λ yes.
    let types = types_of c.args.self.now.list.items in
    c.args.self.now.has_none.none c.args.name.now (sym c.is_in.ensures ∙ yes) (length types)
