use Rattle.std.proofs.Common.{Option, option_map, ap, ◌∙◌}
use Rattle.xdr_grammar.specs.declared.outline.Part.{Part}
use Rattle.xdr_grammar.specs.View.{part_of}
use Rattle.xdr_lang.proofs.type_table.TypeTable.named.Goals as goal

pub returns-in-Some : goal.returns-in-Some
returns-in-Some c = ap (λ (o : Option Part). option_map part_of o) c.in-Some.ensures.value
    ∙ c.args.self.now.has_parts.finds c.args.name.now

pub returns-in-None : goal.returns-in-None
returns-in-None c = ap (λ (o : Option Part). option_map part_of o) c.in-None.ensures.value
    ∙ c.args.self.now.has_parts.finds c.args.name.now
