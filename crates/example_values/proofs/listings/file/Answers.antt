use Rattle.xdr_lang.specs.Views.{declared_of}
use Rattle.example_values.proofs.Listed.{file_lines}
use Rattle.example_values.proofs.listings.file.Goals as goal

pub returns : goal.returns
returns c = file_lines (declared_of c.args.declared.now) _ c.requires c.in_ok-text.ensures
