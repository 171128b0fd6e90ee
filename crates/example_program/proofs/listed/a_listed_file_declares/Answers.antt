-- The text of the file that is named means something.
use Rattle.example_program.proofs.Sourced.{in_language, one_file}
use Rattle.example_program.proofs.listed.a_listed_file_declares.Goals as goal

pub returns : goal.returns
returns g c = λ done.
    let d = (c.types_over.ensures.printed done).lists.declares in
    in_language _ _ c.requires.dialect (one_file (g.P.Opener.reported c.args.opener.now) _ _ _ _ _
    c.requires.files d.are_reported d.declared)
