-- Of no text the listing is empty.
use Rattle.std.proofs.Common.{List, ℕ, subst}
use Rattle.std.specs.Io.KnownBytes.{Appends}
use Rattle.example_program.proofs.Unlisted.{no_line}
use Rattle.example_program.proofs.listed.no_file_has_no_line.Goals as goal

pub returns : goal.returns
returns g c = λ done.
    let w = c.types_over.ensures.printed done in
    subst (λ (t : List ℕ). Appends (g.O.Sink.taken c.args.output.now) (g.O.Sink.taken c.types_over.new.output) t)
    (no_line (g.P.Opener.reported c.args.opener.now) c.args.what.now w.text c.requires.files c.requires.lines w.lists)
    w.written
