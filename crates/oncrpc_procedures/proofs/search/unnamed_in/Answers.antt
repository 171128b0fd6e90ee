-- How far the parts mean something.
use Rattle.std.proofs.Common.{sym, ◌∙◌, map}
use Rattle.xdr_lang.specs.Declarations.{Program, Version}
use Rattle.xdr_lang.specs.Views.{program_of}
use Rattle.oncrpc_procedures.specs.Meant.{means}
use Rattle.oncrpc_procedures.specs.Private.Search.{means_program, parts_of}
use Rattle.oncrpc_procedures.proofs.Meaning.{none_kept, none_within, some_kept, some_within}
use Rattle.oncrpc_procedures.proofs.search.unnamed_in.Goals as goal

pub returns-then-has_version : goal.returns-then-has_version
returns-then-has_version c =
    let p = parts_of c.args.parts.now in
    some_within (means_program p) (λ (v : Version). means p.version v.name v.number)
    (λ (x : Program). x.versions) (map program_of c.args.programs.now)
    (sym c.has_version.ensures ∙ c.if-has_version.true)

pub returns-then-has_program : goal.returns-then-has_program
returns-then-has_program c =
    let p = parts_of c.args.parts.now in (
      some_kept (means_program p) (map program_of c.args.programs.now)
          (sym c.has_program.ensures ∙ c.if-has_program.true),
      none_within (means_program p) (λ (v : Version). means p.version v.name v.number)
          (λ (x : Program). x.versions) (map program_of c.args.programs.now)
          (sym c.has_version.ensures ∙ c.if-has_version.false),
    )

pub returns : goal.returns
returns c =
    let p = parts_of c.args.parts.now in
    none_kept (means_program p) (map program_of c.args.programs.now)
    (sym c.has_program.ensures ∙ c.if-has_program.false)
