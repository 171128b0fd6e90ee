use Rattle.std.proofs.Common.{◌≡◌, ◌^◌, ◌<◌, ◌≤◌, ◌++◌, length, ap, sym, ◌∙◌, append_assoc, length-append, arith}
use Rattle.rpc_record.specs.Reading.{capped}
use Rattle.rpc_record.proofs.Places.{StandsAt-same, content_whole, InContent-more}
use Rattle.rpc_record.proofs.steps.after_content.Goals as goal

pub returns-then-left-gt0-clause-represents : goal.returns-then-left-gt0-clause-represents
returns-then-left-gt0-clause-represents c limit rs content bytes more e i t =
    (InContent-more _ _ _ _ _ _ _ _ e c.requires i, t)

pub returns-else-left-gt0-clause-represents : goal.returns-else-left-gt0-clause-represents
returns-else-left-gt0-clause-represents c limit rs content bytes more e i t =
    let whole : length more ≡ c.args.at_work.left = omega arith in
    let same = content_whole i.before i.part more bytes c.args.at_work.last c.args.at_work.left whole i.spelled in
    let joined = sym (ap (λ k. k ++ more) i.joined ∙ append_assoc i.first i.part more) in
    let len = length-append i.part more in
    let len_content = length-append content more in
    let counted : length (i.part ++ more) < 2 ^ 31 = omega (arith, len, whole, i.counted) in
    let fits : length (i.first ++ (i.part ++ more)) ≤ limit = omega (
      arith,
      ap length joined,
      len_content,
      whole,
      i.fits,
    ) in
    StandsAt-same limit c.args.taken _ rs _ _ _ _ joined same
    (c.after_fragment.ensures.represents limit rs i.first (i.part ++ more) i.before i.upto counted fits
    (t ∙ ap (λ b. capped (length b)) (sym same)))
