use Rattle.std.proofs.Common.{◌≡◌, ◌++◌, length, refl, ap, sym, ◌∙◌, length-append, arith}
use Rattle.std.proofs.lemmas.List.{append-nil}
use Rattle.rpc_record.specs.Marked.{header}
use Rattle.rpc_record.specs.Reading.{capped}
use Rattle.rpc_record.specs.Represents.{limit_of}
use Rattle.rpc_record.proofs.Headers.{length-header}
use Rattle.rpc_record.proofs.Places.{StandsAt-same}
use Rattle.rpc_record.proofs.reader.RecordReader.take_heading.Goals as goal

pub returns-clause-represents : goal.returns-clause-represents
returns-clause-represents c bytes rs h t =
    let self = c.args.self.now in
    let head = header c.args.heading.last c.args.heading.count in
    let whole : bytes ≡ h.before = h.spelled ∙ append-nil h.before in
    let taken : c.saturating_add-self.result ≡ capped (length (h.before ++ head)) = omega (
      arith,
      t,
      ap length whole,
      length-append h.before head,
      length-header c.args.heading.last c.args.heading.count,
    ) in
    StandsAt-same (limit_of self) c.saturating_add-self.result _ rs _ _ _ _ refl (ap (λ b. b ++ head) (sym whole))
    (c.after_heading-self.ensures.represents (limit_of self) rs self.content.items h.before (omega arith) h.upto h.place
    taken)
