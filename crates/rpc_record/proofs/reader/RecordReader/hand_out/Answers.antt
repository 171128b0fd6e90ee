use Rattle.std.proofs.Common.{◌≡◌, ◌∷◌, [], ◌++◌, refl, subst}
use Rattle.rpc_record.specs.Reading.{IsWhole}
use Rattle.rpc_record.proofs.Readers.{Represents-waiting}
use Rattle.rpc_record.proofs.reader.RecordReader.hand_out.Goals as goal

pub returns-clause-hands : goal.returns-clause-hands
returns-clause-hands c =
    let empty : c.replace.new.dest.items ≡ [] = cc in
    let same : c.args.self.now.content.items ≡ c.replace.result.items = cc in (
      c.requires.waiting,
      refl,
      λ bytes rs h.
          let w = Represents-waiting c.args.self.now bytes rs c.requires.waiting h in
          (empty, subst (λ k. IsWhole c.args.self.now.limit (rs ++ k ∷ []) bytes) same w.0, w.1),
    )
