use Rattle.std.proofs.Common.{◌≡◌, ◌++◌, length, take, arith, rules, length-append}
use Rattle.std.proofs.lemmas.List.{length-take-le}
use Rattle.rpc_record.proofs.Places.{IsInsideAt}
use Rattle.rpc_record.proofs.Places.{IsInside-at}
use Rattle.rpc_record.proofs.Readers.{RefusedIn-now}
use Rattle.rpc_record.proofs.reader.RecordReader.take_content.Goals as goal

-- the reader was inside a record when memory was refused
pub returns-in-Err : goal.returns-in-Err
returns-in-Err c =
    let self = c.args.self.now in
    let piece = c.args.piece.now in
    let inside : IsInsideAt self.place = search rules in
    let all : length (take (length piece) piece) ≡ length piece = length-take-le (length piece) piece (omega arith) in
    let more = take (length piece) piece in
    record {
      some = c.requires.some;
      within = omega arith;
      limit = search rules;
      fed = search rules;
      takes = λ bytes rs h. RefusedIn-now self.limit (length (bytes ++ more)) rs bytes more
          (omega (arith, all, c.requires.some)) (omega (arith, length-append bytes more))
          (IsInside-at self.limit self.taken self.place self.content.items bytes rs inside h).1;
      refuses = λ broken taking bytes rs h. RefusedIn-now self.limit (length more) rs bytes more
          (omega (arith, all, c.requires.some)) (omega arith)
          (IsInside-at self.limit self.taken self.place self.content.items bytes rs inside h).1;
    }
