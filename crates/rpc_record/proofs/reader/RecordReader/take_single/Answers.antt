use Rattle.std.proofs.Common.{◌≡◌, ◌<◌, ◌++◌, ◌∷◌, [], true, length, sym, subst, ap, length-append, arith, rules}
use Rattle.rpc_record.specs.Marked.{header, fragment}
use Rattle.rpc_record.specs.Reading.{IsWhole, capped}
use Rattle.rpc_record.proofs.Headers.{length-header}
use Rattle.rpc_record.proofs.Singles.{Represents-between, Whole-single, Refused-single}
use Rattle.rpc_record.proofs.reader.RecordReader.take_single.Goals as goal

pub returns-in-Ok : goal.returns-in-Ok
returns-in-Ok c =
    let self = c.args.self.now in
    let part = c.args.content.now in
    record {
      limit = search rules;
      whole = search rules;
      refused = search rules;
      takes = λ bytes rs h.
          let s = Represents-between self bytes rs c.requires.between h in
          let items : c.extend_from_slice.new.self.items ≡ self.content.items ++ part = c.in-Ok.ensures.items in
          let whole = Whole-single self.limit rs self.content.items bytes part s.0 s.1 c.requires.counted (omega
          (arith, c.requires.fits)) in
          let long : c.saturating_add-self.result ≡ capped (length (bytes ++ fragment true part)) = omega (
            arith,
            c.saturating_add-self.ensures,
            s.2,
            length-append bytes (fragment true part),
            length-append (header true (length part)) part,
            length-header true (length part),
          ) in
          (subst (λ k. IsWhole self.limit (rs ++ k ∷ []) (bytes ++ fragment true part)) (sym items) whole, long);
      refuses = search rules;
    }

pub returns-in-Err : goal.returns-in-Err
returns-in-Err c =
    let self = c.args.self.now in
    let part = c.args.content.now in
    record {
      limit = search rules;
      whole = search rules;
      refused = search rules;
      takes = λ bytes rs h.
          let s = Represents-between self bytes rs c.requires.between h in
          let some : 0 < length part = omega (arith, c.in-Err.ensures.full, ap length s.0) in
          Refused-single self.limit rs self.content.items bytes part s.0 s.1 c.requires.counted (omega
          (arith, c.requires.fits)) (length (bytes ++ fragment true part)) some (omega (
            arith,
            length-append bytes (fragment true part),
            length-append (header true (length part)) part,
          ));
      refuses = λ broken taking bytes rs h.
          let s = Represents-between self bytes rs c.requires.between h in
          let some : 0 < length part = omega (arith, c.in-Err.ensures.full, ap length s.0) in
          Refused-single self.limit rs self.content.items bytes part s.0 s.1 c.requires.counted (omega
          (arith, c.requires.fits)) (length (fragment true part)) some
          (omega (arith, length-append (header true (length part)) part));
    }
