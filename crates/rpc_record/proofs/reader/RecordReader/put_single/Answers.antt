use Rattle.std.proofs.Common.{◌≡◌, ◌<◌, ◌++◌, ◌∷◌, [], true, length, refl, sym, subst, ap, ◌∙◌, length-append, arith}
use Rattle.rpc_record.specs.Marked.{header, fragment}
use Rattle.rpc_record.specs.Reading.{capped}
use Rattle.rpc_record.specs.Fields.{StandsAt}
use Rattle.rpc_record.proofs.Headers.{length-header}
use Rattle.rpc_record.proofs.Singles.{Represents-between, Whole-single, Refused-single}
use Rattle.rpc_record.proofs.reader.RecordReader.put_single.Goals as goal

pub returns-in-Ok-clause-whole : goal.returns-in-Ok-clause-whole
returns-in-Ok-clause-whole c =
    let self = c.args.self.now in
    let part = c.args.content.now in (
      refl,
      c.in-Ok.ensures.items ∙ ap (λ k. k ++ part) c.clear.ensures.items,
      c.requires.between,
      λ bytes rs h.
          let s = Represents-between self bytes rs c.requires.between h in
          let whole = Whole-single self.limit rs [] bytes part refl s.1 c.requires.counted (omega
          (arith, c.requires.fits)) in
          let long : c.saturating_add-self.result ≡ capped (length (bytes ++ fragment true part)) = omega (
            arith,
            c.saturating_add-self.ensures,
            s.2,
            length-append bytes (fragment true part),
            length-append (header true (length part)) part,
            length-header true (length part),
          ) in
          subst (λ p. StandsAt self.limit p self.content.items c.saturating_add-self.result
          (bytes ++ fragment true part) (rs ++ part ∷ [])) (sym c.requires.between) (s.0, whole, long),
    )

pub returns-in-Err-clause-refused : goal.returns-in-Err-clause-refused
returns-in-Err-clause-refused c =
    let self = c.args.self.now in
    let part = c.args.content.now in
    let some : 0 < length part = omega (arith, c.in-Err.ensures.full, c.clear.ensures.len) in (
      refl,
      refl,
      λ bytes rs h.
          let s = Represents-between self bytes rs c.requires.between h in
          Refused-single self.limit rs [] bytes part refl s.1 c.requires.counted (omega (arith, c.requires.fits))
          (length (bytes ++ fragment true part)) some (omega (
            arith,
            length-append bytes (fragment true part),
            length-append (header true (length part)) part,
          )),
    )

pub returns-in-Err-clause-refuses : goal.returns-in-Err-clause-refuses
returns-in-Err-clause-refuses c broken taking bytes rs h =
    let self = c.args.self.now in
    let part = c.args.content.now in
    let some : 0 < length part = omega (arith, c.in-Err.ensures.full, c.clear.ensures.len) in
    let s = Represents-between self bytes rs c.requires.between h in
    Refused-single self.limit rs [] bytes part refl s.1 c.requires.counted (omega (arith, c.requires.fits))
    (length (fragment true part)) some (omega (arith, length-append (header true (length part)) part))
