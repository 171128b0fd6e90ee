use Rattle.std.proofs.Common.{arith, rules}
use Rattle.std.specs.Fmt.{decimal}
use Rattle.std.proofs.lemmas.Fmt.{length-decimal-le}
use Rattle.xdr_show.proofs.Puts.{puts}
use Rattle.xdr_show.proofs.backwards.write_unsigned.Goals as goal

pub write_digits-requires : goal.write_digits-requires
write_digits-requires c = (
  omega (arith, c.requires.0, length-decimal-le 20 c.args.number (omega arith) (omega arith) c.ranges.number.fits),
  search rules,
)

pub returns-clause-start : goal.returns-clause-start
returns-clause-start c =
    let few = length-decimal-le 20 c.args.number (omega arith) (omega arith) c.ranges.number.fits in (
      omega (arith, c.write_digits.ensures.start),
      omega (arith, few, c.write_digits.ensures.start),
    )

pub returns-clause-written : goal.returns-clause-written
returns-clause-written c =
    puts c.args.line.now c.write_digits.new.buf (decimal c.args.number) c.write_digits.result c.args.end
    c.write_digits.ensures.start c.write_digits.ensures.written c.write_digits.ensures.before
