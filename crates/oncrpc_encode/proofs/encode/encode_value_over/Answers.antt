-- The bytes of the value were written.
use Rattle.std.proofs.Common.{arith, refl}
use Rattle.oncrpc_encode.proofs.Ending.{written_by}
use Rattle.oncrpc_encode.proofs.encode.encode_value_over.Goals as goal

pub returns-in-Ok-print_bytes : goal.returns-in-Ok-print_bytes
returns-in-Ok-print_bytes g c = record {
  known = omega arith;
  asked = λ two. omega (arith, two);
  writes = λ zero. written_by _ _ _ _ _ c.in-Ok.encoded c.in-Bytes.bytes c.in-Ok.ensures.right c.in-Bytes.is
      c.in-Ok-print_bytes.ensures.written;
  silent = λ zero. refl;
  refuses = λ one. absurd (omega (arith, one));
  unwritten = λ one. absurd (omega (arith, one));
  unfailed = λ few. c.in-Ok.ensures.none_failed;
  unlost = λ few. c.in-Ok-print_bytes.ensures.unlost;
  device = λ three. absurd (omega (arith, three));
  in_part = λ three. absurd (omega (arith, three));
  wanting = λ four. absurd (omega (arith, four));
  told = λ three. absurd (omega (arith, three));
  few_reads = c.in-Ok.ensures.reads;
  bounded = c.in-Ok.ensures.moved;
}
