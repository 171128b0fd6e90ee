-- At 2 nothing was read or written.
use Rattle.example_program.proofs.Endings.{unencoded}
use Rattle.example_program.proofs.encoded.no_text_is_read_without_a_kind.Goals as goal

pub returns : goal.returns
returns g c = record {
  unread = λ two. (unencoded _ _ _ _ _ _ _ _ _ _ _ _ c.encode_over.ensures.ends two).0;
  unwritten = λ two. (unencoded _ _ _ _ _ _ _ _ _ _ _ _ c.encode_over.ensures.ends two).1;
}
