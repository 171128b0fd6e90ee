use Rattle.std.proofs.Common.{ap, sym, ◌∙◌}
use Rattle.registry_uaddr.specs.Uaddrs.{uaddr_of}
use Rattle.registry_uaddr.proofs.Inverse.{reads_only_texts, the}
use Rattle.registry_uaddr.proofs.Back.{reads_all_texts}
use Rattle.registry_uaddr.proofs.laws.uaddr_reads_back.Goals as goal

pub returns : goal.returns
returns c = record {
  only = reads_only_texts;
  all = reads_all_texts;
  one = λ a b own other same. ap (the a) (sym (reads_all_texts a own) ∙ ap uaddr_of same ∙ reads_all_texts b other);
}
