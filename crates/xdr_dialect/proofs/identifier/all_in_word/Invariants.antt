use Rattle.std.proofs.Common.{◌≡◌, drop}
use Rattle.std.specs.List.{list_all}
use Rattle.xdr_tokens.specs.Bytes.{is_word}
use Rattle.xdr_dialect.proofs.identifier.all_in_word.Given as goal

abbrev pub invariant-loop-byte : goal.invariant-loop-byte
invariant-loop-byte l = list_all is_word (drop l.byte-index l.text) ≡ list_all is_word l.text
