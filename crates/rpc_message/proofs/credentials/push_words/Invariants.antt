use Rattle.std.proofs.Common.{◌≡◌, ◌++◌, take, All}
use Rattle.std.specs.List.{flat_map}
use Rattle.xdr_units.specs.Numbers.{word, IsWord}
use Rattle.rpc_message.proofs.credentials.push_words.Given as goal

abbrev pub invariant-loop-number : goal.invariant-loop-number
invariant-loop-number l = record {
  written : l.out.items ≡ l.fn.out.items ++ flat_map word (take l.number-index l.words);
  fit : All IsWord (take l.number-index l.words);
}
