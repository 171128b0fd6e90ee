use Rattle.std.proofs.Common.{◌≡◌, ◌++◌, false, length, map}
use Rattle.xdr_tokens.specs.Tokens.{lexemes}
use Rattle.xdr_constants.specs.Views.{knowns}
use Rattle.xdr_dialect.specs.Dialect.{left_of}
use Rattle.xdr_aliases.specs.Aliases.{followed, resolved_from}
use Rattle.xdr_aliases.proofs.resolved.written.Given as goal

abbrev pub invariant-loop-rest : goal.invariant-loop-rest
invariant-loop-rest l = record {
  tokens : resolved_from l.follows (knowns l.initial.table.list.items) false (lexemes l.tokens)
      ≡ lexemes l.found.items ++ resolved_from l.follows (knowns l.table.list.items) l.is_value (lexemes l.rest);
  table : followed l.follows (knowns l.initial.table.list.items) (lexemes l.tokens)
      ≡ followed l.follows (knowns l.table.list.items) (lexemes l.rest);
  places : map left_of l.tokens ≡ map left_of l.found.items ++ map left_of l.rest;
}

abbrev pub decreases-loop-rest : goal.decreases-loop-rest
decreases-loop-rest l = length l.rest
