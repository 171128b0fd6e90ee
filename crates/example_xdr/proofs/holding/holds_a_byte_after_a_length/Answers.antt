use Rattle.std.proofs.Common.{ℕ, List, [], ◌∷◌, ◌++◌, subst}
use Rattle.std.specs.Prelude.{Ok}
use Rattle.xdr_stream.specs.Represents.{taken}
use Rattle.xdr_stream.specs.declared.reader.Progress.{Progress}
use Rattle.xdr_codec.specs.Represents.{RepresentsBytes}
use Rattle.example_xdr.proofs.holding.holds_a_byte_after_a_length.Goals as goal

pub returns-clause-second : goal.returns-clause-second
returns-clause-second c =
    let first : List ℕ = 255 ∷ 255 ∷ 255 ∷ 255 ∷ [] in
    let second : List ℕ = 97 ∷ [] in
    let one = c.in-Ok-More.ensures in
    let two = c.in-Ok-More-feed.ensures in
    let before = subst (λ (p : Progress). RepresentsBytes c.feed.new.self ([] ++ taken first (Ok p)))
    c.in-Ok-More.field-0-is (one.represents [] c.start-decoder.ensures.represents) in
    let after = subst (λ (p : Progress). RepresentsBytes c.feed-2.new.self (first ++ taken second (Ok p)))
    c.in-Ok-More-feed.field-0-is (two.represents first before) in
    c.held.ensures.pending (first ++ second) after (two.leaves.goes_on c.in-Ok-More-feed.field-0-is)
