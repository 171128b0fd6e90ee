use Rattle.std.proofs.Common.{◌≡◌, ◌≤◌, ◌++◌, [], ◌∷◌, ℕ, length, IfOk, subst, sym, ap, refl}
use Rattle.xdr_types.specs.Kinds.{kind_at, opaque_up_to}
use Rattle.xdr_types.specs.Spelling.{bytes_of}
use Rattle.xdr_types.specs.Within.{Bounds, FitsWithin}
use Rattle.xdr_stream.specs.declared.reader.Progress.{Progress}
use Rattle.xdr_stream.specs.declared.reader.Progress.TheVariants.{Done}
use Rattle.example_xdr.specs.Rfc.{content}
use Rattle.example_xdr.proofs.Accepted.{done_at, begun}
use Rattle.example_xdr.proofs.pieces.takes_no_more.Goals as goal

pub returns-clause-answer : goal.returns-clause-answer
returns-clause-answer c =
    let d = c.start-decoder.result in
    let set = c.start-decoder.ensures.settings in
    let S = d.reader.schema.now.kinds in
    let kind : kind_at S d.reader.kind.place ≡ opaque_up_to 4294967295 =
    rw (set.schema_is, set.kind_is) c.requires.kind in
    let limit : 4 ≤ d.reader.limits.bytes = subst (λ (l : Bounds). 4 ≤ l.bytes) (sym set.limits_are) c.requires.limit in
    let depth : 1 ≤ d.reader.limits.depth = subst (λ (l : Bounds). 1 ≤ l.depth) (sym set.limits_are) c.requires.depth in
    let fit : FitsWithin S d.reader.kind.place d.reader.limits (content []) = rw kind (refl, (depth, limit)) in
    let bytes : bytes_of S d.reader.kind.place (content []) ++ (0 ∷ 0 ∷ 0 ∷ 42 ∷ [])
    ≡ 0 ∷ 0 ∷ 0 ∷ 0 ∷ 0 ∷ 0 ∷ 0 ∷ 42 ∷ [] = rw kind refl in
    let four : bytes_of S d.reader.kind.place (content []) ≡ 0 ∷ 0 ∷ 0 ∷ 0 ∷ [] = rw kind refl in
    subst (λ (n : ℕ). IfOk c.feed.result (λ (p : Progress). p ≡ Done n)) (ap length four)
    (done_at S d.reader.kind.place d.reader.limits (0 ∷ 0 ∷ 0 ∷ 0 ∷ 0 ∷ 0 ∷ 0 ∷ 42 ∷ []) (content [])
    (0 ∷ 0 ∷ 0 ∷ 42 ∷ []) fit bytes
    c.feed.result (c.feed.ensures.answer [] c.start-decoder.ensures.represents) c.feed.ensures.leaves.used)

pub returns-clause-fault : goal.returns-clause-fault
returns-clause-fault c =
    let d = c.start-decoder.result in
    let set = c.start-decoder.ensures.settings in
    let S = d.reader.schema.now.kinds in
    let kind : kind_at S d.reader.kind.place ≡ opaque_up_to 4294967295 =
    rw (set.schema_is, set.kind_is) c.requires.kind in
    let limit : 4 ≤ d.reader.limits.bytes = subst (λ (l : Bounds). 4 ≤ l.bytes) (sym set.limits_are) c.requires.limit in
    let depth : 1 ≤ d.reader.limits.depth = subst (λ (l : Bounds). 1 ≤ l.depth) (sym set.limits_are) c.requires.depth in
    let fit : FitsWithin S d.reader.kind.place d.reader.limits (content []) = rw kind (refl, (depth, limit)) in
    let bytes : bytes_of S d.reader.kind.place (content []) ++ (0 ∷ 0 ∷ 0 ∷ 42 ∷ [])
    ≡ 0 ∷ 0 ∷ 0 ∷ 0 ∷ 0 ∷ 0 ∷ 0 ∷ 42 ∷ [] = rw kind refl in
    begun S d.reader.kind.place d.reader.limits (0 ∷ 0 ∷ 0 ∷ 0 ∷ 0 ∷ 0 ∷ 0 ∷ 42 ∷ []) (content [])
    (0 ∷ 0 ∷ 0 ∷ 42 ∷ []) fit bytes
    c.feed.result (c.feed.ensures.answer [] c.start-decoder.ensures.represents)
