use Rattle.std.proofs.Common.{◌≡◌, ◌++◌, List, [], ℕ, ap, sym, ◌∙◌, append_assoc, rules}
use Rattle.std.proofs.lemmas.List.{append-nil, nil_from_length, take-append-drop}
use Rattle.hex.specs.Hex.{encode_lower, encode_with}
use Rattle.xdr_show.proofs.Stepping.{encode-append}
use Rattle.xdr_show.proofs.content.push_pairs.Goals as goal

pub loop-rest-preserved : goal.loop-rest-preserved
loop-rest-preserved c =
    let run = c.split_at.result.0.now in
    let behind = c.split_at.result.1.now in
    let new : c.extend_from_slice.new.self.items
    ≡ c.loop-rest.out.items ++ encode_lower run = search
    (rules, c.in_ok-extend_from_slice.ensures.items, c.in-Ok.ensures.written) in
    let joined : run ++ behind ≡ c.loop-rest.rest.now = search (rules, take-append-drop) in
    ap (λ (z : List ℕ). z ++ encode_lower behind) new
    ∙ append_assoc c.loop-rest.out.items (encode_lower run) (encode_lower behind)
    ∙ ap (λ (z : List ℕ). c.loop-rest.out.items ++ z)
    (sym (encode-append run behind) ∙ ap (λ (z : List ℕ). encode_lower z) joined) ∙ c.loop-rest.invariant

pub returns : goal.returns
unfolding encode_with
returns c =
    let left : c.loop-rest.rest.now ≡ [] = nil_from_length c.loop-rest.rest.now (grind rules) in
    sym (append-nil c.loop-rest.out.items) ∙ ap (λ (z : List ℕ). c.loop-rest.out.items ++ encode_lower z) (sym left)
    ∙ c.loop-rest.invariant
