use Rattle.std.proofs.Common.{◌≡◌, ◌∙◌, ◌++◌, ◌∷◌, [], ℕ, List, Bor, ap, sym, subst}
use Rattle.std.proofs.lemmas.List.{map-append}
use Rattle.xdr_dialect.specs.Answers.{texts}
use Rattle.xdr_dialect.specs.Private.Owned.{HasAll}
use Rattle.xdr_dialect.proofs.own_names.OwnNames.push.Goals as goal

pub invariant_of-self-2 : goal.invariant_of-self-2
invariant_of-self-2 c =
    let names : texts c.push_reserved.new.self.items ≡ texts c.args.self.now.list.items ++ c.args.name.now ∷ [] =
    ap (λ (ns : List (Bor (List ℕ))). texts ns) c.push_reserved.ensures.items
    ∙ (map-append (λ (n : Bor (List ℕ)). n.now) c.reserve.new.self.items (c.args.name ∷ [])
    ∙ ap (λ (ns : List (Bor (List ℕ))). texts ns ++ c.args.name.now ∷ []) c.reserve.ensures.items) in
    record {
      has_all = subst (λ (ns : List (List ℕ)). HasAll c.add_to.new.set ns) (sym names)
          (c.in_ok-add_to.ensures.added (texts c.args.self.now.list.items) c.args.self.now.has_all);
    }
