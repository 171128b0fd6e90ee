use Rattle.std.proofs.Common.{◌≡◌, true, false, [], ◌∷◌, ◌++◌, refl, sym, ◌∙◌}
use Rattle.std.proofs.lemmas.List.{map-append}
use Rattle.std.specs.List.{list_any}
use Rattle.std.specs.Str.{bytes_eq}
use Rattle.xdr_constants.specs.Views.{known_of, knowns}
use Rattle.xdr_constants.specs.Constants.{Known as KnownSpec}
use Rattle.xdr_constants.specs.Names.{names, repeat_after}
use Rattle.xdr_constants.proofs.Tables.{repeat_more}
use Rattle.xdr_constants.proofs.constant_table.ConstantTable.push.Goals.{then-self, else-self}
use Rattle.xdr_constants.proofs.constant_table.ConstantTable.push.Goals as goal

pub invariant_of-self-2-clause-are_apart : goal.invariant_of-self-2-clause-are_apart
invariant_of-self-2-clause-are_apart c = λ yes.
    elim c.if-self.branch [
      | then-self w ↦
          let old = c.args.self.now.list.items in
          let k = c.args.known.name.text.now in
          let before : repeat_after [] (names (knowns old)) ≡ false = c.args.self.now.are_apart w.if-self.true in
          let alone : list_any (bytes_eq k) (names (knowns old)) ≡ false = c.in_ok-is_first.ensures.alone
          (knowns old) c.args.self.now.is_first (sym w.self-is ∙ yes) in
          let more : names (knowns c.push_reserved.new.self.items) ≡ names (knowns old) ++ k ∷ [] = rw (
            c.push_reserved.ensures.items,
            c.in_ok-reserve.ensures.items,
            map-append known_of old (c.args.known ∷ []),
          ) (map-append (λ (x : KnownSpec). x.name) (knowns old) (known_of c.args.known ∷ [])) in
          rw (more, repeat_more [] (names (knowns old)) k, before, alone) refl
      | else-self w ↦ let no : false ≡ true = sym w.if-self.false ∙ (sym w.self-is ∙ yes) in absurd cc
    ]
