-- Which numbers follow an item.
use Rattle.std.proofs.Common.{◌≡◌, ℕ, List, [], ◌∷◌, ◌++◌, refl, ap, sym, ◌∙◌, subst, append_assoc, inl, inr}
use Rattle.std.proofs.Common.{Bool}
use Rattle.std.specs.Prelude.{Result, Ok, Err, IfOk}
use Rattle.xdr_types.specs.Kinds as xdr
use Rattle.xdr_types.specs.Kinds.{KindView, Lists, kind_at}
use Rattle.xdr_types.specs.Within.{Bounds}
use Rattle.xdr_types.specs.Layout.{Entry}
use Rattle.xdr_types.specs.declared.kind.KindId.{KindId}
use Rattle.xdr_laws.proofs.Known.{one_stands}
use Rattle.xdr_due.specs.Due.{IsDue}
use Rattle.xdr_due.specs.declared.due.Due.{Due}
use Rattle.xdr_due.specs.declared.due.Due.TheVariants as due
use Rattle.xdr_codec.specs.Checks as checks
use Rattle.xdr_codec.specs.declared.checker.Checker.{Checker}
use Rattle.xdr_writer.specs.Items as item
use Rattle.xdr_writer.specs.Items.{ItemView, NodeItem, of_node, all_spelled}
use Rattle.xdr_writer.specs.ItemsOf.{node_items_of}
use Rattle.xdr_writer.specs.Represents.{AreDue, word_kind}
use Rattle.xdr_writer.specs.Private.Runs.{IsRun}
use Rattle.xdr_writer.specs.Private.After.{IsAfter, FollowsItem}
use Rattle.xdr_writer.specs.declared.refusal.Why.{Why}
use Rattle.xdr_writer.specs.declared.runs.Run.{Run}
use Rattle.xdr_writer.specs.declared.item.Step.{Step}
use Rattle.xdr_writer.proofs.Joined.{all_units}
use Rattle.xdr_writer.proofs.Placed.{next_stands}
use Rattle.xdr_writer.proofs.Counted.{counted_of}

module _ (s : List KindView) (t : ℕ) (l : Bounds) (is : List NodeItem) (i : ItemView) (k : KindView) where
  none_due : (left : ℕ) (signed : Bool) → left ≡ 0 → AreDue s t (is ++ of_node k i ∷ []) left (word_kind signed)
  none_due left signed e v rest f at = ([], rest, refl, sym e)

  counted_due : (left : ℕ) (signed : Bool) (id : KindId) (part max : ℕ) (d : Due) → IsDue s t l (all_spelled is) d
      → d ≡ due.Unit id → kind_at s id.place ≡ xdr.up_to part max → kind_at s part ≡ word_kind signed
      → i ≡ item.count left → AreDue s t (is ++ of_node k i ∷ []) left (word_kind signed)
  counted_due left signed id part max d here is_unit array word is_count v rest f at =
      let begins = subst (λ (x : Due). IsDue s t l (all_spelled is) x) is_unit here in
      let grouped : node_items_of s t v ≡ is ++ (of_node k i ∷ rest) = at ∙ append_assoc is (of_node k i ∷ []) rest in
      let g = next_stands s t v is (of_node k i) rest f grouped in
      let one : g.0 ≡ begins.0 = one_stands s t (all_spelled is) (all_units is) g.0 begins.0 g.1.0 begins.1 in
      let kind : k ≡ xdr.up_to part max =
      g.2.kind ∙ ap (λ (e : Entry). kind_at s e.kind) one ∙ ap (λ (n : ℕ). kind_at s n) begins.4 ∙ array in
      counted_of s part max signed word t v is left rest f
      (grouped ∙ ap (λ (x : KindView). is ++ (of_node x i ∷ rest)) kind
      ∙ ap (λ (x : ItemView). is ++ (of_node (xdr.up_to part max) x ∷ rest)) is_count)

  pub due_behind : (left : ℕ) (signed : Bool) (d : Due) → IsDue s t l (all_spelled is) d → IsRun s d i left signed
      → AreDue s t (is ++ of_node k i ∷ []) left (word_kind signed)
  due_behind left signed d here run = elim run [
    | inl none ↦ none_due left signed none
    | inr h ↦ counted_due left signed h.0 h.1 h.2 d here h.3 h.4 h.5 h.6
  ]

-- where this is due, so many follow, whatever comes of the item
pub follows : (c : Checker) (schema : Lists) → checks.schema_of c ≡ schema → (i : ItemView) (run : Run) (d : Due)
    → ((is : List NodeItem) → IsAfter c is
    → IsDue (checks.kinds_of c) (checks.kind_of c).place (checks.limits_of c) (all_spelled is) d)
    → IsRun schema.kinds d i run.left run.signed → (r : Result Step Why)
    → IfOk r (λ (s : Step). FollowsItem c i run)
follows c schema of i run d here is_run (Err w) = tt
follows c schema of i run d here is_run (Ok s) = λ is after.
    (d, here is after, subst (λ (x : Lists). IsRun x.kinds d i run.left run.signed) (sym of) is_run)
