-- Which fault is told of an object that has each member that it is to have.
use Rattle.std.proofs.Common.{◌≡◌, ℕ, List, [], Some, None, is_some, true, false, sym, ap, ◌∙◌, subst}
use Rattle.std.proofs.lemmas.Bool.{true≢false, false≢true}
use Rattle.json.specs.Json as json
use Rattle.json.specs.Json.{Json, Members}
use Rattle.xdr_types.specs.Kinds.{KindView, Part, kind_at}
use Rattle.xdr_json.specs.Spelled.{is_group}
use Rattle.xdr_json_reader.specs.Nodes.{Due}
use Rattle.xdr_json_reader.specs.Reasons.{Wants, WantsNone, IsRight, refused_key, front, values}
use Rattle.xdr_json_reader.specs.Reasons.{Fault, IsFirst, behind, here, in_part, lacks, in_member, on_key}
use Rattle.xdr_json_reader.specs.declared.fault.JsonReason.{JsonReason}

abbrev members_in : Json → Members
members_in (json.object ms) = ms
members_in _ = json.no_members

-- it is the first fault of their values, in the order in which they stand
pub of_values : (kinds : List KindView) (root : Due) (fields : List Part) (w : JsonReason)
    → ((ps : List Part) → Wants kinds (kind_at kinds root.0) root.1 ps → ps ≡ fields)
    → (WantsNone kinds (kind_at kinds root.0) root.1 → ⊥) → refused_key fields [] (members_in root.1) ≡ None
    → is_group fields root.1 ≡ true → (IsRight kinds root → ⊥) → IsFirst kinds root w
    → Fault kinds (IsRight kinds) (values fields (front fields [] (members_in root.1))) w
of_values kinds root fields w only some none group wrong (behind _ _ _ p f) = absurd (wrong p)
of_values kinds root fields w only some none group wrong (here _ _ _ n h) = absurd (some n)
of_values kinds root fields w only some none group wrong (in_part _ _ h _ n s f) = absurd (some n)
of_values kinds _ fields _ only some none group wrong (lacks place ms _ ps wants m) =
    let e : is_group fields (json.object ms) ≡ false =
    subst (λ (qs : List Part). is_group qs (json.object ms) ≡ false) (only ps wants) m.1 in
    absurd (true≢false (sym group ∙ e))
of_values kinds _ fields w only some none group wrong (in_member place ms _ ps _ wants m f) =
    subst (λ (qs : List Part). Fault kinds (IsRight kinds) (values qs (front qs [] ms)) w) (only ps wants) f
of_values kinds _ fields w only some none group wrong (on_key place ms _ ps _ wants e a) =
    let is : refused_key fields [] ms ≡ Some w =
    subst (λ (qs : List Part). refused_key qs [] ms ≡ Some w) (only ps wants) e in
    absurd (false≢true (ap is_some (sym none ∙ is)))
