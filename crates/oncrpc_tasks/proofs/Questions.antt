-- Where a name names no kind, nothing is asked.
use Rattle.std.proofs.Common.{◌≡◌, ℕ, ◌<◌, List, length, Bool, false, Option, None, Some, MatchOption, sym, ◌∙◌, ap}
use Rattle.std.proofs.Common.{subst, string_bytes}
use Rattle.std.specs.Bool.{⊤, IsTrue}
use Rattle.std.proofs.lemmas.Bool.{false≢true}
use Rattle.xdr_types.specs.Kinds.{KindView}
use Rattle.xdr_types.specs.declared.kind.KindId.{KindId}
use Rattle.xdr_lang.specs.Declarations.{Declared}
use Rattle.oncrpc_answers.specs.declared.task.ValueTask.{ValueTask}
use Rattle.oncrpc_kinds.specs.Naming.{Names}
use Rattle.oncrpc_tasks.specs.Refusals.{IsReason, NamesNothing}
use Rattle.oncrpc_tasks.specs.Sources.{Declares, HasNone}
use Rattle.oncrpc_tasks.specs.Tasks.{AsksNothing}
use Rattle.oncrpc_tasks.specs.declared.unusable.Unusable.{Unusable}
use Rattle.oncrpc_tasks.specs.declared.unusable.Unusable.TheVariants as unusable

not_there : (o : Option KindId) (p n : ℕ) → MatchOption o ⊥ (λ (k : KindId). k.place ≡ p) → MatchOption o ⊤
    (λ (k : KindId). k.place < n → ⊥) → p < n → ⊥
not_there None p n h missing known = h
not_there (Some k) p n h missing known = missing (subst (λ (m : ℕ). m < n) (sym h) known)

pub nothing_asked : (reported : List ℕ → Option (List ℕ)) (what : ValueTask) (d : Declared) (o : Option KindId)
    → Declares reported what.types d
    → ((p : ℕ) → Names (string_bytes what.name) d p → MatchOption o ⊥ (λ (k : KindId). k.place ≡ p))
    → MatchOption o ⊤ (λ (k : KindId). k.place < length d.schema.kinds → ⊥) → AsksNothing reported what
nothing_asked reported what d o declares only missing =
    record {
      texts = declares.texts;
      are_reported = declares.are_reported;
      none = λ form q asks.
          let same : asks.declared ≡ d = declares.only asks.declared asks.source in
          let named : Names (string_bytes what.name) d q.place = subst
          (λ (e : Declared). Names (string_bytes what.name) e q.place) same asks.named in
          let kinds : q.kinds ≡ d.schema.kinds = asks.kinds ∙ ap (λ (e : Declared). e.schema.kinds) same in
          not_there o q.place (length d.schema.kinds) (only q.place named) missing
          (subst (λ (ks : List KindView). q.place < length ks) kinds asks.known);
    }

pub none_known : (o : Option KindId) (n : ℕ) → o ≡ None → MatchOption o ⊤ (λ (k : KindId). k.place < n → ⊥)
none_known o n is = subst (λ (p : Option KindId). MatchOption p ⊤ (λ (k : KindId). k.place < n → ⊥)) (sym is) tt

pub not_known : (o : Option KindId) (k : KindId) (n : ℕ) → o ≡ Some k → (k.place < n → ⊥) → MatchOption o ⊤
    (λ (j : KindId). j.place < n → ⊥)
not_known o k n is unknown = subst (λ (p : Option KindId). MatchOption p ⊤ (λ (j : KindId). j.place < n → ⊥))
    (sym is) unknown

pub false_is : (b : Bool) → b ≡ false → IsTrue b → ⊥
false_is b is holds = false≢true (sym is ∙ holds)

-- the name names nothing in what is declared
pub names_nothing : (reported : List ℕ → Option (List ℕ)) (what : ValueTask) (d : Declared) (o : Option KindId)
    → Declares reported what.types d
    → ((p : ℕ) → Names (string_bytes what.name) d p → MatchOption o ⊥ (λ (k : KindId). k.place ≡ p))
    → MatchOption o ⊤ (λ (k : KindId). k.place < length d.schema.kinds → ⊥) → NamesNothing reported what
names_nothing reported what d o declares only missing = record {
  declared = d;
  declares = declares;
  none = λ p named. not_there o p (length d.schema.kinds) (only p named) missing;
}

-- where nothing is declared, that is the reason
pub undeclared : (reported : List ℕ → Option (List ℕ)) (what : ValueTask) (why : Unusable)
    → HasNone reported what.types why → IsReason reported what why
undeclared reported what (unusable.Declaration file fault) none = none
undeclared reported what unusable.Name none = absurd none
undeclared reported what unusable.Limits none = absurd none
undeclared reported what (unusable.Failed f) none = tt
