-- A change by a caller of another host who is not trusted changes no row.
use Rattle.std.proofs.Common.{◌≡◌, ℕ, Bool, true, false, List, refl, sym, ap, ◌∙◌, subst, Option, Some, None}
use Rattle.rpc_message.specs.Message.{CallView}
use Rattle.rpc_message.specs.Spelling.{CallBytes}
use Rattle.registry_callers.specs.declared.callers.Caller.{Caller}
use Rattle.registry_callers.specs.declared.callers.Peer.TheVariants as peer
use Rattle.registry_callers.specs.Callers.{is_trusted}
use Rattle.registry_callers.specs.Asking.{is_change}
use Rattle.registry_callers.specs.Laws.{RemoteIsDenied}
use Rattle.c_registry.specs.declared.answer.Answer.{Answer}
use Rattle.c_registry.specs.declared.answer.Answer.TheVariants as answer
use Rattle.c_registry.specs.Callers.{IsAnsweredFrom, IsAnsweredFromBy}
use Rattle.c_registry.specs.Held.{Held}

abbrev pub afar : Caller
afar = record { peer = peer.Remote; host = None; trusts_remote = false }

-- what is held, or something else where nothing is
abbrev or_this : {A : Type 0} → A → Option A → A
or_this x (Some y) = y
or_this x None = x

same : {A : Type 0} → (x y : A) → Some x ≡ Some y → x ≡ y
same x y e = ap (or_this x) e

module _ (denied : RemoteIsDenied) (c : CallView) (netid message : List ℕ) (read : CallBytes c message)
    (change : is_change c ≡ true) (h l : Held) (left : Option Held) (old new : List ℕ) (is : left ≡ Some l) where
  answered : (a : Answer) (caller : Caller) → Some afar ≡ Some caller → (m : Held) → left ≡ Some m
      → IsAnsweredFrom caller h netid message m old new a → l.rows ≡ h.rows
  answered a caller who m e i =
      let trusted : is_trusted caller ≡ false =
      subst (λ (x : Caller). is_trusted x ≡ false) (same afar caller who) refl in
      ap (λ (x : Held). x.rows) (same l m (sym is ∙ e))
      ∙ (denied caller c h.rows m.rows netid message i.refused i.sent trusted read change i.answer).0

  pub stays : (a : Answer) → IsAnsweredFromBy (Some h) (Some afar) netid message left old new a → l.rows ≡ h.rows
  stays answer.NoTransport w = ap (λ (x : Held). x.rows) (same l h (sym is ∙ w.1))
  stays answer.NoCaller w = ap (λ (x : Held). x.rows) (same l h (sym is ∙ w.2))
  stays (answer.Whole count) w = answered (answer.Whole count) w.1 w.2 w.3 w.4 w.5
  stays (answer.NoRoom needed) w = answered (answer.NoRoom needed) w.1 w.2 w.3 w.4 w.5
  stays answer.NoMemory w = answered answer.NoMemory w.1 w.2 w.3 w.4 w.5
  stays answer.NoRegistry w = answered answer.NoRegistry w.1 w.2 w.3 w.4 w.5
  stays answer.Silence w = answered answer.Silence w.1 w.2 w.3 w.4 w.5
  stays answer.Unchanged w = answered answer.Unchanged w.1 w.2 w.3 w.4 w.5
