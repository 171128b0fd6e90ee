-- What is written for a record is the answer to a caller.
use Rattle.std.proofs.Common.{◌≡◌, ◌↔◌, ℕ, ◌≤◌, true, false, ◌||◌, List, [], ◌++◌, length, Option, Some, None}
use Rattle.std.proofs.Common.{refl, ap, sym, ◌∙◌, subst, arith}
use Rattle.rpc_message.specs.Heads.{accepted}
use Rattle.rpc_message.specs.Message.{CallView, Whole, SystemErr}
use Rattle.rpc_message.specs.View.{lent_case_view}
use Rattle.rpc_message.specs.declared.message.LentCall.{LentCall}
use Rattle.rpc_message.specs.declared.message.LentRead.{LentRead}
use Rattle.rpc_message.specs.declared.message.LentRead.TheVariants as lent
use Rattle.rpc_message.specs.Spelling.{reply, CallBytes}
use Rattle.registry_rows.specs.Rows.{Row}
use Rattle.registry_answer.specs.Answer.{Answer, auth_error}
use Rattle.registry_answer.specs.Answering.{AppendsAnswer, Adds, most}
use Rattle.registry_answer.specs.declared.answering.Appended.{Appended}
use Rattle.registry_answer.specs.declared.answering.Appended.TheVariants as appended
use Rattle.registry_callers.specs.declared.callers.Caller.{Caller}
use Rattle.registry_callers.specs.Callers.{auth_tooweak, is_trusted}
use Rattle.registry_callers.specs.Asking.{is_set, is_change, is_look_up}
use Rattle.registry_callers.specs.Addresses.{as_it_was}
use Rattle.registry_callers.specs.From.{AnswerFrom, IsTaken, is_there, too_weak, sets_again, sets, unsets, looks_up}
use Rattle.registry_callers.specs.From.{as_ever, no_memory}
use Rattle.registry_callers.specs.Appending.{AppendsFrom}
use Rattle.registry_callers.specs.Private.Pushes.{PushesDenial, PushesTold}
use Rattle.registry_callers.proofs.Tests.{both_false}

-- two calls are equal exactly if their bytes are
abbrev pub Exact : Type 0
Exact = (c d : CallView) (a b : List ℕ) → CallBytes c a → CallBytes d b → ((c ≡ d) ↔ (a ≡ b))

-- a record that is one call, which is neither a change nor a look-up, is none of them
pub neither : Exact → (c : CallView) (message : List ℕ) → CallBytes c message → is_change c ≡ false
    → is_look_up c ≡ false → (d : CallView) → CallBytes d message → (is_change d || is_look_up d) ≡ false
neither exact c message read e f d of =
    let same : c ≡ d = (exact c d message message read of).1 refl in
    subst (λ (x : CallView). (is_change x || is_look_up x) ≡ false) same (both_false (is_change c) (is_look_up c) e f)

-- what is read is no whole call
pub not_whole : (r : LentRead) → ((call : LentCall) → r ≡ lent.Whole call → ⊥) → (d : CallView)
    → lent_case_view r ≡ Whole d → ⊥
not_whole (lent.Whole call) isnt d e = isnt call refl
not_whole (lent.OtherVersion xid version) isnt d e = cc
not_whole (lent.BadCred xid) isnt d e = cc
not_whole (lent.BadVerf xid) isnt d e = cc
not_whole lent.NotACall isnt d e = cc

-- a reply written where nothing stood is all that stands there
pub all_added : (rows : List Row) (netid message old : List ℕ) (new : List Row) (out : List ℕ) → old ≡ []
    → AppendsAnswer rows netid message old new out appended.Reply
    → Answer rows netid message false new (Some out) × (length out ≤ most)
all_added rows netid message old new out none h =
    let all : out ≡ h.0 = h.1.1.added ∙ ap (λ (l : List ℕ). l ++ h.0) none in (
      subst (λ (b : List ℕ). Answer rows netid message false new (Some b)) (sym all) h.1.0,
      subst (λ (b : List ℕ). length b ≤ most) (sym all) h.1.1.short,
    )

module _ (caller : Caller) (rows : List Row) (netid message old : List ℕ) where
  -- any other record is answered as ever
  pub as_ever_appends : (new : List Row) (out : List ℕ)
      → ((c : CallView) → CallBytes c message → (is_change c || is_look_up c) ≡ false) → (p : Appended)
      → AppendsAnswer rows netid message old new out p → AppendsFrom caller rows netid message old new out p
  as_ever_appends new out none appended.Nothing h = (as_ever false new None none h.0, h.1)
  as_ever_appends new out none appended.Reply h = (h.0, (as_ever false new (Some h.0) none h.1.0, h.1.1))
  as_ever_appends new out none (appended.OutOfMemory xid) h =
      (as_ever true new (Some (reply (accepted xid SystemErr))) none h.0, h.1)

  module _ (c : CallView) (read : CallBytes c message) where
    -- memory was refused, and the rows stay
    pub refused : (new : List Row) (xid : ℕ) → xid ≡ c.xid → new ≡ rows
        → AnswerFrom caller rows netid message true new (Some (reply (accepted xid SystemErr)))
    refused new xid e same = subst
        (λ (x : List Row). AnswerFrom caller rows netid message true x (Some (reply (accepted xid SystemErr))))
        (sym same)
        (subst (λ (y : ℕ). AnswerFrom caller rows netid message true rows (Some (reply (accepted y SystemErr)))) (sym e)
        (no_memory c read))

    -- the change is denied
    pub weak_appends : (out : List ℕ) → is_change c ≡ true → is_trusted caller ≡ false → (p : Appended)
        → PushesDenial c.xid old out p → AppendsFrom caller rows netid message old rows out p
    weak_appends out change weak appended.Nothing h = absurd h
    weak_appends out change weak appended.Reply h =
        let few : length (reply (auth_error c.xid auth_tooweak)) ≡ 20 = refl in (
          reply (auth_error c.xid auth_tooweak),
          (too_weak c read change weak, record { added = h; short = omega (arith, few) }),
        )
    weak_appends out change weak (appended.OutOfMemory xid) h = (refused rows xid h.1 refl, h.0)

    module _ (new : List Row) (look : is_look_up c ≡ true) where
      -- nothing is sent for a look-up
      pub look_up_silent : Answer rows netid message false new None
          → AnswerFrom caller rows netid message false new None
      look_up_silent a = looks_up c false new None None read look a
          (as_it_was None (λ text few e. absurd cc))

      -- what is sent was written, or memory was refused for it
      pub look_up_told : (plain out : List ℕ) (p : Appended) → Answer rows netid message false new (Some plain)
          → length plain ≤ most → new ≡ rows → PushesTold caller.host c.xid plain old out p
          → AppendsFrom caller rows netid message old new out p
      look_up_told plain out appended.Nothing a few same h = absurd h
      look_up_told plain out appended.Reply a few same h = (
        h.0,
        (
          looks_up c false new (Some plain) (Some h.0) read look a h.1.0,
          record { added = h.1.1; short = h.1.2 few },
        ),
      )
      look_up_told plain out (appended.OutOfMemory xid) a few same h = (refused new xid h.1 same, h.0)

  module _ (c : CallView) (asked : List ℕ) (taken : IsTaken caller message c asked) where
    -- an UNSET that is taken
    pub unset_appends : (new : List Row) (out : List ℕ) → is_change c ≡ true → is_set c ≡ false → (p : Appended)
        → AppendsAnswer rows netid asked old new out p → AppendsFrom caller rows netid message old new out p
    unset_appends new out change isnt appended.Nothing h = (unsets c asked false new None taken change isnt h.0, h.1)
    unset_appends new out change isnt appended.Reply h =
        (h.0, (unsets c asked false new (Some h.0) taken change isnt h.1.0, h.1.1))
    unset_appends new out change isnt (appended.OutOfMemory xid) h =
        (unsets c asked true new (Some (reply (accepted xid SystemErr))) taken change isnt h.0, h.1)

    module _ (set : is_set c ≡ true) where
      -- a SET of a row that is there
      pub again_appends : (out bytes : List ℕ) (made : List Row) → Answer [] netid asked false made (Some bytes)
          → is_there rows made ≡ true → Adds old out bytes
          → AppendsFrom caller rows netid message old rows out appended.Reply
      again_appends out bytes made a there adds =
          (bytes, (sets_again c asked made (Some bytes) taken set a there, adds))

      -- and of any other
      pub set_appends : (new made : List Row) (said : Option (List ℕ)) (mid out : List ℕ)
          → Answer [] netid asked false made said → is_there rows made ≡ false → mid ≡ old → (p : Appended)
          → AppendsAnswer rows netid asked mid new out p → AppendsFrom caller rows netid message old new out p
      set_appends new made said mid out a isnt e appended.Nothing h =
          (sets c asked made said false new None taken set a isnt h.0, h.1 ∙ e)
      set_appends new made said mid out a isnt e appended.Reply h = (
        h.0,
        (
          sets c asked made said false new (Some h.0) taken set a isnt h.1.0,
          record { added = h.1.1.added ∙ ap (λ (l : List ℕ). l ++ h.0) e; short = h.1.1.short },
        ),
      )
      set_appends new made said mid out a isnt e (appended.OutOfMemory xid) h =
          (sets c asked made said true new (Some (reply (accepted xid SystemErr))) taken set a isnt h.0, h.1 ∙ e)
