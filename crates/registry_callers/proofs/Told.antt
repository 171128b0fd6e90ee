-- The laws of the answers to callers.
use Rattle.std.proofs.Common.{◌≡◌, ℕ, Bool, true, false, List, [], Option, Some, refl, ap, sym}
use Rattle.std.proofs.Common.{◌∙◌, subst, true≢false}
use Rattle.rpc_message.specs.Message.{AuthView, CallView, CaseView, Whole}
use Rattle.rpc_message.specs.Spelling.{CallBytes, call, reply}
use Rattle.registry_rows.specs.Rows.{Row}
use Rattle.registry_answer.specs.Answer.{Answer, auth_error}
use Rattle.registry_answer.proofs.Calls.{answers_no_memory}
use Rattle.registry_answer.proofs.Cases.{Decided, decided}
use Rattle.registry_callers.specs.declared.callers.Peer.{Peer}
use Rattle.registry_callers.specs.declared.callers.Peer.TheVariants as peer
use Rattle.registry_callers.specs.Callers.{auth_tooweak, is_taken, is_trusted}
use Rattle.registry_callers.specs.Asking.{is_change, is_look_up}
use Rattle.registry_callers.specs.Vouching.{Vouches, named, lowered, believed, local, IsVouched, with_cred}
use Rattle.registry_callers.specs.Addresses.{Tells, address, as_it_was, told, address_reply}
use Rattle.registry_callers.specs.From.{AnswerFrom, too_weak, sets_again, sets, unsets, looks_up, as_ever, no_memory}
use Rattle.registry_callers.specs.Laws.{LocalIsAsEver, OthersAreAsEver, RefusedRowsStay}
use Rattle.registry_callers.specs.Laws.{RemoteIsDenied}
use Rattle.registry_callers.proofs.Tests.{no_look_up, first_of_two, second_of_two, set_is_change}
use Rattle.registry_callers.proofs.Written.{Exact}

-- ---- a caller of this host

same_cred : {cred : AuthView} {p : Peer} {found : AuthView} → Vouches cred p found → p ≡ peer.Local → found ≡ cred
same_cred (named uid) e = absurd cc
same_cred (lowered h) e = absurd cc
same_cred (believed h) e = refl
same_cred local e = refl

same_message : (p : Peer) (c : CallView) (message asked : List ℕ) → p ≡ peer.Local → CallBytes c message
    → IsVouched p c asked → asked ≡ message
same_message p c message asked is read v =
    v.spelled.parts ∙ ap (λ (x : AuthView). call (with_cred c x)) (same_cred v.vouches is) ∙ sym read.parts

untold : {xid : ℕ} {host : Option (List ℕ)} {plain sent : Option (List ℕ)} → Tells host xid plain sent
    → ((text : List ℕ) → plain ≡ Some (address_reply xid text) → told host text ≡ text) → sent ≡ plain
untold {xid} (address text few) f = ap (λ (t : List ℕ). Some (address_reply xid t)) (f text refl)
untold (as_it_was sent h) f = refl

module _ (rows : List Row) (netid message : List ℕ) where
  -- the answer to the bytes that are asked is that to the record
  moved : (asked : List ℕ) → asked ≡ message → {refused : Bool} {new : List Row} {sent : Option (List ℕ)}
      → Answer rows netid asked refused new sent → Answer rows netid message refused new sent
  moved asked e {refused} {new} {sent} a = subst (λ (m : List ℕ). Answer rows netid m refused new sent) e a

pub local_is_as_ever : LocalIsAsEver
local_is_as_ever caller rows new netid message refused sent is never unplaced a = by a
  where
    trusted : is_trusted caller ≡ true
    trusted = ap (λ (p : Peer). is_taken p caller.trusts_remote) is

    by : {refused : Bool} {new : List Row} {sent : Option (List ℕ)}
        → AnswerFrom caller rows netid message refused new sent → Answer rows netid message refused new sent
    by (too_weak c read change weak) = absurd (true≢false (sym trusted ∙ weak))
    by (sets_again c asked made said taken set h there) =
        absurd (true≢false (sym there
        ∙ never c made said taken.read set (moved [] netid message asked
        (same_message caller.peer c message asked is taken.read taken.vouched) h)))
    by (sets c asked made said refused new sent taken set h isnt a) =
        moved rows netid message asked (same_message caller.peer c message asked is taken.read taken.vouched) a
    by (unsets c asked refused new sent taken change isnt a) =
        moved rows netid message asked (same_message caller.peer c message asked is taken.read taken.vouched) a
    by (looks_up c refused new plain said read look a m) =
        subst (λ (o : Option (List ℕ)). Answer rows netid message refused new o)
        (sym (untold m (λ text e. unplaced c refused new text read look
        (subst (λ (o : Option (List ℕ)). Answer rows netid message refused new o) e a)))) a
    by (as_ever refused new said none a) = a
    by (no_memory c read) = answers_no_memory rows netid message (Whole c) c.xid read refl read.fits.xid

-- ---- a record that is neither a change nor a look-up

pub others_are_as_ever : OthersAreAsEver
others_are_as_ever caller rows new netid message refused sent none a = by a
  where
    no_change : (c : CallView) → CallBytes c message → is_change c ≡ true → ⊥
    no_change c read e = true≢false (sym (first_of_two (is_change c) (is_look_up c) e) ∙ none c read)

    by : {refused : Bool} {new : List Row} {sent : Option (List ℕ)}
        → AnswerFrom caller rows netid message refused new sent → Answer rows netid message refused new sent
    by (too_weak c read change weak) = absurd (no_change c read change)
    by (sets_again c asked made said taken set h there) = absurd (no_change c taken.read (set_is_change c set))
    by (sets c asked made said refused new sent taken set h isnt a) =
        absurd (no_change c taken.read (set_is_change c set))
    by (unsets c asked refused new sent taken change isnt a) = absurd (no_change c taken.read change)
    by (looks_up c refused new plain said read look a m) =
        absurd (true≢false (sym (second_of_two (is_change c) (is_look_up c) look) ∙ none c read))
    by (as_ever refused new said none a) = a
    by (no_memory c read) = answers_no_memory rows netid message (Whole c) c.xid read refl read.fits.xid

-- ---- refused memory

plain_stays : (rows new : List Row) (netid message : List ℕ) (sent : Option (List ℕ))
    → Answer rows netid message true new sent → new ≡ rows
plain_stays rows new netid message sent a = by a.case (decided rows netid a.answers)
  where
    by : (k : CaseView) → Decided rows netid k true new a.said → new ≡ rows
    by k h = h.0

stays_by : (rows new : List Row) (netid message : List ℕ) (refused : Bool) (sent : Option (List ℕ)) → refused ≡ true
    → Answer rows netid message refused new sent → new ≡ rows
stays_by rows new netid message true sent e a = plain_stays rows new netid message sent a
stays_by rows new netid message false sent e a = absurd (true≢false (sym e))

pub refused_rows_stay : RefusedRowsStay
refused_rows_stay caller rows new netid message sent a = by a refl
  where
    by : {refused : Bool} {new : List Row} {sent : Option (List ℕ)}
        → AnswerFrom caller rows netid message refused new sent → refused ≡ true → new ≡ rows
    by (too_weak c read change weak) e = refl
    by (sets_again c asked made said taken set h there) e = refl
    by (sets c asked made said refused new sent taken set h isnt a) e = stays_by rows new netid asked refused sent e a
    by (unsets c asked refused new sent taken change isnt a) e = stays_by rows new netid asked refused sent e a
    by (looks_up c refused new plain said read look a m) e = stays_by rows new netid message refused plain e a
    by (as_ever refused new said none a) e = stays_by rows new netid message refused said e a
    by (no_memory c read) e = refl

-- ---- a caller from whom no change is taken

pub remote_is_denied : Exact → RemoteIsDenied
remote_is_denied exact caller c rows new netid message refused sent weak read change a = by a
  where
    same : (d : CallView) → CallBytes d message → d ≡ c
    same d of = (exact d c message message of read).1 refl

    by : {refused : Bool} {new : List Row} {sent : Option (List ℕ)}
        → AnswerFrom caller rows netid message refused new sent
        → (new ≡ rows) × (refused ≡ false → sent ≡ Some (reply (auth_error c.xid auth_tooweak)))
    by (too_weak d of is isnt) =
        (refl, λ e. ap (λ (x : CallView). Some (reply (auth_error x.xid auth_tooweak))) (same d of))
    by (sets_again d asked made said taken set h there) = absurd (true≢false (sym taken.trusted ∙ weak))
    by (sets d asked made said refused new sent taken set h isnt a) = absurd (true≢false (sym taken.trusted ∙ weak))
    by (unsets d asked refused new sent taken is isnt a) = absurd (true≢false (sym taken.trusted ∙ weak))
    by (looks_up d refused new plain said of look a m) =
        absurd (true≢false (sym look ∙ ap is_look_up (same d of) ∙ no_look_up c change))
    by (as_ever refused new said none a) =
        absurd (true≢false (sym (first_of_two (is_change c) (is_look_up c) change) ∙ none c read))
    by (no_memory d of) = (refl, λ e. absurd (true≢false e))
