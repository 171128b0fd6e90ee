-- What the changes of the examples are answered with.
use Rattle.std.proofs.Common.{◌≡◌, ℕ, true, false, List, [], ◌∷◌, ◌++◌, Option, Some, None, refl, ap, ◌∙◌, arith}
use Rattle.std.proofs.lemmas.Option.{same_Some}
use Rattle.rpc_message.specs.Message.{AuthView, CallView}
use Rattle.rpc_message.specs.Spelling.{CallBytes, IsAuth, reply}
use Rattle.registry_rows.specs.Rows.{Row}
use Rattle.registry_answer.specs.Answer.{auth_error}
use Rattle.registry_answer.specs.declared.answering.Appended.{Appended}
use Rattle.registry_answer.specs.declared.answering.Appended.TheVariants as appended
use Rattle.registry_callers.specs.declared.callers.Peer.TheVariants as peer
use Rattle.registry_callers.specs.declared.callers.Caller.{Caller}
use Rattle.registry_callers.specs.Callers.{is_trusted}
use Rattle.registry_callers.specs.Asking.{is_change}
use Rattle.registry_callers.specs.Appending.{AppendsFrom}
use Rattle.registry_callers.specs.Laws.{RemoteIsDenied}

-- nobody's credential
abbrev nobody : AuthView
nobody = record { flavor = 0; body = [] }

nobody_fits : IsAuth nobody
nobody_fits = record { flavor = omega arith; short = omega arith }

-- SET of version 2, of program 70000 version 1 at TCP port 515
abbrev pub a_set : CallView
a_set = record {
  xid = 1;
  prog = 100000;
  vers = 2;
  proc = 1;
  cred = nobody;
  verf = nobody;
  args = 0 ∷ 1 ∷ 17 ∷ 112 ∷ 0 ∷ 0 ∷ 0 ∷ 1 ∷ 0 ∷ 0 ∷ 0 ∷ 6 ∷ 0 ∷ 0 ∷ 2 ∷ 3 ∷ [];
}

-- UNSET of version 4, without arguments
abbrev pub an_unset : CallView
an_unset = record { xid = 1; prog = 100000; vers = 4; proc = 2; cred = nobody; verf = nobody; args = [] }

abbrev pub set_bytes : List ℕ
set_bytes =
    0 ∷ 0 ∷ 0 ∷ 1 ∷ 0 ∷ 0 ∷ 0 ∷ 0 ∷ 0 ∷ 0 ∷ 0 ∷ 2 ∷ 0 ∷ 1 ∷ 134 ∷ 160 ∷ 0 ∷ 0 ∷ 0 ∷ 2 ∷ 0 ∷ 0 ∷ 0 ∷ 1
    ∷ 0 ∷ 0 ∷ 0 ∷ 0 ∷ 0 ∷ 0 ∷ 0 ∷ 0 ∷ 0 ∷ 0 ∷ 0 ∷ 0 ∷ 0 ∷ 0 ∷ 0 ∷ 0
    ∷ 0 ∷ 1 ∷ 17 ∷ 112 ∷ 0 ∷ 0 ∷ 0 ∷ 1 ∷ 0 ∷ 0 ∷ 0 ∷ 6 ∷ 0 ∷ 0 ∷ 2 ∷ 3 ∷ []

abbrev pub unset_bytes : List ℕ
unset_bytes =
    0 ∷ 0 ∷ 0 ∷ 1 ∷ 0 ∷ 0 ∷ 0 ∷ 0 ∷ 0 ∷ 0 ∷ 0 ∷ 2 ∷ 0 ∷ 1 ∷ 134 ∷ 160 ∷ 0 ∷ 0 ∷ 0 ∷ 4 ∷ 0 ∷ 0 ∷ 0 ∷ 2
    ∷ 0 ∷ 0 ∷ 0 ∷ 0 ∷ 0 ∷ 0 ∷ 0 ∷ 0 ∷ 0 ∷ 0 ∷ 0 ∷ 0 ∷ 0 ∷ 0 ∷ 0 ∷ 0 ∷ []

pub set_spelled : CallBytes a_set set_bytes
set_spelled = record {
  fits = record {
    xid = omega arith;
    prog = omega arith;
    vers = omega arith;
    proc = omega arith;
    cred = nobody_fits;
    verf =
        nobody_fits;
  };
  parts = refl;
}

pub unset_spelled : CallBytes an_unset unset_bytes
unset_spelled = record {
  fits = record {
    xid = omega arith;
    prog = omega arith;
    vers = omega arith;
    proc = omega arith;
    cred = nobody_fits;
    verf =
        nobody_fits;
  };
  parts = refl;
}

-- a caller of another host, of whom no change is taken, who came to a host that is not known
abbrev pub afar : Caller
afar = record { peer = peer.Remote; host = None; trusts_remote = false }

-- and to 192.0.2.1
abbrev pub afar_here : Caller
afar_here = record { peer = peer.Remote; host = Some (192 ∷ 0 ∷ 2 ∷ 1 ∷ []); trusts_remote = false }

-- a change that is denied
pub record IsDenied (rows new : List Row) (old out : List ℕ) (p : Appended) : Type 0 where
  pub replies : p ≡ appended.Nothing → ⊥
  pub reply_is : p ≡ appended.Reply → out ≡ old ++ reply (auth_error 1 5)
  pub rows_stay : new ≡ rows

module _ (law : RemoteIsDenied) (caller : Caller) (weak : is_trusted caller ≡ false) (c : CallView)
    (message : List ℕ) (read : CallBytes c message) (change : is_change c ≡ true) (one : c.xid ≡ 1)
    (rows new : List Row) (netid old out : List ℕ) where
  pub is_denied : (p : Appended) → AppendsFrom caller rows netid message old new out p → IsDenied rows new old out p
  is_denied appended.Nothing h =
      let l = law caller c rows new netid message false None weak read change h.0 in record {
        replies = λ e. no_reply (l.1 refl);
        reply_is = λ e. absurd cc;
        rows_stay = l.0;
      }
    where
      no_reply : ◌≡◌ {A = Option (List ℕ)} None (Some (reply (auth_error c.xid 5))) → ⊥
      no_reply e = cc
  is_denied appended.Reply h =
      let l = law caller c rows new netid message false (Some h.0) weak read change h.1.0 in record {
        replies = λ e. absurd cc;
        reply_is = λ e.
            h.1.1.added
            ∙ ap (λ (b : List ℕ). old ++ b) (same_Some h.0 (reply (auth_error c.xid 5)) (l.1 refl)
            ∙ ap (λ (x : ℕ). reply (auth_error x 5)) one);
        rows_stay = l.0;
      }
  is_denied (appended.OutOfMemory xid) h = record {
    replies = λ e. absurd cc;
    reply_is = λ e. absurd cc;
    rows_stay = (law caller c rows new netid message true _ weak read change h.0).0;
  }
