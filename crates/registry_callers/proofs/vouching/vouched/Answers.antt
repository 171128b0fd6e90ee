use Rattle.std.proofs.Common.{List, ℕ, sym, ◌∙◌, subst, true≢false}
use Rattle.rpc_message.specs.Message.{AuthView}
use Rattle.rpc_message.specs.View.{auth_view, lent_view}
use Rattle.registry_callers.specs.declared.callers.Peer.{Peer}
use Rattle.registry_callers.specs.declared.callers.Peer.TheVariants as peer
use Rattle.registry_callers.specs.Vouching.{Vouches, named, lowered, believed, local}
use Rattle.registry_callers.proofs.vouching.vouched.Goals as goal

pub returns-in-Local : goal.returns-in-Local
returns-in-Local c =
    let cred = lent_view c.args.call.now.cred in
    subst (λ (p : Peer). Vouches cred p cred) (sym c.in-Local.is) local

pub returns-then-not-claims_superuser : goal.returns-then-not-claims_superuser
returns-then-not-claims_superuser c =
    let cred = lent_view c.args.call.now.cred in
    subst (λ (p : Peer). Vouches cred p cred) (sym c.in-Remote.is)
    (believed (λ h. true≢false (sym (c.claims_superuser.ensures.1 h) ∙ c.if-not-claims_superuser.true)))

pub returns-in_ok-written_with-in-LocalUser : goal.returns-in_ok-written_with-in-LocalUser
returns-in_ok-written_with-in-LocalUser c =
    let cred = lent_view c.args.call.now.cred in record {
      cred = auth_view c.in_ok-cred-in-LocalUser.cred;
      vouches = subst (λ (p : Peer). Vouches cred p (auth_view c.in_ok-cred-in-LocalUser.cred)) (sym c.in-LocalUser.is)
          (subst (λ (a : AuthView). Vouches cred (peer.LocalUser c.in-LocalUser.uid) a)
          (sym c.in_ok-cred-in-LocalUser.ensures.cred)
          (named c.in-LocalUser.uid));
      spelled = c.in_ok-written_with-in-LocalUser.ensures;
    }

pub returns-in_ok-written_with-in-Remote : goal.returns-in_ok-written_with-in-Remote
returns-in_ok-written_with-in-Remote c =
    let cred = lent_view c.args.call.now.cred in
    let found : AuthView = record { flavor = 0; body = c.new.result.items } in record {
      cred = found;
      vouches = subst (λ (p : Peer). Vouches cred p found) (sym c.in-Remote.is)
          (subst (λ (b : List ℕ). Vouches cred peer.Remote (record { flavor = 0; body = b })) (sym c.new.ensures.items)
          (lowered (c.claims_superuser.ensures.0 c.if-not-claims_superuser.false)));
      spelled = c.in_ok-written_with-in-Remote.ensures;
    }
