-- Each message has one of the three cases of a reply.
use Rattle.std.proofs.Common.{◌≡◌, ℕ, ◌⊎◌, inl, inr, List, ◌↔◌, refl, sym, ap, ◌∙◌}
use Rattle.std.proofs.lemmas.Bool.{cases_eq}
use Rattle.rpc_message.specs.Message.{ReplyView}
use Rattle.rpc_message.specs.Spelling.{ReplyBytes}
use Rattle.rpc_engine.specs.Exchanged.{xid_of}
use Rattle.rpc_engine.specs.DatagramExchange.{OwnReply, OtherReply, NotReply}
use Rattle.rpc_engine.specs.Laws.{OneCase, SomeCase}

abbrev pub ReplyLaw : Type 0
ReplyLaw = (q r : ReplyView) (a b : List ℕ) → ReplyBytes q a → ReplyBytes r b → ((q ≡ r) ↔ (a ≡ b))

module _ (exact : ReplyLaw) where
  same : (v w : ReplyView) (m : List ℕ) → ReplyBytes v m → ReplyBytes w m → v ≡ w
  same v w m p q = (exact v w m m p q).1 refl

  pub one_case : OneCase
  one_case xid m (OwnReply v) (OwnReply w) (p, e) (q, f) = ap (λ x. OwnReply x) (same v w m p q)
  one_case xid m (OwnReply v) (OtherReply got) (p, e) ((w, (q, f)), ne) =
      absurd (ne (sym f ∙ ap xid_of (sym (same v w m p q)) ∙ e))
  one_case xid m (OtherReply got) (OwnReply v) ((w, (q, f)), ne) (p, e) =
      absurd (ne (sym f ∙ ap xid_of (sym (same v w m p q)) ∙ e))
  one_case xid m (OtherReply got) (OtherReply other) ((v, (p, e)), ne) ((w, (q, f)), ne') =
      ap (λ x. OtherReply x) (sym e ∙ ap xid_of (same v w m p q) ∙ f)
  one_case xid m NotReply NotReply a b = refl
  one_case xid m NotReply (OwnReply v) never (p, e) = absurd (never v p)
  one_case xid m (OwnReply v) NotReply (p, e) never = absurd (never v p)
  one_case xid m NotReply (OtherReply got) never ((v, (p, e)), ne) = absurd (never v p)
  one_case xid m (OtherReply got) NotReply ((v, (p, e)), ne) never = absurd (never v p)

pub some_case : SomeCase
some_case xid m h = h NotReply (λ v p. by v p (cases_eq (xid_of v) xid))
  where
    by : (v : ReplyView) → ReplyBytes v m → (xid_of v ≡ xid) ⊎ (xid_of v ≡ xid → ⊥) → ⊥
    by v p (inl e) = h (OwnReply v) (p, e)
    by v p (inr ne) = h (OtherReply (xid_of v)) ((v, (p, refl)), ne)
