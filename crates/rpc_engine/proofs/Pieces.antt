-- Records answered, one after another.
use Rattle.std.proofs.Common.{◌≡◌, ℕ, true, List, [], ◌∷◌, ◌++◌, length, take, Option, sym, ap, ◌∙◌}
use Rattle.std.proofs.Common.{subst, append_assoc, length-append, arith}
use Rattle.std.proofs.lemmas.List.{append-nil}
use Rattle.xdr_io.proofs.Chained.{Appends-trans, Appends-none}
use Rattle.registry_rows.specs.Rows.{Row}
use Rattle.rpc_record.specs.Marked.{fragment, normal}
use Rattle.rpc_engine.specs.declared.session.Session.{Session}
use Rattle.rpc_engine.specs.Private.Serving.{HasCounted, Does, Loses}
use Rattle.rpc_engine.proofs.Runs.{run_none, runs_join}
use Rattle.rpc_engine.proofs.Sessions.{normal_append}

pub does_none : (netid : List ℕ) (rows : List Row) (s : Session) (t : Option (List ℕ)) → Does netid rows rows s s [] t t
does_none netid rows s t = record {
  refusals = [];
  others = [];
  run = run_none rows netid;
  counts = λ rs replies h. subst (λ x. HasCounted s x (replies ++ [])) (sym (append-nil rs))
      (subst (λ x. HasCounted s rs x) (sym (append-nil replies)) h);
  wrote = Appends-none t;
}

pub does_trans : (netid : List ℕ) (rows mid new : List Row) (a b c : Session) (first more : List (List ℕ))
    (t u v : Option (List ℕ)) → Does netid rows mid a b first t u → Does netid mid new b c more u v
    → Does netid rows new a c (first ++ more) t v
does_trans netid rows mid new a b c first more t u v p q = record {
  refusals = p.refusals ++ q.refusals;
  others = p.others ++ q.others;
  run = runs_join rows mid new netid first more p.refusals q.refusals p.others q.others p.run q.run;
  counts = λ rs replies h. subst (λ x. HasCounted c x (replies ++ (p.others ++ q.others))) (append_assoc rs first more)
      (subst (λ x. HasCounted c ((rs ++ first) ++ more) x) (append_assoc replies p.others q.others)
      (q.counts (rs ++ first) (replies ++ p.others) (p.counts rs replies h)));
  wrote = Appends-trans t u v (normal p.others) (normal q.others) (normal (p.others ++ q.others))
      (sym (normal_append p.others q.others)) p.wrote q.wrote;
}

pub loses_after : (netid : List ℕ) (rows mid new : List Row) (a b : Session) (first more : List (List ℕ))
    (t u v : Option (List ℕ)) (written : ℕ) → Does netid rows mid a b first t u → Loses netid mid new b more u v written
    → Loses netid rows new a (first ++ more) t v written
loses_after netid rows mid new a b first more t u v written p q = record {
  before = first ++ q.before;
  answering = q.answering;
  refusals = p.refusals ++ q.refusals;
  mid = q.mid;
  others = p.others ++ q.others;
  refused = q.refused;
  last = q.last;
  went = q.went;
  records = ap (λ k. first ++ k) q.records ∙ sym (append_assoc first q.before (q.answering ∷ []));
  run = runs_join rows mid q.mid netid first q.before p.refusals q.refusals p.others q.others p.run q.run;
  answer = q.answer;
  short = q.short;
  place = λ rs replies h.
      let at = q.place (rs ++ first) (replies ++ p.others) (p.counts rs replies h) in
      omega (
        arith,
        at,
        ap length (normal_append replies p.others),
        length-append (normal replies) (normal p.others),
        ap length (normal_append p.others q.others),
        length-append (normal p.others) (normal q.others),
      );
  wrote = Appends-trans t u v (normal p.others) (normal q.others ++ take q.went (fragment true q.last)) _
      (sym (append_assoc (normal p.others) (normal q.others) (take q.went (fragment true q.last)))
      ∙ ap (λ k. k ++ take q.went (fragment true q.last)) (sym (normal_append p.others q.others))) p.wrote q.wrote;
}
