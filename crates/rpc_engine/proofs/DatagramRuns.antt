-- Serving datagrams, one datagram further, and its ends.
use Rattle.std.proofs.Common.{◌≡◌, ℕ, ◌+◌, ◌<◌, ◌^◌, Bool, true, false, List, [], ◌∷◌, ◌++◌, length, Option, Some, None}
use Rattle.std.proofs.Common.{refl, sym, subst, length-append, arith, cond, Ok}
use Rattle.std.proofs.lemmas.List.{append-nil, length_push}
use Rattle.registry_rows.specs.Rows.{Row}
use Rattle.registry_rows.specs.Ports.{udp}
use Rattle.registry_answer.specs.Answer.{Answer}
use Rattle.rpc_engine.specs.Run.{listed}
use Rattle.rpc_engine.specs.Ports.{Reported, Receives, Sends}
use Rattle.rpc_engine.specs.Datagrams.{Finishes, ServesDatagrams, NotReceived, NotSent}
use Rattle.rpc_engine.specs.Private.Replying.{HasReply, RepliesTo, HasServed}
use Rattle.rpc_engine.proofs.Ports.{Receives-trans, Receives-none, Sends-trans, Sends-none}
use Rattle.rpc_engine.proofs.Runs.{run_none, run_one, runs_join}

pub none_served : (rows : List Row) (l s : Reported) → HasServed 0 0 rows rows l l s s
none_served rows l s = record {
  datagrams = [];
  replies = [];
  so_many = refl;
  answered = refl;
  finished = record {
    refusals = [];
    received = Receives-none l;
    run = run_none rows udp;
    sends = Sends-none s;
  };
}

module _ (done replied count : ℕ) (rows mid : List Row) (l m s t : Reported)
    (p : HasServed done replied rows mid l m s t)
  where
    -- nothing more was received or sent
    finished_still : (n u : Reported) → Receives m n [] → Sends t u [] → Finishes rows mid l n s u p.datagrams p.replies
    finished_still n u h k = record {
      refusals = p.finished.refusals;
      received = Receives-trans l m n p.datagrams [] p.datagrams (append-nil p.datagrams) p.finished.received h;
      run = p.finished.run;
      sends = Sends-trans s t u p.replies [] p.replies (append-nil p.replies) p.finished.sends k;
    }

    pub not_received : (n u : Reported) → done < count → Receives m n [] → Sends t u []
        → NotReceived count done rows mid l n s u
    not_received n u few h k = record {
      datagrams = p.datagrams;
      replies = p.replies;
      few = few;
      so_many = p.so_many;
      finished = finished_still n u h k;
    }

    module _ (x : List ℕ) (new : List Row) (n o u v : Reported) (received : Receives m n (x ∷ []))
        (unsent : Sends t u []) (retained : Receives n o []) where
      came : Receives m o (x ∷ [])
      came = Receives-trans m n o (x ∷ []) [] (x ∷ []) refl received retained

      pub not_sent : done < count → (bytes : List ℕ) × (HasReply mid x new bytes × Sends u v [])
          → NotSent count done rows new l o s v
      not_sent few (bytes, ((refused, h), k)) = record {
        datagrams = p.datagrams;
        replies = p.replies;
        few = few;
        so_many = p.so_many;
        mid = mid;
        waiting = m;
        finished = finished_still m v (Receives-none m) (Sends-trans t u v [] [] [] refl unsent k);
        answering = x;
        refused = refused;
        unsent = bytes;
        received = came;
        answer = h;
      }

      -- one datagram more is finished
      more : (y : Bool) (sent : Option (List ℕ)) → Answer mid udp x y new sent → Sends u v (listed sent)
          → HasServed (done + 1) (replied + length (listed sent)) rows new l o s v
      more y sent h k = record {
        datagrams = p.datagrams ++ x ∷ [];
        replies = p.replies ++ listed sent;
        so_many = omega (arith, p.so_many, length_push p.datagrams x);
        answered = omega (arith, p.answered, length-append p.replies (listed sent));
        finished = record {
          refusals = p.finished.refusals ++ y ∷ [];
          received = Receives-trans l m o p.datagrams (x ∷ []) (p.datagrams ++ x ∷ []) refl p.finished.received came;
          run = runs_join rows mid new udp p.datagrams (x ∷ []) p.finished.refusals (y ∷ []) p.replies (listed sent)
              p.finished.run (run_one mid new udp x y sent h);
          sends = Sends-trans s t v p.replies (listed sent) (p.replies ++ listed sent) refl p.finished.sends
              (Sends-trans t u v [] (listed sent) (listed sent) refl unsent k);
        };
      }

      pub more_silent : Answer mid udp x false new None × Sends u v [] → HasServed (done + 1) replied rows new l o s v
      more_silent (h, k) = subst (λ n. HasServed (done + 1) n rows new l o s v) (omega arith) (more false None h k)

      pub more_replied : (bytes : List ℕ) × (HasReply mid x new bytes × Sends u v (bytes ∷ []))
          → HasServed (done + 1) (replied + 1) rows new l o s v
      more_replied (bytes, ((y, h), k)) = more y (Some bytes) h k

      pub more_answered : (E : Type 0) (y : Bool) (n : ℕ) → n ≡ replied + cond y 1 0
          → RepliesTo {E = E} mid x new u v (Ok y) → HasServed (done + 1) n rows new l o s v
      more_answered E true n e h = subst (λ k. HasServed (done + 1) k rows new l o s v) (sym e) (more_replied h)
      more_answered E false n e h =
          subst (λ k. HasServed (done + 1) k rows new l o s v) (omega (arith, e)) (more_silent h)

pub all_served : (count replied : ℕ) (rows new : List Row) (l m s t : Reported) → count < 2 ^ 64 → replied < 2 ^ 64
    → HasServed count replied rows new l m s t
    → ServesDatagrams count rows new l m s t (record { records = count; replies = replied })
all_served count replied rows new l m s t few less p = record {
  datagrams = p.datagrams;
  replies = p.replies;
  all = p.so_many;
  finished = p.finished;
  counted = record {
    records = omega (arith, p.so_many, few);
    answered = omega (arith, p.answered, less);
  };
}
