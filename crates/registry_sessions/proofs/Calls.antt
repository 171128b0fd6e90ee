-- What each call of a table does.
use Rattle.std.proofs.Common.{◌≡◌, ℕ, ◌+◌, nat_eq, List, [], ◌∷◌, ◌++◌, cond, Option, Some, None, Result}
use Rattle.std.proofs.Common.{IfNone}
use Rattle.std.proofs.Common.{IfSome, is_some, length, arith, true≢false, true, false, refl, sym, ap, ◌∙◌, subst}
use Rattle.std.proofs.lemmas.List.{append-nil}
use Rattle.registry_rows.specs.Rows.{Row}
use Rattle.registry_rows.specs.Ports.{udp}
use Rattle.registry_callers.specs.declared.callers.Caller.{Caller}
use Rattle.registry_callers.specs.declared.callers.Peer.TheVariants as peer
use Rattle.registry_answer.specs.declared.transport.Transport.TheVariants as transport
use Rattle.registry_sessions.specs.declared.origin.Origin.{Origin}
use Rattle.registry_callers.specs.Appending.{AppendsFrom}
use Rattle.registry_callers.specs.From.{AnswerFrom}
use Rattle.registry_answer.specs.declared.answering.Appended.{Appended}
use Rattle.registry_answer.specs.declared.answering.Appended.TheVariants as appended
use Rattle.rpc_engine.specs.Run.{listed}
use Rattle.registry_sessions.specs.declared.fault.SessionFault.{SessionFault}
use Rattle.registry_sessions.specs.declared.fault.Taken.{Taken}
use Rattle.registry_sessions.specs.declared.session.Session.{Session}
use Rattle.registry_sessions.specs.declared.table.SessionTable.{SessionTable}
use Rattle.registry_sessions.specs.Represents as session
use Rattle.registry_sessions.specs.Represents.{HasRead, Holds, TakesIn, Concludes, output_of, origin_of}
use Rattle.registry_sessions.specs.Events.{Event, Opens, Took, Ends, Came, Arrival, HaveArrived}
use Rattle.registry_sessions.specs.Progress.{Sessions, Progress, HasDone, Proceeds, Starts, Steps, put}
use Rattle.registry_sessions.specs.Progress.{SameLimits, session_at, next_of, happened, said_of}
use Rattle.registry_sessions.proofs.Events.{nothing, progress_ends, progress_opens}
use Rattle.registry_sessions.proofs.Events.{progress_receives, progress_writes}
use Rattle.registry_sessions.proofs.Places.{end_proceeds, put_here, put_is, put_others, take_proceeds}
use Rattle.registry_sessions.proofs.Tables.{same_sessions}

-- whatever a table has done, sessions with these numbers given have done these events too, and sent these datagrams
abbrev pub Goes : SessionTable → Sessions → ℕ → List Row → List Row → List Event → List (List ℕ) → Type 0
Goes old g later mid after more said = (rows : List Row) (events : List Event) (sent : List (List ℕ))
    → HasDone rows events mid old sent → Progress rows (events ++ more) after g later (sent ++ said)

-- these have that at this number, and at each other one what the table has
abbrev pub Updated : SessionTable → Sessions → ℕ → Option Session → Type 0
Updated old g i w = (q : ℕ) → g q ≡ cond (nat_eq i q) w (session_at old q)

-- an origin, for numbers that no connection has
nowhere : Origin
nowhere = record {
  caller = record { peer = peer.Local; host = None; trusts_remote = false };
  transport = transport.Tcp;
}

-- no connection was there yet
pub begins : (g : Sessions) → ((j : ℕ) → g j ≡ None) → (rows : List Row) → Progress rows [] rows g 0 []
begins g none rows = record {
  arrivals = [];
  refusals = [];
  answers = [];
  whence = λ j. nowhere;
  origins = tt;
  order = record {
    all = record { records = λ j. nothing; datagrams = refl };
    each = λ front rest e. by front rest e;
  };
  run = refl;
  opened = λ j. ap is_some (none j);
  few = λ j. omega arith;
  each = λ j s at. absurd (true≢false (ap is_some (sym at ∙ none j)));
  below = λ j s at. absurd (true≢false (ap is_some (sym at ∙ none j)));
  came = λ j s at. absurd (true≢false (ap is_some (sym at ∙ none j)));
  fresh = λ j late. (refl, refl);
  unopened = λ j late. tt;
  datagrams = refl;
}
  where
    by : (front rest : List Event) → [] ≡ front ++ rest
        → (first : List Arrival) × ((others : List Arrival) × (([] ≡ first ++ others) × HaveArrived front first))
    by [] rest e = ([], ([], (refl, record { records = λ j. nothing; datagrams = refl })))
    by (f ∷ fs) rest e = absurd (omega (arith, ap length e))

module _ (old : SessionTable) (g : Sessions) (i : ℕ) (w : Option Session) (updated : Updated old g i w) where
  -- what the table's sessions with one changed have done, these have
  goes_on : (later : ℕ) (rows after : List Row) (events : List Event) (sent : List (List ℕ))
      → Progress rows events after (put (session_at old) i w) later sent → Progress rows events after g later sent
  goes_on later rows after events sent p =
      same_sessions rows after events (put (session_at old) i w) g later sent (put_is (session_at old) g i w updated) p

module _ (old : SessionTable) (g : Sessions) (i : ℕ) (s t : Session) (at : session_at old i ≡ Some s)
    (updated : Updated old g i (Some t)) where
  pub takes_in : (mid after : List Row) (piece : List ℕ) (result : Result Taken SessionFault)
      → TakesIn s t mid after piece result → Goes old g (next_of old) mid after (happened i piece result) []
  takes_in mid after piece result h rows events sent p =
      goes_on old g i (Some t) updated (next_of old) rows after (events ++ happened i piece result) (sent ++ [])
      (take_proceeds rows mid events (session_at old) (next_of old) sent p i s t at after piece result h)

  pub takes_out : (n : ℕ) → session.Took s t n → (mid : List Row) → Goes old g (next_of old) mid mid (Took i n ∷ []) []
  takes_out n h mid rows events sent p =
      goes_on old g i (Some t) updated (next_of old) rows mid (events ++ Took i n ∷ []) (sent ++ [])
      (subst (λ x. Progress rows (events ++ Took i n ∷ []) mid (put (session_at old) i (Some t)) (next_of old) x)
      (sym (append-nil sent))
      (progress_writes rows mid events (session_at old) (next_of old) sent p i n s t at h))

  pub concludes : (result : Result (Unit {0}) SessionFault) → Concludes s t result → output_of t ≡ output_of s
      → (mid : List Row) → Goes old g (next_of old) mid mid [] []
  concludes result h out mid rows events sent p =
      goes_on old g i (Some t) updated (next_of old) rows mid (events ++ []) (sent ++ [])
      (end_proceeds rows mid events (session_at old) (next_of old) sent p i s t at result h out)

-- a connection begins
pub opens : (old : SessionTable) (g : Sessions) (s : Session) (origin : Origin)
    → Updated old g (next_of old) (Some s) → origin_of s ≡ origin → HasRead s [] [] → Holds s [] 0 → (mid : List Row)
    → Goes old g (next_of old + 1) mid mid (Opens (next_of old) origin ∷ []) []
opens old g s origin updated of read held mid rows events sent p =
    goes_on old g (next_of old) (Some s) updated (next_of old + 1) rows mid
    (events ++ Opens (next_of old) origin ∷ []) (sent ++ [])
    (subst (λ x. Progress rows (events ++ Opens (next_of old) origin ∷ []) mid (put (session_at old) (next_of old)
    (Some s))
    (next_of old + 1) x) (sym (append-nil sent))
    (progress_opens rows mid events (session_at old) (next_of old) sent s origin p of read held))

-- a connection ends
ends : (old : SessionTable) (g : Sessions) (i : ℕ) (s : Session) → session_at old i ≡ Some s → Updated old g i None
    → (mid : List Row) → Goes old g (next_of old) mid mid (Ends i ∷ []) []
ends old g i s at updated mid rows events sent p =
    goes_on old g i None updated (next_of old) rows mid (events ++ Ends i ∷ []) (sent ++ [])
    (subst (λ x. Progress rows (events ++ Ends i ∷ []) mid (put (session_at old) i None) (next_of old) x)
    (sym (append-nil sent))
    (progress_ends rows mid events (session_at old) (next_of old) sent p i s at))

pub closes : (old : SessionTable) (g : Sessions) (i : ℕ) (o : Option Session) → o ≡ session_at old i
    → Updated old g i None → IfSome o (λ s. (mid : List Row) → Goes old g (next_of old) mid mid (Ends i ∷ []) [])
closes old g i (Some s) e updated = λ mid. ends old g i s (sym e) updated mid
closes old g i None e updated = tt

-- a datagram comes
pub receives : (table : SessionTable) (caller : Caller) (mid after : List Row) (datagram out : List ℕ)
    (result : Appended) → AppendsFrom caller mid udp datagram [] after out result
    → Proceeds table table mid after (Came caller datagram ∷ []) (listed (said_of result out))
receives table caller mid after datagram out appended.Nothing h rows events sent p =
    progress_receives rows mid after events (session_at table) (next_of table) sent caller datagram false None p h.0
receives table caller mid after datagram out appended.Reply h rows events sent p =
    progress_receives rows mid after events (session_at table) (next_of table) sent caller datagram false (Some out) p
    (subst (λ x. AnswerFrom caller mid udp datagram false after (Some x)) (sym h.1.1.added) h.1.0)
receives table caller mid after datagram out (appended.OutOfMemory xid) h rows events sent p =
    progress_receives rows mid after events (session_at table) (next_of table) sent caller datagram true _ p h.0

-- ---- what became of the sessions

pub steps_at : (old new : SessionTable) (i : ℕ) (s t : Session) → session_at old i ≡ Some s
    → Updated old (session_at new) i (Some t) → SameLimits old new → (step : Session → Session → Type 0) → step s t
    → Steps old new i step
steps_at old new i s t at updated limits step h = record {
  before = s;
  after = t;
  was = at;
  is = put_here (session_at old) (session_at new) i (Some t) updated;
  others = put_others (session_at old) (session_at new) i (Some t) updated;
  steps = h;
  limits = limits;
}

pub starts : (old new : SessionTable) (i : ℕ) (s : Session) (origin : Origin) → i ≡ next_of old
    → Updated old (session_at new) i (Some s) → SameLimits old new → origin_of s ≡ origin → HasRead s [] []
    → Holds s [] 0 → Starts old new i origin
starts old new i s origin number updated limits of read held = record {
  number = number;
  session = s;
  is = put_here (session_at old) (session_at new) i (Some s) updated;
  others = put_others (session_at old) (session_at new) i (Some s) updated;
  of = of;
  reads = read;
  holds = held;
  limits = limits;
}

-- nothing comes
pub stays : (old : SessionTable) (g : Sessions) → ((j : ℕ) → g j ≡ session_at old j) → (mid : List Row)
    → Goes old g (next_of old) mid mid [] []
stays old g same mid rows events sent p =
    subst (λ x. Progress rows x mid g (next_of old) (sent ++ [])) (sym (append-nil events))
    (subst (λ x. Progress rows events mid g (next_of old) x) (sym (append-nil sent))
    (same_sessions rows mid events (session_at old) g (next_of old) sent same p))

-- no connection was there to end
pub closes_none : (old : SessionTable) (g : Sessions) (o : Option Session)
    → IfNone o ((j : ℕ) → g j ≡ session_at old j) → IfNone o ((mid : List Row) → Goes old g (next_of old) mid mid [] [])
closes_none old g (Some s) same = tt
closes_none old g None same = stays old g same
