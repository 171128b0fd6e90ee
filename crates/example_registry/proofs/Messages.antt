-- What the messages of the examples are answered with.
use Rattle.std.proofs.Common.{◌≡◌, ℕ, Bool, true, false, ◌&&◌, List, [], ◌∷◌, ◌++◌, length, Option, Some, None, nat_lt}
use Rattle.std.proofs.Common.{refl, ap, sym, ◌∙◌, subst, arith, append-nil, inr, take, true≢false}
use Rattle.std.specs.Str.{bytes_eq}
use Rattle.std.specs.Io.{StartsWith}
use Rattle.std.proofs.lemmas.Bool.{and_parts}
use Rattle.std.proofs.lemmas.Bool.Decides.{Decides-ltb}
use Rattle.std.proofs.lemmas.List.{take_at}
use Rattle.xdr_units.specs.Numbers.{AreBytes, IsWord}
use Rattle.xdr_types.specs.Fits.{are_bytes}
use Rattle.rpc_message.specs.Heads.{accepted}
use Rattle.rpc_message.specs.Message.{CallView, CaseView, Whole, OtherVersion, BadCred, StatusView, Success}
use Rattle.rpc_message.specs.Message.{ProgUnavail, ProgMismatch, ReplyView, Denied, RpcMismatch}
use Rattle.rpc_message.specs.Spelling.{auth, call as call_bytes, reply, IsStatus, CallBytes, ReplyBytes}
use Rattle.rpc_message.specs.Cases.{IsCase, IsNoCall, NoAuth, NoTwoCases}
use Rattle.xdr_laws.specs.Laws.{WholeExactly}
use Rattle.registry_rows.specs.Rows.{Row}
use Rattle.registry_rows.specs.Ports.{udp}
use Rattle.registry_answer.specs.declared.answering.Answered.{Answered}
use Rattle.registry_answer.specs.declared.answering.Answered.TheVariants as answered
use Rattle.registry_answer.specs.declared.answering.Appended.{Appended}
use Rattle.registry_answer.specs.declared.answering.Appended.TheVariants as appended
use Rattle.registry_answer.specs.Views.{is_refused, sent_of}
use Rattle.registry_answer.specs.Answering.{AppendsAnswer}
use Rattle.registry_answer.specs.Callers.{unknown, anyone, other}
use Rattle.registry_answer.specs.Procedures.{null, void}
use Rattle.registry_answer.specs.Answer.{ComesTo, no_program, no_version, success, auth_error, most_datagram}
use Rattle.registry_answer.specs.Answer.{is_too_long, denies, accepts, Answers, other_version, bad_cred, call, Answer}
use Rattle.registry_answer.specs.Answer.{argument_limits}
use Rattle.registry_answer.specs.Laws.{OneAnswer}
use Rattle.registry_dumps.specs.Dir.{dir_kinds, void_kind}
use Rattle.registry_answer.proofs.Cases.{decided, silent}

-- ---- any message

-- where memory is refused the rows stay
stays : (rows new : List Row) (netid message : List ℕ) (sent : Option (List ℕ))
    → Answer rows netid message true new sent → new ≡ rows
stays rows new netid message sent h = (decided rows netid h.answers).0

pub retained : (rows new : List Row) (netid message : List ℕ) (result : Answered)
    → Answer rows netid message (is_refused result) new (sent_of result)
    → (xid : ℕ) → result ≡ answered.OutOfMemory xid → new ≡ rows
retained rows new netid message result h xid e = stays rows new netid message (sent_of (answered.OutOfMemory xid))
    (subst (λ (a : Answered). Answer rows netid message (is_refused a) new (sent_of a)) e h)

-- silence alone sends nothing
none_sent : (result : Answered) → sent_of result ≡ None → result ≡ answered.Silent
none_sent answered.Silent e = refl
none_sent (answered.Reply v) e = absurd (apart e)
  where
    apart : ◌≡◌ {A = Option (List ℕ)} (Some v.items) None → ⊥
    apart e = cc
none_sent (answered.OutOfMemory xid) e = absurd (apart e)
  where
    apart : ◌≡◌ {A = Option (List ℕ)} (sent_of (answered.OutOfMemory xid)) None → ⊥
    apart e = cc

pub silence : NoTwoCases → (rows new : List Row) (netid message : List ℕ) → AreBytes message → IsNoCall message
    → (result : Answered) → Answer rows netid message (is_refused result) new (sent_of result)
    → (result ≡ answered.Silent) × (new ≡ rows)
silence cases rows new netid message fits none result h =
    let s = silent rows netid cases message fits (is_refused result) new (sent_of result) h none in
    (none_sent result s.1, s.0)

begins_added : (a x b : List ℕ) → b ≡ a ++ x → StartsWith b a
begins_added a x b e = ap (take (length a)) e ∙ take_at a x (length a) refl

-- what stood there stands there still
pub represents : (rows new : List Row) (netid message old out : List ℕ) (p : Appended)
    → AppendsAnswer rows netid message old new out p → StartsWith out old
represents rows new netid message old out appended.Nothing h = begins_added old [] out (h.1 ∙ sym (append-nil old))
represents rows new netid message old out appended.Reply h = begins_added old h.0 out h.1.1.added
represents rows new netid message old out (appended.OutOfMemory xid) h =
    begins_added old [] out (h.1 ∙ sym (append-nil old))

pub nothing_added : (rows new : List Row) (netid message old out : List ℕ) (p : Appended)
    → AppendsAnswer rows netid message old new out p → (xid : ℕ) → p ≡ appended.OutOfMemory xid → out ≡ old
nothing_added rows new netid message old out p h xid e =
    (subst (λ (q : Appended). AppendsAnswer rows netid message old new out q) e h).1

-- ---- the messages of the examples

checked : (bytes : List ℕ) → are_bytes bytes ≡ true → AreBytes bytes
checked [] e = tt
checked (b ∷ bs) e =
    let both = and_parts (nat_lt b 256) (are_bytes bs) e in
    ((Decides-ltb b 256).0 both.0, checked bs both.1)

-- a call with xid 1, an empty credential and nothing else
abbrev call_to : (prog vers proc flavor : ℕ) → CallView
call_to prog vers proc flavor = record {
  xid = 1;
  prog = prog;
  vers = vers;
  proc = proc;
  cred = record { flavor = flavor; body = [] };
  verf = record { flavor = 0; body = [] };
  args = [];
}

whole : (prog vers proc flavor : ℕ) → IsWord prog → IsWord vers → IsWord proc → IsWord flavor
    → CallBytes (call_to prog vers proc flavor) (call_bytes (call_to prog vers proc flavor))
whole prog vers proc flavor p v n f = record {
  fits = record {
    xid = omega arith;
    prog = p;
    vers = v;
    proc = n;
    cred = record { flavor = f; short = omega arith };
    verf = record { flavor = omega arith; short = omega arith };
  };
  parts = refl;
}

-- a call of version 3 of RPC
abbrev version_3 : List ℕ
version_3 = 0 ∷ 0 ∷ 0 ∷ 2 ∷ 0 ∷ 0 ∷ 0 ∷ 0 ∷ 0 ∷ 0 ∷ 0 ∷ 3 ∷ []

-- a call up to its credential
abbrev no_credential : List ℕ
no_credential =
    0 ∷ 0 ∷ 0 ∷ 1 ∷ 0 ∷ 0 ∷ 0 ∷ 0 ∷ 0 ∷ 0 ∷ 0 ∷ 2 ∷ 0 ∷ 1 ∷ 134 ∷ 160 ∷ 0 ∷ 0 ∷ 0 ∷ 2 ∷ 0 ∷ 0 ∷ 0 ∷ 0 ∷ []

-- a short reply has buffer
has_space : (netid : List ℕ) (count : ℕ) → nat_lt most_datagram count ≡ false → is_too_long netid count ≡ false
has_space netid count e = by (bytes_eq netid udp)
  where
    by : (b : Bool) → (b && nat_lt most_datagram count) ≡ false
    by true = e
    by false = refl

module _ (one : OneAnswer) (rows new : List Row) (netid : List ℕ) (refused : Bool) (sent : Option (List ℕ)) where
  -- the rows stay, and where memory is not refused this is the reply
  abbrev Reported : ReplyView → Type 0
  Reported r = (new ≡ rows) × (refused ≡ false → sent ≡ Some (reply r))

  reported : (message : List ℕ) → AreBytes message → (k : CaseView) (r : ReplyView) → IsCase message k
      → Answers rows netid k false rows (Some r) → ReplyBytes r (reply r)
      → Answer rows netid message refused new sent → Reported r
  reported message fits k r read answers spelled h = by refused h
    where
      by : (y : Bool) → Answer rows netid message y new sent → (new ≡ rows) × (y ≡ false → sent ≡ Some (reply r))
      by true a = (stays rows new netid message sent a, λ e. absurd (true≢false e))
      by false a =
          let same = one rows new rows netid message false sent (Some (reply r)) fits a (record {
            case = k;
            said = Some r;
            read = read;
            answers = answers;
            sends = spelled;
          }) in
          (same.0, λ e. same.1)

  pub mismatched : Answer rows netid version_3 refused new sent → Reported (Denied 2 (RpcMismatch 2 2))
  mismatched = reported version_3 (checked version_3 refl) (OtherVersion 2 3) (Denied 2 (RpcMismatch 2 2)) (record {
    xid_fits = omega arith;
    version_fits = omega arith;
    other = λ (same : 3 ≡ 2). omega (arith, same);
    rest = [];
    parts = refl;
  }) (other_version 2 3) (record { fits = (omega arith, (omega arith, omega arith)); parts = refl })

  pub uncredited : Answer rows netid no_credential refused new sent → Reported (auth_error 1 1)
  uncredited = reported no_credential (checked no_credential refl) (BadCred 1) (auth_error 1 1) (record {
    prog = 100000;
    vers = 2;
    proc = 0;
    rest = [];
    fits = (omega arith, omega arith, omega arith, omega arith);
    parts = refl;
    bad = no_auth;
  }) (bad_cred 1) (record { fits = (omega arith, omega arith); parts = refl })
    where
      no_auth : NoAuth []
      no_auth = λ a rest fits e. let size : 0 ≡ length (auth a ++ rest) = ap length e in absurd cc

  pub rejected : Answer rows netid (call_bytes (call_to 100000 2 0 6)) refused new sent → Reported (auth_error 1 2)
  rejected = reported (call_bytes (call_to 100000 2 0 6)) (checked (call_bytes (call_to 100000 2 0 6)) refl)
      (Whole (call_to 100000 2 0 6)) (auth_error 1 2)
      (whole 100000 2 0 6 (omega arith) (omega arith) (omega arith) (omega arith))
      (call (call_to 100000 2 0 6) rows (auth_error 1 2) (denies 2 (other (omega arith))))
      (record { fits = (omega arith, omega arith); parts = refl })

  -- a call with AUTH_NONE that comes to a status
  come : (prog vers proc : ℕ) → IsWord prog → IsWord vers → IsWord proc → (status : StatusView) → IsStatus status
      → ComesTo rows netid unknown (call_to prog vers proc 0) rows status
      → nat_lt most_datagram (length (reply (accepted 1 status))) ≡ false
      → are_bytes (call_bytes (call_to prog vers proc 0)) ≡ true
      → Answer rows netid (call_bytes (call_to prog vers proc 0)) refused new sent → Reported (accepted 1 status)
  come prog vers proc p v n status fits comes few bytes = reported (call_bytes (call_to prog vers proc 0))
      (checked (call_bytes (call_to prog vers proc 0)) bytes) (Whole (call_to prog vers proc 0)) (accepted 1 status)
      (whole prog vers proc 0 p v n (omega arith))
      (call (call_to prog vers proc 0) rows (accepted 1 status)
      (accepts unknown rows status (anyone refl) comes (has_space netid _ few)))
      (record { fits = (omega arith, record { flavor = omega arith; short = omega arith }, fits); parts = refl })

  pub unavailable : Answer rows netid (call_bytes (call_to 100001 9 77 0)) refused new sent
      → Reported (accepted 1 ProgUnavail)
  unavailable = come 100001 9 77 (omega arith) (omega arith) (omega arith) ProgUnavail tt
      (no_program (λ e. omega (arith, e))) refl refl

  pub versions : Answer rows netid (call_bytes (call_to 100000 9 77 0)) refused new sent
      → Reported (accepted 1 (ProgMismatch 2 4))
  versions = come 100000 9 77 (omega arith) (omega arith) (omega arith) (ProgMismatch 2 4) (omega arith, omega arith)
      (no_version refl (inr (omega arith))) refl refl

  pub done : WholeExactly dir_kinds → Answer rows netid (call_bytes (call_to 100000 2 0 0)) refused new sent
      → Reported (accepted 1 (Success []))
  done exact = come 100000 2 0 (omega arith) (omega arith) (omega arith) (Success []) tt
      (success null void (record {
        program_is = refl;
        version = (omega arith, omega arith);
        procedure_is = refl;
      }) (0, (exact void_kind argument_limits [] void 0 refl).1 ((refl, (omega arith, omega arith)), [], refl, refl)))
      refl refl
