-- What is due, and what writing an item leaves.
use Rattle.std.proofs.Common.{◌≡◌, ℕ, ◌%◌, ◌<◌, ◌≤◌, List, [], ◌++◌, length, refl, ap, subst, arith}
use Rattle.std.proofs.Common.{append-nil, length-append}
use Rattle.std.specs.Prelude.{Result, Ok, Err, MatchResult, ⊤}
use Rattle.xdr_types.specs.Kinds.{KindView, Part}
use Rattle.xdr_types.specs.Tree.{Tree}
use Rattle.xdr_types.specs.Within.{Bounds}
use Rattle.xdr_types.specs.Outcome.{Outcome, Pending, Whole}
use Rattle.xdr_stream.specs.Trace.{Trace}
use Rattle.xdr_stream.specs.Frames.{stack_of}
use Rattle.xdr_stream.specs.Represents as reported
use Rattle.xdr_stream.specs.declared.reader.State.{State}
use Rattle.xdr_stream.specs.declared.reader.State.TheVariants.{Fresh, Reading, Finished, Failed}
use Rattle.xdr_stream.proofs.Answering.{pending_on}
use Rattle.xdr_due.specs.Due.{IsDue, IsNothing}
use Rattle.xdr_due.specs.declared.due.Due.{Due}
use Rattle.xdr_codec.specs.Checks as checks
use Rattle.xdr_codec.specs.declared.checker.Checker.{Checker}
use Rattle.xdr_writer.specs.Private.Bytes.{RefusesBytes}
use Rattle.xdr_writer.specs.Private.Judged.{IsJudged, IsJudgedWithin, Judges, Kept, IsSound}
use Rattle.xdr_writer.specs.Private.After.{HasNothingDue, FindsDue}
use Rattle.xdr_writer.specs.declared.refusal.Why.{Why}
use Rattle.xdr_writer.specs.declared.refusal.Why.TheVariants as why
use Rattle.xdr_writer.specs.declared.item.Step.{Step}
use Rattle.xdr_writer.specs.declared.item.Step.TheVariants as step
use Rattle.xdr_writer.proofs.Settings.{back, same_then}

pub same_self : (c : Checker) → checks.IsSame c c
same_self c = record { schema_is = refl; kind_is = refl; limits_are = refl }

-- ---- what is due

waiting_as : (s : List KindView) (t : ℕ) (l : Bounds) (H : Trace → Type 0) (fs : List (List Part)) (read : ℕ)
    (space : List ℕ) (pending : ℕ) (st : State) (b : List ℕ) → reported.IsWaiting st
    → reported.RepresentsAs ⊤ s t l H fs read space pending st b → Outcome s t l b Pending
waiting_as s t l H fs read space pending (Reading a) b w r = pending_on s t l H fs read space pending a b r
waiting_as s t l H fs read space pending Fresh b w r = absurd w
waiting_as s t l H fs read space pending Finished b w r = absurd w
waiting_as s t l H fs read space pending (Failed f) b w r = absurd w

-- that a unit is needed is told by the state
pub waits_indeed : (st : State) → ((reported.IsWaiting st → ⊥) → ⊥) → reported.IsWaiting st
waits_indeed (Reading a) h = tt
waits_indeed Fresh h = absurd (h (λ w. w))
waits_indeed Finished h = absurd (h (λ w. w))
waits_indeed (Failed f) h = absurd (h (λ w. w))

-- where a unit is needed, decoding the bytes so far has not ended
pub pending_of : (c : Checker) (b : List ℕ) → checks.IsWaiting c → checks.RepresentsBytes c b
    → Outcome (checks.kinds_of c) (checks.kind_of c).place (checks.limits_of c) b Pending
pending_of c b w r =
    let x = c.reader in
    waiting_as x.schema.now.kinds x.kind.place x.limits (λ (t : Trace). ⊤) (stack_of x.work x.parents.items) x.read
    x.unit x.pending x.state b w r

pub found : (c : Checker) (d : Due) → checks.IsWaiting c
    → ((b : List ℕ) → checks.RepresentsBytes c b → checks.HasDue c b d)
    → ((b : List ℕ) → checks.RepresentsBytes c b → checks.IsWaiting c → length b % 4 ≡ 0 → IsNothing d → ⊥)
    → FindsDue c c (Ok d)
found c d waits here some = record {
  says = λ b st units. (here b st, some b st waits units, pending_of c b waits st);
  represents = λ b st. st;
  same = same_self c;
  sound = λ g. g;
}

undue : (s : List KindView) (t : ℕ) (l : Bounds) (b : List ℕ) (w : Why) → RefusesBytes s t l b [] w
    → HasNothingDue s t l b w
undue s t l b (why.Refused f) h =
    (h.0, subst (λ (z : List ℕ). reported.Fails s t l f z) (append-nil b) h.1)
undue s t l b why.PastEnd h = absurd (omega (arith, h.1))
undue s t l b why.NoMemory h = tt
undue s t l b why.WrongItem h = absurd h
undue s t l b why.NotInRange h = absurd h
undue s t l b why.PastLimit h = absurd h
undue s t l b why.Unfinished h = absurd h

module _ (c d : Checker) where
  given : (b : List ℕ) → checks.RepresentsBytes d (b ++ []) → checks.RepresentsBytes d b
  given b st = subst (λ (z : List ℕ). checks.RepresentsBytes d z) (append-nil b) st

  pub first_more : (x : Due) → Judges c d [] (Ok step.More)
      → ((b : List ℕ) → checks.RepresentsBytes d b → checks.HasDue d b x)
      → ((b : List ℕ) → checks.RepresentsBytes d b → checks.IsWaiting d → length b % 4 ≡ 0 → IsNothing x → ⊥)
      → FindsDue c d (Ok x)
  first_more x h here some = record {
    says = λ b st units. (
      back (λ (s : List KindView) (t : ℕ) (l : Bounds). IsDue s t l b x) c d h.same
          (here b (given b (h.judged b st).represents)),
      some b (given b (h.judged b st).represents) (h.waits refl) units,
      subst (λ (z : List ℕ). Outcome (checks.kinds_of c) (checks.kind_of c).place (checks.limits_of c) z Pending)
          (append-nil b) (h.judged b st).says,
    );
    represents = λ b st. given b (h.judged b st).represents;
    same = h.same;
    sound = h.sound;
  }

  pub first_done : Judges c d [] (Ok step.Done) → FindsDue c d (Err why.PastEnd)
  first_done h = record {
    says = λ b st units.
        subst (λ (z : List ℕ). (v : Tree) × Outcome (checks.kinds_of c) (checks.kind_of c).place (checks.limits_of c) z
        (Whole v (length z))) (append-nil b) (h.judged b st).says;
    represents = λ b st. tt;
    same = h.same;
    sound = λ g. tt;
  }

  pub first_refused : (w : Why) → Judges c d [] (Err w) → FindsDue c d (Err w)
  first_refused w h = record {
    says = λ b st units.
        undue (checks.kinds_of c) (checks.kind_of c).place (checks.limits_of c) b w (h.judged b st).says;
    represents = λ b st. tt;
    same = h.same;
    sound = λ g. tt;
  }

-- ---- what writing leaves

module _ (c d : Checker) (u : List ℕ) where
  -- where the bytes were judged and not written
  pub unwritten : (s : Step) → Judges c d u (Ok s) → Judges c d u (Err why.NoMemory)
  unwritten s h = record {
    judged = λ b st. record { represents = tt; says = tt };
    same = h.same;
    sound = λ g. tt;
    waits = λ e. absurd (cc e);
  }

  pub within : (space : ℕ) (b : List ℕ) (r : Result Step Why) → length u ≤ space → IsJudged c d b u r
      → IsJudgedWithin c d space b u r
  within space b (Ok s) low h = record { represents = h.represents; says = h.says }
  within space b (Err (why.Refused f)) low h = record { represents = tt; says = (low, h.says) }
  within space b (Err why.PastEnd) low h = record { represents = tt; says = (low, h.says) }
  within space b (Err why.NoMemory) low h = record { represents = tt; says = (low, tt) }
  within space b (Err why.WrongItem) low h = absurd h.says
  within space b (Err why.NotInRange) low h = absurd h.says
  within space b (Err why.PastLimit) low h = absurd h.says
  within space b (Err why.Unfinished) low h = absurd h.says

  pub kept_by : (space : ℕ) (before after : List ℕ) (r : Result Step Why) → Judges c d u r
      → MatchResult r (λ (s : Step). after ≡ before ++ u) (λ (w : Why). after ≡ before) → 0 < length u
      → length u ≤ space → Kept c d space before after r
  kept_by space before after (Ok s) h written some low = record {
    same = h.same;
    sound = h.sound;
    grows = (
      omega (arith, ap (λ (z : List ℕ). length z) written, length-append before u, some),
      omega (arith, ap (λ (z : List ℕ). length z) written, length-append before u, low),
    );
    waits = h.waits;
  }
  kept_by space before after (Err w) h written some low =
      record { same = h.same; sound = h.sound; grows = tt; waits = h.waits }

-- a refusal before anything was judged
pub kept_all : (c : Checker) (space : ℕ) (before : List ℕ) (w : Why) → Kept c c space before before (Err w)
kept_all c space before w = record { same = same_self c; sound = λ g. tt; grows = tt; waits = λ e. absurd (cc e) }

pub keeps_since : (c m d : Checker) (space : ℕ) (before after : List ℕ) (r : Result Step Why) → checks.IsSame c m
    → (IsSound c → IsSound m) → Kept m d space before after r → Kept c d space before after r
keeps_since c m d space before after r same sound k =
    record {
      same = same_then c m d same k.same;
      sound = λ g. k.sound (sound g);
      grows = k.grows;
      waits = k.waits;
    }
