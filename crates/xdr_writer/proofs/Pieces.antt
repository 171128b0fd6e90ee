-- What the checker's answers to the pieces of an item say of all of its bytes.
use Rattle.std.proofs.Common.{◌≡◌, ℕ, ◌+◌, ◌<◌, ◌≤◌, Bool, true, false, List, [], ◌∷◌, ◌++◌, length, take, refl, ap}
use Rattle.std.proofs.Common.{sym, ◌∙◌, subst, arith, append-nil, append_assoc, length-append}
use Rattle.std.specs.Prelude.{Result, Ok, Err, OnOk, IfErr}
use Rattle.std.specs.Prelude.{◌==◌}
use Rattle.std.proofs.lemmas.Bool.{false≢true, eqb-true}
use Rattle.std.proofs.lemmas.List.{take_all, nil_from_length}
use Rattle.xdr_types.specs.Kinds.{KindView, kind_at}
use Rattle.xdr_types.specs.Tree.{Tree}
use Rattle.xdr_types.specs.Within.{Bounds}
use Rattle.xdr_types.specs.Outcome.{Outcome, Whole, Pending}
use Rattle.xdr_laws.proofs.Longer.{stays}
use Rattle.xdr_stream.specs.Held as held
use Rattle.xdr_stream.specs.Represents as reported
use Rattle.xdr_stream.specs.Represents.{taken}
use Rattle.xdr_stream.specs.Spared.{HasNoParts}
use Rattle.xdr_stream.specs.declared.fault.DecodeFault.{DecodeFault}
use Rattle.xdr_stream.specs.declared.fault.Reason.TheVariants as reason
use Rattle.xdr_stream.specs.declared.reader.State.{State}
use Rattle.xdr_stream.specs.declared.reader.State.TheVariants.{Finished, Failed}
use Rattle.xdr_stream.specs.declared.reader.Progress.{Progress}
use Rattle.xdr_stream.specs.declared.reader.Progress.TheVariants.{More, Done}
use Rattle.xdr_stream.proofs.Answering.{fails_on}
use Rattle.xdr_codec.specs.Checks as checks
use Rattle.xdr_codec.specs.declared.checker.Checker.{Checker}
use Rattle.xdr_writer.specs.Private.Bytes.{SaysOf, RefusesBytes}
use Rattle.xdr_writer.specs.Private.Judged.{IsWhy, IsStep, Judges, Grants}
use Rattle.xdr_writer.specs.declared.refusal.Why.{Why}
use Rattle.xdr_writer.specs.declared.refusal.Why.TheVariants as why
use Rattle.xdr_writer.specs.declared.item.Step.{Step}
use Rattle.xdr_writer.specs.declared.item.Step.TheVariants as step
use Rattle.xdr_writer.proofs.Settings.{carried, back, same_then}

-- ---- no bytes, or some

pub no_bytes : (xs : List ℕ) (empty : Bool) → empty ≡ (length xs == 0) → empty ≡ true → xs ≡ []
no_bytes xs empty is h = nil_from_length xs (eqb-true (length xs) 0 (sym is ∙ h))

pub some_bytes : (xs : List ℕ) (empty : Bool) → empty ≡ (length xs == 0) → empty ≡ false → 0 < length xs
some_bytes [] empty is h = absurd (false≢true (sym h ∙ is))
some_bytes (x ∷ xs) empty is h = omega arith

-- ---- one piece

module _ (c d : Checker) (u : List ℕ) (same : checks.IsSame c d) where
  fault_says : (b : List ℕ) (f : DecodeFault) (w : Why) → IsWhy f w → checks.HasOutcome c b u (Err f)
      → SaysOf (checks.kinds_of c) (checks.kind_of c).place (checks.limits_of c) b u (Err w)
  fault_says b f why.NoMemory is o = tt
  fault_says b f (why.Refused g) is o = (
    subst (λ (x : DecodeFault). x.why ≡ reason.NoMemory → ⊥) (sym is.0) is.1,
    subst (λ (x : DecodeFault). reported.Fails (checks.kinds_of c) (checks.kind_of c).place (checks.limits_of c) x
        (b ++ u)) (sym is.0) o,
  )
  fault_says b f why.WrongItem is o = absurd is
  fault_says b f why.NotInRange is o = absurd is
  fault_says b f why.PastEnd is o = absurd is
  fault_says b f why.PastLimit is o = absurd is
  fault_says b f why.Unfinished is o = absurd is

  pub judges_fed : (p : Result Progress DecodeFault) (r : Result Step Why)
      → ((b : List ℕ) → checks.RepresentsBytes c b → checks.RepresentsBytes d (b ++ taken u p))
      → ((b : List ℕ) → checks.RepresentsBytes c b → checks.HasOutcome c b u p)
      → checks.Leaves d u p → IsStep p (length u) r → Judges c d u r
  judges_fed (Ok More) (Ok s) given outcome leaves is =
      let more : Judges c d u (Ok step.More) =
      record {
        judged = λ b st. record { represents = given b st; says = outcome b st };
        same = same;
        sound = λ h f e. subst (λ (x : State). held.GoesOn x) e (leaves.goes_on refl);
        waits = λ e. leaves.more refl;
      } in
      subst (λ (x : Step). Judges c d u (Ok x)) (sym is) more
  judges_fed (Ok (Done used)) (Ok s) given outcome leaves is =
      let count : used ≡ length u = is.1 in
      let all : take used u ≡ u = take_all used u (omega arith) in
      let done : Judges c d u (Ok step.Done) =
      record {
        judged = λ b st. record {
          represents = subst (λ (z : List ℕ). checks.RepresentsBytes d (b ++ z)) all (given b st);
          says = (
            (outcome b st).0,
            subst (λ (n : ℕ). Outcome (checks.kinds_of c) (checks.kind_of c).place (checks.limits_of c) (b ++ u)
                (Whole (outcome b st).0 n)) (omega (arith, length-append b u)) (outcome b st).1,
          );
        };
        same = same;
        sound = λ h f e.
            let whole : d.reader.state ≡ Finished = leaves.done used refl in
            let failed : d.reader.state ≡ Failed f = e in
            cc (whole, failed);
        waits = λ e. absurd (cc e);
      } in
      subst (λ (x : Step). Judges c d u (Ok x)) (sym is.0) done
  judges_fed (Ok (Done used)) (Err w) given outcome leaves is =
      let low : used ≤ length u = leaves.used in
      let other : used ≡ length u → ⊥ = is.1 in
      let past : Judges c d u (Err why.PastEnd) =
      record {
        judged = λ b st. record {
          represents = tt;
          says = (used, omega arith, (outcome b st).0, (outcome b st).1);
        };
        same = same;
        sound = λ h. tt;
        waits = λ e. absurd (cc e);
      } in
      subst (λ (x : Why). Judges c d u (Err x)) (sym is.0) past
  judges_fed (Err f) (Err w) given outcome leaves is = record {
    judged = λ b st. record { represents = tt; says = fault_says b f w is (outcome b st) };
    same = same;
    sound = λ h. tt;
    waits = λ e. absurd (cc e);
  }
  judges_fed (Ok More) (Err w) given outcome leaves is = absurd is
  judges_fed (Err f) (Ok s) given outcome leaves is = absurd is

pub grants_fed : (c : Checker) (n : ℕ) (p : Result Progress DecodeFault) (r : Result Step Why) → IsStep p n r
    → (HasNoParts (kind_at (checks.kinds_of c) (checks.kind_of c).place)
    → IfErr p (λ (f : DecodeFault). f.why ≡ reason.NoMemory → ⊥)) → Grants c r
grants_fed c n (Ok More) (Ok s) is granted flat e = absurd (cc e)
grants_fed c n (Ok More) (Err w) is granted flat e = absurd is
grants_fed c n (Ok (Done used)) (Ok s) is granted flat e = absurd (cc e)
grants_fed c n (Ok (Done used)) (Err w) is granted flat e = absurd (cc (is.0, e))
grants_fed c n (Err f) (Ok s) is granted flat e = absurd (cc e)
grants_fed c n (Err f) (Err w) is granted flat e =
    let same : w ≡ why.NoMemory = cc e in
    granted flat (subst (λ (x : Why). IsWhy f x) same is)

pub grants_back : (c d : Checker) (r : Result Step Why) → checks.IsSame c d → Grants d r → Grants c r
grants_back c d r same grants flat =
    grants (carried (λ (s : List KindView) (t : ℕ) (l : Bounds). HasNoParts (kind_at s t)) c d same flat)

-- ---- one piece behind another

module _ (s : List KindView) (t : ℕ) (l : Bounds) (b u x : List ℕ) where
  -- a value that is whole stays so
  still_whole : (n : ℕ) (v : Tree) → Outcome s t l (b ++ u) (Whole v n) → Outcome s t l (b ++ (u ++ x)) (Whole v n)
  still_whole n v o =
      subst (λ (z : List ℕ). Outcome s t l z (Whole v n)) (append_assoc b u x)
      (stays s t l (b ++ u) x (Whole v n) tt o)

  -- a refusal is one of longer bytes
  refuses_before : (w : Why) → RefusesBytes s t l b u w → RefusesBytes s t l b (u ++ x) w
  refuses_before (why.Refused f) h = (
    h.0,
    subst (λ (z : List ℕ). reported.Fails s t l f z) (append_assoc b u x) (fails_on s t l f (b ++ u) x h.1),
  )
  refuses_before why.PastEnd h =
      (h.0, omega (arith, h.1, length-append u x), h.2, still_whole (length b + h.0) h.2 h.3)
  refuses_before why.NoMemory h = tt
  refuses_before why.WrongItem h = absurd h
  refuses_before why.NotInRange h = absurd h
  refuses_before why.PastLimit h = absurd h
  refuses_before why.Unfinished h = absurd h

  refuses_behind : (w : Why) → RefusesBytes s t l (b ++ u) x w → RefusesBytes s t l b (u ++ x) w
  refuses_behind (why.Refused f) h =
      (h.0, subst (λ (z : List ℕ). reported.Fails s t l f z) (append_assoc b u x) h.1)
  refuses_behind why.PastEnd h =
      let place : length (b ++ u) + h.0 ≡ length b + (length u + h.0) = omega (arith, length-append b u) in (
        length u + h.0,
        omega (arith, h.1, length-append u x),
        h.2,
        subst (λ (n : ℕ). Outcome s t l (b ++ (u ++ x)) (Whole h.2 n)) place
            (subst (λ (z : List ℕ). Outcome s t l z (Whole h.2 (length (b ++ u) + h.0))) (append_assoc b u x) h.3),
      )
  refuses_behind why.NoMemory h = tt
  refuses_behind why.WrongItem h = absurd h
  refuses_behind why.NotInRange h = absurd h
  refuses_behind why.PastLimit h = absurd h
  refuses_behind why.Unfinished h = absurd h

  says_behind : (r : Result Step Why) → SaysOf s t l (b ++ u) x r → SaysOf s t l b (u ++ x) r
  says_behind (Ok step.More) h = subst (λ (z : List ℕ). Outcome s t l z Pending) (append_assoc b u x) h
  says_behind (Ok step.Done) h =
      (h.0, subst (λ (z : List ℕ). Outcome s t l z (Whole h.0 (length z))) (append_assoc b u x) h.1)
  says_behind (Err w) h = refuses_behind w h

  -- where the value is whole before some bytes, they are refused
  whole_before : 0 < length x → (v : Tree) → Outcome s t l (b ++ u) (Whole v (length (b ++ u)))
      → RefusesBytes s t l b (u ++ x) why.PastEnd
  whole_before some v o = (
    length u,
    omega (arith, some, length-append u x),
    v,
    subst (λ (n : ℕ). Outcome s t l (b ++ (u ++ x)) (Whole v n)) (length-append b u)
        (still_whole (length (b ++ u)) v o),
  )

module _ (c d : Checker) (u x : List ℕ) where
  pub none_behind : (r : Step) → x ≡ [] → Judges c d u (Ok r) → Judges c d (u ++ x) (Ok r)
  none_behind r none h =
      subst (λ (z : List ℕ). Judges c d z (Ok r)) (sym (ap (λ (z : List ℕ). u ++ z) none ∙ append-nil u)) h

  pub whole_behind : 0 < length x → Judges c d u (Ok step.Done) → Judges c d (u ++ x) (Err why.PastEnd)
  whole_behind some h = record {
    judged = λ b st. record {
      represents = tt;
      says = whole_before (checks.kinds_of c) (checks.kind_of c).place (checks.limits_of c) b u x some
          (h.judged b st).says.0 (h.judged b st).says.1;
    };
    same = h.same;
    sound = λ g. tt;
    waits = λ e. absurd (cc e);
  }

  pub refused_before : (w : Why) → Judges c d u (Err w) → Judges c d (u ++ x) (Err w)
  refused_before w h = record {
    judged = λ b st. record {
      represents = tt;
      says = refuses_before (checks.kinds_of c) (checks.kind_of c).place (checks.limits_of c) b u x w
          (h.judged b st).says;
    };
    same = h.same;
    sound = λ g. tt;
    waits = λ e. absurd (cc e);
  }

  pub judges_behind : (e : Checker) (r : Result Step Why) → Judges c d u (Ok step.More) → Judges d e x r
      → Judges c e (u ++ x) r
  judges_behind e r h k = record {
    judged = λ b st.
        let before = h.judged b st in
        let after = k.judged (b ++ u) before.represents in
        record {
          represents = subst (λ (z : List ℕ). OnOk r (checks.RepresentsBytes e z)) (append_assoc b u x)
              after.represents;
          says = says_behind (checks.kinds_of c) (checks.kind_of c).place (checks.limits_of c) b u x r
              (back (λ (s : List KindView) (t : ℕ) (l : Bounds). SaysOf s t l (b ++ u) x r) c d h.same after.says);
        };
    same = same_then c d e h.same k.same;
    sound = λ g. k.sound (h.sound g);
    waits = k.waits;
  }
