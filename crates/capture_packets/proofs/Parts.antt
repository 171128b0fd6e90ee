-- Parts of bytes, and what rules give that may fail.
use Rattle.std.proofs.Common.{◌≡◌, ℕ, Bool, true, false, cond, List, [], ◌++◌, take, drop, Result, Ok, Err}
use Rattle.std.proofs.Common.{refl, sym, ap, subst, ◌∙◌, append_assoc}
use Rattle.std.proofs.lemmas.List.{append-nil, take-append-drop}
use Rattle.capture_packets.specs.declared.reason.Reason.{Reason}
use Rattle.capture_packets.specs.Lies.{IsPart}
use Rattle.capture_packets.specs.Steps.{◌>>=◌}

pub part_all : (bytes : List ℕ) → IsPart bytes bytes
part_all bytes = record { before = []; after = []; spelled = sym (append-nil bytes) }

pub part_range : (n m : ℕ) (bytes : List ℕ) → IsPart (take n (drop m bytes)) bytes
part_range n m bytes = record {
  before = take m bytes;
  after = drop n (drop m bytes);
  spelled = sym (ap (λ (x : List ℕ). take m bytes ++ x) (take-append-drop n (drop m bytes)) ∙ take-append-drop m bytes);
}

pub part_drop : (m : ℕ) (bytes : List ℕ) → IsPart (drop m bytes) bytes
part_drop m bytes = record {
  before = take m bytes;
  after = [];
  spelled = sym (ap (λ (x : List ℕ). take m bytes ++ x) (append-nil (drop m bytes)) ∙ take-append-drop m bytes);
}

pub part_of_part : (a b c : List ℕ) → IsPart a b → IsPart b c → IsPart a c
part_of_part a b c p q =
    let grouped : q.before ++ ((p.before ++ (a ++ p.after)) ++ q.after)
    ≡ (q.before ++ p.before) ++ (a ++ (p.after ++ q.after)) =
    ap (λ (x : List ℕ). q.before ++ x)
    (append_assoc p.before (a ++ p.after) q.after
    ∙ ap (λ (x : List ℕ). p.before ++ x) (append_assoc a p.after q.after))
    ∙ sym (append_assoc q.before p.before (a ++ (p.after ++ q.after))) in
    record {
      before = q.before ++ p.before;
      after = p.after ++ q.after;
      spelled = q.spelled ∙ ap (λ (x : List ℕ). q.before ++ (x ++ q.after)) p.spelled ∙ grouped;
    }

-- what is given is so, where anything is given
pub record Gives {X : Type 0} (P : X → Type 0) (r : Result X Reason) : Type 0 where
  pub holds : (x : X) → r ≡ Ok x → P x

abbrev done : {X : Type 0} → X → Result X Reason
done x = Ok x

abbrev failed : {X : Type 0} → Reason → Result X Reason
failed reason = Err reason

ok_is : {X : Type 0} (x y : X) → done x ≡ done y → x ≡ y
ok_is x y e = cc

err_no_ok : {X : Type 0} (x : X) (reason : Reason) → failed reason ≡ done x → ⊥
err_no_ok x reason e = absurd cc

pub given : {X : Type 0} (P : X → Type 0) (x : X) → P x → Gives P (Ok x)
given P x p = record { holds = λ y e. subst P (ok_is x y e) p }

pub not_given : {X : Type 0} (P : X → Type 0) (reason : Reason) → Gives P (Err reason)
not_given P reason = record { holds = λ y e. absurd (err_no_ok y reason e) }

pub given_either : {X : Type 0} (P : X → Type 0) (b : Bool) (r s : Result X Reason) → Gives P r → Gives P s
    → Gives P (cond b r s)
given_either P true r s p q = p
given_either P false r s p q = q

pub given_next : {X Y : Type 0} (P : X → Type 0) (Q : Y → Type 0) (r : Result X Reason) (f : X → Result Y Reason)
    → Gives P r → ((x : X) → P x → Gives Q (f x)) → Gives Q (r >>= f)
given_next P Q (Ok x) f p q = q x (p.holds x refl)
given_next P Q (Err reason) f p q = not_given Q reason

pub given_any : {X : Type 0} (r : Result X Reason) → Gives (λ (x : X). Unit {0}) r
given_any r = record { holds = λ x e. tt }
