-- Datagrams one after another, and their lines.
use Rattle.std.proofs.Common.{◌≡◌, ℕ, ◌+◌, ◌<◌, List, [], ◌∷◌, ◌++◌, length, Result, Ok, Err}
use Rattle.std.proofs.Common.{Bool, true, false, ◌==◌, if◌then◌else◌, IfOk, IfErr, OnOk, refl, ap, ◌∙◌, subst}
use Rattle.std.proofs.Common.{arith, length-append, codes, decimal}
use Rattle.xdr_io.specs.Reported.{Counts}
use Rattle.xdr_io.proofs.Chained.{Appends-none, Appends-trans, Counts-trans, Counts-none}
use Rattle.registry_rows.specs.Rows.{Row}
use Rattle.rpc_engine.specs.declared.fault.DatagramFault.TheVariants as fault
use Rattle.rpc_engine.specs.Datagrams.{ServesDatagrams, StopsDatagrams, receives_failed, sends_failed}
use Rattle.oncrpc_answers.specs.declared.failure.Failure.{Failure}
use Rattle.oncrpc_service.specs.Datagrams.{Ended, Finishes, FinishesEach, Reporting, datagram_line, datagram_lines}
use Rattle.oncrpc_service.specs.DatagramEnds.{Desk, HasFinished, HasBroken, HasFinishedOne, HasLostLine}
use Rattle.oncrpc_service.specs.Written.{IsCut, IsPrinted}
use Rattle.oncrpc_service.proofs.Texts.{begun, cut_then, numbered_then}

-- the lines of one more datagram
lines_then : (n : ℕ) (es : List Ended) (e : Ended) → length es ≡ n
    → datagram_lines es ++ datagram_line (n + 1) e ≡ datagram_lines (es ++ e ∷ [])
lines_then n es e counted =
    let number : n + 1 ≡ 1 + length es = omega (arith, counted) in
    ap (λ (k : ℕ). datagram_lines es ++ datagram_line k e) number ∙ numbered_then datagram_line 1 es e

each_then : (rows mid new : List Row) (a b c : Reporting) (es : List Ended) (e : Ended) → FinishesEach rows a es mid b
    → Finishes mid new b c e → FinishesEach rows a (es ++ e ∷ []) new c
each_then rows mid new a b c [] e each next =
    let first = subst (λ (r : List Row). Finishes r new b c e) each.0 next in
    (new, (c, (subst (λ (t : Reporting). Finishes rows new t c e) each.1 first, (refl, refl))))
each_then rows mid new a b c (d ∷ es) e each next =
    (each.0, (each.1.0, (each.1.1.0, each_then each.0 mid new each.1.0 b c es e each.1.1.1 next)))

pub begins : {P O : Type 0} (desk : Desk P O) (rows : List Row) (p : P) (o : O) → HasFinished 0 desk rows rows p p o o
begins desk rows p o = record {
  ended = [];
  finished = (refl, refl);
  counted = refl;
  lines = Appends-none (desk.taken o);
  unlost = Counts-none (desk.lost o);
}

pub goes_on : {P O : Type 0} (desk : Desk P O) (rows mid new : List Row) (p q r : P) (o x y : O) (n : ℕ)
    → HasFinished n desk rows mid p q o x → HasFinishedOne (n + 1) desk mid new q r x y
    → HasFinished (n + 1) desk rows new p r o y
goes_on desk rows mid new p q r o x y n done one =
    let counted = done.counted in
    let longer : length (done.ended ++ one.ended ∷ []) ≡ length done.ended + 1 =
    length-append done.ended (one.ended ∷ []) in
    record {
      ended = done.ended ++ one.ended ∷ [];
      finished = each_then rows mid new _ _ _ done.ended one.ended done.finished one.finished;
      counted = omega (arith, longer, counted);
      lines = Appends-trans _ _ _ _ _ _ (lines_then n done.ended one.ended counted) done.lines one.line;
      unlost = Counts-trans _ _ _ 0 0 0 refl done.unlost one.unlost;
    }

pub breaks : {P O : Type 0} (desk : Desk P O) (rows mid new : List Row) (p q r : P) (o x y : O) (n count : ℕ)
    (why : Failure) → n < count → HasFinished n desk rows mid p q o x → HasLostLine (n + 1) desk mid new q r x y why
    → HasBroken count desk rows new p r o y why
breaks desk rows mid new p q r o x y n count why few done one =
    let counted = done.counted in
    let longer : length (done.ended ++ one.ended ∷ []) ≡ length done.ended + 1 =
    length-append done.ended (one.ended ∷ []) in
    record {
      ended = done.ended ++ one.ended ∷ [];
      finished = each_then rows mid new _ _ _ done.ended one.ended done.finished one.finished;
      few = omega (arith, longer, counted, few);
      cut = subst (λ (z : List ℕ). IsCut z (desk.taken o) (desk.taken y) (desk.lost o) (desk.lost y) why)
          (lines_then n done.ended one.ended counted)
          (cut_then _ _ _ _ _ _ _ _ why done.lines done.unlost one.cut);
    }

-- ---- one datagram

pub finishes : (rows new : List Row) (old now : Reporting) (e : Ended)
    → IfOk e (λ s. ServesDatagrams 1 rows new old.left now.left old.sent now.sent s)
    → IfErr e (λ f. StopsDatagrams 1 rows new old.left now.left old.sent now.sent f)
    → OnOk e (Counts 0 old.unreceived now.unreceived × Counts 0 old.unsent now.unsent)
    → IfErr e (λ f. Counts (receives_failed f) old.unreceived now.unreceived
    × Counts (sends_failed f) old.unsent now.unsent)
    → Finishes rows new old now e
finishes rows new old now (Ok s) served stopped none one = (served, none.0, none.1)
finishes rows new old now (Err f) served stopped none one = (stopped, one.0, one.1)

pub one_finished : {P O : Type 0} (desk : Desk P O) (n : ℕ) (rows new : List Row) (p q : P) (o x : O) (e : Ended)
    (r : Result (Unit {0}) Failure) → Finishes rows new (desk.reports p) (desk.reports q) e
    → IsPrinted (datagram_line n e) (desk.taken o) (desk.taken x) (desk.lost o) (desk.lost x) r
    → OnOk r (HasFinishedOne n desk rows new p q o x)
one_finished desk n rows new p q o x e (Ok u) finished line =
    record { ended = e; finished = finished; line = line.0; unlost = line.1 }
one_finished desk n rows new p q o x e (Err why) finished line = tt

pub one_lost : {P O : Type 0} (desk : Desk P O) (n : ℕ) (rows new : List Row) (p q : P) (o x : O) (e : Ended)
    (r : Result (Unit {0}) Failure) → Finishes rows new (desk.reports p) (desk.reports q) e
    → IsPrinted (datagram_line n e) (desk.taken o) (desk.taken x) (desk.lost o) (desk.lost x) r
    → IfErr r (λ why. HasLostLine n desk rows new p q o x why)
one_lost desk n rows new p q o x e (Ok u) finished line = tt
one_lost desk n rows new p q o x e (Err why) finished line = record { ended = e; finished = finished; cut = line }

either_is_some : (b : Bool) (xs ys : List ℕ) → 0 < length xs → 0 < length ys → 0 < length (if b then xs else ys)
either_is_some true xs ys some other = some
either_is_some false xs ys some other = other

-- a line has some bytes
pub line_is_some : (n : ℕ) (e : Ended) → 0 < length (datagram_line n e)
line_is_some n (Ok s) = either_is_some (s.replies == 0) _ _
    (begun (codes "datagram ") (decimal n ++ codes ": no reply\n") (omega arith))
    (begun (codes "datagram ") (decimal n ++ codes ": reply\n") (omega arith))
line_is_some n (Err (fault.Read done)) = omega arith
line_is_some n (Err (fault.Write done)) = omega arith
