-- An input that is judged as it is read: where reading stands.
use Rattle.std.proofs.Common.{◌≡◌, ℕ, ◌+◌, ◌<◌, ◌≤◌, List, [], ◌++◌, length, take, refl, sym, ap}
use Rattle.std.proofs.Common.{subst, ◌∙◌, arith, append-nil, length-append, Option, Some, None, Bool, true, false}
use Rattle.std.proofs.Common.{if◌then◌else◌, inr}
use Rattle.std.proofs.lemmas.List.{length-take-le}
use Rattle.std.specs.Io.KnownBytes.{Keeps, Consumes, IsAtEnd}
use Rattle.xdr_types.specs.Kinds.{Lists}
use Rattle.xdr_types.specs.Within.{AreBounds, Bounds}
use Rattle.xdr_types.specs.declared.kind.KindId.{KindId}
use Rattle.xdr_io.specs.Reported.{Counts, CountsAtMost, MovesAtMost}
use Rattle.xdr_io.specs.declared.input.TheConstants.{MOST_READS}
use Rattle.xdr_io.proofs.Chained.{Counts-trans, Consumes-trans, Consumes-none, Consumes-then_retained}
use Rattle.xdr_io.proofs.Chained.{Consumes-at_end}
use Rattle.xdr_codec.specs.Checks.{RepresentsBytes, IsStarted}
use Rattle.xdr_codec.specs.declared.checker.Checker.{Checker}
use Rattle.oncrpc_answers.specs.declared.answer.Answer.{Answer}
use Rattle.oncrpc_tasks.specs.declared.judge.Verdict.{Verdict}
use Rattle.oncrpc_tasks.specs.declared.judge.Verdict.TheVariants.{Open, Settled}
use Rattle.oncrpc_tasks.specs.declared.question.Form.TheVariants as form
use Rattle.oncrpc_tasks.specs.Private.Judged.{Follows, IsRetained, Says}
use Rattle.oncrpc_tasks.specs.Private.Reading.{ReadsInput}
use Rattle.oncrpc_tasks.specs.Right.{Question, IsRight, IsRightFor}
use Rattle.oncrpc_tasks.specs.Stopping.{IsUnsettled, ReadsUnsettled, LastRead}
use Rattle.oncrpc_tasks.proofs.Rightly.{unsettled_within}

-- What was read settles no answer; this one is right if the input ends here. All of it is kept, or nothing.
pub record Progress (q : Question) (c : Checker) (count : ℕ) (at_end : Answer) (turn : ℕ) (left left' : Option (List ℕ))
    (keeps : Bool) (retained : List ℕ) : Type 0 where
  pub seen : List ℕ
  pub read : Consumes left left' seen
  pub counted : count ≡ length seen
  pub turns : turn ≤ length seen
  pub follows : Follows q c seen
  pub unsettled : IsUnsettled q seen
  pub right : IsRight q seen at_end []
  pub is_retained : retained ≡ (if keeps then seen else [])

-- an answer that is right whatever follows is right for an input that is reported
for_reported : (q : Question) (a : Answer) (b : List ℕ) (left left' : Option (List ℕ)) → Consumes left left' b
    → ((more : List ℕ) → IsRight q (b ++ more) a []) → IsRightFor q false left a []
for_reported q a b None left' read each = tt
for_reported q a b (Some input) None read each = absurd read
for_reported q a b (Some input) (Some rest) read each =
    subst (λ (x : List ℕ). IsRight q x a []) (sym read) (each rest)

at_its_end : (q : Question) (a : Answer) (b : List ℕ) (left left' : Option (List ℕ)) → Consumes left left' b
    → IsAtEnd left' → IsRight q b a [] → IsRightFor q false left a []
at_its_end q a b None left' read end right = tt
at_its_end q a b (Some input) None read end right = absurd read
at_its_end q a b (Some input) (Some rest) read end right =
    subst (λ (x : List ℕ). IsRight q x a [])
    (sym (read ∙ ap (λ (x : List ℕ). b ++ x) end ∙ append-nil b)) right

-- a checker that was started follows no bytes yet
pub started : (c : Checker) (s : Lists) (k : KindId) (l : Bounds) → RepresentsBytes c [] → IsStarted c s k l
    → Follows (record { kinds = s.kinds; place = k.place; limits = l; form = form.Outcome }) c []
started c s k l represents set = record {
  represents = represents;
  kinds_are = ap (λ (x : Lists). x.kinds) set.schema_is;
  place_is = ap (λ (x : KindId). x.place) set.kind_is;
  limits_are = set.limits_are;
  lines = refl;
}

none_retained : (keeps : Bool) (retained : List ℕ) → retained ≡ [] → retained ≡ (if keeps then [] else [])
none_retained true retained none = none
none_retained false retained none = none

-- before the first read
pub begun : (q : Question) (d : Checker) (v : Verdict) (a : Answer) (left : Option (List ℕ)) (keeps : Bool)
    (retained : List ℕ) → retained ≡ [] → v ≡ Open a → Says q d [] v → Progress q d 0 a 0 left left keeps retained
begun q d v a left keeps retained none is says =
    let h : Says q d [] (Open a) = subst (λ (x : Verdict). Says q d [] x) is says in
    record {
      seen = [];
      read = Consumes-none left;
      counted = refl;
      turns = omega arith;
      follows = h.0;
      unsettled = h.1;
      right = h.2;
      is_retained = none_retained keeps retained none;
    }

-- all bytes in one piece
pub all_open : (q : Question) (d : Checker) (b : List ℕ) (v : Verdict) (a : Answer) → v ≡ Open a → Says q d b v
    → IsRight q b a []
all_open q d b v a is says =
    let h : Says q d b (Open a) = subst (λ (x : Verdict). Says q d b x) is says in h.2

pub all_settled : (q : Question) (d : Checker) (b : List ℕ) (v : Verdict) (a : Answer) → v ≡ Settled a → Says q d b v
    → IsRight q b a []
all_settled q d b v a is says =
    let h : Says q d b (Settled a) = subst (λ (x : Verdict). Says q d b x) is says in
    subst (λ (x : List ℕ). IsRight q x a []) (append-nil b) (h [])

pub settled_first : (q : Question) (d : Checker) (v : Verdict) (a : Answer) (left : Option (List ℕ)) → v ≡ Settled a
    → Says q d [] v → IsRightFor q false left a []
settled_first q d v a left is says =
    let h : Says q d [] (Settled a) = subst (λ (x : Verdict). Says q d [] x) is says in
    for_reported q a [] left left (Consumes-none left) h

-- what is kept: all that was seen, or nothing
retained_by : (keeps : Bool) (retained seen : List ℕ) (q : Question) (left left' : Option (List ℕ)) (a : Answer)
    → retained ≡ (if keeps then seen else []) → Consumes left left' seen → IsRight q seen a []
    → IsRetained keeps q left left' a retained
retained_by true retained seen q left left' a all read right =
    subst (λ (x : List ℕ). IsRetained true q left left' a x) (sym all) (read, right)
retained_by false retained seen q left left' a all read right = all

more_retained : (keeps : Bool) (retained retained' seen page : List ℕ) → retained ≡ (if keeps then seen else [])
    → retained' ≡ (if keeps then retained ++ page else retained) → retained' ≡ (if keeps then seen ++ page else [])
more_retained true retained retained' seen page all grown = grown ∙ ap (λ (x : List ℕ). x ++ page) all
more_retained false retained retained' seen page all grown = grown ∙ all

pub retained_first : (q : Question) (d : Checker) (v : Verdict) (a : Answer) (left : Option (List ℕ)) (keeps : Bool)
    (retained : List ℕ) → retained ≡ [] → v ≡ Settled a → Says q d [] v → IsRetained keeps q left left a retained
retained_first q d v a left keeps retained none is says =
    retained_by keeps retained [] q left left a (none_retained keeps retained none) (Consumes-none left)
    (all_settled q d [] v a is says)

module _ (q : Question) (bounds : AreBounds q.limits.depth q.limits.bytes) where
  -- what comes before the last read is within the limit, and that read is of a page at most
  pub moved_by : (left left' : Option (List ℕ)) (reads reads' : Option ℕ) → LastRead q left left' reads reads'
      → MovesAtMost (q.limits.bytes + 4096) left left'
  moved_by left left' reads reads' h =
      let within = unsettled_within q bounds.units h.before h.unsettled in
      record {
        input = h.before ++ h.last;
        few = omega (arith, within, h.page, length-append h.before h.last);
        read = h.read;
      }

  pub stops_by : (left left' : Option (List ℕ)) (reads reads' : Option ℕ) → CountsAtMost MOST_READS reads reads'
      → LastRead q left left' reads reads' → ReadsInput q false left left' reads reads'
  stops_by left left' reads reads' few h =
      record { few_reads = few; bounded = moved_by left left' reads reads' h; stops = λ plain. inr h }

module _ (q : Question) (c : Checker) (count : ℕ) (at_end : Answer) (turn : ℕ) (left left' : Option (List ℕ))
    (reads reads' reads'' : Option ℕ) {keeps : Bool} {retained : List ℕ}
    (p : Progress q c count at_end turn left left' keeps retained) (counted : Counts turn reads reads') where
  -- a read that failed
  pub unsettled_by : (left'' : Option (List ℕ)) → Keeps left' left'' → ReadsUnsettled q left left''
  unsettled_by left'' retained =
      record { bytes = p.seen; unsettled = p.unsettled; read = Consumes-then_retained _ _ _ p.seen p.read retained }

  pub failed_by : (left'' : Option (List ℕ)) → Keeps left' left'' → Counts 1 reads' reads''
      → LastRead q left left'' reads reads''
  failed_by left'' retained one = record {
    before = p.seen;
    last = [];
    unsettled = p.unsettled;
    page = omega arith;
    read = Consumes-then_retained _ _ _ (p.seen ++ [])
        (subst (λ (x : List ℕ). Consumes left left' x) (sym (append-nil p.seen)) p.read) retained;
    few = record {
      calls = turn + 1;
      few = omega (arith, p.turns);
      counted = Counts-trans _ _ _ turn 1 _ refl counted one;
    };
  }

  -- after the last read that is allowed
  pub many_by : LastRead q left left' reads reads'
  many_by = record {
    before = p.seen;
    last = [];
    unsettled = p.unsettled;
    page = omega arith;
    read = subst (λ (x : List ℕ). Consumes left left' x) (sym (append-nil p.seen)) p.read;
    few = record { calls = turn; few = omega (arith, p.turns); counted = counted };
  }

  pub one_more : Counts 1 reads' reads'' → turn < MOST_READS → CountsAtMost MOST_READS reads reads''
  one_more one low = record {
    calls = turn + 1;
    few = omega (arith, low);
    counted = Counts-trans _ _ _ turn 1 _ refl counted one;
  }

  pub count_within : AreBounds q.limits.depth q.limits.bytes → count ≤ 16777216
  count_within bounds =
      omega (arith, p.counted, unsettled_within q bounds.units p.seen p.unsettled, bounds.most_bytes)

  pub at_end_by : (left'' : Option (List ℕ)) (n : ℕ) (array : List ℕ) → n ≡ 0 → Consumes left' left'' (take n array)
      → IsAtEnd left'' → IsRightFor q false left at_end []
  at_end_by left'' n array none read end =
      at_its_end q at_end p.seen left left'' (Consumes-at_end left left' left'' p.seen array n none p.read read) end
      p.right

  -- a read that gave some bytes
  pub goes_on : (left'' : Option (List ℕ)) (n : ℕ) (array : List ℕ) (d : Checker) (v : Verdict) (a : Answer)
      → length (take n array) ≡ n → (n ≡ 0 → ⊥) → Consumes left' left'' (take n array) → v ≡ Open a
      → Says q d (p.seen ++ take n array) v → (retained' : List ℕ)
      → retained' ≡ (if keeps then retained ++ take n array else retained)
      → Progress q d (count + n) a (turn + 1) left left'' keeps retained'
  goes_on left'' n array d v a size some read is says retained' grown_retained =
      let h : Says q d (p.seen ++ take n array) (Open a) =
      subst (λ (x : Verdict). Says q d (p.seen ++ take n array) x) is says in
      let grown = length-append p.seen (take n array) in
      let one : 1 ≤ n = omega (arith, some) in
      record {
        seen = p.seen ++ take n array;
        read = Consumes-trans _ _ _ p.seen (take n array) _ refl p.read read;
        counted = omega (arith, grown, size, p.counted);
        turns = omega (arith, grown, size, p.turns, one);
        follows = h.0;
        unsettled = h.1;
        right = h.2;
        is_retained = more_retained keeps retained retained' p.seen (take n array) p.is_retained grown_retained;
      }

  pub settled_by : (left'' : Option (List ℕ)) (n : ℕ) (array : List ℕ) (d : Checker) (v : Verdict) (a : Answer)
      → Consumes left' left'' (take n array) → v ≡ Settled a → Says q d (p.seen ++ take n array) v
      → IsRightFor q false left a []
  settled_by left'' n array d v a read is says =
      let h : Says q d (p.seen ++ take n array) (Settled a) =
      subst (λ (x : Verdict). Says q d (p.seen ++ take n array) x) is says in
      for_reported q a (p.seen ++ take n array) left left''
      (Consumes-trans _ _ _ p.seen (take n array) _ refl p.read read) h

  -- a read that gave some bytes, or none at the end
  pub read_by : (left'' : Option (List ℕ)) (n : ℕ) (array : List ℕ) → length (take n array) ≤ 4096
      → Consumes left' left'' (take n array) → Counts 1 reads' reads'' → LastRead q left left'' reads reads''
  read_by left'' n array few moved one = record {
    before = p.seen;
    last = take n array;
    unsettled = p.unsettled;
    page = few;
    read = Consumes-trans _ _ _ p.seen (take n array) _ refl p.read moved;
    few = record {
      calls = turn + 1;
      few = omega (arith, p.turns);
      counted = Counts-trans _ _ _ turn 1 _ refl counted one;
    };
  }

  -- how the input was read: up to a read that failed, up to the last that is allowed, and up to one that gave bytes
  pub stops_failed : AreBounds q.limits.depth q.limits.bytes → turn < MOST_READS → (left'' : Option (List ℕ))
      → Keeps left' left'' → Counts 1 reads' reads'' → ReadsInput q false left left'' reads reads''
  stops_failed bounds low left'' same one =
      stops_by q bounds left left'' reads reads'' (one_more one low) (failed_by left'' same one)

  pub stops_last : AreBounds q.limits.depth q.limits.bytes → turn ≤ MOST_READS
      → ReadsInput q false left left' reads reads'
  stops_last bounds low =
      stops_by q bounds left left' reads reads' (record { calls = turn; few = low; counted = counted }) many_by

  pub stops_read : AreBounds q.limits.depth q.limits.bytes → turn < MOST_READS → (left'' : Option (List ℕ)) (n : ℕ)
      (array : List ℕ) → n ≤ 4096 → n ≤ length array → Consumes left' left'' (take n array) → Counts 1 reads' reads''
      → ReadsInput q false left left'' reads reads''
  stops_read bounds low left'' n array page within moved one =
      stops_by q bounds left left'' reads reads'' (one_more one low)
      (read_by left'' n array (omega (arith, page, length-take-le n array within)) moved one)

  -- what is kept at the end of the input, and where the answer is settled
  pub retained_at_end : (left'' : Option (List ℕ)) (n : ℕ) (array : List ℕ) → n ≡ 0
      → Consumes left' left'' (take n array) → IsRetained keeps q left left'' at_end retained
  retained_at_end left'' n array none read =
      retained_by keeps retained p.seen q left left'' at_end p.is_retained
      (Consumes-at_end left left' left'' p.seen array n none p.read read) p.right

  pub retained_settled : (left'' : Option (List ℕ)) (n : ℕ) (array : List ℕ) (d : Checker) (v : Verdict) (a : Answer)
      → Consumes left' left'' (take n array) → v ≡ Settled a → Says q d (p.seen ++ take n array) v
      → (retained' : List ℕ) → retained' ≡ (if keeps then retained ++ take n array else retained)
      → IsRetained keeps q left left'' a retained'
  retained_settled left'' n array d v a read is says retained' grown_retained =
      retained_by keeps retained' (p.seen ++ take n array) q left left'' a
      (more_retained keeps retained retained' p.seen (take n array) p.is_retained grown_retained)
      (Consumes-trans _ _ _ p.seen (take n array) _ refl p.read read)
      (all_settled q d (p.seen ++ take n array) v a is says)
