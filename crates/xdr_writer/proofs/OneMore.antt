-- What taking one item more brings.
use Rattle.std.proofs.Common.{◌≡◌, ℕ, ◌+◌, ◌-◌, ◌%◌, ◌≤◌, List, [], ◌∷◌, ◌++◌, length, sym, ap, ◌∙◌, subst, arith}
use Rattle.std.proofs.Common.{length-append}
use Rattle.std.specs.Prelude.{None, Result, Ok, Err, IfOk, IfErr, MatchResult}
use Rattle.xdr_types.specs.Kinds.{KindView, Lists, kind_at}
use Rattle.xdr_types.specs.Within.{Bounds}
use Rattle.xdr_types.specs.Layout.{Entry}
use Rattle.xdr_types.specs.Outcome.{Outcome, Pending}
use Rattle.xdr_due.specs.declared.due.Due.{Due}
use Rattle.xdr_codec.specs.Checks as checks
use Rattle.xdr_codec.specs.declared.checker.Checker.{Checker}
use Rattle.xdr_writer.specs.Items.{ItemView, NodeItem, of_node, spelled_as, all_spelled}
use Rattle.xdr_writer.specs.Forms.{HasForm, HasRange}
use Rattle.xdr_writer.specs.Represents.{RepresentsItems, Begin, AreDue, word_kind, kinds_of, kind_of}
use Rattle.xdr_writer.specs.Answers.{Took, Takes, Refuses, most_bytes}
use Rattle.xdr_writer.specs.Private.Bytes.{coded_bytes, SaysOf, SaysWithin}
use Rattle.xdr_writer.specs.Private.Becomes.{Becomes, IsPlace}
use Rattle.xdr_writer.specs.Private.Judged.{IsJudgedWithin, Kept, Grants}
use Rattle.xdr_writer.specs.Private.After.{IsAfter, TookItem, SaysDue, FindsDue, RefusesItem, FollowsItem}
use Rattle.xdr_writer.specs.declared.refusal.Why.{Why}
use Rattle.xdr_writer.specs.declared.refusal.Why.TheVariants.{NoMemory}
use Rattle.xdr_writer.specs.declared.units.Coded.{Coded}
use Rattle.xdr_writer.specs.declared.writer.Writer.{Writer}
use Rattle.xdr_writer.specs.declared.item.Step.{Step}
use Rattle.xdr_writer.proofs.Joined.{all_units, spelled_more, most_spelled}
use Rattle.xdr_writer.proofs.Begin.{begin_more}
use Rattle.xdr_writer.proofs.Following.{due_behind}
use Rattle.xdr_writer.proofs.Coding.{Coded_by, at_place, units_of}
use Rattle.xdr_writer.proofs.Outcomes.{TakesBytes, takes}
use Rattle.xdr_writer.proofs.Putting.{in_range, stands_at, takes_items, within_refuse, place}
use Rattle.xdr_writer.proofs.Putting.{coded_refuse}
use Rattle.xdr_writer.proofs.Settings.{carried, back, same_then}
use Rattle.xdr_writer.proofs.Pieces.{grants_back}

-- an item at a place, whose bytes a checker takes that has answered what is due there
module _ (c m d : Checker) (is : List NodeItem) (i : ItemView) (u : List ℕ) (e : Entry)
    (p : IsPlace (checks.kinds_of c) (checks.kind_of c).place (all_spelled is) e) (r : IsAfter c is)
    (form : HasForm (kind_at (checks.kinds_of c) e.kind) e.role i)
    (range : HasRange (checks.kinds_of c) (kind_at (checks.kinds_of c) e.kind) i)
    (known : u ≡ spelled_as (kind_at (checks.kinds_of c) e.kind) i) (some : 4 ≤ length u)
    (units : (checks.limits_of c).bytes % 4 ≡ 0) (first : checks.IsSame c m) (same : checks.IsSame m d) where
  abbrev item : NodeItem
  item = of_node (kind_at (checks.kinds_of c) e.kind) i

  bytes_are : all_spelled (is ++ item ∷ []) ≡ all_spelled is ++ u
  bytes_are = spelled_more is item ∙ ap (λ (z : List ℕ). all_spelled is ++ z) (sym known)

  begin_with : length u ≤ 16777216 → Begin (checks.kinds_of c) (checks.kind_of c).place (is ++ item ∷ [])
  begin_with low =
      begin_more (checks.kinds_of c) (checks.kind_of c).place is e item r.begin p.next
      (stands_at (checks.kinds_of c) (checks.kind_of c).place (checks.limits_of c) is r.begin e p i form
      (in_range (checks.kinds_of c) (kind_at (checks.kinds_of c) e.kind) i range
      (subst (λ (z : List ℕ). length z ≤ 16777216) known low)))
      (subst (λ (z : List ℕ). 4 ≤ length z) known some)

  pub took_item : (space : ℕ) (before after : List ℕ) (x : Step)
      → IsJudgedWithin m d space (all_spelled is) u (Ok x) → after ≡ before ++ u → space ≤ 16777216
      → length after ≤ length before + space → TookItem c d is i before after x
  took_item space before after x judged grown most within =
      let low : length u ≤ 16777216 =
      omega (arith, ap (λ (z : List ℕ). length z) grown, length-append before u, most, within) in
      let says : SaysOf (checks.kinds_of c) (checks.kind_of c).place (checks.limits_of c) (all_spelled is) u (Ok x) =
      back (λ (s : List KindView) (t : ℕ) (l : Bounds). SaysOf s t l (all_spelled is) u (Ok x)) c m first judged.says in
      record {
        kind = kind_at (checks.kinds_of c) e.kind;
        given = record {
          bytes = subst (λ (z : List ℕ). checks.RepresentsBytes d z) (sym bytes_are) judged.represents;
          begin = carried (λ (s : List KindView) (t : ℕ) (l : Bounds). Begin s t (is ++ item ∷ [])) c d
              (same_then c m d first same) (begin_with low);
        };
        bytes = grown ∙ ap (λ (z : List ℕ). before ++ z) known;
        takes = takes_items (checks.kinds_of c) (checks.kind_of c).place (checks.limits_of c) (is ++ item ∷ [])
            (begin_with low) x
            (subst (λ (z : List ℕ). TakesBytes (checks.kinds_of c) (checks.kind_of c).place (checks.limits_of c) z x)
            (sym bytes_are)
            (takes (checks.kinds_of c) (checks.kind_of c).place (checks.limits_of c) units (all_spelled is) u
            (all_units is) (units_of (kind_at (checks.kinds_of c) e.kind) i u known some) x says));
      }

  pub refused_item : Outcome (checks.kinds_of c) (checks.kind_of c).place (checks.limits_of c) (all_spelled is) Pending
      → (space : ℕ) (w : Why) → IsJudgedWithin m d space (all_spelled is) u (Err w)
      → space ≡ (checks.limits_of c).bytes - length (all_spelled is)
      → Refuses (checks.kinds_of c) (checks.kind_of c).place (checks.limits_of c) is i w
  refused_item pending space w judged room =
      let says : SaysWithin (checks.kinds_of c) (checks.kind_of c).place (checks.limits_of c) space (all_spelled is) u
      (Err w) =
      back (λ (s : List KindView) (t : ℕ) (l : Bounds). SaysWithin s t l space (all_spelled is) u (Err w)) c m first
      judged.says in
      within_refuse (checks.kinds_of c) (checks.kind_of c).place (checks.limits_of c) is r.begin e p i pending units
      space room
      form range (subst (λ (z : List ℕ). 4 ≤ length z) known some) w
      (subst (λ (z : List ℕ). SaysWithin (checks.kinds_of c) (checks.kind_of c).place (checks.limits_of c) space
      (all_spelled is) z (Err w)) known says)

-- an item where this is due
module _ (c : Checker) (schema : Lists) (of : checks.schema_of c ≡ schema)
    (units : (checks.limits_of c).bytes % 4 ≡ 0) (is : List NodeItem) (r : IsAfter c is) (d : Due)
    (says : SaysDue (checks.kinds_of c) (checks.kind_of c).place (checks.limits_of c) (all_spelled is) (Ok d))
    (i : ItemView) where
  abbrev stands : (e : Entry) × IsPlace (checks.kinds_of c) (checks.kind_of c).place (all_spelled is) e
  stands = place (checks.kinds_of c) (checks.kind_of c).place (checks.limits_of c) is r.begin d says.0 says.1

  becomes : (x : Result Coded Why) → Coded_by schema.kinds d i x
      → Becomes (checks.kinds_of c) (kind_at (checks.kinds_of c) stands.0.kind) stands.0.role i x
  becomes x h = at_place c schema of (all_spelled is) (all_units is) d says.0 says.1 stands.0 stands.1 i x h

  pub form_refused : (w : Why) → Coded_by schema.kinds d i (Err w)
      → Refuses (checks.kinds_of c) (checks.kind_of c).place (checks.limits_of c) is i w
  form_refused w h =
      coded_refuse (checks.kinds_of c) (checks.kind_of c).place (checks.limits_of c) is r.begin stands.0 stands.1 i
      says.2 w
      (becomes (Err w) h)

  pub form_known : (w : Why) → Coded_by schema.kinds d i (Err w) → w ≡ NoMemory → ⊥
  form_known w h same =
      subst (λ (y : Why). Becomes (checks.kinds_of c) (kind_at (checks.kinds_of c) stands.0.kind) stands.0.role i
      (Err y)) same (becomes (Err w) h)

  pub form_low : (u : Coded) → Coded_by schema.kinds d i (Ok u) → length (coded_bytes u) ≤ most_bytes i
  form_low u h =
      let k = becomes (Ok u) h in
      subst (λ (z : List ℕ). length z ≤ most_bytes i) (sym k.2)
      (most_spelled (kind_at (checks.kinds_of c) stands.0.kind) i)

  module _ (m x : Checker) (first : checks.IsSame c m) (same : checks.IsSame m x) (u : Coded)
      (h : Coded_by schema.kinds d i (Ok u)) (space : ℕ) where
    pub form_took : (before after : List ℕ) (s : Step)
        → IsJudgedWithin m x space (all_spelled is) (coded_bytes u) (Ok s) → after ≡ before ++ coded_bytes u
        → space ≤ 16777216 → length after ≤ length before + space → TookItem c x is i before after s
    form_took before after s judged grown most low =
        let k = becomes (Ok u) h in
        took_item c m x is i (coded_bytes u) stands.0 stands.1 r k.0 k.1 k.2 k.3 units first same space before after s
        judged grown most low

    pub form_refuses : (w : Why) → IsJudgedWithin m x space (all_spelled is) (coded_bytes u) (Err w)
        → space ≡ (checks.limits_of c).bytes - length (all_spelled is)
        → Refuses (checks.kinds_of c) (checks.kind_of c).place (checks.limits_of c) is i w
    form_refuses w judged room =
        let k = becomes (Ok u) h in
        refused_item c m x is i (coded_bytes u) stands.0 stands.1 r k.0 k.1 k.2 k.3 units first same says.2 space w
        judged room

-- an item that is written where this is due
module _ (c m x : Checker) (schema : Lists) (of : checks.schema_of c ≡ schema)
    (units : (checks.limits_of c).bytes % 4 ≡ 0) (d : Due) (finds : FindsDue c m (Ok d)) (i : ItemView) (u : Coded)
    (h : Coded_by schema.kinds d i (Ok u)) (space : ℕ) (before after : List ℕ) where
  pub took_all : (r : Result Step Why)
      → ((b : List ℕ) → checks.RepresentsBytes m b → IsJudgedWithin m x space b (coded_bytes u) r)
      → MatchResult r (λ (s : Step). after ≡ before ++ coded_bytes u) (λ (w : Why). after ≡ before)
      → Kept m x space before after r → space ≤ 16777216
      → IfOk r (λ (s : Step). (is : List NodeItem) → IsAfter c is → TookItem c x is i before after s)
  took_all (Err w) judged written kept most = tt
  took_all (Ok s) judged written kept most = λ is r.
      form_took c schema of units is r d (finds.says (all_spelled is) r.bytes (all_units is)) i m x finds.same kept.same
      u h space before after s (judged (all_spelled is) (finds.represents (all_spelled is) r.bytes)) written most
      kept.grows.1

  pub refuses_all : (r : Result Step Why)
      → ((b : List ℕ) → checks.RepresentsBytes m b → IsJudgedWithin m x space b (coded_bytes u) r)
      → MatchResult r (λ (s : Step). after ≡ before ++ coded_bytes u) (λ (w : Why). after ≡ before)
      → Kept m x space before after r → IfErr r (λ (w : Why). RefusesItem c space i before after w)
  refuses_all (Ok s) judged written kept = tt
  refuses_all (Err w) judged written kept = record {
    refuses = λ is r room.
        form_refuses c schema of units is r d (finds.says (all_spelled is) r.bytes (all_units is)) i m x finds.same
        kept.same u h space w (judged (all_spelled is) (finds.represents (all_spelled is) r.bytes)) room;
    retained = written;
  }

  pub grants_all : (r : Result Step Why) (capacity : ℕ)
      → (length before + length (coded_bytes u) ≤ capacity → Grants m r) → (is : List NodeItem) → IsAfter c is
      → length before + most_bytes i ≤ capacity → Grants c r
  grants_all r capacity granted is st room =
      let low : length (coded_bytes u) ≤ most_bytes i =
      form_low c schema of units is st d (finds.says (all_spelled is) st.bytes (all_units is)) i u h in
      grants_back c m r finds.same (granted (omega (arith, low, room)))

-- what a writer represents with one item more
pub took_by : (a b : Writer) (is : List NodeItem) (i : ItemView) (before after : List ℕ) (x : Step)
    → RepresentsItems a is → TookItem a.checker b.checker is i before after x → b.refused ≡ None
    → b.written ≡ a.written + (length after - length before) → b.count ≡ a.count + 1
    → FollowsItem a.checker i b.known.run → checks.IsSame a.checker b.checker → Took a b is i before after x
took_by a b is i before after x r t refused written count follows same =
    let item : NodeItem = of_node t.kind i in
    let more : length (all_spelled (is ++ item ∷ [])) ≡ length (all_spelled is ++ spelled_as t.kind i) =
    ap (λ (z : List ℕ). length z) (spelled_more is item) in
    let grown : length after ≡ length (before ++ spelled_as t.kind i) = ap (λ (z : List ℕ). length z) t.bytes in
    record {
      kind = t.kind;
      represents = record {
        goes_on = refused;
        bytes = t.given.bytes;
        written = omega (
          arith,
          written,
          r.written,
          more,
          grown,
          length-append (all_spelled is) (spelled_as t.kind i),
          length-append before (spelled_as t.kind i),
        );
        count = omega (arith, count, r.count, length-append is (item ∷ []));
        begin = t.given.begin;
        due =
            let run = b.known.run in
            let f = follows is (record { bytes = r.bytes; begin = r.begin }) in
            carried (λ (k : List KindView) (n : ℕ) (l : Bounds). AreDue k n (is ++ item ∷ []) run.left
            (word_kind run.signed)) a.checker b.checker same
            (due_behind (kinds_of a) (kind_of a) (checks.limits_of a.checker) is i t.kind run.left run.signed f.0 f.1
            f.2);
      };
      bytes = t.bytes;
      takes = subst (λ (l : Bounds). Takes (kinds_of a) (kind_of a) l (is ++ item ∷ []) x) a.limits_are t.takes;
    }
