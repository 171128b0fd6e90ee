-- Parts whose values have one extent are passed over.
use Rattle.std.proofs.Common.{◌≡◌, ℕ, ◌+◌, ◌*◌, ◌^◌, ◌<◌, ◌≤◌, List, [], ◌∷◌, ◌++◌, length, drop, refl, sym, ap, subst}
use Rattle.std.proofs.Common.{◌∙◌, arith, append_assoc, suc-mul}
use Rattle.std.specs.Prelude.{Option, None}
use Rattle.std.specs.List.{AllByRecursion}
use Rattle.std.proofs.lemmas.Bool.{and_from}
use Rattle.std.proofs.lemmas.List.{length-append, length-drop, drop_at, drop-drop}
use Rattle.std.proofs.Math.Nat.{zero-mul}
use Rattle.xdr_types.specs.Kinds.{KindView, Part, kind_at}
use Rattle.xdr_types.specs.Tree.{Head, Values}
use Rattle.xdr_types.specs.Fits.{Fits, fit, is_legal, parts}
use Rattle.xdr_types.specs.Spelling.{own, spelling, bytes_of}
use Rattle.xdr_types.specs.Layout.{Entry, layout, shown}
use Rattle.xdr_types.specs.Extent.{IsExtent}
use Rattle.xdr_types.specs.declared.extent.Extent.{Extent}
use Rattle.xdr_laws.specs.Owed.{Due, Frame as Owes, Completes}
use Rattle.xdr_laws.proofs.Legal.{is_legal_of}
use Rattle.xdr_laws.proofs.Owed.{begin_into}
use Rattle.xdr_laws.proofs.Parts.{all_append}
use Rattle.xdr_laws.proofs.Whole.{all_more}
use Rattle.xdr_stream.specs.Frames.{dues}
use Rattle.xdr_cursor.specs.Frames.{left_in, onto, stack_in}
use Rattle.xdr_cursor.specs.Standing.{Owes as OwesFrom, Stands}
use Rattle.xdr_cursor.specs.Private.Passing.{IsRun, GoesOver}
use Rattle.xdr_cursor.specs.Private.Stepping.{Went}
use Rattle.xdr_cursor.specs.declared.cursor.Cursor.{Cursor}
use Rattle.xdr_cursor.specs.declared.frame.Frame.{Frame}
use Rattle.xdr_cursor.proofs.Onto.{level}
use Rattle.xdr_cursor.proofs.Moving.{stands_then}
use Rattle.xdr_cursor.proofs.Deep.{AreDeep, less_deep, shown_deep, layout_deep, shown_some}

-- Some parts are passed over, none less deep than so much, and these others are owed so many bytes on.
pub record Passed (s : List KindView) (bytes : List ℕ) (at d : ℕ) (es : List Entry) (moved some : ℕ) (ps : List Part)
    (ds : List Due) : Type 0 where
  pub passed : List Entry
  pub left : List Entry
  pub joined : es ≡ passed ++ left
  pub deep : AreDeep d passed
  pub count : some ≤ length passed
  pub owes : Completes s (at + moved) (Owes d ps ∷ ds) (drop (at + moved) bytes) left
  pub within : at + moved ≤ length bytes

module _ (s : List KindView) (bytes : List ℕ) (d place : ℕ) (x : Extent) (is : IsExtent s place x) (rest : List Part)
    (ds : List Due) where
  -- one part
  one : (at : ℕ) (p : Part) (ps : List Part) (es : List Entry) → p.kind ≡ place → at ≤ length bytes
      → Completes s at (Owes d (p ∷ ps) ∷ ds) (drop at bytes) es → Passed s bytes at d es x.bytes 1 ps ds
  one at p ps es same within r =
      let k : KindView = kind_at s p.kind in
      let b = begin_into s at d p ps ds (drop at bytes) es r in
      let h : Head = b.0 in
      let inner = b.6 in
      let v : Values = inner.0 in
      let o : List ℕ = own k h in
      let sv : List ℕ = spelling s (parts k h) v in
      let fits : Fits s p.kind (h, v) =
      and_from (is_legal s k h) (fit s (parts k h) v) (is_legal_of s k h b.3) inner.3 in
      let long : length (o ++ sv) ≡ x.bytes =
      subst (λ (n : ℕ). length (bytes_of s n (h, v)) ≡ x.bytes) (sym same)
      (is.bytes (h, v) (subst (λ (n : ℕ). Fits s n (h, v)) same fits)) in
      let spelled : drop at bytes ≡ (o ++ sv) ++ inner.1 =
      b.4 ∙ ap (λ (l : List ℕ). o ++ l) inner.4 ∙ sym (append_assoc o sv inner.1) in
      let behind : drop (at + x.bytes) bytes ≡ inner.1 =
      sym (drop-drop x.bytes at bytes) ∙ ap (λ (l : List ℕ). drop x.bytes l) spelled
      ∙ drop_at (o ++ sv) inner.1 x.bytes long in
      let far : at + length o + length sv ≡ at + x.bytes = omega (arith, long, length-append o sv) in
      let here : List Entry = shown at d p k h in
      let inside : List Entry = layout s (at + length o) (d + 1) (parts k h) v in
      let deeper : AreDeep d inside = all_more (λ (e : Entry). d + 1 ≤ e.depth) (λ (e : Entry). d ≤ e.depth)
      (less_deep d) inside (layout_deep s (at + length o) (d + 1) (parts k h) v) in
      let owes : Completes s (at + x.bytes) (Owes d ps ∷ ds) inner.1 inner.2 =
      subst (λ (n : ℕ). Completes s n (Owes d ps ∷ ds) inner.1 inner.2) far inner.6 in
      record {
        passed = here ++ inside;
        left = inner.2;
        joined = b.5 ∙ ap (λ (l : List Entry). here ++ l) inner.5 ∙ sym (append_assoc here inside inner.2);
        deep = all_append (λ (e : Entry). d ≤ e.depth) here inside (shown_deep at d p k h) deeper;
        count = omega (arith, shown_some at d p k h, length-append here inside);
        owes = subst (λ (l : List ℕ). Completes s (at + x.bytes) (Owes d ps ∷ ds) l inner.2) (sym behind) owes;
        within = omega (
          arith,
          within,
          long,
          length-drop at bytes,
          ap (λ (l : List ℕ). length l) spelled,
          length-append (o ++ sv) inner.1,
        );
      }

  -- several
  pub several : (at : ℕ) (run : List Part) (es : List Entry) → AllByRecursion (λ (p : Part). p.kind ≡ place) run
      → at ≤ length bytes → Completes s at (Owes d (run ++ rest) ∷ ds) (drop at bytes) es
      → Passed s bytes at d es (length run * x.bytes) (length run) rest ds
  several at [] es each within r =
      let far : at ≡ at + length {A = Part} [] * x.bytes = omega (arith, zero-mul x.bytes) in
      record {
        passed = [];
        left = es;
        joined = refl;
        deep = tt;
        count = omega arith;
        owes = subst (λ (n : ℕ). Completes s n (Owes d rest ∷ ds) (drop n bytes) es) far r;
        within = subst (λ (n : ℕ). n ≤ length bytes) far within;
      }
  several at (p ∷ run) es each within r =
      let a = one at p (run ++ rest) es each.0 within r in
      let b = several (at + x.bytes) run a.left each.1 a.within a.owes in
      let far : at + x.bytes + length run * x.bytes ≡ at + length (p ∷ run) * x.bytes =
      omega (arith, suc-mul (length run) x.bytes) in
      record {
        passed = a.passed ++ b.passed;
        left = b.left;
        joined = a.joined ∙ ap (λ (l : List Entry). a.passed ++ l) b.joined
            ∙ sym (append_assoc a.passed b.passed b.left);
        deep = all_append (λ (e : Entry). d ≤ e.depth) a.passed b.passed a.deep b.deep;
        count = omega (arith, a.count, b.count, length-append a.passed b.passed);
        owes = subst (λ (n : ℕ). Completes s n (Owes d rest ∷ ds) (drop n bytes) b.left) far b.owes;
        within = subst (λ (n : ℕ). n ≤ length bytes) far b.within;
      }

-- ---- a cursor that jumps

parts_deeper : (n d : ℕ) → n + 1 ≡ d → (e : Entry) → d ≤ e.depth → n < e.depth
parts_deeper n d is e deep = omega arith

module _ (kinds : List KindView) (bytes : List ℕ) (c : Cursor) (es : List Entry) (place count : ℕ) (after : Frame)
    (x : Extent) (is : IsExtent kinds place x) (run : IsRun kinds c.work place count after) (none : c.content ≡ None)
    (st : Stands c kinds bytes es) where
  abbrev F : List (List Part)
  F = onto kinds [] c.parents.items

  passed : Passed kinds bytes c.at (length F + 1) es (length run.run * x.bytes) (length run.run) (left_in kinds after)
      (dues F)
  passed =
      let o : OwesFrom kinds c.at (stack_in kinds c.work c.parents.items) None bytes es =
      subst (λ (n : Option ℕ). OwesFrom kinds c.at (stack_in kinds c.work c.parents.items) n bytes es) none st.owes in
      several kinds bytes (length F + 1) place x is (left_in kinds after) (dues F) c.at run.run es run.each st.within
      (subst (λ (ps : List Part). Completes kinds c.at (dues (ps ∷ F)) (drop c.at bytes) es) run.joined o)

  -- the bytes are there
  pub jump_there : c.at + count * x.bytes ≤ length bytes
  jump_there = subst (λ (n : ℕ). c.at + n * x.bytes ≤ length bytes) (sym run.count_is) passed.within

  -- a step can be counted
  pub jump_counted : c.steps + 1 < 2 ^ 64
  jump_counted = omega (
    arith,
    st.few,
    passed.count,
    run.some,
    run.count_is,
    ap (λ (x : List Entry). length x) passed.joined,
    length-append passed.passed passed.left,
  )

  pub jumped : (c' : Cursor) → Went kinds c c' (count * x.bytes) (left_in kinds after ∷ F) None
      → GoesOver c c' kinds bytes es
  jumped c' w =
      let here : count * x.bytes ≡ length run.run * x.bytes = ap (λ (n : ℕ). n * x.bytes) run.count_is in
      record {
        passed = passed.passed;
        rest = passed.left;
        joined = passed.joined;
        deeper = all_more (λ (e : Entry). length F + 1 ≤ e.depth) (λ (e : Entry). length c.parents.items < e.depth)
            (parts_deeper (length c.parents.items) (length F + 1) (level kinds c.parents.items)) passed.passed
            passed.deep;
        stands = stands_then kinds bytes c c' es passed.passed passed.left (count * x.bytes) (left_in kinds after ∷ F)
            None st passed.joined (omega (arith, passed.count, run.some, run.count_is)) w
            (subst (λ (n : ℕ). Completes kinds (c.at + n) (dues (left_in kinds after ∷ F)) (drop (c.at + n) bytes)
            passed.left) (sym here) passed.owes)
            jump_there;
      }
