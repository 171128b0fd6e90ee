-- A cursor that has gone a step stands behind the part.
use Rattle.std.proofs.Common.{◌≡◌, ℕ, ◌+◌, ◌<◌, ◌≤◌, ◌^◌, List, [], ◌∷◌, ◌++◌, length, drop, refl, sym, ap, subst}
use Rattle.std.proofs.Common.{◌∙◌, arith}
use Rattle.std.specs.Prelude.{Option, Some, None}
use Rattle.std.proofs.lemmas.List.{length-append}
use Rattle.xdr_units.specs.Numbers.{gap}
use Rattle.xdr_types.specs.Kinds.{KindView, Part, kind_at}
use Rattle.xdr_types.specs.Layout.{Entry, entry, shown, content, of_content, of_length}
use Rattle.xdr_laws.specs.Owed.{Rest, Completes}
use Rattle.xdr_laws.proofs.Owed.{begin_into}
use Rattle.xdr_stream.specs.Frames.{dues}
use Rattle.xdr_parts.specs.Lent.{entry_of, size_in, role_in}
use Rattle.xdr_parts.specs.Private.Walking.{AreLow}
use Rattle.xdr_parts.specs.declared.part.Lent.{Lent}
use Rattle.xdr_parts.specs.declared.part.Role.{Role}
use Rattle.xdr_parts.specs.declared.part.Role.TheVariants.{Content, Length}
use Rattle.xdr_parts.proofs.Stepping.{shallow, content_goes}
use Rattle.xdr_parts.proofs.Keeping.{low_right}
use Rattle.xdr_cursor.specs.Frames.{left_in, onto, stack_in}
use Rattle.xdr_cursor.specs.Coming.{BeginsNamed}
use Rattle.xdr_cursor.specs.Standing.{Owes, OwesContent, Stands}
use Rattle.xdr_cursor.specs.Private.Showing.{part_of, IsOwed, Moves, Counts}
use Rattle.xdr_cursor.specs.Private.Stepping.{Gives, IsPartAt, Went, IsUnmoved}
use Rattle.xdr_cursor.specs.declared.cursor.Cursor.{Cursor}
use Rattle.xdr_cursor.specs.declared.frame.Frame.{Frame}
use Rattle.xdr_cursor.specs.declared.frame.Next.{Next}
use Rattle.xdr_cursor.proofs.Onto.{level}
use Rattle.xdr_cursor.proofs.Deep.{shown_some, shown_named}

-- what is owed behind a step is what the cursor then owes
owed_then : (kinds : List KindView) (bytes : List ℕ) (c c' : Cursor) (moved : ℕ) (fs : List (List Part))
    (size : Option ℕ) (left : List Entry) → Went kinds c c' moved fs size → Owes kinds (c.at + moved) fs size bytes left
    → Owes kinds c'.at (stack_in kinds c'.work c'.parents.items) c'.content bytes left
owed_then kinds bytes c c' moved fs size left w o =
    subst (λ (n : Option ℕ). Owes kinds c'.at (stack_in kinds c'.work c'.parents.items) n bytes left) (sym w.content)
    (subst (λ (gs : List (List Part)). Owes kinds c'.at gs size bytes left) (sym w.stack)
    (subst (λ (n : ℕ). Owes kinds n fs size bytes left) (sym w.at) o))

-- a cursor that has gone over some parts, one at least, stands behind them
pub stands_then : (kinds : List KindView) (bytes : List ℕ) (c c' : Cursor) (es new left : List Entry) (moved : ℕ)
    (fs : List (List Part)) (size : Option ℕ) → Stands c kinds bytes es → es ≡ new ++ left → 0 < length new
    → Went kinds c c' moved fs size → Owes kinds (c.at + moved) fs size bytes left → c.at + moved ≤ length bytes
    → Stands c' kinds bytes left
stands_then kinds bytes c c' es new left moved fs size st joined some w o within = record {
  owes = owed_then kinds bytes c c' moved fs size left w o;
  within = omega (arith, w.at);
  low = low_right new left (subst (λ (x : List Entry). AreLow x) joined st.low);
  few = omega (arith, w.steps, st.few, ap (λ (x : List Entry). length x) joined, length-append new left);
}

module _ (kinds : List KindView) (bytes : List ℕ) (c : Cursor) (es : List Entry) (st : Stands c kinds bytes es)
    (n : Next) (rest : Frame) (due : left_in kinds c.work ≡ part_of n ∷ left_in kinds rest) where
  abbrev F : List (List Part)
  F = onto kinds [] c.parents.items

  abbrev D : ℕ
  D = length F + 1

  stack_is : stack_in kinds c.work c.parents.items ≡ (part_of n ∷ left_in kinds rest) ∷ F
  stack_is = ap (λ (x : List Part). x ∷ F) due

  -- where no content comes, a part is owed
  pub owed : c.content ≡ None → IsOwed kinds n.kind.place bytes c.at (part_of n) (left_in kinds rest) F es
  owed none =
      let o : Owes kinds c.at (stack_in kinds c.work c.parents.items) None bytes es =
      subst (λ (x : Option ℕ). Owes kinds c.at (stack_in kinds c.work c.parents.items) x bytes es) none st.owes in
      record {
        kind = refl;
        within = st.within;
        owes = subst (λ (x : List (List Part)). Completes kinds c.at (dues x) (drop c.at bytes) es) stack_is o;
      }

  -- content that comes, by the part that comes next
  abbrev OwedContent : (size : ℕ) → Type 0
  OwedContent size = (left : List Entry) × (es ≡ content c.at D (part_of n) size ++ left)
      × Completes kinds c.at (Rest size ∷ dues (left_in kinds rest ∷ F)) (drop c.at bytes) left

  content_owed : (size : ℕ) → c.content ≡ Some size → OwedContent size
  content_owed size some =
      let o : OwesContent kinds c.at (stack_in kinds c.work c.parents.items) size bytes es =
      subst (λ (x : Option ℕ). Owes kinds c.at (stack_in kinds c.work c.parents.items) x bytes es) some st.owes in
      let same : (o.part ∷ o.parts) ∷ o.outer ≡ (part_of n ∷ left_in kinds rest) ∷ F = sym o.stack_is ∙ stack_is in
      let outer : o.outer ≡ F = cc in
      let part : o.part ≡ part_of n = cc in
      let parts : o.parts ≡ left_in kinds rest = cc in (
        o.left,
        o.joined ∙ ap (λ (x : List (List Part)). content c.at (length x + 1) o.part size ++ o.left) outer
            ∙ ap (λ (x : Part). content c.at D x size ++ o.left) part,
        subst (λ (x : List (List Part)). Completes kinds c.at (Rest size ∷ dues (left_in kinds rest ∷ x))
            (drop c.at bytes) o.left) outer
            (subst (λ (x : List Part). Completes kinds c.at (Rest size ∷ dues (x ∷ o.outer)) (drop c.at bytes) o.left)
            parts o.owes),
      )

  -- it is there
  pub content_there : (size : ℕ) → c.content ≡ Some size → c.at + (size + gap size) ≤ length bytes
  content_there size some =
      let i = content_owed size some in
      (content_goes kinds c.at size (left_in kinds rest ∷ F) bytes i.0 st.within i.2).1

  same_entry : (role : Role) (size : ℕ) (l : Lent) → IsPartAt c bytes n role size l
      → entry_of l ≡ entry c.at (size_in role size) D (part_of n) (role_in role size)
  same_entry role size l part =
      part.0 ∙ ap (λ (d : ℕ). entry c.at (size_in role size) d (part_of n) (role_in role size))
      (level kinds c.parents.items)

  given : (c' : Cursor) (l : Lent) (e : Entry) (left : List Entry) (moved : ℕ) (fs : List (List Part))
      (size : Option ℕ) → es ≡ e ∷ left → entry_of l ≡ e → Went kinds c c' moved fs size
      → Owes kinds (c.at + moved) fs size bytes left → c.at + moved ≤ length bytes → Gives c' kinds bytes es l
  given c' l e left moved fs size joined same w o within = record {
    rest = left;
    joined = joined ∙ ap (λ (x : Entry). x ∷ left) (sym same);
    stands = stands_then kinds bytes c c' es (e ∷ []) left moved fs size st joined (omega arith) w o within;
  }

  -- a part that has none inside it
  pub gives_part : (c' : Cursor) (l : Lent) (role : Role) (size moved : ℕ) (fs : List (List Part))
      → IsPartAt c bytes n role size l → Went kinds c c' moved fs None
      → Moves kinds bytes c.at es (entry c.at (size_in role size) D (part_of n) (role_in role size) ∷ []) moved fs
      → Gives c' kinds bytes es l
  gives_part c' l role size moved fs part w m =
      given c' l (entry c.at (size_in role size) D (part_of n) (role_in role size)) m.left moved fs None m.parted
      (same_entry role size l part) w m.owes m.within

  -- a length, behind which content comes
  pub gives_length : (c' : Cursor) (l : Lent) (size : ℕ) → c.content ≡ None → IsPartAt c bytes n Length 4 l
      → Went kinds c c' 4 (stack_in kinds c.work c.parents.items) (Some size) → c.at + 4 ≤ length bytes
      → Counts kinds bytes c.at es (part_of n) size (left_in kinds rest) F → Gives c' kinds bytes es l
  gives_length c' l size none part w there m =
      let o : OwesContent kinds (c.at + 4) (stack_in kinds c.work c.parents.items) size bytes
      (content (c.at + 4) D (part_of n) size ++ m.left) = record {
        part = part_of n;
        parts = left_in kinds rest;
        outer = F;
        stack_is = stack_is;
        left = m.left;
        joined = refl;
        owes = m.owes;
      } in
      given c' l (entry c.at 4 D (part_of n) of_length) (content (c.at + 4) D (part_of n) size ++ m.left) 4
      (stack_in kinds c.work c.parents.items) (Some size) m.parted (same_entry Length 4 l part) w o there

  -- content
  pub gives_content : (c' : Cursor) (l : Lent) (size : ℕ) → c.content ≡ Some size → IsPartAt c bytes n Content size l
      → Went kinds c c' (size + gap size) (stack_in kinds rest c.parents.items) None → Gives c' kinds bytes es l
  gives_content c' l size some part w =
      let i = content_owed size some in
      let g = content_goes kinds c.at size (left_in kinds rest ∷ F) bytes i.0 st.within i.2 in
      given c' l (entry c.at (size_in Content size) D (part_of n) (of_content size)) i.0 (size + gap size)
      (stack_in kinds rest c.parents.items) None i.1 (same_entry Content size l part) w g.0 g.1

  -- a part that comes next is not too deep
  pub is_shallow : length c.parents.items < 4096
  is_shallow = by_content c.content refl
    where
      by_content : (x : Option ℕ) → c.content ≡ x → length c.parents.items < 4096
      by_content None none =
          let o = owed none in
          let deep : length F < 4096 = shallow kinds c.at bytes (part_of n) (left_in kinds rest) F es o.within o.owes
          st.low in
          omega (arith, level kinds c.parents.items)
      by_content (Some size) some =
          let i = content_owed size some in
          let low : AreLow (content c.at D (part_of n) size ++ i.0) =
          subst (λ (x : List Entry). AreLow x) i.1 st.low in
          omega (arith, low.0, level kinds c.parents.items)

  -- and there is one, so that its step can be counted
  pub is_countable : c.steps + 1 < 2 ^ 64
  is_countable = omega (arith, st.few, by_content c.content refl)
    where
      by_content : (x : Option ℕ) → c.content ≡ x → 0 < length es
      by_content None none =
          let o = owed none in
          let k : KindView = kind_at kinds (part_of n).kind in
          let b = begin_into kinds c.at D (part_of n) (left_in kinds rest) (dues F) (drop c.at bytes) es o.owes in
          omega (
            arith,
            ap (λ (x : List Entry). length x) b.5,
            length-append (shown c.at D (part_of n) k b.0) b.2,
            shown_some c.at D (part_of n) k b.0,
          )
      by_content (Some size) some =
          let i = content_owed size some in omega (arith, ap (λ (x : List Entry). length x) i.1)

  -- its name is that of the first part that is to come
  pub is_named : BeginsNamed n.name.now es
  is_named = by_content c.content refl
    where
      by_content : (x : Option ℕ) → c.content ≡ x → BeginsNamed n.name.now es
      by_content None none =
          let o = owed none in
          let k : KindView = kind_at kinds (part_of n).kind in
          let b = begin_into kinds c.at D (part_of n) (left_in kinds rest) (dues F) (drop c.at bytes) es o.owes in
          subst (λ (x : List Entry). BeginsNamed n.name.now x) (sym b.5) (shown_named c.at D (part_of n) k b.0 b.2)
      by_content (Some size) some =
          let i = content_owed size some in
          subst (λ (x : List Entry). BeginsNamed n.name.now x) (sym i.1) refl

-- a cursor that has not moved stands where it stood
pub stands_still : (kinds : List KindView) (bytes : List ℕ) (c c' : Cursor) (es : List Entry) → IsUnmoved c c'
    → Stands c kinds bytes es → Stands c' kinds bytes es
stands_still kinds bytes c c' es u st = record {
  owes = subst (λ (n : Option ℕ). Owes kinds c'.at (stack_in kinds c'.work c'.parents.items) n bytes es) (sym u.content)
      (subst (λ (n : ℕ). Owes kinds n (stack_in kinds c'.work c'.parents.items) c.content bytes es) (sym u.at)
      (subst (λ (f : Frame). Owes kinds c.at (stack_in kinds f c'.parents.items) c.content bytes es) (sym u.work)
      (subst (λ (fs : List Frame). Owes kinds c.at (stack_in kinds c.work fs) c.content bytes es) (sym u.parents)
      st.owes)));
  within = omega (arith, u.at);
  low = st.low;
  few = omega (arith, u.steps);
}
