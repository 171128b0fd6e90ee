-- A cursor that has passed over parts stands behind them.
use Rattle.std.proofs.Common.{◌≡◌, ℕ, ◌+◌, ◌<◌, ◌≤◌, List, [], ◌∷◌, ◌++◌, length, take, drop, refl, sym, ap, subst, ◌∙◌}
use Rattle.std.proofs.Common.{arith, append_assoc}
use Rattle.std.specs.Prelude.{Option, Some, None}
use Rattle.xdr_types.specs.Kinds.{KindView, Part}
use Rattle.xdr_types.specs.Layout.{Entry, content}
use Rattle.xdr_laws.proofs.Parts.{all_append}
use Rattle.xdr_laws.proofs.Whole.{all_more}
use Rattle.xdr_parts.specs.Lent.{entry_of, IsLentFrom}
use Rattle.xdr_parts.specs.declared.part.Lent.{Lent}
use Rattle.xdr_parts.proofs.Judging.{lent_of_first}
use Rattle.xdr_cursor.specs.Frames.{stack_in}
use Rattle.xdr_cursor.specs.Standing.{Owes, Stands}
use Rattle.xdr_cursor.specs.Coming.{Awaits, HandsOut, Passes, BeginsAbove}
use Rattle.xdr_cursor.specs.Private.Passing.{GoesOver}
use Rattle.xdr_cursor.specs.Private.Stepping.{Gives, IsSameValue}
use Rattle.xdr_cursor.specs.declared.cursor.Cursor.{Cursor}
use Rattle.xdr_cursor.proofs.Onto.{level}
use Rattle.xdr_cursor.proofs.Deep.{above_less, begins_above}

-- what is lent from the first bytes is lent from all
pub lent_from_all : (used : ℕ) (input : List ℕ) (l : Lent) → IsLentFrom (take used input) l → IsLentFrom input l
lent_from_all used input l is = (lent_of_first used input (l ∷ []) (is, tt)).0

-- a cursor over the same value that stands somewhere awaits what comes there
pub awaits_there : (c c' : Cursor) (kinds : List KindView) (input : List ℕ) (es rest : List Entry)
    → Awaits c kinds input es → IsSameValue c c' → Stands c' kinds (take c.used input) rest → Awaits c' kinds input rest
awaits_there c c' kinds input es rest a same st = record {
  there = omega (arith, a.there, same.used);
  known = same.lost ∙ a.known;
  stands = subst (λ (n : ℕ). Stands c' kinds (take n input) rest) (sym same.used) st;
}

pub same_then : (a b c : Cursor) → IsSameValue a b → IsSameValue b c → IsSameValue a c
same_then a b c f g = record { used = g.used ∙ f.used; lost = g.lost ∙ f.lost }

-- a part that is given is handed out
pub hands_out : (c c' : Cursor) (kinds : List KindView) (input : List ℕ) (es : List Entry) (l : Lent)
    → Awaits c kinds input es → IsSameValue c c' → Gives c' kinds (take c.used input) es l
    → HandsOut c' kinds input es (Some l)
hands_out c c' kinds input es l a same g =
    (g.rest, g.joined, awaits_there c c' kinds input es g.rest a same g.stands)

-- and none where none was to come
pub hands_none : (c c' : Cursor) (kinds : List KindView) (input : List ℕ) (es : List Entry)
    → Awaits c kinds input es → IsSameValue c c' → Stands c' kinds (take c.used input) es → es ≡ []
    → HandsOut c' kinds input es None
hands_none c c' kinds input es a same st none =
    (none, subst (λ (x : List Entry). Awaits c' kinds input x) none (awaits_there c c' kinds input es es a same st))

-- a step passes over its part
pub step_passes : (c c' : Cursor) (kinds : List KindView) (bytes : List ℕ) (es : List Entry) (l : Lent)
    → Gives c' kinds bytes es l → l.depth ≡ length c.parents.items + 1 → GoesOver c c' kinds bytes es
step_passes c c' kinds bytes es l g deep = record {
  passed = entry_of l ∷ [];
  rest = g.rest;
  joined = g.joined;
  deeper = (omega (arith, deep), tt);
  stands = g.stands;
}

-- ---- what is owed begins no deeper than the node at work

content_above : (at d : ℕ) (p : Part) (size : ℕ) (es left : List Entry) → es ≡ content at d p size ++ left
    → BeginsAbove d es
content_above at d p size es left e = subst (λ (x : List Entry). BeginsAbove d x) (sym e) (omega arith)

owes_above : (kinds : List KindView) (at : ℕ) (stack : List (List Part)) (size : Option ℕ) (bytes : List ℕ)
    (es : List Entry) → Owes kinds at stack size bytes es → BeginsAbove (length stack) es
owes_above kinds at stack None bytes es o = begins_above kinds at stack (drop at bytes) es o
owes_above kinds at stack (Some size) bytes es o =
    above_less (length o.outer + 1) (length stack) es
    (omega (arith, ap (λ (x : List (List Part)). length x) o.stack_is))
    (content_above at (length o.outer + 1) o.part size es o.left o.joined)

pub stands_above : (c : Cursor) (kinds : List KindView) (bytes : List ℕ) (es : List Entry) (depth : ℕ)
    → Stands c kinds bytes es → length c.parents.items < depth → BeginsAbove depth es
stands_above c kinds bytes es depth st less =
    above_less (length (stack_in kinds c.work c.parents.items)) depth es
    (omega (arith, level kinds c.parents.items))
    (owes_above kinds c.at (stack_in kinds c.work c.parents.items) c.content bytes es st.owes)

-- ---- passing over more

deeper_than : (n depth : ℕ) → depth ≤ n → (e : Entry) → n < e.depth → depth < e.depth
deeper_than n depth le e less = omega arith

pub passes_none : (c : Cursor) (kinds : List KindView) (input : List ℕ) (depth : ℕ) (es : List Entry)
    → Awaits c kinds input es → Passes c kinds input depth es
passes_none c kinds input depth es a =
    record { passed = []; rest = es; joined = refl; deeper = tt; awaits = a }

-- what was passed over before, and the cursor stands elsewhere in the same parts
abbrev pub passes_same : (c c' : Cursor) (kinds : List KindView) (input : List ℕ) (depth : ℕ) (es : List Entry)
    (p : Passes c kinds input depth es) → Awaits c' kinds input p.rest → Passes c' kinds input depth es
passes_same c c' kinds input depth es p a =
    record { passed = p.passed; rest = p.rest; joined = p.joined; deeper = p.deeper; awaits = a }

pub passes_more : (c c' : Cursor) (kinds : List KindView) (input : List ℕ) (depth : ℕ) (es : List Entry)
    (p : Passes c kinds input depth es) → depth ≤ length c.parents.items → IsSameValue c c'
    → GoesOver c c' kinds (take c.used input) p.rest → Passes c' kinds input depth es
passes_more c c' kinds input depth es p le same g = record {
  passed = p.passed ++ g.passed;
  rest = g.rest;
  joined = p.joined ∙ ap (λ (x : List Entry). p.passed ++ x) g.joined ∙ sym (append_assoc p.passed g.passed g.rest);
  deeper = all_append (λ (e : Entry). depth < e.depth) p.passed g.passed p.deeper
      (all_more (λ (e : Entry). length c.parents.items < e.depth) (λ (e : Entry). depth < e.depth)
      (deeper_than (length c.parents.items) depth le) g.passed g.deeper);
  awaits = awaits_there c c' kinds input p.rest g.rest p.awaits same g.stands;
}
