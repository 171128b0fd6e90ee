-- A part that is given, and its name.
use Rattle.std.proofs.Common.{◌≡◌, ℕ, ◌<◌, ◌≤◌, List, [], ◌∷◌, length, refl, sym, ap, subst, ◌∙◌, arith, true, false}
use Rattle.std.proofs.Common.{Bool, MatchBool, take, drop, Option, Some, None, Result, Ok, Err}
use Rattle.std.specs.Prelude.{MatchOption, IfSome}
use Rattle.std.proofs.Math.Seq.{take-length}
use Rattle.std.proofs.lemmas.Bool.{false≢true}
use Rattle.xdr_types.specs.Kinds.{KindView}
use Rattle.xdr_types.specs.Layout.{Entry}
use Rattle.xdr_parts.specs.Lent.{entry_of, IsLentFrom}
use Rattle.xdr_parts.specs.declared.part.Lent.{Lent}
use Rattle.xdr_cursor.specs.Coming.{Awaits, HandsOut, BeginsNamed}
use Rattle.xdr_cursor.specs.declared.cursor.Cursor.{Cursor}
use Rattle.xdr_cursor.specs.declared.fault.CursorFault.{CursorFault}
use Rattle.xdr_cursor.specs.declared.fault.CursorFault.TheVariants as fault
use Rattle.c_answers.specs.Buffers.{AreAtFront, HasTooFew}
use Rattle.c_paths.specs.Found.{nameless}
use Rattle.c_values.specs.Parts.{IsPart}
use Rattle.c_values.specs.declared.part.ValuePart.{ValuePart}
use Rattle.c_cursors.specs.declared.given.Given.{Given}
use Rattle.c_cursors.specs.declared.given.Given.TheVariants as given
use Rattle.c_cursors.specs.Given.{IsStuck}
use Rattle.c_cursors.specs.Giving.{Lends, HasRoom, HasNameOf, IsGiven}
use Rattle.c_cursors.specs.Private.Giving.{HasRoomFor, IsLacking, IsGivenWithRoom}

-- ---- the name of the next part

-- what is said of the name is said of the first of the parts
pub name_lacks : (name buffer : List ℕ) (es : List Entry) (count : Option ℕ) → BeginsNamed name es
    → MatchOption count (HasRoomFor name buffer) (IsLacking name buffer)
    → MatchOption count (HasRoom buffer es) (HasNameOf es)
name_lacks name buffer [] count is l = absurd is
name_lacks name buffer (e ∷ es) None is l = λ some. subst (λ (n : List ℕ). length n ≤ length buffer) (sym is) (l some)
name_lacks name buffer (e ∷ es) (Some count) is l = l.0 ∙ ap (λ (n : List ℕ). length n) (sym is)

pub more_than_room : (name buffer : List ℕ) (count : Option ℕ)
    → MatchOption count (HasRoomFor name buffer) (IsLacking name buffer)
    → IfSome count (λ (n : ℕ). (0 < length buffer) × (length buffer < n))
more_than_room name buffer None l = tt
more_than_room name buffer (Some count) l = (l.1, l.2)

-- where no part is left there is no name
pub room_for_none : (buffer : List ℕ) (es : List Entry) → es ≡ [] → HasRoom buffer es
room_for_none buffer es none = subst (λ (x : List Entry). HasRoom buffer x) (sym none) tt

-- ---- the part

-- a part alone, with the count of bytes of its name
pub named_alone : (kinds : List KindView) (input : List ℕ) (e : Entry) (p : ValuePart)
    → IsPart kinds input [] [] (nameless e) p
    → IsPart kinds input e.name [] e (record p { name_count = length e.name })
named_alone kinds input e p is = record {
  at = is.at;
  count = is.count;
  within = is.within;
  name_at = is.name_at;
  name_count = refl;
  name = subst (λ (n : ℕ). take (length e.name) (drop n e.name) ≡ e.name) (sym is.name_at) (take-length e.name);
  depth = is.depth;
  kind = is.kind;
  xdr_type = is.xdr_type;
  role = is.role;
}

-- a name for which there is room
pub at_front : (fits : Bool) (name old new : List ℕ) → MatchBool fits (AreAtFront name old new) (HasTooFew name old new)
    → length name ≤ length old → AreAtFront name old new
at_front true name old new is fits = is
at_front false name old new is fits = absurd (omega (arith, is.0, fits))

-- ---- what is answered

well_bad : {l : Option Lent} {f : CursorFault} → ◌≡◌ {A = Result (Option Lent) CursorFault} (Ok l) (Err f) → ⊥
well_bad e = cc

wanting_bad : ◌≡◌ {A = Result (Option Lent) CursorFault} (Err fault.NoMemory) (Err fault.Astray) → ⊥
wanting_bad e = cc

pub astray_wanting : fault.Astray ≡ fault.NoMemory → ⊥
astray_wanting e = cc

pub done_astray : given.Done ≡ given.Astray → ⊥
done_astray e = cc

none_astray : given.NoPart ≡ given.Astray → ⊥
none_astray e = cc

room_astray : given.NoRoom ≡ given.Astray → ⊥
room_astray e = cc

pub memory_astray : given.NoMemory ≡ given.Astray → ⊥
memory_astray e = cc

true_false : (b : Bool) → b ≡ false → b ≡ true → ⊥
true_false b low high = false≢true (sym low ∙ high)

-- how an answer is told
abbrev told : Result (Option Lent) CursorFault → Given
told (Ok (Some l)) = given.Done
told (Ok None) = given.NoPart
told (Err fault.NoMemory) = given.NoMemory
told (Err fault.Astray) = given.Astray

-- what the cursor says of a place that is lost
abbrev IsLosing : (c c' : Cursor) → Result (Option Lent) CursorFault → Type 0
IsLosing c c' r = (r ≡ Err fault.Astray → c'.lost ≡ true) × (c.lost ≡ true → r ≡ Err fault.Astray)

pub stuck : (c c' : Cursor) (r : Result (Option Lent) CursorFault) → IsLosing c c' r → IsStuck c c' (told r)
stuck c c' (Ok (Some l)) is = ((λ e. absurd (done_astray e)), (λ e. absurd (well_bad (is.1 e))))
stuck c c' (Ok None) is = ((λ e. absurd (none_astray e)), (λ e. absurd (well_bad (is.1 e))))
stuck c c' (Err fault.NoMemory) is = ((λ e. absurd (memory_astray e)), (λ e. absurd (wanting_bad (is.1 e))))
stuck c c' (Err fault.Astray) is = ((λ e. is.0 refl), (λ e. refl))

-- a part that was handed out is put, with its name
pub given_part : (kinds : List KindView) (input : List ℕ) (c c' : Cursor) (l : Lent) (old new : Lends)
    → IsLentFrom input l
    → ((es : List Entry) → Awaits c kinds input es → HandsOut c' kinds input es (Some l))
    → ((bytes : List ℕ) → IsLentFrom bytes l → IsPart kinds bytes l.name.now [] (entry_of l) new.part)
    → (length l.name.now ≤ length old.buffer → AreAtFront l.name.now old.buffer new.buffer)
    → IsLosing c c' (Ok (Some l)) → IsGivenWithRoom kinds input c c' old new given.Done
given_part kinds input c c' l old new lent handed is named losing =
    let whole = is input lent in record {
      put = whole.within;
      next = λ es awaits room.
          let h = handed es awaits in
          let fits = subst (λ (x : List Entry). HasRoom old.buffer x) h.1 room in
          (entry_of l, h.0, h.1, record { part = whole; name = λ some. named (fits some) }, h.2);
      stuck = stuck c c' (Ok (Some l)) losing;
    }

-- the buffer has room for the name of the next part, or is empty
pub with_room : (kinds : List KindView) (input : List ℕ) (c d c' : Cursor) (old new : Lends) (a : Given)
    → c.lost ≡ false
    → ((bytes : List ℕ) (es : List Entry) → Awaits c kinds bytes es → Awaits d kinds bytes es)
    → ((bytes : List ℕ) (es : List Entry) → Awaits c kinds bytes es → HasRoom old.buffer es)
    → IsGivenWithRoom kinds input d c' old new a → IsGiven kinds input c c' old new a
with_room kinds input c d c' old new a there stay room g = record {
  put = g.put;
  next = λ es awaits. g.next es (stay input es awaits) (room input es awaits);
  stuck = (g.stuck.0, λ lost. absurd (true_false c.lost there lost));
}

-- it has less
pub too_small : (kinds : List KindView) (input : List ℕ) (c c' : Cursor) (p : ValuePart) (buffer : List ℕ)
    (count : ℕ) → c.lost ≡ false
    → ((bytes : List ℕ) (es : List Entry) → Awaits c kinds bytes es → Awaits c' kinds bytes es)
    → ((bytes : List ℕ) (es : List Entry) → Awaits c kinds bytes es → HasNameOf es count)
    → (0 < length buffer) × (length buffer < count)
    → IsGiven kinds input c c' (record { part = p; buffer = buffer })
    (record { part = record p { name_count = count }; buffer = buffer }) given.NoRoom
too_small kinds input c c' p buffer count there stay named more = record {
  put = record { part = refl; buffer = refl; some = more.0; less = more.1 };
  next = λ es awaits. (named input es awaits, stay input es awaits);
  stuck = ((λ e. absurd (room_astray e)), (λ lost. absurd (true_false c.lost there lost)));
}

-- a place that was lost before
pub lost_before : (kinds : List KindView) (input : List ℕ) (c : Cursor) (lends : Lends) → c.lost ≡ true
    → IsGiven kinds input c c lends lends given.Astray
lost_before kinds input c lends lost = record {
  put = refl;
  next = λ es awaits. absurd (true_false c.lost awaits.known lost);
  stuck = ((λ e. lost), (λ e. refl));
}
