-- Which call a reply answers, by what was heard before it (RFC 5531 section 9: a reply has the xid of its call).
use Rattle.std.specs.Prelude.{◌≡◌, ℕ, ◌+◌, ◌<◌, ◌==◌, ◌&&◌, Bool, false, List, [], ◌∷◌, ◌++◌, All, Option, None}
use Rattle.std.specs.Prelude.{Some, ⊤}
use Rattle.oncrpc_messages.specs.declared.asked.Asked.{Asked}
use Rattle.oncrpc_messages.specs.declared.page.Said.{Said}
use Rattle.oncrpc_messages.specs.declared.page.Said.TheVariants as said
use Rattle.oncrpc_watch.specs.declared.table.TheConstants.{MOST_CALLS}

-- A message, the way that it or the call to which it answers went, and when it came.
pub record Heard : Type 0 where
  pub way : ℕ
  pub time : ℕ
  pub said : Said

-- it is a call or a reply with this xid
abbrev pub has_xid : (xid : ℕ) → Said → Bool
has_xid xid (said.Call x a) = x == xid
has_xid xid (said.Reply x) = x == xid
has_xid xid said.Neither = false

-- the same on this way
abbrev pub is_of : (way xid : ℕ) → Heard → Bool
is_of way xid h = (h.way == way) && has_xid xid h.said

-- what a call asks for, with the time at which it came
abbrev pub timed : (time : ℕ) → Asked → Asked
timed time a = record {
  program = a.program;
  version = a.version;
  procedure = a.procedure;
  flavor = a.flavor;
  time = time;
}

-- The call that waits for a reply with this xid on this way, by what was heard, the newest first. It is the newest of
-- that way and xid: since then no call and no reply was.
pub record Waits (history : List Heard) (way xid : ℕ) (asked : Asked) : Type 0 where
  pub since : List Heard
  pub before : List Heard
  pub time : ℕ
  pub says : Asked
  pub heard : history ≡ since ++ record { way = way; time = time; said = said.Call xid says } ∷ before
  pub newest : All (λ h. is_of way xid h ≡ false) since
  pub asked_is : asked ≡ timed time says

-- how many calls were heard
abbrev pub one_if_call : Said → ℕ
one_if_call (said.Call x a) = 1
one_if_call _ = 0

abbrev pub calls_in : List Heard → ℕ
calls_in [] = 0
calls_in (h ∷ earlier) = one_if_call h.said + calls_in earlier

-- The call that is known of this way and xid is the one that waits. None is known where none waits, or where more calls
-- were heard since than are kept at the least (own).
abbrev pub IsKnownCall : List Heard → (way xid : ℕ) → Option Asked → Type 0
IsKnownCall history way xid (Some asked) = Waits history way xid asked
IsKnownCall history way xid None = (asked : Asked) → (w : Waits history way xid asked) → MOST_CALLS < calls_in w.since

-- the call to which a message answers that came on this way
abbrev pub Answers : List Heard → (way : ℕ) → Said → Option Asked → Type 0
Answers history way (said.Reply xid) asked = IsKnownCall history way xid asked
Answers history way _ asked = ⊤
