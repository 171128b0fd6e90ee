-- How messages are counted.
use Rattle.std.specs.Prelude.{ℕ, ◌+◌, ◌-◌, ◌^◌, min, Bool, true, false}
use Rattle.oncrpc_messages.specs.declared.page.Said.{Said}
use Rattle.oncrpc_messages.specs.declared.page.Said.TheVariants as said
use Rattle.oncrpc_messages.specs.declared.refusal.Verdict.{Verdict}
use Rattle.oncrpc_messages.specs.declared.refusal.Verdict.TheVariants as verdict
use Rattle.oncrpc_watch.specs.declared.counts.Counts.{Counts}

-- one more; the greatest number stays
abbrev pub more : ℕ → ℕ
more n = min (n + 1) (2 ^ 64 - 1)

-- one more where this holds
abbrev pub more_if : Bool → ℕ → ℕ
more_if true n = more n
more_if false n = n

abbrev pub is_call : Said → Bool
is_call (said.Call xid a) = true
is_call _ = false

abbrev pub is_reply : Said → Bool
is_reply (said.Reply xid) = true
is_reply _ = false

abbrev pub is_other : Said → Bool
is_other said.Neither = true
is_other _ = false

-- a reply to no call that is known
abbrev pub is_unasked : Said → (known : Bool) → Bool
is_unasked (said.Reply xid) false = true
is_unasked _ known = false

abbrev pub is_refused : Verdict → Bool
is_refused (verdict.Refused r) = true
is_refused _ = false

abbrev pub is_unjudged : Verdict → Bool
is_unjudged verdict.Unjudged = true
is_unjudged _ = false

-- the counts with a message more
abbrev pub counted : Said → Verdict → (known : Bool) → Counts → Counts
counted s v known c = record {
  calls = more_if (is_call s) c.calls;
  replies = more_if (is_reply s) c.replies;
  others = more_if (is_other s) c.others;
  refused = more_if (is_refused v) c.refused;
  unjudged = more_if (is_unjudged v) c.unjudged;
  unasked = more_if (is_unasked s known) c.unasked;
}

-- the counts with something beside messages that is refused
abbrev pub refused : Counts → Counts
refused c = record {
  calls = c.calls;
  replies = c.replies;
  others = c.others;
  refused = more c.refused;
  unjudged = c.unjudged;
  unasked = c.unasked;
}
