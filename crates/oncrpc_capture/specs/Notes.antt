-- What is said of bytes that no message has, and of packets that are not read (own).
use Rattle.std.specs.Prelude.{ℕ, Bool, true, false, List, codes}
use Rattle.capture_packets.specs.declared.reason.Reason.{Reason}
use Rattle.capture_packets.specs.declared.reason.Reason.TheVariants as reason
use Rattle.capture_records.specs.declared.told.Told.{Told}
use Rattle.capture_records.specs.declared.told.Told.TheVariants as told

-- the word of what is said of bytes
abbrev pub told_name : Told → List ℕ
told_name told.Missing = codes "missing"
told_name told.Unfinished = codes "unfinished"
told_name told.Passed = codes "passed"
told_name told.Dropped = codes "dropped"

-- the word of a reason against a packet
abbrev pub why_unread : Reason → List ℕ
why_unread reason.UnknownLink = codes "UnknownLink"
why_unread reason.Cut = codes "Cut"
why_unread reason.NotInternet = codes "NotInternet"
why_unread reason.BadInternet = codes "BadInternet"
why_unread reason.Fragment = codes "Fragment"
why_unread reason.OtherProtocol = codes "OtherProtocol"
why_unread reason.BadDatagram = codes "BadDatagram"
why_unread reason.BadSegment = codes "BadSegment"

-- A packet is told where it may have carried a message: one of another protocol is not.
abbrev pub is_unread : Reason → Bool
is_unread reason.NotInternet = false
is_unread reason.OtherProtocol = false
is_unread _ = true
