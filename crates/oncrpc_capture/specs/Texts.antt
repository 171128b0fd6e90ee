-- The lines of a capture (own).
use Rattle.std.specs.Prelude.{ℕ, ◌/◌, ◌%◌, List, ◌++◌, drop, codes, decimal}
use Rattle.std.specs.Net.Text.{socket_text}
use Rattle.oncrpc_messages.specs.declared.form.Form.{Form}
use Rattle.oncrpc_messages.specs.declared.form.Form.TheVariants as form
use Rattle.oncrpc_capture.specs.declared.seen.Seen.{Seen}

-- a text behind what tells its packet, which of JSON begins the object
abbrev pub behind : Form → (front text : List ℕ) → List ℕ
behind form.Lines front text = front ++ text
behind form.Json front text = front ++ drop 1 text

-- three digits of a number below 1000
abbrev pub thousand_text : ℕ → List ℕ
thousand_text n = decimal (n / 100 % 10) ++ decimal (n / 10 % 10) ++ decimal (n % 10)

-- nanoseconds as seconds, a point and nine digits
unfoldable pub time_text : ℕ → List ℕ
time_text n =
    decimal (n / 1000000000) ++ codes "." ++ thousand_text (n / 1000000 % 1000) ++ thousand_text (n / 1000 % 1000)
    ++ thousand_text (n % 1000)

-- what tells the packet of a message: its number, its time, and who sent it to whom
abbrev pub front_of : Form → (frame : ℕ) → (time from to : List ℕ) → List ℕ
front_of form.Lines frame time from to =
    decimal frame ++ codes " " ++ time ++ codes " " ++ from ++ codes " > " ++ to ++ codes " "
front_of form.Json frame time from to =
    codes "{\"packet\":" ++ decimal frame ++ codes ",\"time\":\"" ++ time ++ codes "\",\"from\":\"" ++ from
    ++ codes "\",\"to\":\"" ++ to ++ codes "\","

-- the same of what was seen: its time in nanoseconds, and each node as an address and a port (RFC 5952 section 6)
abbrev pub front_text : Form → Seen → List ℕ
front_text form seen =
    front_of form seen.frame (time_text seen.time) (socket_text seen.from) (socket_text seen.to)

-- what is said of so many bytes
abbrev pub note_text : Form → (what : List ℕ) → (count : ℕ) → List ℕ
note_text form.Lines what count = what ++ codes " " ++ decimal count ++ codes " bytes\n"
note_text form.Json what count =
    codes "{\"type\":\"" ++ what ++ codes "\",\"bytes\":" ++ decimal count ++ codes "}\n"

-- a packet that is not read, for a reason
abbrev pub unread_of : Form → (frame : ℕ) → (time why : List ℕ) → List ℕ
unread_of form.Lines frame time why =
    decimal frame ++ codes " " ++ time ++ codes " unread " ++ why ++ codes "\n"
unread_of form.Json frame time why =
    codes "{\"packet\":" ++ decimal frame ++ codes ",\"time\":\"" ++ time
    ++ codes "\",\"type\":\"unread\",\"why\":\"" ++ why ++ codes "\"}\n"

-- the same of a packet that came at this time, in nanoseconds
abbrev pub unread_text : Form → (frame time : ℕ) → (why : List ℕ) → List ℕ
unread_text form frame time why = unread_of form frame (time_text time) why
