-- The line of a registry that is not heard, or no longer (this project's own).
use Rattle.std.specs.Prelude.{ℕ, ℤ, List, ◌++◌, Option, Some, None, codes, decimal, unsigned_abs}
use Rattle.std.specs.Net.Socket.{socket_ip, socket_port}
use Rattle.std.specs.Net.Text.{ip_text}
use Rattle.std.specs.declared.net.ip_addr.IpAddr.{IpAddr}
use Rattle.std.specs.IoError.{error_kind, raw_os_error}
use Rattle.std.specs.declared.io.Error.{Error}
use Rattle.std.specs.declared.io.ErrorKind.{ErrorKind}
use Rattle.std.specs.declared.io.ErrorKind.TheVariants.{AddrInUse, AddrNotAvailable, PermissionDenied, NotFound}
use Rattle.std.specs.declared.io.ErrorKind.TheVariants.{AlreadyExists, NotADirectory, InvalidFilename, OutOfMemory}
use Rattle.std.specs.declared.io.ErrorKind.TheVariants.{ReadOnlyFilesystem, StorageFull, QuotaExceeded}
use Rattle.oncrpc_sessions.specs.declared.cause.Cause.{Cause}
use Rattle.oncrpc_sessions.specs.declared.cause.Cause.TheVariants as cause
use Rattle.oncrpc_sessions.specs.declared.unheard.Place.{Place}
use Rattle.oncrpc_sessions.specs.declared.unheard.Place.TheVariants as place
use Rattle.oncrpc_sessions.specs.declared.unheard.Unheard.{Unheard}
use Rattle.oncrpc_sessions.specs.declared.unheard.Unheard.TheVariants as unheard

-- a kind of error that has no words here, by the number that the system gave it, where it gave one (own)
abbrev pub numbered : Option ℤ → Cause
numbered (Some number) = cause.Error (unsigned_abs number)
numbered None = cause.Other

-- Why something failed, by the kind of the system's error and by its number. None: memory was refused (own).
abbrev pub cause_of : ErrorKind → (number : Option ℤ) → Option Cause
cause_of OutOfMemory number = None
cause_of AddrInUse number = Some cause.AddressInUse
cause_of AddrNotAvailable number = Some cause.AddressNotAvailable
cause_of PermissionDenied number = Some cause.PermissionDenied
cause_of NotFound number = Some cause.NoSuchFile
cause_of AlreadyExists number = Some cause.FileExists
cause_of NotADirectory number = Some cause.NotADirectory
cause_of InvalidFilename number = Some cause.NameTooLong
cause_of ReadOnlyFilesystem number = Some cause.ReadOnly
cause_of StorageFull number = Some cause.NoSpace
cause_of QuotaExceeded number = Some cause.OverQuota
cause_of _ number = Some (numbered number)

-- what failed there, for this reason: refused memory has no place (own)
abbrev pub unheard_at : Place → Option Cause → Unheard
unheard_at at (Some why) = unheard.Socket at why
unheard_at at None = unheard.NoMemory

-- what an error of the system is there (own)
abbrev pub unheard_by : Place → Error → Unheard
unheard_by at error = unheard_at at (cause_of (error_kind error) (raw_os_error error))

-- why something failed, in words (own)
abbrev pub cause_text : Cause → List ℕ
cause_text cause.AddressInUse = codes "address in use"
cause_text cause.AddressNotAvailable = codes "address not available"
cause_text cause.PermissionDenied = codes "permission denied"
cause_text cause.NoSuchFile = codes "no such file"
cause_text cause.FileExists = codes "file exists"
cause_text cause.NotADirectory = codes "not a directory"
cause_text cause.NameTooLong = codes "name too long"
cause_text cause.ReadOnly = codes "read-only filesystem"
cause_text cause.NoSpace = codes "no space left"
cause_text cause.OverQuota = codes "quota exceeded"
cause_text (cause.Error number) = codes "error " ++ decimal number
cause_text cause.Other = codes "other error"

-- an address and a port, and what they are served over (own)
abbrev pub spaced : IpAddr → (port : ℕ) → (transport : List ℕ) → List ℕ
spaced host port transport = ip_text host ++ codes " " ++ decimal port ++ codes " over " ++ transport

-- what was asked for there, where the path is that of the Unix socket (own)
abbrev pub place_text : Place → (path : List ℕ) → List ℕ
place_text (place.Tcp address) path = spaced (socket_ip address) (socket_port address) (codes "tcp")
place_text (place.Udp address) path = spaced (socket_ip address) (socket_port address) (codes "udp")
place_text place.Local path = path
place_text place.Waiting path = codes "waiting"
place_text place.Random path = codes "random bytes"

-- the line of what failed there, and why (own)
abbrev pub socket_line : (place why : List ℕ) → List ℕ
socket_line place why = codes "socket fault: " ++ place ++ codes ": " ++ why ++ codes "\n"

-- the whole line (own)
abbrev pub fault_line : Unheard → (path : List ℕ) → List ℕ
fault_line (unheard.Socket at why) path = socket_line (place_text at path) (cause_text why)
fault_line unheard.NoMemory path = codes "out of memory\n"
