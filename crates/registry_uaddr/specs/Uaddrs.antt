-- Universal addresses over IPv4 (RFC 5665 section 5.2.3.3).
use Rattle.std.specs.Prelude.{◌≡◌, ℕ, ◌<◌, ◌/◌, ◌%◌, ◌*◌, ◌+◌, ◌^◌, List, [], ◌∷◌, ◌++◌, length, decimal, codes}
use Rattle.std.specs.Prelude.{slice_index, Option, Some, None, map, nat_eq, nat_lt, ◌&&◌, if◌then◌else◌}
use Rattle.std.specs.Str.{bytes_eq}
use Rattle.std.specs.Str.Parse.{digits_value}
use Rattle.std.specs.List.{All}
use Rattle.registry_uaddr.specs.declared.address.Uaddr.{Uaddr}

-- decimal numbers with dots between them
abbrev pub dotted : List ℕ → List ℕ
dotted [] = []
dotted (n ∷ []) = decimal n
dotted (n ∷ m ∷ ns) = decimal n ++ codes "." ++ dotted (m ∷ ns)

-- the host's four octets, the port's high octet and its low one
abbrev pub numbers_of : Uaddr → List ℕ
numbers_of a =
    slice_index a.host 0 ∷ slice_index a.host 1 ∷ slice_index a.host 2 ∷ slice_index a.host 3
    ∷ a.port / 256 ∷ a.port % 256 ∷ []

-- the universal address of a host and a port, as a text (RFC 5665 section 5.2.3.3)
abbrev pub uaddr_text : Uaddr → List ℕ
uaddr_text a = dotted (numbers_of a)

-- a host of four octets and a port of two
pub record IsUaddr (a : Uaddr) : Type 0 where
  pub four : length a.host ≡ 4
  pub octets : All (λ n. n < 256) a.host
  pub port : a.port < 2 ^ 16

-- the parts of a text with one more byte at the front of the first
abbrev pub onto_first : ℕ → List (List ℕ) → List (List ℕ)
onto_first b [] = []
onto_first b (p ∷ ps) = (b ∷ p) ∷ ps

-- the byte of a dot
abbrev pub dot : ℕ
dot = slice_index (codes ".") 0

-- the parts of a text between its dots
abbrev pub parts : List ℕ → List (List ℕ)
parts [] = [] ∷ []
parts (b ∷ bs) = if nat_eq b dot then [] ∷ parts bs else onto_first b (parts bs)

-- the number below 256 whose decimal text this is, which has no leading zero
abbrev pub octet : List ℕ → Option ℕ
octet ds =
    if bytes_eq ds (decimal (digits_value 10 ds)) && nat_lt (digits_value 10 ds) 256
    then Some (digits_value 10 ds)
    else None

-- the numbers between the dots of a text, None for a part that is none
abbrev pub octets : List ℕ → List (Option ℕ)
octets text = map octet (parts text)

-- six numbers are an address: four of the host, then the port's high and low octet
abbrev pub uaddr_from : List (Option ℕ) → Option Uaddr
uaddr_from (Some a ∷ Some b ∷ Some c ∷ Some d ∷ Some high ∷ Some low ∷ []) =
    Some (record { host = a ∷ b ∷ c ∷ d ∷ []; port = high * 256 + low })
uaddr_from _ = None

-- the address that a text spells
abbrev pub uaddr_of : List ℕ → Option Uaddr
uaddr_of text = uaddr_from (octets text)
