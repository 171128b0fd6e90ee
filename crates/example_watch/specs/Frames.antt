-- Frames of Ethernet, byte by byte.
use Rattle.std.specs.Prelude.{ℕ, List, [], ◌∷◌}

-- 10.0.0.1, 10.0.0.2 and 127.0.0.1
abbrev pub client : List ℕ
client = 10 ∷ 0 ∷ 0 ∷ 1 ∷ []

abbrev pub server : List ℕ
server = 10 ∷ 0 ∷ 0 ∷ 2 ∷ []

abbrev pub loopback : List ℕ
loopback = 127 ∷ 0 ∷ 0 ∷ 1 ∷ []

-- a datagram with the bytes of "ping", padded to the 60 bytes that a frame has at least (IEEE 802.3)
abbrev pub padded_frame : List ℕ
padded_frame =
    2 ∷ 0 ∷ 0 ∷ 0 ∷ 0 ∷ 2 ∷ 2 ∷ 0 ∷ 0 ∷ 0 ∷ 0 ∷ 1 ∷ 8 ∷ 0 ∷ 69 ∷ 0 ∷ 0 ∷ 32 ∷ 0 ∷ 1 ∷
    64 ∷ 0 ∷ 64 ∷ 17 ∷ 38 ∷ 202 ∷ 10 ∷ 0 ∷ 0 ∷ 1 ∷ 10 ∷ 0 ∷ 0 ∷ 2 ∷ 3 ∷ 254 ∷ 0 ∷ 111 ∷ 0 ∷ 12 ∷
    8 ∷ 150 ∷ 112 ∷ 105 ∷ 110 ∷ 103 ∷ 0 ∷ 0 ∷ 0 ∷ 0 ∷ 0 ∷ 0 ∷ 0 ∷ 0 ∷ 0 ∷ 0 ∷ 0 ∷ 0 ∷ 0 ∷ 0 ∷ []

-- the first segment that a client of NFS sent to a registry, captured on a loopback
abbrev pub first_frame : List ℕ
first_frame =
    0 ∷ 0 ∷ 0 ∷ 0 ∷ 0 ∷ 0 ∷ 0 ∷ 0 ∷ 0 ∷ 0 ∷ 0 ∷ 0 ∷ 8 ∷ 0 ∷ 69 ∷ 0 ∷ 0 ∷ 60 ∷ 76 ∷ 4 ∷
    64 ∷ 0 ∷ 64 ∷ 6 ∷ 240 ∷ 181 ∷ 127 ∷ 0 ∷ 0 ∷ 1 ∷ 127 ∷ 0 ∷ 0 ∷ 1 ∷ 2 ∷ 254 ∷ 0 ∷ 111 ∷ 136 ∷ 190 ∷
    206 ∷ 203 ∷ 0 ∷ 0 ∷ 0 ∷ 0 ∷ 160 ∷ 2 ∷ 255 ∷ 215 ∷ 254 ∷ 48 ∷ 0 ∷ 0 ∷ 2 ∷ 4 ∷ 255 ∷ 215 ∷ 4 ∷ 2 ∷
    8 ∷ 10 ∷ 129 ∷ 130 ∷ 103 ∷ 167 ∷ 0 ∷ 0 ∷ 0 ∷ 0 ∷ 1 ∷ 3 ∷ 3 ∷ 10 ∷ []

-- ::1 and ::2
abbrev pub first_address : List ℕ
first_address = 0 ∷ 0 ∷ 0 ∷ 0 ∷ 0 ∷ 0 ∷ 0 ∷ 0 ∷ 0 ∷ 0 ∷ 0 ∷ 0 ∷ 0 ∷ 0 ∷ 0 ∷ 1 ∷ []

abbrev pub second_address : List ℕ
second_address = 0 ∷ 0 ∷ 0 ∷ 0 ∷ 0 ∷ 0 ∷ 0 ∷ 0 ∷ 0 ∷ 0 ∷ 0 ∷ 0 ∷ 0 ∷ 0 ∷ 0 ∷ 2 ∷ []

-- a datagram of IPv6 with the bytes of "abcd", behind a header of hop-by-hop options
abbrev pub options_frame : List ℕ
options_frame =
    0 ∷ 0 ∷ 0 ∷ 0 ∷ 0 ∷ 0 ∷ 0 ∷ 0 ∷ 0 ∷ 0 ∷ 0 ∷ 0 ∷ 134 ∷ 221 ∷ 96 ∷ 0 ∷ 0 ∷ 0 ∷ 0 ∷ 20 ∷
    0 ∷ 64 ∷ 0 ∷ 0 ∷ 0 ∷ 0 ∷ 0 ∷ 0 ∷ 0 ∷ 0 ∷ 0 ∷ 0 ∷ 0 ∷ 0 ∷ 0 ∷ 0 ∷ 0 ∷ 1 ∷ 0 ∷ 0 ∷
    0 ∷ 0 ∷ 0 ∷ 0 ∷ 0 ∷ 0 ∷ 0 ∷ 0 ∷ 0 ∷ 0 ∷ 0 ∷ 0 ∷ 0 ∷ 2 ∷ 17 ∷ 0 ∷ 1 ∷ 4 ∷ 0 ∷ 0 ∷
    0 ∷ 0 ∷ 0 ∷ 1 ∷ 0 ∷ 2 ∷ 0 ∷ 12 ∷ 0 ∷ 0 ∷ 97 ∷ 98 ∷ 99 ∷ 100 ∷ []

-- the first fragment of a datagram of IPv4
abbrev pub fragment_frame : List ℕ
fragment_frame =
    0 ∷ 0 ∷ 0 ∷ 0 ∷ 0 ∷ 0 ∷ 0 ∷ 0 ∷ 0 ∷ 0 ∷ 0 ∷ 0 ∷ 8 ∷ 0 ∷ 69 ∷ 0 ∷ 0 ∷ 30 ∷ 0 ∷ 1 ∷
    32 ∷ 0 ∷ 64 ∷ 17 ∷ 0 ∷ 0 ∷ 10 ∷ 0 ∷ 0 ∷ 1 ∷ 10 ∷ 0 ∷ 0 ∷ 2 ∷ 0 ∷ 9 ∷ 0 ∷ 10 ∷ 0 ∷ 10 ∷
    0 ∷ 0 ∷ 112 ∷ 113 ∷ []
