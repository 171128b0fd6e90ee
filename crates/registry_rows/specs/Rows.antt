-- The rows of the registry, as a plain list (RFC 1833 section 2.1).
use Rattle.std.specs.Prelude.{◌≡◌, ℕ, ◌≤◌, ◌<◌, Bool, ◌&&◌, List, nat_eq, ◌^◌, length, false, [], ◌∷◌, ⊤}
use Rattle.std.specs.List.{list_any, AllByRecursion}
use Rattle.std.specs.Str.{bytes_eq}
use Rattle.xdr_units.specs.Numbers.{AreBytes}

-- who serves a version of a program over a transport, where, and who set it: the `rpcb` of RFC 1833 section 2.1
pub record Row : Type 0 where
  pub prog : ℕ
  pub vers : ℕ
  pub netid : List ℕ
  pub address : List ℕ
  pub owner : List ℕ

-- a row of these
abbrev pub row_of : ℕ → ℕ → List ℕ → List ℕ → List ℕ → Row
row_of prog vers netid address owner = record {
  prog = prog;
  vers = vers;
  netid = netid;
  address = address;
  owner = owner;
}

-- the row is of this version of the program
abbrev pub is_of : ℕ → ℕ → Row → Bool
is_of prog vers r = nat_eq prog r.prog && nat_eq vers r.vers

-- and over this transport
abbrev pub is_at : ℕ → ℕ → List ℕ → Row → Bool
is_at prog vers netid r = is_of prog vers r && bytes_eq netid r.netid

-- what a row keeps to: numbers of 32 bits, a netid and an address that are not empty, and short texts of bytes (the
-- lengths are this project's own)
pub record IsRow (r : Row) : Type 0 where
  pub prog : r.prog < 2 ^ 32
  pub vers : r.vers < 2 ^ 32
  pub some_netid : 0 < length r.netid
  pub some_address : 0 < length r.address
  pub netid : length r.netid ≤ 64
  pub address : length r.address ≤ 256
  pub owner : length r.owner ≤ 10
  pub netid_bytes : AreBytes r.netid
  pub address_bytes : AreBytes r.address
  pub owner_bytes : AreBytes r.owner

-- no (prog, vers, netid) twice (RFC 1833 section 2.2.1, RPCBPROC_SET)
abbrev pub NoneTwice : List Row → Type 0
NoneTwice [] = ⊤
NoneTwice (r ∷ rs) = (list_any (is_at r.prog r.vers r.netid) rs ≡ false) × NoneTwice rs

-- the rows of a registry, of which there are at most 1024
pub record IsRegistry (rows : List Row) : Type 0 where
  pub each : AllByRecursion IsRow rows
  pub none_twice : NoneTwice rows
  pub few : length rows ≤ 1024
