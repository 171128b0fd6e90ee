-- What the values of a text stand for: its constants, and numbers in their ranges (RFC 4506 section 6.4).
use Rattle.std.specs.Prelude.{ℕ, ℤ, pos, negsuc, ◌-◌, ◌^◌, Bool, false, nat_lt, if◌then◌else◌, List, [], ◌∷◌, ◌++◌}
use Rattle.std.specs.Prelude.{take, Option, Some, None, codes}
use Rattle.std.specs.Str.{bytes_eq}
use Rattle.xdr_tokens.specs.Options.{◌>>=◌}
use Rattle.xdr_grammar.specs.Outline.{Late, Given, Earlier, Entry}

-- a constant, and whether const declares it
pub record Known : Type 0 where
  pub name : List ℕ
  pub value : ℤ
  pub by_const : Bool

-- ---- numbers and their ranges

-- 0 to 2 ^ 32 - 1
abbrev pub unsigned : ℤ → Option ℕ
unsigned (pos n) = if nat_lt n (2 ^ 32) then Some n else None
unsigned (negsuc n) = None

-- the numbers of an enum: -2 ^ 31 to 2 ^ 31 - 1
abbrev pub member_number : ℤ → Option ℤ
member_number (pos n) = if nat_lt n (2 ^ 31) then Some (pos n) else None
member_number (negsuc n) = if nat_lt n (2 ^ 31) then Some (negsuc n) else None

-- the cases of a union: -2 ^ 31 to 2 ^ 32 - 1
abbrev pub case_number : ℤ → Option ℤ
case_number (pos n) = if nat_lt n (2 ^ 32) then Some (pos n) else None
case_number (negsuc n) = if nat_lt n (2 ^ 31) then Some (negsuc n) else None

-- ---- constants

-- the number of the first constant with that name, and whether const declares it
unfoldable pub known : List ℕ → List Known → Option (ℤ × Bool)
known n [] = None
known n (k ∷ ks) = if bytes_eq k.name n then Some (k.value, k.by_const) else known n ks

-- TRUE and FALSE are declared before the text.
unfoldable pub earlier : List ℕ → List Known → Option (ℤ × Bool)
earlier n ks = if bytes_eq n (codes "TRUE") then Some (pos 1, false) else
    (if bytes_eq n (codes "FALSE") then Some (pos 0, false) else known n ks)

-- A value is a number, or the name of a constant that is declared before it.
unfoldable pub looked_up : List Known → Late → Option ℤ
looked_up ks (Given v) = Some v
looked_up ks (Earlier n before) = earlier n (take before ks) >>= λ k. Some k.0

-- A size is a number, or the name of a const that is declared before it.
unfoldable pub size : List Known → Late → Option ℕ
size ks (Given v) = unsigned v
size ks (Earlier n before) = earlier n (take before ks) >>= λ k. if k.1 then unsigned k.0 else None

-- A missing size is the greatest one.
unfoldable pub limit : List Known → Option Late → Option ℕ
limit ks None = Some (2 ^ 32 - 1)
limit ks (Some v) = size ks v

-- the number of one more constant; a member's is in its range
unfoldable pub entry_number : List Known → Entry → Option ℤ
entry_number ks e = looked_up ks e.value >>= λ n. if e.by_const then Some n else member_number n

-- the constants in order, after those before them
unfoldable pub numbers : List Entry → List Known → Option (List Known)
numbers [] ks = Some ks
numbers (e ∷ es) ks = entry_number ks e >>= λ v. numbers es
    (ks ++ (record { name = e.name; value = v; by_const = e.by_const }) ∷ [])
