-- The items of a value as C tells them (RFC 4506 section 4).
use Rattle.std.specs.Prelude.{◌≡◌, ℕ, pos, ◌+◌, ◌≤◌, ◌<◌, ◌^◌, ◌⊎◌, List, [], ◌∷◌, length, take, drop, ⊤}
use Rattle.std.specs.Prelude.{Bool, true, false}
use Rattle.xdr_stream.specs.Reasons.{reason_number}
use Rattle.xdr_writer.specs.Items as item
use Rattle.xdr_writer.specs.Items.{ItemView}
use Rattle.xdr_writer.specs.declared.refusal.Why.{Why}
use Rattle.xdr_writer.specs.declared.refusal.Why.TheVariants as why
use Rattle.c_values.specs.declared.item.ValueItem.{ValueItem}
use Rattle.c_values.specs.declared.item.ItemWhy.{ItemWhy}
use Rattle.c_values.specs.declared.item.ItemWhy.TheVariants as fault

-- what C lends to be written: items, and the bytes in which their content lies
pub record Given : Type 0 where
  pub items : List ValueItem
  pub content : List ℕ

abbrev pub given : List ValueItem → (bytes : List ℕ) → Given
given cs bytes = record { items = cs; content = bytes }

-- 1 where the optional item is there, else 0 (RFC 4506 section 4.19)
abbrev pub IsFlag : ℕ → Bool → Type 0
IsFlag n true = n ≡ 1
IsFlag n false = n ≡ 0

-- C's item tells this item of a value: by its form a signed number, an unsigned one, a flag, a count of four bytes, or
-- content that lies in the bytes
abbrev pub Tells : (bytes : List ℕ) → ValueItem → ItemView → Type 0
Tells bytes c (item.number z) = ((c.form ≡ 1) × (z ≡ c.signed_number)) ⊎ ((c.form ≡ 2) × (z ≡ pos c.number))
Tells bytes c (item.flag b) = (c.form ≡ 3) × IsFlag c.number b
Tells bytes c (item.count n) = (c.form ≡ 4) × (n ≡ c.count) × (n < 2 ^ 32)
Tells bytes c (item.content bs) =
    (c.form ≡ 5) × (c.at + c.count ≤ length bytes) × (bs ≡ take c.count (drop c.at bytes))

-- and so one by one
abbrev pub AreTold : (bytes : List ℕ) → List ValueItem → List ItemView → Type 0
AreTold bytes [] [] = ⊤
AreTold bytes (c ∷ cs) (i ∷ is) = Tells bytes c i × AreTold bytes cs is
AreTold bytes _ _ = ⊥

-- why C's item tells none
abbrev pub IsUntold : (bytes : List ℕ) → ValueItem → ItemWhy → Type 0
IsUntold bytes c fault.NoForm = (c.form < 1) ⊎ (5 < c.form)
IsUntold bytes c fault.NoNumber = ((c.form ≡ 3) × (1 < c.number)) ⊎ ((c.form ≡ 4) × (2 ^ 32 ≤ c.count))
IsUntold bytes c fault.Outside = (c.form ≡ 5) × (length bytes < c.at + c.count)
IsUntold bytes c _ = ⊥

-- the number of a writer's reason: that of decoding, or one of items alone; an allocation failure is none
abbrev pub refused_number : Why → ℕ
refused_number (why.Refused f) = reason_number f.why
refused_number why.PastLimit = 7
refused_number why.WrongItem = 9
refused_number why.NotInRange = 10
refused_number why.PastEnd = 11
refused_number why.Unfinished = 12
refused_number why.NoMemory = 0

-- the number that C sees
abbrev pub why_number : ItemWhy → ℕ
why_number (fault.Refused w) = refused_number w
why_number fault.NoForm = 9
why_number fault.NoNumber = 10
why_number fault.Unfinished = 12
why_number fault.Outside = 13
