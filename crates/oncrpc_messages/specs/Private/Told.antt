-- What values come to, step by step.
use Rattle.std.specs.Prelude.{◌≡◌, ◌≢◌, ℕ, ◌<◌, ◌≤◌, Bool, List, ◌++◌, length, take, ⊤}
use Rattle.std.specs.List.{AllByRecursion}
use Rattle.xdr_types.specs.Kinds.{KindView}
use Rattle.xdr_types.specs.Spelling.{bytes_of}
use Rattle.xdr_types.specs.Tree.{Tree}
use Rattle.xdr_types.specs.Within.{Bounds, FitsWithin}
use Rattle.xdr_stream.specs.Finish.{EndsWith}
use Rattle.xdr_stream.specs.declared.fault.Reason.TheVariants as reason
use Rattle.rpc_message.specs.Message.{ReplyView, StatusView, Accepted, Success}
use Rattle.oncrpc_messages.specs.declared.form.Form.{Form}
use Rattle.oncrpc_messages.specs.declared.show.Show.{Show}
use Rattle.oncrpc_messages.specs.declared.values.Step.{Step}
use Rattle.oncrpc_messages.specs.declared.values.Step.TheVariants as step
use Rattle.oncrpc_messages.specs.declared.values.Values as declared
use Rattle.oncrpc_messages.specs.declared.values.Values.TheVariants as values
use Rattle.oncrpc_messages.specs.Private.Kept.{IsKept, kept}
use Rattle.oncrpc_messages.specs.Values.{AreRefused, AreShown, between, shown_in}

-- each place is that of a kind
abbrev pub AreKinds : List KindView → (places : List ℕ) → Type 0
AreKinds kinds places = AllByRecursion (λ k. k < length kinds) places

-- the bytes are values, and this is made of what is printed of them, or this is why they are none
abbrev pub AreTold : Show → Form → List KindView → Bounds → (first : Bool) → (places bytes : List ℕ)
    → declared.Values → Type 0
AreTold show form kinds limits first places bytes (values.Shown made) =
    IsKept show (λ (text : List ℕ). AreShown form kinds limits first places bytes text) made.items
AreTold show form kinds limits first places bytes (values.Refused r) = AreRefused kinds limits places bytes r.why r.at

-- the place of a refusal is at most this one
abbrev pub IsPlacedIn : (most : ℕ) → declared.Values → Type 0
IsPlacedIn most (values.Shown text) = ⊤
IsPlacedIn most (values.Refused r) = r.at ≤ most

-- what is made of what is printed of a value behind others
abbrev pub shown_behind : Show → Form → List KindView → (place : ℕ) → (first : Bool) → Tree → List ℕ
shown_behind show form kinds k first v = kept show (between form first ++ shown_in form kinds k v)

-- what stands behind what was printed then: a value that begins the bytes, or nothing, where none does
abbrev pub TakesValue : Show → Form → List KindView → Bounds → (place : ℕ) → (first : Bool) → (bytes old new : List ℕ)
    → Step → Type 0
TakesValue show form kinds limits k first bytes old new (step.Taken used) =
    (v : Tree) × FitsWithin kinds k limits v × (used ≤ length bytes) × (bytes_of kinds k v ≡ take used bytes)
    × (new ≡ old ++ shown_behind show form kinds k first v)
TakesValue show form kinds limits k first bytes old new (step.Refused f) =
    (f.why ≢ reason.NoMemory) × EndsWith kinds k limits bytes f × (f.at ≤ length bytes)

-- how many bytes of results a reply has
abbrev pub status_size : StatusView → ℕ
status_size (Success results) = length results
status_size _ = 0

abbrev pub results_size : ReplyView → ℕ
results_size (Accepted xid verf s) = status_size s
results_size _ = 0
