-- Bytes that begin with a value: what `parts` says of them.
use Rattle.std.proofs.Common.{◌≡◌, ℕ, ◌%◌, ◌≤◌, Vec, Global, List, [], ◌∷◌, ◌++◌, length, take, drop, refl, ap, sym}
use Rattle.std.proofs.Common.{◌∙◌, subst, map}
use Rattle.std.proofs.Common.{Result, Ok, Err, IfOk, IfErr}
use Rattle.std.proofs.lemmas.List.{append-nil}
use Rattle.xdr_types.specs.Kinds.{KindView}
use Rattle.xdr_types.specs.Tree.{Tree}
use Rattle.xdr_types.specs.Layout.{Entry, Role, entries, of_number, of_flag, of_length, of_content, of_group}
use Rattle.xdr_types.specs.Outcome.{Ending, Outcome, Pending, Whole, TooDeep, TooLarge, Broken, bad_bool, bad_numbered}
use Rattle.xdr_types.specs.Outcome.{bad_case, too_long, bad_padding}
use Rattle.std.specs.Prelude.{⊤}
use Rattle.xdr_types.specs.Spelling.{bytes_of}
use Rattle.xdr_types.specs.Within.{Bounds, FitsWithin}
use Rattle.xdr_types.proofs.Unique.{one}
use Rattle.xdr_laws.proofs.OneOutcome.{one_outcome}
use Rattle.xdr_laws.proofs.Whole.{whole_exactly}
use Rattle.xdr_stream.specs.Sees.{Ends}
use Rattle.xdr_stream.specs.Finish.{EndsWith}
use Rattle.xdr_stream.specs.declared.fault.DecodeFault.{DecodeFault}
use Rattle.xdr_stream.specs.declared.fault.Reason.{Reason}
use Rattle.xdr_stream.specs.declared.fault.Reason.TheVariants as reason
use Rattle.xdr_parts.specs.Counted.{AreCounted, AreListed, capped, names_of}
use Rattle.xdr_parts.specs.Lent.{entry_of, size_in, role_in, AreLentFrom}
use Rattle.xdr_parts.specs.declared.counting.PartCounts.{PartCounts}
use Rattle.xdr_parts.specs.declared.listing.SizedParts.{SizedParts}
use Rattle.xdr_parts.specs.declared.part.Lent.{Lent}
use Rattle.xdr_parts.specs.declared.part.Role.TheVariants.{Number, Flag, Length, Content, Group}
use Rattle.xdr_parts.specs.declared.part.Role as rust
use Rattle.example_xdr.specs.Lent.{bytes_of_each}

-- how many bytes are lent for a part: all of its own, but of content without the zeros
abbrev pub lent_size : (size : ℕ) → Role → ℕ
lent_size size (of_content n) = n
lent_size size of_number = size
lent_size size of_flag = size
lent_size size of_length = size
lent_size size of_group = size

size_back : (r : rust.Role) (n : ℕ) → n ≡ lent_size (size_in r n) (role_in r n)
size_back Number n = refl
size_back Flag n = refl
size_back Length n = refl
size_back Content n = refl
size_back Group n = refl

abbrev pub cut : (input : List ℕ) → List Entry → List (List ℕ)
cut input es = map (λ (e : Entry). take (lent_size e.size e.role) (drop e.at input)) es

-- the bytes of parts are those that stand at their places
pub bytes_cut : (input : List ℕ) (ls : List Lent) → AreLentFrom input ls
    → bytes_of_each ls ≡ cut input (map entry_of ls)
bytes_cut input [] a = refl
bytes_cut input (l ∷ ls) a =
    let n : ℕ = length l.bytes.now in
    let here : l.bytes.now ≡ take (lent_size (size_in l.role n) (role_in l.role n)) (drop l.at input) =
    a.0.1 ∙ ap (λ (m : ℕ). take m (drop l.at input)) (size_back l.role n) in
    ap (λ (x : List ℕ). x ∷ bytes_of_each ls) here
    ∙ ap (λ (xs : List (List ℕ)). take (lent_size (size_in l.role n) (role_in l.role n)) (drop l.at input) ∷ xs)
    (bytes_cut input ls a.1)

-- a value is whole
abbrev IsWhole : Ending → Type 0
IsWhole (Whole v n) = ⊤
IsWhole _ = ⊥

module _ (kinds : List KindView) (place : ℕ) (limits : Bounds) (units : limits.bytes % 4 ≡ 0) where
  -- the value that is whole is the one that the bytes begin with
  pub that_value : (b : List ℕ) (v t : Tree) (n : ℕ) (x : List ℕ) → Outcome kinds place limits b (Whole v n)
      → FitsWithin kinds place limits t → b ≡ bytes_of kinds place t ++ x → v ≡ t
  that_value b v t n x o fit e =
      let w = (whole_exactly kinds place limits b v n units).0 o in
      (one kinds place v t w.1 x w.0.0 fit.0 (sym w.2 ∙ e)).0

  no_whole : (b : List ℕ) (f : Ending) (v : Tree) (n : ℕ) → Outcome kinds place limits b f
      → Outcome kinds place limits b (Whole v n) → IsWhole f
  no_whole b f v n o w = subst (λ (x : Ending). IsWhole x) (sym (one_outcome kinds place limits b f (Whole v n) o w)) tt

  at_once : (b : List ℕ) (f : Ending) → Outcome kinds place limits (b ++ []) f → Outcome kinds place limits b f
  at_once b f o = subst (λ (x : List ℕ). Outcome kinds place limits x f) (append-nil b) o

  abbrev Ended : (b : List ℕ) (why : Reason) (at : ℕ) → Type 0
  Ended b why at = (why ≡ reason.Truncated → ⊥)
      → ((rest : List ℕ) → Ends kinds place limits why (b ++ rest) at) × (at ≤ length b)

  no_reason : (b : List ℕ) (v : Tree) (n at : ℕ) (why : Reason) → Outcome kinds place limits b (Whole v n)
      → (why ≡ reason.Truncated → Outcome kinds place limits b Pending × (at ≡ length b)) → Ended b why at
      → why ≡ reason.NoMemory
  no_reason b v n at reason.BadBool w short e = absurd (no_whole b (Broken bad_bool at) v n
      (at_once b (Broken bad_bool at) ((e (λ i. cc)).0 [])) w)
  no_reason b v n at reason.BadNumbered w short e = absurd (no_whole b (Broken bad_numbered at) v n
      (at_once b (Broken bad_numbered at) ((e (λ i. cc)).0 [])) w)
  no_reason b v n at reason.BadCase w short e = absurd (no_whole b (Broken bad_case at) v n
      (at_once b (Broken bad_case at) ((e (λ i. cc)).0 [])) w)
  no_reason b v n at reason.TooLong w short e = absurd (no_whole b (Broken too_long at) v n
      (at_once b (Broken too_long at) ((e (λ i. cc)).0 [])) w)
  no_reason b v n at reason.BadPadding w short e = absurd (no_whole b (Broken bad_padding at) v n
      (at_once b (Broken bad_padding at) ((e (λ i. cc)).0 [])) w)
  no_reason b v n at reason.TooDeep w short e = absurd
      (no_whole b (TooDeep at) v n (at_once b (TooDeep at) ((e (λ i. cc)).0 [])) w)
  no_reason b v n at reason.TooLarge w short e = absurd
      (no_whole b (TooLarge at) v n (at_once b (TooLarge at) ((e (λ i. cc)).0 [])) w)
  no_reason b v n at reason.Truncated w short e = absurd (no_whole b Pending v n (short refl).0 w)
  no_reason b v n at reason.NoMemory w short e = refl

  module _ (b : List ℕ) (t : Tree) (x : List ℕ) (fit : FitsWithin kinds place limits t)
      (e : b ≡ bytes_of kinds place t ++ x) where
    -- the parts are those of that value
    pub given : (r : Result (Vec Lent Global) DecodeFault)
        → IfOk r (λ ls. (v : Tree) × (n : ℕ) × Outcome kinds place limits b (Whole v n)
        × (map entry_of ls.items ≡ entries kinds place v))
        → IfOk r (λ ls. map entry_of ls.items ≡ entries kinds place t)
    given (Ok ls) h = h.3 ∙ ap (λ (v : Tree). entries kinds place v) (that_value b h.0 t h.1 x h.2 fit e)
    given (Err f) h = tt

    -- the counts are those of that value
    pub counted : (r : Result PartCounts DecodeFault) → IfOk r (λ c. AreCounted kinds place limits b c)
        → IfOk r (λ c. (c.used ≡ length (bytes_of kinds place t)) × (c.parts ≡ length (entries kinds place t))
        × (c.names ≡ capped (length (names_of (entries kinds place t)))))
    counted (Ok c) h =
        let same = that_value b h.value t c.used x h.whole fit e in (
          ((whole_exactly kinds place limits b h.value c.used units).0 h.whole).3
              ∙ ap (λ (v : Tree). length (bytes_of kinds place v)) same,
          h.parts ∙ ap (λ (v : Tree). length (entries kinds place v)) same,
          h.names ∙ ap (λ (v : Tree). capped (length (names_of (entries kinds place v)))) same,
        )
    counted (Err f) h = tt

    -- both where they are reported together
    pub sized : (r : Result SizedParts DecodeFault)
        → IfOk r (λ s. AreListed kinds place limits b s.list.items s.counts)
        → IfOk r (λ s. (s.counts.used ≡ length (bytes_of kinds place t))
        × (s.counts.parts ≡ length (entries kinds place t))
        × (s.counts.names ≡ capped (length (names_of (entries kinds place t)))))
    sized (Ok s) h = counted (Ok s.counts) (record {
      value = h.value;
      whole = h.whole;
      lent = s.list.items;
      each = h.each;
      from = h.from;
      parts = h.parts;
      names = h.names;
    })
    sized (Err f) h = tt

    pub listed : (r : Result SizedParts DecodeFault)
        → IfOk r (λ s. AreListed kinds place limits b s.list.items s.counts)
        → IfOk r (λ s. map entry_of s.list.items ≡ entries kinds place t)
    listed (Ok s) h =
        h.each ∙ ap (λ (v : Tree). entries kinds place v) (that_value b h.value t s.counts.used x h.whole fit e)
    listed (Err f) h = tt

    -- and nothing but an allocation failure stands against them
    pub only_memory : {A : Type 0} (r : Result A DecodeFault) → IfErr r (λ f. EndsWith kinds place limits b f)
        → IfErr r (λ f. f.why ≡ reason.NoMemory)
    only_memory (Ok x) h = tt
    only_memory (Err f) h =
        let n : ℕ = length (bytes_of kinds place t) in
        no_reason b t n f.at f.why ((whole_exactly kinds place limits b t n units).1 (fit, x, e, refl)) h.0 h.1

-- the bytes that are lent for these parts
pub lent_bytes : (b : List ℕ) (es : List Entry) (r : Result (Vec Lent Global) DecodeFault)
    → IfOk r (λ ls. map entry_of ls.items ≡ es) → IfOk r (λ ls. AreLentFrom b ls.items)
    → IfOk r (λ ls. bytes_of_each ls.items ≡ cut b es)
lent_bytes b es (Ok ls) is a = bytes_cut b ls.items a ∙ ap (λ (x : List Entry). cut b x) is
lent_bytes b es (Err f) is a = tt
