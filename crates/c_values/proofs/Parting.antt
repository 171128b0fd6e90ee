-- Lent parts are the parts that C sees.
use Rattle.std.proofs.Common.{◌≡◌, ℕ, ◌+◌, ◌%◌, ◌≤◌, List, [], ◌∷◌, ◌++◌, length, map, take, drop, refl, sym, ap}
use Rattle.std.proofs.Common.{◌∙◌, subst, append_assoc, length-append, Some}
use Rattle.std.specs.List.{AllByRecursion}
use Rattle.std.proofs.lemmas.List.{take_at, drop_at}
use Rattle.xdr_types.specs.Kinds.{KindView}
use Rattle.xdr_types.specs.Layout.{Entry, entries}
use Rattle.xdr_types.specs.Tree.{Tree}
use Rattle.xdr_types.specs.Within.{Bounds}
use Rattle.xdr_types.specs.Outcome.{Outcome, Whole}
use Rattle.xdr_parts.specs.Counted.{AreListed, names_of}
use Rattle.xdr_parts.specs.Lent.{entry_of, size_in, role_in, AreLentFrom}
use Rattle.xdr_parts.specs.declared.counting.PartCounts.{PartCounts}
use Rattle.xdr_parts.specs.declared.part.Lent.{Lent}
use Rattle.xdr_parts.specs.declared.part.Role.{Role}
use Rattle.xdr_parts.specs.declared.part.Role.TheVariants.{Number, Flag, Length, Content, Group}
use Rattle.xdr_codec.proofs.Outcomes.{whole}
use Rattle.xdr_show.specs.Private.Read.{IsReadable}
use Rattle.xdr_show.proofs.Parts.{are_parts, says_value}
use Rattle.xdr_lang.specs.Declarations.{Declared}
use Rattle.xdr_types.specs.Within.{AreBounds}
use Rattle.c_values.specs.declared.listed.Listed.{Listed}
use Rattle.c_values.specs.declared.listed.Listed.TheVariants as listed
use Rattle.c_values.specs.declared.part.ValuePart.{ValuePart}
use Rattle.c_values.specs.Answers.{Question, BeginsWithValue, Names, question}
use Rattle.c_values.specs.Parts.{AreEach, count_in}
use Rattle.c_values.specs.Parted.{Buffers, AreParts, IsParted, IsPartedBy, IsPartedByHeld}
use Rattle.c_values.specs.Private.Parting.{parts_from, AreKnown}

-- a lent part has the bytes that it lends
pub count_reported : (r : Role) (n : ℕ) → count_in (role_in r n) (size_in r n) ≡ n
count_reported Number n = refl
count_reported Flag n = refl
count_reported Length n = refl
count_reported Content n = refl
count_reported Group n = refl

known_each : (kinds : List KindView) (ls : List Lent) → AllByRecursion (IsReadable kinds) ls → AreKnown kinds ls
known_each kinds [] a = tt
known_each kinds (l ∷ ls) a = (a.0.known, known_each kinds ls a.1)

-- the kinds of lent parts are known
pub parts_known : (kinds : List KindView) (kind : ℕ) (limits : Bounds) (input : List ℕ) (ls : List Lent)
    → (v : Tree) × (n : ℕ) × Outcome kinds kind limits input (Whole v n) × (map entry_of ls ≡ entries kinds kind v)
    → AreLentFrom input ls → AreKnown kinds ls
parts_known kinds kind limits input ls h lent =
    known_each kinds ls
    (says_value kinds kind h.0 input ls (are_parts kinds kind limits input h.0 h.1 ls h.2 h.3 lent)).0

module _ (kinds : List KindView) (input names : List ℕ) where
  -- the parts of C are the lent ones, where their names are these
  pub each_lent : (before : List ℕ) (ls : List Lent) → names ≡ before ++ names_of (map entry_of ls)
      → AreLentFrom input ls
      → AreEach kinds input names before (map entry_of ls) (parts_from kinds (length before) (map entry_of ls))
  each_lent before [] e lent = tt
  each_lent before (l ∷ ls) e lent =
      let rest : List ℕ = names_of (map entry_of ls) in
      let word : List ℕ = l.name.now in (
        record {
          at = refl;
          count = refl;
          within = subst (λ (n : ℕ). l.at + n ≤ length input) (sym (count_reported l.role (length l.bytes.now)))
              lent.0.0;
          name_at = refl;
          name_count = refl;
          name = ap (λ (b : List ℕ). take (length word) (drop (length before) b)) e
              ∙ ap (λ (b : List ℕ). take (length word) b) (drop_at before (word ++ rest) (length before) refl)
              ∙ take_at word rest (length word) refl;
          depth = refl;
          kind = refl;
          xdr_type = refl;
          role = refl;
        },
        subst (λ (n : ℕ). AreEach kinds input names (before ++ word) (map entry_of ls)
            (parts_from kinds n (map entry_of ls))) (length-append before word)
            (each_lent (before ++ word) ls (e ∙ sym (append_assoc before word rest)) lent.1),
      )

-- the lists are those of the value's parts
pub each_listed : (kinds : List KindView) (input names : List ℕ) (ls : List Lent) (es : List Entry)
    (ps : List ValuePart) → map entry_of ls ≡ es → AreLentFrom input ls
    → ps ≡ parts_from kinds 0 (map entry_of ls) → names ≡ names_of (map entry_of ls)
    → AreEach kinds input names [] es ps
each_listed kinds input names ls es ps listed lent parts joined =
    subst (λ (x : List Entry). AreEach kinds input names [] x ps) listed
    (subst (λ (x : List ValuePart). AreEach kinds input names [] (map entry_of ls) x) (sym parts)
    (each_lent kinds input names [] ls joined lent))

-- parts with their counts
pub are_parts_of : (q : Question) (input : List ℕ) (ps : List ValuePart) (names : List ℕ) (used n m : ℕ)
    (begins : BeginsWithValue q input used)
    → AreEach q.kinds input names [] (entries q.kinds q.place begins.value) ps
    → names ≡ names_of (entries q.kinds q.place begins.value) → n ≡ length ps → m ≡ length names
    → AreParts q input ps names (record { used = used; parts = n; names = m })
are_parts_of q input ps names used n m begins each joined count bytes =
    record { begins = begins; each = each; joined = joined; count = count; bytes = bytes }

-- the lists of parts that were counted
pub are_made : (q : Question) → q.limits.bytes % 4 ≡ 0 → (input : List ℕ) (ls : List Lent) (c : PartCounts)
    → AreListed q.kinds q.place q.limits input ls c → (ps : List ValuePart) (names : List ℕ) (used : ℕ)
    → used ≡ c.used → ps ≡ parts_from q.kinds 0 (map entry_of ls) → names ≡ names_of (map entry_of ls)
    → AreParts q input ps names (record { used = used; parts = length ps; names = length names })
are_made q units input ls c are ps names used same made joined =
    let w = whole q.kinds q.place q.limits units input are.value c.used are.whole in
    let begins : BeginsWithValue q input c.used =
    record { value = are.value; outcome = are.whole; fits = w.0; within = w.1; spelled = w.2 } in
    let counted : AreParts q input ps names (record { used = c.used; parts = length ps; names = length names }) =
    are_parts_of q input ps names c.used (length ps) (length names) begins
    (each_listed q.kinds input names ls (entries q.kinds q.place are.value) ps are.each are.from made joined)
    (joined ∙ ap (λ (es : List Entry). names_of es) are.each) refl refl in
    subst (λ (n : ℕ). AreParts q input ps names (record { used = n; parts = length ps; names = length names }))
    (sym same) counted

-- what is listed by a kind that the name names
module _ (d : Declared) (name : List ℕ) (depth bytes : ℕ) (input : List ℕ) (old new : Buffers) (place : ℕ)
    (names : Names d name place) (in_range : AreBounds depth bytes) where
  by_name : (a : Listed) → IsParted (question d place depth bytes) input old new a
      → IsPartedBy d name depth bytes input old new a
  by_name a h = record { place = place; names = names; in_range = in_range; parted = h }

  pub parted_by : (a : Listed) → IsParted (question d place depth bytes) input old new a
      → IsPartedByHeld (Some d) name depth bytes input old new a
  parted_by (listed.Whole c) h = by_name (listed.Whole c) h
  parted_by (listed.Followed c) h = by_name (listed.Followed c) h
  parted_by (listed.Refused f) h = by_name (listed.Refused f) h
  parted_by listed.NoKind h = absurd h
  parted_by listed.BadLimits h = absurd h
  parted_by listed.NoMemory h = by_name listed.NoMemory h
  parted_by listed.NoDeclarations h = absurd h
  parted_by (listed.NoRoom c) h = by_name (listed.NoRoom c) h
