-- What becomes of an item, by what is due.
use Rattle.std.proofs.Common.{◌≡◌, ℕ, ℤ, pos, Bool, true, false, ◌<◌, ◌%◌, List, ◌++◌, length, refl, ap, sym}
use Rattle.std.proofs.Common.{◌∙◌, subst, arith, length-append}
use Rattle.std.specs.Prelude.{Result, Ok, Err, Option}
use Rattle.std.proofs.lemmas.Bool.{false≢true}
use Rattle.xdr_units.specs.Numbers.{num4, num8, padded}
use Rattle.xdr_types.specs.Kinds as xdr
use Rattle.xdr_types.specs.Kinds.{KindView, Part, Branch, Constant, kind_at}
use Rattle.xdr_types.specs.Within.{Bounds}
use Rattle.xdr_types.specs.Layout.{Entry, Role, of_number, of_length, of_content}
use Rattle.xdr_types.specs.Outcome.{HasNextUnit}
use Rattle.xdr_laws.specs.Owed.{HasUnit, lead_of, role_of}
use Rattle.xdr_laws.proofs.Known.{one_stands}
use Rattle.xdr_due.specs.Due.{BeginsNode, StandsInHyper, StandsInContent, hyper_kind}
use Rattle.xdr_writer.specs.Items.{ItemView, number, flag, count, content, spelled_as}
use Rattle.xdr_writer.specs.Forms.{HasForm, IsCounted, is_in_range}
use Rattle.xdr_writer.specs.Private.Becomes.{Becomes, IsPlace, IsCountedContent, HasWords, HasTags, in_word, in_wide}
use Rattle.xdr_writer.specs.Private.Bytes.{coded_bytes}
use Rattle.xdr_writer.specs.declared.refusal.Why.TheVariants.{NotInRange}
use Rattle.xdr_writer.specs.declared.refusal.Why.{Why}
use Rattle.xdr_writer.specs.declared.units.Coded.{Coded}
use Rattle.xdr_writer.proofs.Joined.{padded_length}

-- ---- forms that exclude one another

pub counted_no_count : (k : KindView) → IsCountedContent k → IsCounted k → ⊥
counted_no_count (xdr.up_to item max) a b = a
counted_no_count _ a b = b

abbrev size_or : Role → ℕ
size_or (of_content n) = n
size_or _ = 0

pub same_size : (m n : ℕ) → of_content m ≡ of_content n → m ≡ n
same_size m n e = ap size_or e

-- ---- numbers of one unit, of two

pub words_int : (s : List KindView) → HasWords s xdr.int true
words_int s = record { range = λ z. refl; bytes = λ z. refl }

pub words_numbered : (s : List KindView) (cs : List Constant) → HasWords s (xdr.numbered cs) true
words_numbered s cs = record { range = λ z. refl; bytes = λ z. refl }

pub words_unsigned : (s : List KindView) → HasWords s xdr.unsigned false
words_unsigned s = record { range = λ z. refl; bytes = λ z. refl }

pub words_boolean : (s : List KindView) → HasWords s xdr.boolean false
words_boolean s = record { range = λ z. refl; bytes = λ z. refl }

pub words_choice : (s : List KindView) (tag : ℕ) (arms : List Branch) (other : Option Part) (signed : Bool)
    → HasTags (kind_at s tag) signed → HasWords s (xdr.choice tag arms other) signed
words_choice s tag arms other signed h = record { range = h; bytes = λ z. refl }

pub word_fits : (s : List KindView) (k : KindView) (signed : Bool) (z : ℤ) (u : Coded) → HasWords s k signed
    → in_word signed z ≡ true → coded_bytes u ≡ num4 z → Becomes s k of_number (number z) (Ok u)
word_fits s k signed z u h low e = (
  refl,
  h.range z ∙ low,
  e ∙ sym (h.bytes z),
  omega (arith, ap (λ (x : List ℕ). length x) e),
)

pub word_far : (s : List KindView) (k : KindView) (signed : Bool) (z : ℤ) → HasWords s k signed
    → in_word signed z ≡ false → Becomes s k of_number (number z) (Err NotInRange)
word_far s k signed z h far = (refl, λ low. false≢true (sym far ∙ sym (h.range z) ∙ low))

wide_range : (s : List KindView) (signed : Bool) (z : ℤ) → is_in_range s (hyper_kind signed) z ≡ in_wide signed z
wide_range s true z = refl
wide_range s false z = refl

wide_bytes : (signed : Bool) (z : ℤ) → spelled_as (hyper_kind signed) (number z) ≡ num8 z
wide_bytes true z = refl
wide_bytes false z = refl

pub wide_fits : (s : List KindView) (signed : Bool) (z : ℤ) (u : Coded) → in_wide signed z ≡ true
    → coded_bytes u ≡ num8 z → Becomes s (hyper_kind signed) of_number (number z) (Ok u)
wide_fits s signed z u low e = (
  refl,
  wide_range s signed z ∙ low,
  e ∙ sym (wide_bytes signed z),
  omega (arith, ap (λ (x : List ℕ). length x) e),
)

pub wide_far : (s : List KindView) (signed : Bool) (z : ℤ) → in_wide signed z ≡ false
    → Becomes s (hyper_kind signed) of_number (number z) (Err NotInRange)
wide_far s signed z far = (refl, λ low. false≢true (sym far ∙ sym (wide_range s signed z) ∙ low))

-- ---- content

pub counted_fits : (s : List KindView) (k : KindView) (bs : List ℕ) (u : Coded) → IsCountedContent k
    → coded_bytes u ≡ num4 (pos (length bs)) ++ padded bs → Becomes s k of_length (content bs) (Ok u)
counted_fits s (xdr.opaque_up_to max) bs u is e = (
  refl,
  tt,
  e,
  omega (
    arith,
    ap (λ (x : List ℕ). length x) e,
    length-append (num4 (pos (length bs))) (padded bs),
  ),
)
counted_fits s (xdr.text max) bs u is e = (
  refl,
  tt,
  e,
  omega (
    arith,
    ap (λ (x : List ℕ). length x) e,
    length-append (num4 (pos (length bs))) (padded bs),
  ),
)
counted_fits s _ bs u is e = absurd is

pub fixed_fits : (s : List KindView) (limit size : ℕ) (bs : List ℕ) (u : Coded) → 0 < size → length bs ≡ size
    → coded_bytes u ≡ padded bs → Becomes s (xdr.opaque limit) (of_content size) (content bs) (Ok u)
fixed_fits s limit size bs u some same e = (
  ap of_content (sym same),
  tt,
  e,
  omega (arith, ap (λ (x : List ℕ). length x) e, padded_length bs, same, some),
)

-- ---- the part that is due

-- content alone has this role, and then its kind has a fixed size
pub content_kind : (k : KindView) (n : ℕ) (i : ItemView) → HasForm k (of_content n) i
    → (limit : ℕ) × (k ≡ xdr.opaque limit)
content_kind (xdr.opaque limit) n i form = (limit, refl)
content_kind k n (number z) form = absurd cc
content_kind k n (flag b) form = absurd cc
content_kind k n (count m) form = absurd (cc form.0)
content_kind (xdr.opaque_up_to max) n (content bs) form = absurd cc
content_kind (xdr.text max) n (content bs) form = absurd cc
content_kind _ n (content bs) form = absurd form

module _ (s : List KindView) (t : ℕ) (l : Bounds) (b : List ℕ) (units : length b % 4 ≡ 0) (e : Entry)
    (p : IsPlace s t b e) where
  same_entry : (f : Entry) → HasNextUnit s t b f → f ≡ e
  same_entry f h = one_stands s t b units f e h p.next.0

  -- a node is due
  pub node_becomes : (k : ℕ) (i : ItemView) (r : Result Coded Why) → BeginsNode s t l b k
      → (k < length s → HasUnit (lead_of (kind_at s k)) → Becomes s (kind_at s k) (role_of (kind_at s k)) i r)
      → Becomes s (kind_at s e.kind) e.role i r
  node_becomes k i r h each =
      let one : h.0 ≡ e = same_entry h.0 h.1 in
      let kind : k ≡ e.kind = sym h.4 ∙ ap (λ (x : Entry). x.kind) one in
      let role : role_of (kind_at s k) ≡ e.role = sym h.5 ∙ ap (λ (x : Entry). x.role) one in
      let known : k < length s = subst (λ (n : ℕ). n < length s) (sym kind) p.known in
      subst (λ (x : Role). Becomes s (kind_at s e.kind) x i r) role
      (subst (λ (n : ℕ). Becomes s (kind_at s n) (role_of (kind_at s k)) i r) kind (each known h.6))

  -- a hyper integer is due
  pub hyper_becomes : (signed : Bool) (i : ItemView) (r : Result Coded Why) → StandsInHyper s t b signed 0
      → Becomes s (hyper_kind signed) of_number i r → Becomes s (kind_at s e.kind) e.role i r
  hyper_becomes signed i r h each =
      let one : h.0 ≡ e = same_entry h.0 h.1 in
      let role : of_number ≡ e.role = sym h.4 ∙ ap (λ (x : Entry). x.role) one in
      let kind : hyper_kind signed ≡ kind_at s e.kind =
      sym h.5 ∙ ap (λ (x : Entry). kind_at s x.kind) one in
      subst (λ (x : Role). Becomes s (kind_at s e.kind) x i r) role
      (subst (λ (x : KindView). Becomes s x of_number i r) kind each)

  -- half of one is never due between items
  pub never_low : (signed : Bool) → StandsInHyper s t b signed 4 → ⊥
  never_low signed h =
      let one : h.0 ≡ e = same_entry h.0 h.1 in
      let at : h.0.at ≡ e.at = ap (λ (x : Entry). x.at) one in
      omega (arith, at, h.2, p.next.1)

  -- content of fixed size is due
  pub content_becomes : (n : ℕ) (i : ItemView) (r : Result Coded Why) → StandsInContent s t b n
      → ((limit : ℕ) → 0 < n → Becomes s (xdr.opaque limit) (of_content n) i r)
      → Becomes s (kind_at s e.kind) e.role i r
  content_becomes n i r h each =
      let one : h.0 ≡ e = same_entry h.0 h.2 in
      let at : h.0.at ≡ e.at = ap (λ (x : Entry). x.at) one in
      let size : h.1 ≡ n = omega (arith, at, h.4, p.next.1) in
      let role : of_content n ≡ e.role =
      ap of_content (sym size) ∙ sym h.3 ∙ ap (λ (x : Entry). x.role) one in
      let k = content_kind (kind_at s e.kind) n p.item
      (subst (λ (x : Role). HasForm (kind_at s e.kind) x p.item) (sym role) p.form) in
      subst (λ (x : Role). Becomes s (kind_at s e.kind) x i r) role
      (subst (λ (x : KindView). Becomes s x (of_content n) i r) (sym k.1) (each k.0 h.5))
