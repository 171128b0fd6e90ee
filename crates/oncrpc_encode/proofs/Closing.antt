-- Where an end is found, what stands before it is balanced.
use Rattle.std.proofs.Common.{◌≡◌, ◌≢◌, ℕ, suc, zero, ◌+◌, Bool, true, false, List, [], ◌∷◌, ◌++◌, length, Option, None}
use Rattle.std.proofs.Common.{Some, refl, ap, sym, ◌∙◌, subst, append_assoc, length-append, add-one, arith}
use Rattle.oncrpc_encode.specs.declared.mark.Mark.{Mark}
use Rattle.oncrpc_encode.specs.declared.mark.Mark.TheVariants as mark
use Rattle.oncrpc_encode.specs.declared.scan.Reading.{Reading}
use Rattle.oncrpc_encode.specs.declared.scan.Reading.TheVariants as reading
use Rattle.oncrpc_encode.specs.Arrays.{IsBalanced, IsContent, is_single, mark_of}
use Rattle.oncrpc_encode.specs.Private.Scanned.{after_plain, end_from, escaped, plain, quoted}
use Rattle.oncrpc_encode.proofs.Stepping.{goes_on, stops}
use Rattle.oncrpc_encode.proofs.Balanced.{closes, kept}

-- the bytes are balanced up to one of which more holds
pub record Cut (comma : Bool) (Next : (c at : ℕ) → List ℕ → Type 0) (at : ℕ) (bs : List ℕ) : Type 0 where
  pub body : List ℕ
  pub c : ℕ
  pub rest : List ℕ
  pub balanced : IsBalanced comma body
  pub joined : bs ≡ body ++ c ∷ rest
  pub next : Next c (at + length body) rest

abbrev pub is_within : ℕ → Bool
is_within zero = false
is_within (suc d) = true

-- the byte ends the item, or closes the innermost of so many brackets and the others are closed behind it
abbrev pub Ends : ℕ → (end : ℕ) → (c at : ℕ) → List ℕ → Type 0
Ends zero end c at rest = end ≡ at
Ends (suc d) end c at rest = (mark_of c ≡ mark.Closing) × Cut (is_within d) (Ends d end) (at + 1) rest

abbrev pub Closes : ℕ → (at : ℕ) → List ℕ → (end : ℕ) → Type 0
Closes d at bs end = Cut (is_within d) (Ends d end) at bs

-- the same within a string
pub record Quotes (d at : ℕ) (bs : List ℕ) (end : ℕ) : Type 0 where
  pub content : List ℕ
  pub c : ℕ
  pub rest : List ℕ
  pub own : IsContent content
  pub quote : mark_of c ≡ mark.Quote
  pub joined : bs ≡ content ++ c ∷ rest
  pub closes : Closes d (at + length content + 1) rest end

abbrev pub Reads : Reading → (d at : ℕ) → List ℕ → (end : ℕ) → Type 0
Reads reading.Plain d at bs end = Closes d at bs end
Reads reading.Quoted d at bs end = Quotes d at bs end
Reads reading.Escaped d at bs end =
    (b : ℕ) × (rest : List ℕ) × (bs ≡ b ∷ rest) × Quotes d (at + 1) rest end

-- something balanced in front
more : (comma : Bool) (Next : (c at : ℕ) → List ℕ → Type 0) (at : ℕ) (x bs : List ℕ)
    → ((body : List ℕ) → IsBalanced comma body → IsBalanced comma (x ++ body))
    → Cut comma Next (at + length x) bs → Cut comma Next at (x ++ bs)
more comma Next at x bs front cut = record {
  body = x ++ cut.body;
  c = cut.c;
  rest = cut.rest;
  balanced = front cut.body cut.balanced;
  joined = ap (λ (z : List ℕ). x ++ z) cut.joined ∙ sym (append_assoc x cut.body (cut.c ∷ cut.rest));
  next =
      let place : at + length x + length cut.body ≡ at + length (x ++ cut.body) =
      omega (arith, length-append x cut.body) in
      subst (λ (k : ℕ). Next cut.c k cut.rest) place cut.next;
}

quoted_front : (comma : Bool) (b : ℕ) (content : List ℕ) (c : ℕ) → mark_of b ≡ mark.Quote → IsContent content
    → mark_of c ≡ mark.Quote → (body : List ℕ) → IsBalanced comma body
    → IsBalanced comma ((b ∷ (content ++ c ∷ [])) ++ body)
quoted_front comma b content c q own r body h =
    subst (λ (z : List ℕ). IsBalanced comma (b ∷ z)) (sym (append_assoc content (c ∷ []) body))
    (IsBalanced.string comma b content c body q own r h)

bracket_front : (comma : Bool) (b : ℕ) (inner : List ℕ) (c : ℕ) → mark_of b ≡ mark.Opening → IsBalanced true inner
    → mark_of c ≡ mark.Closing → (body : List ℕ) → IsBalanced comma body
    → IsBalanced comma ((b ∷ (inner ++ c ∷ [])) ++ body)
bracket_front comma b inner c o own r body h =
    subst (λ (z : List ℕ). IsBalanced comma (b ∷ z)) (sym (append_assoc inner (c ∷ []) body))
    (IsBalanced.brackets comma b inner c body o own r h)

single_front : (d b : ℕ) (m : Mark) → mark_of b ≡ m → is_single (is_within d) m ≡ true → (body : List ℕ)
    → IsBalanced (is_within d) body → IsBalanced (is_within d) ((b ∷ []) ++ body)
single_front d b m is one body h =
    IsBalanced.byte (is_within d) b body (ap (is_single (is_within d)) is ∙ one) h

-- what is known of the rest
abbrev Known : (at : ℕ) → List ℕ → (end : ℕ) → Type 0
Known at bs end = (r : Reading) (d : ℕ) → end_from at (record { reading = r; depth = d }) bs ≡ Some end
    → Reads r d at bs end

module _ (at b : ℕ) (bs : List ℕ) (end : ℕ) (known : Known (at + 1) bs end) where
  -- a byte that stands by itself
  single : (d : ℕ) (m : Mark) → mark_of b ≡ m → is_single (is_within d) m ≡ true
      → after_plain d m ≡ Some (plain d) → end_from at (plain d) (b ∷ bs) ≡ Some end → Closes d at (b ∷ bs) end
  single d m is one on run =
      more (is_within d) (Ends d end) at (b ∷ []) bs (single_front d b m is one)
      (known reading.Plain d (sym (goes_on at (plain d) (plain d) b bs m is on) ∙ run))

  -- the byte at which the item ends
  ends : (m : Mark) → mark_of b ≡ m → after_plain 0 m ≡ None → end_from at (plain 0) (b ∷ bs) ≡ Some end
      → Closes 0 at (b ∷ bs) end
  ends m is none run =
      let same : Some at ≡ Some end = sym (stops at (plain 0) b bs m is none) ∙ run in record {
        body = [];
        c = b;
        rest = bs;
        balanced = IsBalanced.nothing false;
        joined = refl;
        next = let e : at ≡ end = cc in omega arith;
      }

  -- a bracket that closes
  shut : (d : ℕ) → mark_of b ≡ mark.Closing → end_from at (plain (suc d)) (b ∷ bs) ≡ Some end
      → Closes (suc d) at (b ∷ bs) end
  shut d is run = record {
    body = [];
    c = b;
    rest = bs;
    balanced = IsBalanced.nothing true;
    joined = refl;
    next =
        let place : at + 1 ≡ at + 0 + 1 = omega arith in
        let behind = known reading.Plain d
        (sym (goes_on at (plain (suc d)) (plain d) b bs mark.Closing is (closes d)) ∙ run) in
        (is, subst (λ (k : ℕ). Closes d k bs end) place behind);
  }

  -- a bracket that opens
  open_up : (d : ℕ) → mark_of b ≡ mark.Opening → end_from at (plain d) (b ∷ bs) ≡ Some end
      → Closes d at (b ∷ bs) end
  open_up d is run =
      let on = ap (λ (n : ℕ). Some (plain n)) (add-one d) in
      let inside = known reading.Plain (suc d)
      (sym (goes_on at (plain d) (plain (suc d)) b bs mark.Opening is on) ∙ run) in
      let x : List ℕ = b ∷ (inside.body ++ inside.c ∷ []) in
      let place : at + 1 + length inside.body + 1 ≡ at + length x =
      omega (arith, length-append inside.body (inside.c ∷ [])) in
      let whole : x ++ inside.rest ≡ b ∷ bs =
      ap (λ (z : List ℕ). b ∷ z) (append_assoc inside.body (inside.c ∷ []) inside.rest ∙ sym inside.joined) in
      subst (λ (z : List ℕ). Closes d at z end) whole
      (more (is_within d) (Ends d end) at x inside.rest
      (bracket_front (is_within d) b inside.body inside.c is inside.balanced inside.next.0)
      (subst (λ (k : ℕ). Closes d k inside.rest end) place inside.next.1))

  -- a quote that begins a string
  quote : (d : ℕ) → mark_of b ≡ mark.Quote → end_from at (plain d) (b ∷ bs) ≡ Some end → Closes d at (b ∷ bs) end
  quote d is run =
      let inside = known reading.Quoted d (sym (goes_on at (plain d) (quoted d) b bs mark.Quote is refl) ∙ run) in
      let x : List ℕ = b ∷ (inside.content ++ inside.c ∷ []) in
      let place : at + 1 + length inside.content + 1 ≡ at + length x =
      omega (arith, length-append inside.content (inside.c ∷ [])) in
      let whole : x ++ inside.rest ≡ b ∷ bs =
      ap (λ (z : List ℕ). b ∷ z) (append_assoc inside.content (inside.c ∷ []) inside.rest ∙ sym inside.joined) in
      subst (λ (z : List ℕ). Closes d at z end) whole
      (more (is_within d) (Ends d end) at x inside.rest
      (quoted_front (is_within d) b inside.content inside.c is inside.own inside.quote)
      (subst (λ (k : ℕ). Closes d k inside.rest end) place inside.closes))

  in_plain : (d : ℕ) (m : Mark) → mark_of b ≡ m → end_from at (plain d) (b ∷ bs) ≡ Some end
      → Closes d at (b ∷ bs) end
  in_plain d mark.Quote is run = quote d is run
  in_plain d mark.Backslash is run = single d mark.Backslash is refl refl run
  in_plain zero mark.Comma is run = ends mark.Comma is refl run
  in_plain (suc d) mark.Comma is run = single (suc d) mark.Comma is refl (kept d) run
  in_plain d mark.Opening is run = open_up d is run
  in_plain zero mark.Closing is run = ends mark.Closing is refl run
  in_plain (suc d) mark.Closing is run = shut d is run
  in_plain d mark.Other is run = single d mark.Other is refl refl run

  -- a byte of a string
  inside : (d : ℕ) (m : Mark) → mark_of b ≡ m → m ≢ mark.Quote → m ≢ mark.Backslash
      → Quotes d (at + 1) bs end → Quotes d at (b ∷ bs) end
  inside d m is nq nb more = record {
    content = b ∷ more.content;
    c = more.c;
    rest = more.rest;
    own = IsContent.byte b more.content (λ e. nq (sym is ∙ e)) (λ e. nb (sym is ∙ e)) more.own;
    quote = more.quote;
    joined = ap (λ (z : List ℕ). b ∷ z) more.joined;
    closes =
        let place : at + 1 + length more.content + 1 ≡ at + length (b ∷ more.content) + 1 = omega arith in
        subst (λ (k : ℕ). Closes d k more.rest end) place more.closes;
  }

  stays : (d : ℕ) (m : Mark) → mark_of b ≡ m → m ≢ mark.Quote → m ≢ mark.Backslash
      → end_from (at + 1) (quoted d) bs ≡ end_from at (quoted d) (b ∷ bs)
      → end_from at (quoted d) (b ∷ bs) ≡ Some end → Quotes d at (b ∷ bs) end
  stays d m is nq nb on run = inside d m is nq nb (known reading.Quoted d (on ∙ run))

  -- a quote that ends the string
  quote_ends : (d : ℕ) → mark_of b ≡ mark.Quote → end_from at (quoted d) (b ∷ bs) ≡ Some end
      → Quotes d at (b ∷ bs) end
  quote_ends d is run = record {
    content = [];
    c = b;
    rest = bs;
    own = IsContent.nothing;
    quote = is;
    joined = refl;
    closes =
        let place : at + 1 ≡ at + 0 + 1 = omega arith in
        subst (λ (k : ℕ). Closes d k bs end) place
        (known reading.Plain d (sym (goes_on at (quoted d) (plain d) b bs mark.Quote is refl) ∙ run));
  }

  -- a backslash
  escapes : (d : ℕ) → mark_of b ≡ mark.Backslash → end_from at (quoted d) (b ∷ bs) ≡ Some end
      → Quotes d at (b ∷ bs) end
  escapes d is run =
      let behind = known reading.Escaped d
      (sym (goes_on at (quoted d) (escaped d) b bs mark.Backslash is refl) ∙ run) in
      let e = behind.0 in
      let more = behind.3 in record {
        content = b ∷ e ∷ more.content;
        c = more.c;
        rest = more.rest;
        own = IsContent.escape b e more.content is more.own;
        quote = more.quote;
        joined = ap (λ (z : List ℕ). b ∷ z) (behind.2 ∙ ap (λ (z : List ℕ). e ∷ z) more.joined);
        closes =
            let place : at + 1 + 1 + length more.content + 1 ≡ at + length (b ∷ e ∷ more.content) + 1 = omega arith in
            subst (λ (k : ℕ). Closes d k more.rest end) place more.closes;
      }

  in_string : (d : ℕ) (m : Mark) → mark_of b ≡ m → end_from at (quoted d) (b ∷ bs) ≡ Some end
      → Quotes d at (b ∷ bs) end
  in_string d mark.Quote is run = quote_ends d is run
  in_string d mark.Backslash is run = escapes d is run
  in_string d mark.Comma is run =
      stays d mark.Comma is (λ e. cc) (λ e. cc)
      (sym (goes_on at (quoted d) (quoted d) b bs mark.Comma is refl)) run
  in_string d mark.Opening is run =
      stays d mark.Opening is (λ e. cc) (λ e. cc)
      (sym (goes_on at (quoted d) (quoted d) b bs mark.Opening is refl)) run
  in_string d mark.Closing is run =
      stays d mark.Closing is (λ e. cc) (λ e. cc)
      (sym (goes_on at (quoted d) (quoted d) b bs mark.Closing is refl)) run
  in_string d mark.Other is run =
      stays d mark.Other is (λ e. cc) (λ e. cc)
      (sym (goes_on at (quoted d) (quoted d) b bs mark.Other is refl)) run

  pub one_more : (r : Reading) (d : ℕ) → end_from at (record { reading = r; depth = d }) (b ∷ bs) ≡ Some end
      → Reads r d at (b ∷ bs) end
  one_more reading.Plain d run = in_plain d (mark_of b) refl run
  one_more reading.Quoted d run = in_string d (mark_of b) refl run
  one_more reading.Escaped d run = (
    b,
    bs,
    refl,
    known reading.Quoted d (sym (goes_on at (escaped d) (quoted d) b bs (mark_of b) refl refl) ∙ run),
  )

none_ends : (at : ℕ) (r : Reading) (d end : ℕ) → end_from at (record { reading = r; depth = d }) [] ≡ Some end → ⊥
unfolding end_from
none_ends at r d end run = cc

-- where an end is found, the bytes before it are balanced
pub reads : (bs : List ℕ) (at : ℕ) (r : Reading) (d end : ℕ)
    → end_from at (record { reading = r; depth = d }) bs ≡ Some end → Reads r d at bs end
reads [] at r d end run = absurd (none_ends at r d end run)
reads (b ∷ bs) at r d end run =
    one_more at b bs end (λ s e. reads bs (at + 1) s e end) r d run
