-- The lines of the lent parts of one node.
use Rattle.std.proofs.Common.{◌≡◌, ℕ, ◌+◌, ◌<◌, true, Option, None, Some, List, [], ◌∷◌, ◌++◌, length, map, take, drop}
use Rattle.std.proofs.Common.{refl, sym, ap, subst, ◌∙◌, append_assoc, lit<}
use Rattle.std.specs.Prelude.{MatchOption, ⊤}
use Rattle.std.specs.List.{AllByRecursion, flat_map}
use Rattle.std.proofs.lemmas.List.{append-nil, drop-drop, drop_at, take_at}
use Rattle.std.specs.Int.{w32, from_be_bytes}
use Rattle.xdr_units.specs.Numbers.{pad, padded, word}
use Rattle.xdr_types.specs.Kinds as xdr
use Rattle.xdr_types.specs.Kinds.{KindView, Part, kind_at}
use Rattle.xdr_types.specs.Tree as value
use Rattle.xdr_types.specs.Tree.{Head}
use Rattle.xdr_types.specs.Fits.{is_legal}
use Rattle.xdr_types.specs.Spelling.{own}
use Rattle.xdr_types.specs.Layout as layout
use Rattle.xdr_types.specs.Layout.{Entry, entry, shown}
use Rattle.xdr_laws.specs.Owed.{flag, silent_head}
use Rattle.xdr_laws.proofs.Legal.{IsLegal, is_legal_of}
use Rattle.xdr_laws.proofs.GoesOn.{legal_known}
use Rattle.xdr_parts.specs.Lent.{entry_of, size_in, IsLentFrom, AreLentFrom}
use Rattle.xdr_parts.specs.declared.part.Lent.{Lent}
use Rattle.xdr_parts.specs.declared.part.Role.{Role}
use Rattle.xdr_parts.specs.declared.part.Role.TheVariants.{Number, Flag, Length, Content, Group}
use Rattle.xdr_show.specs.Private.Lines.{node_line}
use Rattle.xdr_show.specs.Private.Read.{shown_in, line_in, line_lent, IsSized, IsReadable}
use Rattle.xdr_show.proofs.Heads.{IsRead, word_back, read_int, read_unsigned, read_hyper, read_unsigned_hyper}
use Rattle.xdr_show.proofs.Heads.{read_boolean, read_numbered, read_tag}
use Rattle.xdr_show.proofs.OnePart.{role_number, role_flag, role_length, role_content, role_group, Is, Reads, readable}
use Rattle.xdr_show.proofs.OnePart.{line_is}

module _ (kinds : List KindView) (input : List ℕ) (place depth : ℕ) (p : Part) where
  -- parts that can be read, and say this
  abbrev Say : List Lent → (text : List ℕ) → Type 0
  Say ls text = AllByRecursion (IsReadable kinds) ls × (flat_map (line_lent kinds) ls ≡ text)

  -- its bytes are those that stand at its place
  bytes_at : (l : Lent) (at : ℕ) (q c : List ℕ) → l.at ≡ at → length l.bytes.now ≡ length q → IsLentFrom input l
      → drop at input ≡ q ++ c → l.bytes.now ≡ q
  bytes_at l at q c place long lent represents =
      lent.1 ∙ ap (λ (n : ℕ). take n (drop l.at input)) long ∙ ap (λ (n : ℕ). take (length q) (drop n input)) place
      ∙ ap (λ (b : List ℕ). take (length q) b) represents ∙ take_at q c (length q) refl

  module _ (l : Lent) (at : ℕ) (q c : List ℕ) (lent : IsLentFrom input l) (represents : drop at input ≡ q ++ c) where
    -- a part of units
    units : (r : Role) (role : layout.Role) → entry_of l ≡ entry at (length q) depth p role → l.role ≡ r
        → ((n : ℕ) → size_in r n ≡ n) → Is l depth p r q
    units r role e is plain = record {
      role = is;
      bytes = bytes_at l at q c (ap (λ (x : Entry). x.at) e)
          (sym (plain (length l.bytes.now)) ∙ ap (λ (x : Role). size_in x (length l.bytes.now)) (sym is)
          ∙ ap (λ (x : Entry). x.size) e) lent represents;
      deep = ap (λ (x : Entry). x.depth) e;
      kind = ap (λ (x : Entry). x.kind) e;
      name = ap (λ (x : Entry). x.name) e;
    }

    number_part : entry_of l ≡ entry at (length q) depth p layout.of_number → Is l depth p Number q
    number_part e = units Number layout.of_number e (role_number l.role (length l.bytes.now)
        (ap (λ (x : Entry). x.role) e)) (λ n. refl)

    flag_part : entry_of l ≡ entry at (length q) depth p layout.of_flag → Is l depth p Flag q
    flag_part e = units Flag layout.of_flag e (role_flag l.role (length l.bytes.now) (ap (λ (x : Entry). x.role) e))
        (λ n. refl)

    length_part : entry_of l ≡ entry at (length q) depth p layout.of_length → Is l depth p Length q
    length_part e = units Length layout.of_length e (role_length l.role (length l.bytes.now)
        (ap (λ (x : Entry). x.role) e)) (λ n. refl)

    group_part : entry_of l ≡ entry at (length q) depth p layout.of_group → Is l depth p Group q
    group_part e = units Group layout.of_group e (role_group l.role (length l.bytes.now) (ap (λ (x : Entry). x.role) e))
        (λ n. refl)

    content_part : (size : ℕ) → entry_of l ≡ entry at size depth p (layout.of_content (length q))
        → Is l depth p Content q
    content_part size e =
        let r = role_content l.role (length l.bytes.now) (length q) (ap (λ (x : Entry). x.role) e) in
        record {
          role = r.0;
          bytes = bytes_at l at q c (ap (λ (x : Entry). x.at) e) r.1 lent represents;
          deep = ap (λ (x : Entry). x.depth) e;
          kind = ap (λ (x : Entry). x.kind) e;
          name = ap (λ (x : Entry). x.name) e;
        }

  -- one part that shows a head
  one_says : (l : Lent) (r : Role) (q : List ℕ) (h : Head) → Is l depth p r q → IsLegal kinds (kind_at kinds p.kind) h
      → IsSized (kind_at kinds p.kind) r (length q) → shown_in kinds (kind_at kinds p.kind) r q ≡ Some h
      → Say (l ∷ []) (node_line kinds depth p h)
  one_says l r q h is legal sized shows =
      let reads : Reads kinds p.kind r q = (
        legal_known kinds p.kind h legal,
        sized,
        subst (λ (o : Option Head). MatchOption o ⊤ (λ g. is_legal kinds (kind_at kinds p.kind) g ≡ true)) (sym shows)
            (is_legal_of kinds (kind_at kinds p.kind) h legal),
      ) in (
        (readable kinds l depth p r q is reads, tt),
        append-nil (line_lent kinds l) ∙ line_is kinds l depth p r q is
            ∙ ap (λ (o : Option Head). line_in kinds (kind_at kinds p.kind) depth p.name o) shows,
      )

  module _ (f : KindView) (same : f ≡ kind_at kinds p.kind) (h : Head) (legal : IsLegal kinds f h) where
    says : (l : Lent) (r : Role) (q : List ℕ) → Is l depth p r q → IsSized f r (length q)
        → shown_in kinds f r q ≡ Some h → Say (l ∷ []) (node_line kinds depth p h)
    says l r q is sized shows =
        one_says l r q h is (subst (λ (k : KindView). IsLegal kinds k h) same legal)
        (subst (λ (k : KindView). IsSized k r (length q)) same sized)
        (subst (λ (k : KindView). shown_in kinds k r q ≡ Some h) same shows)

    number_says : IsRead kinds f h → (c : List ℕ) → drop place input ≡ own f h ++ c → (ls : List Lent)
        → map entry_of ls ≡ entry place (length (own f h)) depth p layout.of_number ∷ [] → AreLentFrom input ls
        → Say ls (node_line kinds depth p h)
    number_says read c represents [] e lent = absurd (cc e)
    number_says read c represents (l ∷ m ∷ ls) e lent = absurd (cc e)
    number_says read c represents (l ∷ []) e lent =
        says l Number (own f h) (number_part l place (own f h) c lent.0 represents (cc e)) read.1 (ap Some read.0)

    flag_says : flag (from_be_bytes w32 (own f h)) ≡ h → length (own f h) ≡ 4 → (c : List ℕ)
        → drop place input ≡ own f h ++ c → (ls : List Lent)
        → map entry_of ls ≡ entry place (length (own f h)) depth p layout.of_flag ∷ [] → AreLentFrom input ls
        → Say ls (node_line kinds depth p h)
    flag_says read long c represents [] e lent = absurd (cc e)
    flag_says read long c represents (l ∷ m ∷ ls) e lent = absurd (cc e)
    flag_says read long c represents (l ∷ []) e lent =
        says l Flag (own f h) (flag_part l place (own f h) c lent.0 represents (cc e)) long (ap Some read)

    group_says : silent_head f ≡ h → (ls : List Lent)
        → map entry_of ls ≡ entry place 0 depth p layout.of_group ∷ [] → AreLentFrom input ls
        → Say ls (node_line kinds depth p h)
    group_says read [] e lent = absurd (cc e)
    group_says read (l ∷ m ∷ ls) e lent = absurd (cc e)
    group_says read (l ∷ []) e lent =
        says l Group [] (group_part l place [] (drop place input) lent.0 refl (cc e)) tt (ap Some read)

  -- a count of items
  count_says : (item max n : ℕ) → xdr.up_to item max ≡ kind_at kinds p.kind
      → IsLegal kinds (xdr.up_to item max) (value.items n) → (c : List ℕ) → drop place input ≡ word n ++ c
      → (ls : List Lent) → map entry_of ls ≡ entry place 4 depth p layout.of_length ∷ [] → AreLentFrom input ls
      → Say ls (node_line kinds depth p (value.items n))
  count_says item max n same legal c represents [] e lent = absurd (cc e)
  count_says item max n same legal c represents (l ∷ m ∷ ls) e lent = absurd (cc e)
  count_says item max n same legal c represents (l ∷ []) e lent =
      says (xdr.up_to item max) same (value.items n) legal l Length (word n)
      (length_part l place (word n) c lent.0 represents (cc e)) refl
      (ap (λ (x : ℕ). Some (value.items x)) (word_back n legal.1))

  -- content, of a kind that has it
  content_says : (f : KindView) → f ≡ kind_at kinds p.kind → (bs : List ℕ) → IsLegal kinds f (value.bytes bs)
      → (at : ℕ) (c : List ℕ) → drop at input ≡ padded bs ++ c → (ls : List Lent)
      → map entry_of ls ≡ layout.content at depth p (length bs) → AreLentFrom input ls
      → Say ls (node_line kinds depth p (value.bytes bs))
  content_says f same bs legal at c represents [] e lent = absurd (cc e)
  content_says f same bs legal at c represents (l ∷ m ∷ ls) e lent = absurd (cc e)
  content_says f same bs legal at c represents (l ∷ []) e lent =
      let behind : drop at input ≡ bs ++ (pad (length bs) ++ c) = represents ∙ append_assoc bs (pad (length bs)) c in
      says f same (value.bytes bs) legal l Content bs
      (content_part l at bs (pad (length bs) ++ c) lent.0 behind (length bs + length (pad (length bs))) (cc e)) tt refl

  -- a length, which has no line, and its content
  counted_says : (f : KindView) → f ≡ kind_at kinds p.kind → ((b : List ℕ) → shown_in kinds f Length b ≡ None)
      → (bs : List ℕ) → IsLegal kinds f (value.bytes bs)
      → (c : List ℕ) → drop place input ≡ (word (length bs) ++ padded bs) ++ c → (ls : List Lent)
      → map entry_of ls ≡ entry place 4 depth p layout.of_length ∷ layout.content (place + 4) depth p (length bs)
      → AreLentFrom input ls → Say ls (node_line kinds depth p (value.bytes bs))
  counted_says f same none bs legal c represents [] e lent = absurd (cc e)
  counted_says f same none bs legal c represents (l ∷ ls) e lent =
      let u : List ℕ = word (length bs) in
      let first : drop place input ≡ u ++ (padded bs ++ c) = represents ∙ append_assoc u (padded bs) c in
      let behind : drop (place + 4) input ≡ padded bs ++ c =
      sym (drop-drop 4 place input) ∙ ap (λ (b : List ℕ). drop 4 b) first ∙ drop_at u (padded bs ++ c) 4 refl in
      let is : Is l depth p Length u = length_part l place u (padded bs ++ c) lent.0 first (cc e) in
      let nothing : shown_in kinds (kind_at kinds p.kind) Length u ≡ None =
      subst (λ (k : KindView). shown_in kinds k Length u ≡ None) same (none u) in
      let reads : Reads kinds p.kind Length u = (
        legal_known kinds p.kind (value.bytes bs) (subst (λ (k : KindView). IsLegal kinds k (value.bytes bs)) same
            legal),
        refl,
        subst (λ (o : Option Head). MatchOption o ⊤ (λ g. is_legal kinds (kind_at kinds p.kind) g ≡ true))
            (sym nothing) tt,
      ) in
      let line : line_lent kinds l ≡ [] =
      line_is kinds l depth p Length u is
      ∙ ap (λ (o : Option Head). line_in kinds (kind_at kinds p.kind) depth p.name o) nothing in
      let others = content_says f same bs legal (place + 4) c behind ls (cc e) lent.1 in (
        (readable kinds l depth p Length u is reads, others.0),
        ap (λ (t : List ℕ). t ++ flat_map (line_lent kinds) ls) line ∙ others.1,
      )

  -- the parts of a node by itself
  pub node_says : (f : KindView) (h : Head) → f ≡ kind_at kinds p.kind → IsLegal kinds f h → (c : List ℕ)
      → drop place input ≡ own f h ++ c → (ls : List Lent) → map entry_of ls ≡ shown place depth p f h
      → AreLentFrom input ls → Say ls (node_line kinds depth p h)
  node_says xdr.int (value.int z) same l c represents ls e lent =
      number_says xdr.int same (value.int z) l (read_int kinds z l) c represents ls e lent
  node_says xdr.unsigned (value.unsigned n) same l c represents ls e lent =
      number_says xdr.unsigned same (value.unsigned n) l (read_unsigned kinds n l) c represents ls e lent
  node_says xdr.hyper (value.hyper z) same l c represents ls e lent =
      number_says xdr.hyper same (value.hyper z) l (read_hyper kinds z l) c represents ls e lent
  node_says xdr.unsigned_hyper (value.unsigned_hyper n) same l c represents ls e lent =
      number_says xdr.unsigned_hyper same (value.unsigned_hyper n) l (read_unsigned_hyper kinds n l) c represents ls e
      lent
  node_says xdr.boolean (value.boolean b) same l c represents ls e lent =
      number_says xdr.boolean same (value.boolean b) l (read_boolean kinds b) c represents ls e lent
  node_says (xdr.numbered members) (value.numbered z) same l c represents ls e lent =
      number_says (xdr.numbered members) same (value.numbered z) l (read_numbered kinds members z l) c represents ls e
      lent
  node_says (xdr.opaque size) (value.bytes bs) same l c represents ls e lent =
      content_says (xdr.opaque size) same bs l place c represents ls e lent
  node_says (xdr.opaque_up_to max) (value.bytes bs) same l c represents ls e lent =
      counted_says (xdr.opaque_up_to max) same (λ b. refl) bs l c represents ls e lent
  node_says (xdr.text max) (value.bytes bs) same l c represents ls e lent =
      counted_says (xdr.text max) same (λ b. refl) bs l c represents ls e lent
  node_says (xdr.fixed item size) (value.items n) same l c represents ls e lent =
      group_says (xdr.fixed item size) same (value.items n) l (ap value.items (sym l)) ls e lent
  node_says (xdr.up_to item max) (value.items n) same l c represents ls e lent =
      count_says item max n same l c represents ls e lent
  node_says (xdr.structure fields) value.fields same l c represents ls e lent =
      group_says (xdr.structure fields) same value.fields l refl ls e lent
  node_says (xdr.choice tag arms other) (value.tag z) same l c represents ls e lent =
      number_says (xdr.choice tag arms other) same (value.tag z) l (read_tag kinds tag arms other z l) c represents ls e
      lent
  node_says (xdr.maybe item) value.present same l c represents ls e lent =
      flag_says (xdr.maybe item) same value.present l (ap flag (word_back 1 (lit< tt))) refl c represents ls e lent
  node_says (xdr.maybe item) value.absent same l c represents ls e lent =
      flag_says (xdr.maybe item) same value.absent l (ap flag (word_back 0 (lit< tt))) refl c represents ls e lent
  node_says xdr.nothing value.nothing same l c represents ls e lent =
      group_says xdr.nothing same value.nothing l refl ls e lent
  node_says _ _ same l c represents ls e lent = absurd l
