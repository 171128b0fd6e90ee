-- An item that is found is one, and one that is there is found.
use Rattle.std.proofs.Common.{◌≡◌, ℕ, ◌+◌, Bool, true, false, nat_eq, List, [], ◌∷◌, ◌++◌, length, drop, get_or, Option}
use Rattle.std.proofs.Common.{None, Some, refl, ap, sym, ◌∙◌, subst, append_assoc, eq-eqb, if◌then◌else◌, true≢false}
use Rattle.std.proofs.lemmas.Bool.Decides.{Decides-eqb}
use Rattle.oncrpc_encode.specs.declared.item.Item.{Item}
use Rattle.oncrpc_encode.specs.declared.scan.Reading.TheVariants as reading
use Rattle.oncrpc_encode.specs.Arrays.{IsPiece, Piece, begins_with_space, is_space, mark_of, text_of}
use Rattle.oncrpc_encode.specs.Private.Scanned.{after_plain, chosen, end_from, item_at, past_spaces, plain}
use Rattle.oncrpc_encode.proofs.Stepping.{stops}
use Rattle.oncrpc_encode.proofs.Balanced.{balanced_ends}
use Rattle.oncrpc_encode.proofs.Closing.{reads}
use Rattle.oncrpc_encode.proofs.Places.{cut_at, get_at, one_on}
use Rattle.oncrpc_encode.proofs.Spaces.{spaces, spaces_end}

-- this item begins here or behind white space, and ends before the byte
pub record IsItemAt (text : List ℕ) (at closing : ℕ) (i : Item) : Type 0 where
  pub piece : Piece
  pub rest : List ℕ
  pub own : IsPiece piece
  pub joined : drop at text ≡ text_of piece ++ closing ∷ rest
  pub begin : i.begin ≡ at + length piece.space
  pub end : i.end ≡ at + length piece.space + length piece.body
  pub behind : drop (i.end + 1) text ≡ rest

front_begins : (body x : List ℕ) → begins_with_space (body ++ x) ≡ false → begins_with_space body ≡ false
front_begins [] x e = refl
front_begins (b ∷ bs) x e = e

begins_front : (body : List ℕ) (c : ℕ) (x : List ℕ) → begins_with_space body ≡ false → is_space c ≡ false
    → begins_with_space (body ++ c ∷ x) ≡ false
begins_front [] c x e own = own
begins_front (b ∷ bs) c x e own = e

module _ (text : List ℕ) (at closing : ℕ) (i : Item) where
  abbrev begin : ℕ
  begin = past_spaces at (drop at text)

  tested : (end : ℕ) → end_from begin (plain 0) (drop begin text) ≡ Some end → (b : Bool)
      → nat_eq (get_or text end 0) closing ≡ b
      → (◌≡◌ {A = Option Item} (if b then Some (record { begin = begin; end = end }) else None) (Some i))
      → IsItemAt text at closing i
  tested end found false is run = cc
  tested end found true is run =
      let made : record { begin = begin; end = end } ≡ i = cc in
      let s = spaces at (drop at text) in
      let cut = reads (drop begin text) begin reading.Plain 0 end found in
      let after : drop begin text ≡ s.rest =
      ap (λ (k : ℕ). drop k text) s.place ∙ cut_at text at s.space s.rest s.joined in
      let at_end : drop end text ≡ cut.c ∷ cut.rest =
      ap (λ (k : ℕ). drop k text) cut.next ∙ cut_at text begin cut.body (cut.c ∷ cut.rest) cut.joined in
      let same : cut.c ≡ closing =
      sym (get_at text end cut.c cut.rest at_end) ∙ (Decides-eqb (get_or text end 0) closing).0 is in
      let whole : s.rest ≡ cut.body ++ closing ∷ cut.rest =
      sym after ∙ cut.joined ∙ ap (λ (c : ℕ). cut.body ++ c ∷ cut.rest) same in
      subst (λ (j : Item). IsItemAt text at closing j) made (record {
        piece = record { space = s.space; body = cut.body };
        rest = cut.rest;
        own = record {
          space = s.blank;
          body = cut.balanced;
          begins = front_begins cut.body (closing ∷ cut.rest) (ap begins_with_space (sym whole) ∙ s.begins);
        };
        joined =
            s.joined ∙ ap (λ (z : List ℕ). s.space ++ z) whole
            ∙ sym (append_assoc s.space cut.body (closing ∷ cut.rest));
        begin = s.place;
        end = cut.next ∙ ap (λ (k : ℕ). k + length cut.body) s.place;
        behind = one_on text end cut.c cut.rest at_end;
      })

  ended : (o : Option ℕ) → end_from begin (plain 0) (drop begin text) ≡ o → chosen text closing begin o ≡ Some i
      → IsItemAt text at closing i
  ended None found run = cc
  ended (Some end) found run = tested end found (nat_eq (get_or text end 0) closing) refl run

  pub item_found : item_at text at closing ≡ Some i → IsItemAt text at closing i
  item_found run = ended (end_from begin (plain 0) (drop begin text)) refl run

module _ (text : List ℕ) (at closing : ℕ) (p : Piece) (rest : List ℕ) (own : IsPiece p)
    (joined : drop at text ≡ text_of p ++ closing ∷ rest) where
  abbrev first : ℕ
  first = at + length p.space

  abbrev pub item_of : Item
  item_of = record { begin = first; end = first + length p.body }

  whole : drop at text ≡ p.space ++ (p.body ++ closing ∷ rest)
  whole = joined ∙ append_assoc p.space p.body (closing ∷ rest)

  behind_space : drop first text ≡ p.body ++ closing ∷ rest
  behind_space = cut_at text at p.space (p.body ++ closing ∷ rest) whole

  pub at_closing : drop (first + length p.body) text ≡ closing ∷ rest
  at_closing = cut_at text first p.body (closing ∷ rest) behind_space

  pub behind_closing : drop (first + length p.body + 1) text ≡ rest
  behind_closing = one_on text (first + length p.body) closing rest at_closing

  pub item_made : after_plain 0 (mark_of closing) ≡ None → is_space closing ≡ false
      → item_at text at closing ≡ Some item_of
  item_made last other =
      let place : past_spaces at (drop at text) ≡ first =
      ap (past_spaces at) whole
      ∙ spaces_end at p.space (p.body ++ closing ∷ rest) own.space
      (begins_front p.body closing rest own.begins other) in
      let found : end_from first (plain 0) (p.body ++ closing ∷ rest) ≡ Some (first + length p.body) =
      balanced_ends own.body first 0 (closing ∷ rest) (λ e. absurd (true≢false (sym e)))
      ∙ stops (first + length p.body) (plain 0) closing rest (mark_of closing) refl last in
      let same : nat_eq (get_or text (first + length p.body) 0) closing ≡ true =
      eq-eqb (get_or text (first + length p.body) 0) closing
      (get_at text (first + length p.body) closing rest at_closing) in
      ap (λ (k : ℕ). chosen text closing k (end_from k (plain 0) (drop k text))) place
      ∙ ap (λ (z : List ℕ). chosen text closing first (end_from first (plain 0) z)) behind_space
      ∙ ap (chosen text closing first) found
      ∙ ap (λ (b : Bool). if b then Some item_of else None) same
