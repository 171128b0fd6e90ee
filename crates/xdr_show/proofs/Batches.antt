-- The lines of parts that come a few at a time.
use Rattle.std.proofs.Common.{◌≡◌, ℕ, List, [], ◌++◌, map, refl, sym, ap, subst, ◌∙◌, append_assoc}
use Rattle.std.specs.List.{AllByRecursion, flat_map}
use Rattle.std.proofs.lemmas.List.{append-nil, map-append}
use Rattle.std.proofs.lemmas.List.Concat.{flat_map-append}
use Rattle.xdr_types.specs.Kinds.{KindView}
use Rattle.xdr_types.specs.Tree.{Tree}
use Rattle.xdr_types.specs.Layout.{Entry, entries}
use Rattle.xdr_types.specs.Spelling.{bytes_of}
use Rattle.xdr_types.specs.Within.{Bounds}
use Rattle.xdr_parts.specs.Lent.{entry_of, IsLentFrom, AreLentFrom}
use Rattle.xdr_parts.specs.Coming.{Awaits, HandsOut, IsOneValue}
use Rattle.xdr_parts.specs.declared.part.Lent.{Lent}
use Rattle.xdr_parts.specs.declared.coming.PartWalk.{PartWalk}
use Rattle.xdr_parts.proofs.Keeping.{lent_append}
use Rattle.xdr_parts.proofs.Lending.{value_lends}
use Rattle.xdr_show.specs.Lent.{ArePartsOf}
use Rattle.xdr_show.specs.Shown.{show_text}
use Rattle.xdr_show.specs.Private.Read.{line_lent, IsReadable}
use Rattle.xdr_show.proofs.OnePart.{split, all_left, all_right}
use Rattle.xdr_show.proofs.Parts.{says_value}

-- The lines of the first parts of a value are written, and the others are still to come.
pub record HasSaid (kinds : List KindView) (kind : ℕ) (v : Tree) (bytes : List ℕ) (w : PartWalk) (out : List ℕ)
    : Type 0 where
  pub done : List Lent
  pub rest : List Entry
  pub joined : entries kinds kind v ≡ map entry_of done ++ rest
  pub lent : AreLentFrom bytes done
  pub awaits : Awaits w bytes rest
  pub said : out ≡ flat_map (line_lent kinds) done

-- before the first part
pub nothing_said_yet : (kinds : List KindView) (kind : ℕ) (v : Tree) (bytes : List ℕ) (w : PartWalk) (out : List ℕ)
    → Awaits w bytes (entries kinds kind v) → out ≡ [] → HasSaid kinds kind v bytes w out
nothing_said_yet kinds kind v bytes w out a none = record {
  done = [];
  rest = entries kinds kind v;
  joined = refl;
  lent = tt;
  awaits = a;
  said = none;
}

module _ (kinds : List KindView) (kind : ℕ) (limits : Bounds) (v : Tree) (bytes : List ℕ)
    (is : IsOneValue kinds kind limits bytes v) where
  begins : bytes ≡ bytes_of kinds kind v ++ []
  begins = is.1 ∙ sym (append-nil (bytes_of kinds kind v))

  -- the first parts of the value, with others behind them, are all of it
  with_others : (ls : List Lent) (rest : List Entry) → entries kinds kind v ≡ map entry_of ls ++ rest
      → AreLentFrom bytes ls → (more : List Lent) × ArePartsOf kinds kind v bytes (ls ++ more)
  with_others ls rest joined lent =
      let all = value_lends kinds kind v bytes [] is.0.0 begins in
      let s = split entry_of all.parts (map entry_of ls) rest (all.each ∙ joined) in (
        s.1,
        record {
          fits = is.0.0;
          rest = [];
          begins = begins;
          listed = map-append entry_of ls s.1 ∙ ap (λ (z : List Entry). map entry_of ls ++ z) s.4 ∙ sym joined;
          lent = lent_append bytes ls s.1 lent
              (all_right (IsLentFrom bytes) s.0 s.1 (subst (λ (x : List Lent). AreLentFrom bytes x) s.2 all.from));
        },
      )

  -- parts that come next
  module _ (old new : PartWalk) (out : List ℕ) (h : HasSaid kinds kind v bytes old out)
      (next : HandsOut new bytes h.rest) where
    abbrev batch : List Lent
    batch = new.walk.taken.list.items

    joined_more : entries kinds kind v ≡ map entry_of (h.done ++ batch) ++ next.rest
    joined_more =
        h.joined ∙ ap (λ (z : List Entry). map entry_of h.done ++ z) next.joined
        ∙ sym (append_assoc (map entry_of h.done) (map entry_of batch) next.rest)
        ∙ ap (λ (z : List Entry). z ++ next.rest) (sym (map-append entry_of h.done batch))

    lent_more : AreLentFrom bytes (h.done ++ batch)
    lent_more = lent_append bytes h.done batch h.lent next.lent

    -- they can be read
    pub are_ready : AllByRecursion (IsReadable kinds) batch
    are_ready =
        let all = with_others (h.done ++ batch) next.rest joined_more lent_more in
        let ready = (says_value kinds kind v bytes ((h.done ++ batch) ++ all.0) all.1).0 in
        all_right (IsReadable kinds) h.done batch (all_left (IsReadable kinds) (h.done ++ batch) all.0 ready)

    -- and their lines come behind those before
    pub said_more : (out' : List ℕ) → out' ≡ out ++ flat_map (line_lent kinds) batch
        → HasSaid kinds kind v bytes new out'
    said_more out' is_more = record {
      done = h.done ++ batch;
      rest = next.rest;
      joined = joined_more;
      lent = lent_more;
      awaits = next.awaits;
      said = is_more ∙ ap (λ (z : List ℕ). z ++ flat_map (line_lent kinds) batch) h.said
          ∙ sym (flat_map-append (line_lent kinds) h.done batch);
    }

  -- where no part is left to come all lines are written
  pub all_said : (w : PartWalk) (out : List ℕ) (h : HasSaid kinds kind v bytes w out) → h.rest ≡ []
      → out ≡ show_text kinds kind v
  all_said w out h none =
      let are : ArePartsOf kinds kind v bytes h.done = record {
        fits = is.0.0;
        rest = [];
        begins = begins;
        listed = sym (h.joined ∙ ap (λ (z : List Entry). map entry_of h.done ++ z) none
            ∙ append-nil (map entry_of h.done));
        lent = h.lent;
      } in
      h.said ∙ (says_value kinds kind v bytes h.done are).1
