-- The lines of lent parts are those of the values whose layout they are.
use Rattle.std.proofs.Common.{◌≡◌, ℕ, ◌+◌, true, List, [], ◌∷◌, ◌++◌, length, map, drop, refl, sym, ap, subst, ◌∙◌}
use Rattle.std.proofs.Common.{append_assoc}
use Rattle.std.specs.List.{AllByRecursion, flat_map}
use Rattle.std.proofs.lemmas.Bool.{false≢true}
use Rattle.std.proofs.lemmas.List.{append-nil, drop-drop, drop_at, take-append-drop}
use Rattle.std.proofs.lemmas.List.Concat.{flat_map-append}
use Rattle.xdr_types.specs.Kinds.{KindView, Part, kind_at}
use Rattle.xdr_types.specs.Tree as value
use Rattle.xdr_types.specs.Tree.{Values, Tree, from_list}
use Rattle.xdr_types.specs.Fits.{parts, item_part}
use Rattle.xdr_types.specs.Spelling.{own, spelling}
use Rattle.xdr_types.specs.Layout as layout
use Rattle.xdr_types.specs.Layout.{entries, shown}
use Rattle.xdr_types.specs.Outcome.{Outcome, Whole}
use Rattle.xdr_types.specs.Within.{Bounds}
use Rattle.xdr_laws.proofs.Legal.{FitAll, fit_node}
use Rattle.xdr_laws.proofs.WholeUnits.{root_fits, root_spelling}
use Rattle.xdr_parts.specs.Lent.{entry_of, IsLentFrom, AreLentFrom}
use Rattle.xdr_parts.specs.declared.part.Lent.{Lent}
use Rattle.xdr_show.specs.Private.Lines.{lines}
use Rattle.xdr_show.specs.Lent.{ArePartsOf}
use Rattle.xdr_show.specs.Shown.{show_text}
use Rattle.xdr_show.specs.Private.Read.{line_lent, IsReadable}
use Rattle.xdr_show.proofs.Joined.{show_is_lines}
use Rattle.xdr_show.proofs.OnePart.{split, all_left, all_right, all_join}
use Rattle.xdr_show.proofs.NodeParts.{node_says}

nothing_said : (kinds : List KindView) (ls : List Lent) → map entry_of ls ≡ []
    → AllByRecursion (IsReadable kinds) ls × (flat_map (line_lent kinds) ls ≡ [])
nothing_said kinds [] e = (tt, refl)
nothing_said kinds (l ∷ ls) e = absurd (cc e)

lines_of_parts : (kinds : List KindView) (input : List ℕ) (place depth : ℕ) (ps : List Part) (vs : Values)
    (ls : List Lent) (c : List ℕ)
    → FitAll kinds ps vs → drop place input ≡ spelling kinds ps vs ++ c
    → map entry_of ls ≡ layout.layout kinds place depth ps vs → AreLentFrom input ls
    → AllByRecursion (IsReadable kinds) ls × (flat_map (line_lent kinds) ls ≡ lines kinds depth ps vs)
lines_of_parts kinds input place depth [] vs ls c fits represents e lent = nothing_said kinds ls e
lines_of_parts kinds input place depth (p ∷ ps) value.none ls c fits represents e lent = absurd (false≢true fits)
lines_of_parts kinds input place depth (p ∷ ps) (value.node h inner rest) ls c fits represents e lent =
    let f : KindView = kind_at kinds p.kind in
    let o : List ℕ = own f h in
    let si : List ℕ = spelling kinds (parts f h) inner in
    let sr : List ℕ = spelling kinds ps rest in
    let fit = fit_node kinds p ps h inner rest fits in
    let a = split entry_of ls (shown place depth p f h) _ e in
    let b = split entry_of a.1 (layout.layout kinds (place + length o) (depth + 1) (parts f h) inner) _ a.4 in
    let la : AreLentFrom input (a.0 ++ a.1) = subst (λ (x : List Lent). AreLentFrom input x) a.2 lent in
    let lb : AreLentFrom input (b.0 ++ b.1) =
    subst (λ (x : List Lent). AreLentFrom input x) b.2 (all_right (IsLentFrom input) a.0 a.1 la) in
    let here : drop place input ≡ o ++ (si ++ (sr ++ c)) =
    represents ∙ append_assoc (o ++ si) sr c ∙ append_assoc o si (sr ++ c) in
    let under : drop (place + length o) input ≡ si ++ (sr ++ c) =
    sym (drop-drop (length o) place input) ∙ ap (λ (x : List ℕ). drop (length o) x) here
    ∙ drop_at o (si ++ (sr ++ c)) (length o) refl in
    let after : drop (place + length o + length si) input ≡ sr ++ c =
    sym (drop-drop (length si) (place + length o) input) ∙ ap (λ (x : List ℕ). drop (length si) x) under
    ∙ drop_at si (sr ++ c) (length si) refl in
    let first = node_says kinds input place depth p f h refl fit.0 (si ++ (sr ++ c)) here a.0 a.3
    (all_left (IsLentFrom input) a.0 a.1 la) in
    let second = lines_of_parts kinds input (place + length o) (depth + 1) (parts f h) inner b.0 (sr ++ c) fit.1 under
    b.3 (all_left (IsLentFrom input) b.0 b.1 lb) in
    let third = lines_of_parts kinds input (place + length o + length si) depth ps rest b.1 c fit.2 after
    b.4 (all_right (IsLentFrom input) b.0 b.1 lb) in
    let whole : ls ≡ (a.0 ++ b.0) ++ b.1 =
    a.2 ∙ ap (λ (x : List Lent). a.0 ++ x) b.2 ∙ sym (append_assoc a.0 b.0 b.1) in
    let line : Lent → List ℕ = line_lent kinds in
    let joined : flat_map line ((a.0 ++ b.0) ++ b.1) ≡ (flat_map line a.0 ++ flat_map line b.0) ++ flat_map line b.1 =
    flat_map-append line (a.0 ++ b.0) b.1
    ∙ ap (λ (t : List ℕ). t ++ flat_map line b.1) (flat_map-append line a.0 b.0) in (
      subst (λ (x : List Lent). AllByRecursion (IsReadable kinds) x) (sym whole)
          (all_join (IsReadable kinds) (a.0 ++ b.0) b.1 (all_join (IsReadable kinds) a.0 b.0 first.0 second.0) third.0),
      ap (λ (x : List Lent). flat_map line x) whole ∙ joined ∙ cc (first.1, second.1, third.1),
    )

-- parts of a value can be read, and their lines are what is shown of it
pub says_value : (kinds : List KindView) (kind : ℕ) (v : Tree) (input : List ℕ) (ls : List Lent)
    → ArePartsOf kinds kind v input ls
    → AllByRecursion (IsReadable kinds) ls × (flat_map (line_lent kinds) ls ≡ show_text kinds kind v)
says_value kinds kind v input ls are =
    let represents : input ≡ spelling kinds (item_part kind ∷ []) (from_list (v ∷ [])) ++ are.rest =
    are.begins ∙ ap (λ (b : List ℕ). b ++ are.rest) (sym (root_spelling kinds kind v)) in
    let said = lines_of_parts kinds input 0 1 (item_part kind ∷ []) (from_list (v ∷ [])) ls are.rest
    (root_fits kinds kind v are.fits) represents are.listed are.lent in
    (said.0, said.1 ∙ append-nil _ ∙ sym (show_is_lines kinds kind v))

-- what `parts` tells of its list is what `show_parts` asks of it
pub are_parts : (kinds : List KindView) (kind : ℕ) (limits : Bounds) (input : List ℕ) (v : Tree) (n : ℕ)
    (ls : List Lent)
    → Outcome kinds kind limits input (Whole v n) → map entry_of ls ≡ entries kinds kind v → AreLentFrom input ls
    → ArePartsOf kinds kind v input ls
are_parts kinds kind limits input v n ls o listed lent = record {
  fits = o.2.fits;
  rest = drop n input;
  begins = sym (take-append-drop n input) ∙ ap (λ (b : List ℕ). b ++ drop n input) (sym o.2.spelled);
  listed = listed;
  lent = lent;
}

pub lent_by_parts : (kinds : List KindView) (kind : ℕ) (limits : Bounds) (input : List ℕ) (ls : List Lent)
    → (v : Tree) × (n : ℕ) × Outcome kinds kind limits input (Whole v n) × (map entry_of ls ≡ entries kinds kind v)
    → AreLentFrom input ls → (k : ℕ) × (w : Tree) × (b : List ℕ) × ArePartsOf kinds k w b ls
lent_by_parts kinds kind limits input ls h lent =
    (kind, h.0, input, are_parts kinds kind limits input h.0 h.1 ls h.2 h.3 lent)
