-- The first fault of what is due: what a step of the walk leads to.
use Rattle.std.proofs.Common.{◌≡◌, ℕ, ◌<◌, ◌⊎◌, inl, inr, List, [], ◌∷◌, ◌++◌, length}
use Rattle.std.proofs.Common.{true, ◌&&◌, refl, ap, sym, ◌∙◌, subst, arith}
use Rattle.std.proofs.lemmas.Bool.{and_from}
use Rattle.xdr_types.specs.Kinds.{KindView, Part, kind_at}
use Rattle.xdr_types.specs.Tree as value
use Rattle.xdr_types.specs.Tree.{Head, Values}
use Rattle.xdr_types.specs.Fits.{is_legal, parts}
use Rattle.json.specs.Json.{Json}
use Rattle.xdr_json.specs.Spelled.{shows, under, spell, spells}
use Rattle.xdr_json.proofs.Once.{AreApart}
use Rattle.xdr_json_reader.specs.Nodes.{Due, each, inside, Shows}
use Rattle.xdr_json_reader.specs.Reasons.{Wrong, WantsNone, AllPass, IsRight}
use Rattle.xdr_json_reader.specs.Reasons.{behind, here, in_part, lacks, in_member, on_key}
use Rattle.xdr_json_reader.specs.Private.Entries.{dues, due_of}
use Rattle.xdr_json_reader.specs.Private.Pending.{Took, work}
use Rattle.xdr_json_reader.specs.Private.Walk.{First, FirstIn, Opens, Turns, Walks}
use Rattle.xdr_json_reader.specs.declared.fault.JsonReason.{JsonReason}
use Rattle.xdr_json_reader.specs.declared.reading_entry.Entry.{Entry}
use Rattle.xdr_json_reader.proofs.Fields.{dues_push}
use Rattle.xdr_json_reader.proofs.Meant.{as_many}
use Rattle.xdr_json_reader.proofs.Sizes.{took_less}

-- ---- lists of what is due

pub all_append : (P : Due → Type 0) (xs ds : List Due) → AllPass P (xs ++ ds) → AllPass P xs × AllPass P ds
all_append P [] ds a = (tt, a)
all_append P (x ∷ xs) ds a = let more = all_append P xs ds a.1 in ((a.0, more.0), more.1)

-- the first fault of two lists is that of the first, or all of the first is right
pub first_append : (kinds : List KindView) (xs ds : List Due) (w : JsonReason) → First kinds (xs ++ ds) w
    → First kinds xs w ⊎ (AllPass (IsRight kinds) xs × First kinds ds w)
first_append kinds [] ds w f = inr (tt, f)
first_append kinds (x ∷ xs) ds w (behind _ _ _ p f) =
    elim (first_append kinds xs ds w f) [
      | inl g ↦ inl (behind x xs w p g)
      | inr r ↦ inr ((p, r.0), r.1)
    ]
first_append kinds (x ∷ xs) ds w (here _ _ _ n h) = inl (here x xs w n h)
first_append kinds (x ∷ xs) ds w (in_part _ _ h _ n s f) = inl (in_part x xs h w n s f)
first_append kinds (_ ∷ xs) ds _ (lacks place ms _ ps wants m) = inl (lacks place ms xs ps wants m)
first_append kinds (_ ∷ xs) ds w (in_member place ms _ ps _ wants m f) =
    inl (in_member place ms xs ps w wants m f)
first_append kinds (_ ∷ xs) ds w (on_key place ms _ ps _ wants e a) = inl (on_key place ms xs ps w wants e a)

-- ---- what is right

-- where all parts are right, they have values
all_spelled : (kinds : List KindView) (ps : List Part) (js : List Json) → length ps ≡ length js
    → AllPass (IsRight kinds) (each ps js) → (vs : Values) × (spell kinds ps js vs ≡ true)
all_spelled kinds [] [] e a = (value.none, refl)
all_spelled kinds [] (j ∷ js) e a = absurd (omega (arith, e))
all_spelled kinds (p ∷ ps) [] e a = absurd (omega (arith, e))
all_spelled kinds (p ∷ ps) (j ∷ js) e a =
    let t = a.0 in
    let rest = all_spelled kinds ps js (omega (arith, e)) a.1 in (
      value.node t.0.0 t.0.1 rest.0,
      and_from (spells kinds p.kind j t.0) (spell kinds ps js rest.0) t.1 rest.1,
    )

-- so a node is right whose parts are
pub right_inside : (kinds : List KindView) (d : Due) (h : Head) → Shows kinds (kind_at kinds d.0) d.1 h
    → AllPass (IsRight kinds) (inside kinds d h) → IsRight kinds d
right_inside kinds d h s a =
    let f = kind_at kinds d.0 in
    let vs = all_spelled kinds (parts f h) (under kinds f h d.1) (as_many kinds f h d.1 s) a in (
      (h, vs.0),
      and_from (is_legal kinds f h && shows kinds f h d.1) (spell kinds (parts f h) (under kinds f h d.1) vs.0)
          (and_from (is_legal kinds f h) (shows kinds f h d.1) s.legal s.shown) vs.1,
    )

-- ---- a node whose members are not wanted by name

pub opens_took : (kinds : List KindView) → AreApart kinds → (place : ℕ) (j : Json) (out new : List ℕ)
    (due next : List Due) → WantsNone kinds (kind_at kinds place) j
    → Took kinds (kind_at kinds place) j out new due next → Opens kinds (place, j) due next
opens_took kinds apart place j out new due next none t = record {
  parts = inside kinds (place, j) t.head;
  due = t.parts;
  first = λ w f ds. in_part (place, j) ds t.head w none t.shows f;
  right = λ a. right_inside kinds (place, j) t.head t.shows a;
  less = took_less kinds apart place j out new due next t;
}

pub first_here : (kinds : List KindView) (d : Due) (w : JsonReason) → WantsNone kinds (kind_at kinds d.0) d.1
    → Wrong kinds (kind_at kinds d.0) d.1 w → FirstIn kinds d w
first_here kinds d w none wrong = λ ds. here d ds w none wrong

-- ---- the walk

pub walks_start : (kinds : List KindView) (root : Due) (told : JsonReason) → Walks kinds root (root ∷ []) told
walks_start kinds root told = record { first = λ w f. f; last = λ a. inr a.0 }

pub walks_on : (kinds : List KindView) (root d : Due) (ds new : List Due) (told : JsonReason)
    → Walks kinds root (d ∷ ds) told → Opens kinds d ds new → Walks kinds root new told
walks_on kinds root d ds new told walks o = record {
  first = λ w f.
      elim (first_append kinds o.parts ds w (subst (λ (xs : List Due). First kinds xs w) o.due f)) [
        | inl g ↦ walks.first w (o.first w g ds)
        | inr r ↦ walks.first w (behind d ds w (o.right r.0) r.1)
      ];
  last = λ a.
      let two = all_append (IsRight kinds) o.parts ds
      (subst (λ (xs : List Due). AllPass (IsRight kinds) xs) o.due a) in
      walks.last (o.right two.0, two.1);
}

pub walks_turn : (kinds : List KindView) (root d : Due) (ds new : List Due) (told w : JsonReason)
    → Walks kinds root (d ∷ ds) told → Turns kinds d ds new w → Walks kinds root new w
walks_turn kinds root d ds new told w walks t = record {
  first = λ v f. walks.first v (t.first v f ds);
  last = λ a. inl (walks.first w (t.last a ds));
}

pub walks_refused : (kinds : List KindView) (root d : Due) (ds : List Due) (told w : JsonReason)
    → Walks kinds root (d ∷ ds) told → FirstIn kinds d w → First kinds (root ∷ []) w
walks_refused kinds root d ds told w walks f = walks.first w (f ds)

pub walks_end : (kinds : List KindView) (root : Due) (told : JsonReason) → Walks kinds root [] told
    → First kinds (root ∷ []) told ⊎ IsRight kinds root
walks_end kinds root told walks = walks.last tt

-- ---- the same of the nodes that are kept, of which the last was taken

module _ (kinds : List KindView) (root : Due) (es rest : List Entry) (e : Entry) (told : JsonReason)
    (is : es ≡ rest ++ e ∷ []) (walks : Walks kinds root (dues es) told) where
  popped : Walks kinds root (due_of e ∷ dues rest) told
  popped = subst (λ (ds : List Due). Walks kinds root ds told) (ap dues is ∙ dues_push rest e) walks

  pub kept_on : (new : List Due) → Opens kinds (due_of e) (dues rest) new → Walks kinds root new told
  kept_on new o = walks_on kinds root (due_of e) (dues rest) new told popped o

  pub kept_turn : (new : List Due) (w : JsonReason) → Turns kinds (due_of e) (dues rest) new w
      → Walks kinds root new w
  kept_turn new w t = walks_turn kinds root (due_of e) (dues rest) new told w popped t

  pub kept_refused : (w : JsonReason) → FirstIn kinds (due_of e) w → First kinds (root ∷ []) w
  kept_refused w f = walks_refused kinds root (due_of e) (dues rest) told w popped f

pub kept_less : (kinds : List KindView) (es rest : List Entry) (e : Entry) (new : List Due) → es ≡ rest ++ e ∷ []
    → work kinds new < work kinds (due_of e ∷ dues rest) → work kinds new < work kinds (dues es)
kept_less kinds es rest e new is less =
    let all = ap (work kinds) (ap dues is ∙ dues_push rest e) in omega (arith, less, all)

pub kept_start : (kinds : List KindView) (root : Due) (due : List Due) (told : JsonReason) → due ≡ root ∷ []
    → Walks kinds root due told
kept_start kinds root due told e =
    subst (λ (ds : List Due). Walks kinds root ds told) (sym e) (walks_start kinds root told)

pub kept_end : (kinds : List KindView) (root : Due) (es : List Entry) (told : JsonReason) → es ≡ []
    → Walks kinds root (dues es) told → First kinds (root ∷ []) told ⊎ IsRight kinds root
kept_end kinds root es told is walks =
    walks_end kinds root told (subst (λ (xs : List Entry). Walks kinds root (dues xs) told) is walks)
