-- The nodes that stand open, found in each value that begins with the bytes.
use Rattle.std.proofs.Common.{◌≡◌, ℕ, ◌+◌, true, ◌&&◌, List, [], ◌∷◌, ◌++◌, length, sym, ap, subst, ◌∙◌}
use Rattle.std.proofs.Common.{append_assoc, append-nil, arith, length-append}
use Rattle.std.specs.Prelude.{Contains}
use Rattle.std.proofs.lemmas.Bool.{false≢true}
use Rattle.std.proofs.lemmas.List.Elements.{Contains-append_left, Contains-append_right}
use Rattle.xdr_types.specs.Kinds.{KindView, Part, kind_at}
use Rattle.xdr_types.specs.Tree as value
use Rattle.xdr_types.specs.Tree.{Head, Values, Tree, from_list}
use Rattle.xdr_types.specs.Fits.{Fits, fits, fit, is_legal, parts, item_part}
use Rattle.xdr_types.specs.Spelling.{own, spelling, bytes_of}
use Rattle.xdr_types.specs.Layout.{Entry, layout, shown, entries}
use Rattle.xdr_types.proofs.Unique.{one, one_head, both}
use Rattle.xdr_laws.proofs.WholeUnits.{root_fits, root_spelling}
use Rattle.xdr_stream.specs.Trace.{Level}
use Rattle.xdr_stream.specs.Sees.{Opens}

-- the values of the last parts, their bytes before others, and their place in a layout
pub record Tail (s : List KindView) (us : List Part) (y x : List ℕ) (near d : ℕ) (es : List Entry) : Type 0 where
  pub values : Values
  pub fitting : fit s us values ≡ true
  pub bytes : y ≡ spelling s us values ++ x
  pub inside : (e : Entry) → Contains (layout s near d us values) e → Contains es e

module _ (s : List KindView) where
  -- where the first parts have known values, the values of the others
  pub strip : (ts us : List Part) (done : List Tree) (ws : Values) (x y : List ℕ) (place d : ℕ)
      → fit s ts (from_list done) ≡ true → fit s (ts ++ us) ws ≡ true
      → spelling s ts (from_list done) ++ y ≡ spelling s (ts ++ us) ws ++ x
      → Tail s us y x (place + length (spelling s ts (from_list done))) d (layout s place d (ts ++ us) ws)
  strip [] us [] ws x y place d f g same = record {
    values = ws;
    fitting = g;
    bytes = same;
    inside = λ e c. subst (λ (n : ℕ). Contains (layout s n d us ws) e) (omega arith) c;
  }
  strip [] us (v ∷ vs) ws x y place d f g same = absurd (false≢true f)
  strip (t ∷ ts) us [] ws x y place d f g same = absurd (false≢true f)
  strip (t ∷ ts) us (v ∷ vs) value.none x y place d f g same = absurd (false≢true g)
  strip (t ∷ ts) us (v ∷ vs) (value.node h inner rest) x y place d f g same =
      let k : KindView = kind_at s t.kind in
      let w : Tree = (h, inner) in
      let known = both (fits s t.kind v) (fit s ts (from_list vs)) f in
      let ours = both (fits s t.kind w) (fit s (ts ++ us) rest) g in
      let mine : List ℕ = spelling s ts (from_list vs) in
      let others : List ℕ = spelling s (ts ++ us) rest in
      let apart : bytes_of s t.kind v ++ (mine ++ y) ≡ bytes_of s t.kind w ++ (others ++ x) =
      sym (append_assoc (bytes_of s t.kind v) mine y) ∙ same ∙ append_assoc (bytes_of s t.kind w) others x in
      let both_are = one s t.kind v w (mine ++ y) (others ++ x) known.0 ours.0 apart in
      let far : ℕ = place + length (own k h) + length (spelling s (parts k h) inner) in
      let more = strip ts us vs rest x y far d known.1 ours.1 both_are.1 in
      let long : length (bytes_of s t.kind v) ≡ length (own k h) + length (spelling s (parts k h) inner) =
      ap (λ (z : Tree). length (bytes_of s t.kind z)) both_are.0
      ∙ length-append (own k h) (spelling s (parts k h) inner) in
      let same_place : place + length (bytes_of s t.kind v ++ mine) ≡ far + length mine =
      omega (arith, long, length-append (bytes_of s t.kind v) mine) in
      let es : List Entry = shown place d t k h in
      let within : List Entry = layout s (place + length (own k h)) (d + 1) (parts k h) inner in
      let behind : List Entry = layout s far d (ts ++ us) rest in
      record {
        values = more.values;
        fitting = more.fitting;
        bytes = more.bytes;
        inside = λ e c. Contains-append_right es (within ++ behind) e (Contains-append_right within behind e
            (more.inside e (subst (λ (n : ℕ). Contains (layout s n d us more.values) e) same_place c)));
      }

  -- a node with a known head, before others
  pub node_head : (p : Part) (left : List Part) (h : Head) (y x : List ℕ) (near d : ℕ) (es : List Entry)
      → is_legal s (kind_at s p.kind) h ≡ true
      → Tail s (p ∷ left) (own (kind_at s p.kind) h ++ y) x near d es
      → (z : List ℕ)
      × Tail s (parts (kind_at s p.kind) h) y z (near + length (own (kind_at s p.kind) h)) (d + 1) es
  node_head p left h y x near d es legal tail = at tail.values tail.fitting tail.bytes tail.inside
    where
      at : (vs : Values) → fit s (p ∷ left) vs ≡ true
          → own (kind_at s p.kind) h ++ y ≡ spelling s (p ∷ left) vs ++ x
          → ((e : Entry) → Contains (layout s near d (p ∷ left) vs) e → Contains es e)
          → (z : List ℕ)
          × Tail s (parts (kind_at s p.kind) h) y z (near + length (own (kind_at s p.kind) h)) (d + 1) es
      at value.none f e c = absurd (false≢true f)
      at (value.node g inner rest) f e c =
          let k : KindView = kind_at s p.kind in
          let fs = both (is_legal s k g && fit s (parts k g) inner) (fit s left rest) f in
          let gs = both (is_legal s k g) (fit s (parts k g) inner) fs.0 in
          let a : List ℕ = spelling s (parts k g) inner in
          let b : List ℕ = spelling s left rest in
          let z : List ℕ = b ++ x in
          let apart : own k h ++ y ≡ own k g ++ (a ++ z) =
          e ∙ append_assoc (own k g ++ a) b x ∙ append_assoc (own k g) a (b ++ x) in
          let heads = one_head s k h g y (a ++ z) legal gs.0 apart in
          let within : List Entry = layout s (near + length (own k g)) (d + 1) (parts k g) inner in
          let behind : List Entry =
          layout s (near + length (own k g) + length (spelling s (parts k g) inner)) d left rest in
          subst (λ (i : Head). (z : List ℕ) × Tail s (parts k i) y z (near + length (own k i)) (d + 1) es)
          (sym heads.0) (
            z,
            record {
              values = inner;
              fitting = gs.1;
              bytes = heads.1;
              inside = λ e c'. c e (Contains-append_right (shown near d p k g) (within ++ behind) e
                  (Contains-append_left within behind e c'));
            },
          )

  -- the parts of the innermost open node, in a value that begins with the bytes up to them
  pub descend : (t : ℕ) (v : Tree) → Fits s t v → (ls : List Level) (fs : List (List Part)) (h : Head)
      (ps : List Part) (o more : List ℕ) → Opens s t ls fs h ps o → bytes_of s t v ≡ o ++ more
      → (x : List ℕ) × (d : ℕ) × Tail s ps more x (length o) d (entries s t v)
  descend t v f [] [] h ps o more stands same =
      let whole : Tail s (item_part t ∷ []) more [] 0 1 (entries s t v) = record {
        values = from_list (v ∷ []);
        fitting = root_fits s t v f;
        bytes = sym (same ∙ ap (λ (z : List ℕ). z ++ more) stands.2) ∙ sym (root_spelling s t v)
            ∙ sym (append-nil (spelling s (item_part t ∷ []) (from_list (v ∷ []))));
        inside = λ e c. c;
      } in (
        [],
        1,
        subst (λ (z : List ℕ). Tail s ps more [] (length z) 1 (entries s t v)) (sym stands.2)
            (subst (λ (z : List Part). Tail s z more [] 0 1 (entries s t v)) (sym stands.1) whole),
      )
  descend t v f (l ∷ ls) (left ∷ fs) h ps o more stands same =
      let ts : List Part = stands.0 in
      let p : Part = stands.1 in
      let r : List ℕ = stands.2 in
      let k : KindView = kind_at s p.kind in
      let mine : List ℕ = spelling s ts (from_list l.done) in
      let behind : List ℕ = own k h ++ more in
      let split : bytes_of s t v ≡ r ++ (mine ++ behind) =
      same ∙ ap (λ (z : List ℕ). z ++ more) stands.8 ∙ append_assoc (r ++ mine) (own k h) more
      ∙ append_assoc r mine behind in
      let i = descend t v f ls fs l.head (ts ++ p ∷ left) r (mine ++ behind) stands.3 split in
      let j = strip ts (p ∷ left) l.done i.2.values i.0 behind (length r) i.1 stands.4 i.2.fitting i.2.bytes in
      let es : List Entry = layout s (length r) i.1 (ts ++ p ∷ left) i.2.values in
      let n = node_head p left h more i.0 (length r + length mine) i.1 es stands.6 j in
      let place : length o ≡ length r + length mine + length (own k h) =
      omega (
        arith,
        ap (λ (z : List ℕ). length z) stands.8,
        length-append (r ++ mine)
            (own k h),
        length-append r mine,
      ) in
      let at : Tail s (parts k h) more n.0 (length o) (i.1 + 1) es =
      subst (λ (m : ℕ). Tail s (parts k h) more n.0 m (i.1 + 1) es) (sym place) n.1 in (
        n.0,
        i.1 + 1,
        subst (λ (z : List Part). Tail s z more n.0 (length o) (i.1 + 1) (entries s t v)) (sym stands.7) (record {
          values = at.values;
          fitting = at.fitting;
          bytes = at.bytes;
          inside = λ e c. i.2.inside e (at.inside e c);
        }),
      )
  descend t v f [] (left ∷ fs) h ps o more stands same = absurd stands
  descend t v f (l ∷ ls) [] h ps o more stands same = absurd stands
