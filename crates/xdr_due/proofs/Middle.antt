-- The part in whose middle reading stands, found in each value that begins with the bytes.
use Rattle.std.proofs.Common.{◌≡◌, ℕ, zero, suc, ◌+◌, ◌&&◌, Bool, true, false, pos, List, [], ◌∷◌, ◌++◌, length}
use Rattle.std.proofs.Common.{replicate}
use Rattle.std.proofs.Common.{refl, sym, ap, subst, ◌∙◌, append_assoc, arith, length-append, eqb-true}
use Rattle.std.specs.Prelude.{Contains}
use Rattle.std.proofs.lemmas.Bool.{false≢true}
use Rattle.std.proofs.lemmas.List.{length-replicate}
use Rattle.std.proofs.lemmas.List.Elements.{Contains-append_left}
use Rattle.xdr_units.specs.Numbers.{num4, pad, padded}
use Rattle.xdr_units.proofs.Bytes.{same_front}
use Rattle.xdr_types.specs.Kinds as xdr
use Rattle.xdr_types.specs.Kinds.{KindView, Part, kind_at}
use Rattle.xdr_types.specs.Tree as value
use Rattle.xdr_types.specs.Tree.{Head, Values, Tree, from_list}
use Rattle.xdr_types.specs.Fits.{Fits, fit, is_legal, parts, are_bytes, is_length}
use Rattle.xdr_types.specs.Spelling.{own, spelling, bytes_of}
use Rattle.xdr_types.specs.Layout.{Entry, entry, layout, shown, entries, of_number, of_content}
use Rattle.xdr_types.proofs.Unique.{both, lengths}
use Rattle.xdr_stream.specs.Trace.{Level}
use Rattle.xdr_stream.specs.Sees.{BuiltInto, Makes, make_wide}
use Rattle.xdr_due.specs.Due.{hyper_kind}
use Rattle.xdr_due.proofs.Inside.{strip, descend}

-- the node in whose own bytes reading stands: its part and head, the bytes before its content, and its place
pub record Middle (s : List KindView) (size : ℕ) (make : List ℕ → Head) (content more q : List ℕ) (es : List Entry)
    : Type 0 where
  pub part : Part
  pub prefix : List ℕ
  pub makes : Makes s (kind_at s part.kind) size prefix make
  pub head : Head
  pub legal : is_legal s (kind_at s part.kind) head ≡ true
  pub rest : List ℕ
  pub bytes : prefix ++ (content ++ more) ≡ own (kind_at s part.kind) head ++ rest
  pub place : ℕ
  pub depth : ℕ
  pub here : place + (length prefix + length content) ≡ length q
  pub inside : (e : Entry) → Contains (shown place depth part (kind_at s part.kind) head) e → Contains es e

module _ (s : List KindView) where
  -- the first of some values
  first_node : (p : Part) (left : List Part) (prefix content more x q : List ℕ) (size near d : ℕ)
      (make : List ℕ → Head) (es : List Entry) → Makes s (kind_at s p.kind) size prefix make
      → near + (length prefix + length content) ≡ length q
      → (vs : Values) → fit s (p ∷ left) vs ≡ true → prefix ++ (content ++ more) ≡ spelling s (p ∷ left) vs ++ x
      → ((e : Entry) → Contains (layout s near d (p ∷ left) vs) e → Contains es e)
      → Middle s size make content more q es
  first_node p left prefix content more x q size near d make es makes here value.none f e c = absurd (false≢true f)
  first_node p left prefix content more x q size near d make es makes here (value.node g inner rest) f e c =
      let k : KindView = kind_at s p.kind in
      let fs = both (is_legal s k g && fit s (parts k g) inner) (fit s left rest) f in
      let a : List ℕ = spelling s (parts k g) inner in
      let b : List ℕ = spelling s left rest in
      let within : List Entry = layout s (near + length (own k g)) (d + 1) (parts k g) inner in
      let behind : List Entry =
      layout s (near + length (own k g) + length (spelling s (parts k g) inner)) d left rest in
      record {
        part = p;
        prefix = prefix;
        makes = makes;
        head = g;
        legal = (both (is_legal s k g) (fit s (parts k g) inner) fs.0).0;
        rest = a ++ (b ++ x);
        bytes = e ∙ append_assoc (own k g ++ a) b x ∙ append_assoc (own k g) a (b ++ x);
        place = near;
        depth = d;
        here = here;
        inside = λ e c'. c e (Contains-append_left (shown near d p k g) (within ++ behind) e c');
      }

  -- the node of a builder's content
  pub middle : (t : ℕ) (v : Tree) → Fits s t v → (ls : List Level) (fs : List (List Part)) (content : List ℕ)
      (make : List ℕ → Head) (n : ℕ) (q more : List ℕ) → BuiltInto s t ls fs content make n q
      → bytes_of s t v ≡ q ++ more → Middle s (length content + n) make content more q (entries s t v)
  middle t v f [] fs content make n q more b same = absurd b
  middle t v f (l ∷ ls) [] content make n q more b same = absurd b
  middle t v f (l ∷ ls) (left ∷ fs) content make n q more b same =
      let ts : List Part = b.0 in
      let p : Part = b.1 in
      let r : List ℕ = b.2 in
      let prefix : List ℕ = b.3 in
      let mine : List ℕ = spelling s ts (from_list l.done) in
      let behind : List ℕ = prefix ++ (content ++ more) in
      let split : bytes_of s t v ≡ r ++ (mine ++ behind) =
      same ∙ ap (λ (z : List ℕ). z ++ more) b.7 ∙ append_assoc (r ++ mine) (prefix ++ content) more
      ∙ append_assoc r mine ((prefix ++ content) ++ more)
      ∙ ap (λ (z : List ℕ). r ++ (mine ++ z)) (append_assoc prefix content more) in
      let i = descend s t v f ls fs l.head (ts ++ p ∷ left) r (mine ++ behind) b.4 split in
      let j = strip s ts (p ∷ left) l.done i.2.values i.0 behind (length r) i.1 b.5 i.2.fitting i.2.bytes in
      let here : length r + length mine + (length prefix + length content) ≡ length q =
      omega (
        arith,
        ap (λ (z : List ℕ). length z) b.7,
        length-append (r ++ mine) (prefix ++ content),
        length-append r mine,
        length-append prefix content,
      ) in
      first_node p left prefix content more i.0 q (length content + n) (length r + length mine) i.1 make
      (entries s t v) b.6 here j.values j.fitting j.bytes (λ e c. i.2.inside e (j.inside e c))

  -- ---- a hyper integer

  abbrev eight : List ℕ
  eight = 0 ∷ 0 ∷ 0 ∷ 0 ∷ 0 ∷ 0 ∷ 0 ∷ 0 ∷ []

  pub wide_kind : (signed : Bool) (k : KindView) (prefix : List ℕ) → Makes s k 8 prefix (make_wide signed)
      → (k ≡ hyper_kind signed) × (length prefix ≡ 0)
  wide_kind true xdr.hyper prefix m =
      let e = (m eight refl refl).1 in
      (refl, omega (arith, ap (λ (z : List ℕ). length z) e, length-append prefix eight))
  wide_kind false xdr.unsigned_hyper prefix m =
      let e = (m eight refl refl).1 in
      (refl, omega (arith, ap (λ (z : List ℕ). length z) e, length-append prefix eight))
  wide_kind true _ prefix m = absurd (false≢true (m eight refl refl).0)
  wide_kind false _ prefix m = absurd (false≢true (m eight refl refl).0)

  shown_wide : (place d : ℕ) (p : Part) (signed : Bool) (g : Head) → is_legal s (hyper_kind signed) g ≡ true
      → shown place d p (hyper_kind signed) g ≡ entry place 8 d p of_number ∷ []
  shown_wide place d p true (value.hyper z) l = refl
  shown_wide place d p true _ l = absurd (false≢true l)
  shown_wide place d p false (value.unsigned_hyper n) l = refl
  shown_wide place d p false _ l = absurd (false≢true l)

  -- it stands in the value
  pub wide_stands : (signed : Bool) (content more q : List ℕ) (es : List Entry)
      → Middle s 8 (make_wide signed) content more q es
      → (e : Entry) × Contains es e × (e.at + length content ≡ length q) × (e.size ≡ 8) × (e.role ≡ of_number)
      × (kind_at s e.kind ≡ hyper_kind signed)
  wide_stands signed content more q es m =
      let k : KindView = kind_at s m.part.kind in
      let w = wide_kind signed k m.prefix m.makes in
      let legal : is_legal s (hyper_kind signed) m.head ≡ true =
      subst (λ (x : KindView). is_legal s x m.head ≡ true) w.0 m.legal in
      let e : Entry = entry m.place 8 m.depth m.part of_number in
      let shows : shown m.place m.depth m.part k m.head ≡ e ∷ [] =
      ap (λ (x : KindView). shown m.place m.depth m.part x m.head) w.0
      ∙ shown_wide m.place m.depth m.part signed m.head legal in (
        e,
        m.inside e (subst (λ (x : List Entry). Contains x e) (sym shows) (0, omega arith, refl)),
        omega (arith, m.here, w.1),
        refl,
        refl,
        w.0,
      )

  -- ---- content

  zeros_are : (n : ℕ) → are_bytes (replicate n 0) ≡ true
  zeros_are zero = refl
  zeros_are (suc n) = zeros_are n

  -- content of the size stands in what a head shows, so many bytes after its place
  abbrev ShowsContent : (place d : ℕ) → Part → KindView → Head → (before size : ℕ) → Type 0
  ShowsContent place d p k g before size =
      Contains (shown place d p k g) (entry (place + before) (size + length (pad size)) d p (of_content size))

  fixed_stands : (place d size limit : ℕ) (p : Part) (prefix : List ℕ) (cs : List ℕ)
      → Makes s (xdr.opaque limit) size prefix value.bytes → is_legal s (xdr.opaque limit) (value.bytes cs) ≡ true
      → ShowsContent place d p (xdr.opaque limit) (value.bytes cs) (length prefix) size
  fixed_stands place d size limit p prefix cs m l =
      let zs : List ℕ = replicate size 0 in
      let long : length zs ≡ size = length-replicate {A = ℕ} size 0 in
      let made = m zs long (zeros_are size) in
      let sizes : length zs ≡ limit = eqb-true (length zs) limit (both _ _ made.0).0 in
      let ours : length cs ≡ limit = eqb-true (length cs) limit (both _ _ l).0 in
      let same : length cs ≡ size = omega (arith, sizes, ours, long) in
      let padding : length (pad (length zs)) ≡ length (pad size) = ap (λ (n : ℕ). length (pad n)) long in
      let none : length prefix ≡ 0 =
      omega (
        arith,
        ap (λ (z : List ℕ). length z) made.1,
        length-append prefix (zs ++ pad size),
        length-append zs (pad size),
        length-append zs (pad (length zs)),
        padding,
      ) in
      let at : place + length prefix ≡ place = omega (arith, none) in
      subst (λ (n : ℕ). Contains (shown place d p (xdr.opaque limit) (value.bytes cs))
      (entry n (size + length (pad size)) d p (of_content size))) (sym at)
      (subst (λ (n : ℕ). Contains (shown place d p (xdr.opaque limit) (value.bytes cs))
      (entry place (n + length (pad n)) d p (of_content n))) same (0, omega arith, refl))

  -- the length before content is its own
  counted_size : (size most : ℕ) (prefix content more rest cs : List ℕ) → is_length most size ≡ true
      → is_length most (length cs) ≡ true
      → num4 (pos size) ++ padded (replicate size 0) ≡ prefix ++ (replicate size 0 ++ pad size)
      → prefix ++ (content ++ more) ≡ (num4 (pos (length cs)) ++ padded cs) ++ rest
      → (length cs ≡ size) × (length prefix ≡ 4)
  counted_size size most prefix content more rest cs h k made bytes =
      let zs : List ℕ = replicate size 0 in
      let long : length zs ≡ size = length-replicate {A = ℕ} size 0 in
      let padding : length (pad (length zs)) ≡ length (pad size) = ap (λ (n : ℕ). length (pad n)) long in
      let four : length prefix ≡ 4 =
      omega (
        arith,
        ap (λ (z : List ℕ). length z) made,
        length-append (num4 (pos size)) (padded zs),
        length-append prefix (zs ++ pad size),
        length-append zs (pad size),
        length-append zs (pad (length zs)),
        padding,
      ) in
      let mine : num4 (pos size) ≡ prefix =
      (same_front (num4 (pos size)) prefix (padded zs) (zs ++ pad size) (omega (arith, four)) made).0 in
      let ours : prefix ≡ num4 (pos (length cs)) =
      (same_front prefix (num4 (pos (length cs))) (content ++ more) (padded cs ++ rest) (omega (arith, four))
      (bytes ∙ append_assoc (num4 (pos (length cs))) (padded cs) rest)).0 in
      (sym (lengths size (length cs) most h k (mine ∙ ours)), four)

  pub content_stands : (place d size : ℕ) (p : Part) (prefix content more rest : List ℕ) (k : KindView) (g : Head)
      → Makes s k size prefix value.bytes → is_legal s k g ≡ true → prefix ++ (content ++ more) ≡ own k g ++ rest
      → ShowsContent place d p k g (length prefix) size
  content_stands place d size p prefix content more rest (xdr.opaque limit) (value.bytes cs) m l b =
      fixed_stands place d size limit p prefix cs m l
  content_stands place d size p prefix content more rest (xdr.opaque_up_to most) (value.bytes cs) m l b =
      let zs : List ℕ = replicate size 0 in
      let long : length zs ≡ size = length-replicate {A = ℕ} size 0 in
      let made = m zs long (zeros_are size) in
      let fits : is_length most size ≡ true =
      subst (λ (n : ℕ). is_length most n ≡ true) long (both _ _ made.0).0 in
      let bytes : num4 (pos size) ++ padded zs ≡ prefix ++ (zs ++ pad size) =
      subst (λ (n : ℕ). num4 (pos n) ++ padded zs ≡ prefix ++ (zs ++ pad size)) long made.1 in
      let c = counted_size size most prefix content more rest cs fits (both _ _ l).0 bytes b in
      subst (λ (n : ℕ). Contains (shown place d p (xdr.opaque_up_to most) (value.bytes cs))
      (entry (place + n) (size + length (pad size)) d p (of_content size))) (sym c.1)
      (subst (λ (n : ℕ). Contains (shown place d p (xdr.opaque_up_to most) (value.bytes cs))
      (entry (place + 4) (n + length (pad n)) d p (of_content n))) c.0 (1, omega arith, refl))
  content_stands place d size p prefix content more rest (xdr.text most) (value.bytes cs) m l b =
      let zs : List ℕ = replicate size 0 in
      let long : length zs ≡ size = length-replicate {A = ℕ} size 0 in
      let made = m zs long (zeros_are size) in
      let fits : is_length most size ≡ true =
      subst (λ (n : ℕ). is_length most n ≡ true) long (both _ _ made.0).0 in
      let bytes : num4 (pos size) ++ padded zs ≡ prefix ++ (zs ++ pad size) =
      subst (λ (n : ℕ). num4 (pos n) ++ padded zs ≡ prefix ++ (zs ++ pad size)) long made.1 in
      let c = counted_size size most prefix content more rest cs fits (both _ _ l).0 bytes b in
      subst (λ (n : ℕ). Contains (shown place d p (xdr.text most) (value.bytes cs))
      (entry (place + n) (size + length (pad size)) d p (of_content size))) (sym c.1)
      (subst (λ (n : ℕ). Contains (shown place d p (xdr.text most) (value.bytes cs))
      (entry (place + 4) (n + length (pad n)) d p (of_content n))) c.0 (1, omega arith, refl))
  content_stands place d size p prefix content more rest (xdr.opaque limit) _ m l b = absurd (false≢true l)
  content_stands place d size p prefix content more rest (xdr.opaque_up_to most) _ m l b = absurd (false≢true l)
  content_stands place d size p prefix content more rest (xdr.text most) _ m l b = absurd (false≢true l)
  content_stands place d size p prefix content more rest _ g m l b =
      absurd (false≢true (m (replicate size 0) (length-replicate {A = ℕ} size 0) (zeros_are size)).0)
