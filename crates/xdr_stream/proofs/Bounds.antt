-- How much a reader may hold.
use Rattle.std.proofs.Common.{◌≡◌, ℕ, ◌+◌, ◌*◌, ◌/◌, ◌%◌, ◌≤◌, true, List, [], ◌∷◌, ◌++◌, length}
use Rattle.std.proofs.Common.{pos, refl, ap, subst, ◌∙◌, append-nil, arith}
use Rattle.std.proofs.lemmas.Bool.{false≢true}
use Rattle.std.proofs.lemmas.List.{length-append}
use Rattle.xdr_types.specs.Kinds as xdr
use Rattle.xdr_types.specs.Kinds.{KindView, Part, Lists, kind_at}
use Rattle.xdr_types.specs.Tree as value
use Rattle.xdr_types.specs.Tree.{Head, Values as Trees, Tree, from_list}
use Rattle.xdr_units.specs.Numbers.{num4, pad}
use Rattle.xdr_types.specs.Fits.{fit, parts}
use Rattle.xdr_types.specs.Faults.{IsWellFormed}
use Rattle.xdr_types.specs.Sound as sound
use Rattle.xdr_types.specs.Spelling.{own, spelling}
use Rattle.xdr_types.specs.Within.{Bounds}
use Rattle.xdr_types.specs.Layout.{Entry}
use Rattle.xdr_laws.specs.Owed.{Due, Rest, lead_of, HasUnit, role_of}
use Rattle.xdr_laws.specs.Begun.{begins_here}
use Rattle.xdr_laws.specs.Held.{Holds, content_before, count_bytes, bytes_in}
use Rattle.xdr_laws.specs.Parts.{nodes, is_first, one_if}
use Rattle.xdr_laws.proofs.Legal.{fit_node}
use Rattle.xdr_laws.proofs.Holding.{nodes_append, held_by_frames}
use Rattle.xdr_laws.proofs.FewNodes.{held_bounds}
use Rattle.xdr_stream.specs.Frames.{dues}
use Rattle.xdr_stream.specs.Trace.{Level, Trace}
use Rattle.xdr_stream.specs.Retained.{nodes_in, bytes_in_parts, bytes_retained}
use Rattle.xdr_stream.specs.Sees.{Sees, Opens, Built, BuiltAs, BuiltInto, IsReady, owed, make_wide}
use Rattle.xdr_stream.specs.declared.machine.Awaits.{Awaits}
use Rattle.xdr_stream.specs.declared.machine.Awaits.TheVariants.{Next, Content, Wide, Low}
use Rattle.xdr_stream.proofs.Filling.{next_count, into_count}
use Rattle.xdr_stream.proofs.Reading.{reaches, dues_length}
use Rattle.xdr_stream.proofs.Standing.{still}

-- ---- content is among the bytes

own_space : (k : KindView) (h : Head) → bytes_in h ≤ length (own k h)
own_space (xdr.opaque size) (value.bytes bs) = omega (arith, length-append bs (pad (length bs)))
own_space xdr.int (value.bytes bs) = omega (arith, length-append bs (pad (length bs)))
own_space xdr.unsigned (value.bytes bs) = omega (arith, length-append bs (pad (length bs)))
own_space xdr.hyper (value.bytes bs) = omega (arith, length-append bs (pad (length bs)))
own_space xdr.unsigned_hyper (value.bytes bs) = omega (arith, length-append bs (pad (length bs)))
own_space xdr.boolean (value.bytes bs) = omega (arith, length-append bs (pad (length bs)))
own_space (xdr.numbered constants) (value.bytes bs) = omega (arith, length-append bs (pad (length bs)))
own_space (xdr.opaque_up_to max) (value.bytes bs) = omega (arith, length-append bs (pad (length bs)))
own_space (xdr.text max) (value.bytes bs) = omega (arith, length-append bs (pad (length bs)))
own_space (xdr.fixed item size) (value.bytes bs) = omega (arith, length-append bs (pad (length bs)))
own_space (xdr.up_to item max) (value.bytes bs) = omega (arith, length-append bs (pad (length bs)))
own_space (xdr.structure ps) (value.bytes bs) = omega (arith, length-append bs (pad (length bs)))
own_space (xdr.choice tag arms other) (value.bytes bs) = omega (arith, length-append bs (pad (length bs)))
own_space (xdr.maybe item) (value.bytes bs) = omega (arith, length-append bs (pad (length bs)))
own_space xdr.unknown (value.bytes bs) = omega (arith, length-append bs (pad (length bs)))
own_space xdr.nothing (value.bytes bs) = omega (arith, length-append bs (pad (length bs)))
own_space k (value.int z) = omega arith
own_space k (value.unsigned n) = omega arith
own_space k (value.hyper z) = omega arith
own_space k (value.unsigned_hyper n) = omega arith
own_space k (value.boolean b) = omega arith
own_space k (value.numbered z) = omega arith
own_space k (value.items n) = omega arith
own_space k value.fields = omega arith
own_space k (value.tag z) = omega arith
own_space k value.present = omega arith
own_space k value.absent = omega arith
own_space k value.nothing = omega arith

spelled_space : (s : List KindView) (ps : List Part) (v : Trees) → fit s ps v ≡ true
    → count_bytes v ≤ length (spelling s ps v)
spelled_space s [] value.none f = omega arith
spelled_space s [] (value.node h inner rest) f = absurd (false≢true f)
spelled_space s (p ∷ ps) value.none f = absurd (false≢true f)
spelled_space s (p ∷ ps) (value.node h inner rest) f =
    let k : KindView = kind_at s p.kind in
    let g = fit_node s p ps h inner rest f in
    let o : List ℕ = own k h in
    let i : List ℕ = spelling s (parts k h) inner in
    omega (
      arith,
      length-append (o ++ i) (spelling s ps rest),
      length-append o i,
      own_space k h,
      spelled_space s (parts k h) inner g.1,
      spelled_space s ps rest g.2,
    )

module _ (s : List KindView) (t : ℕ) where
  opens_space : (ls : List Level) (fs : List (List Part)) (h : Head) (ps : List Part) (o : List ℕ)
      → Opens s t ls fs h ps o → bytes_in_parts ls ≤ length o
  opens_space [] [] h ps o a = omega arith
  opens_space [] (left ∷ fs) h ps o a = absurd a
  opens_space (l ∷ ls) [] h ps o a = absurd a
  opens_space (l ∷ ls) (left ∷ fs) h ps o a =
      let done : List ℕ = spelling s a.0 (from_list l.done) in
      let more = opens_space ls fs l.head (a.0 ++ a.1 ∷ left) a.2 a.3 in
      omega (
        arith,
        more,
        spelled_space s a.0 (from_list l.done) a.4,
        ap (λ (x : List ℕ). length x) a.8,
        length-append (a.2 ++ done) (own (kind_at s a.1.kind) h),
        length-append a.2 done,
      )

  built_space : (ls : List Level) (fs : List (List Part)) (q : List ℕ) → Built s t ls fs q
      → bytes_in_parts ls ≤ length q
  built_space [] fs q b = absurd b
  built_space (l ∷ ls) [] q b = absurd b
  built_space (l ∷ ls) (left ∷ fs) q b =
      omega (
        arith,
        opens_space ls fs l.head (b.0 ++ left) b.1 b.2,
        spelled_space s b.0 (from_list l.done) b.3,
        ap (λ (x : List ℕ). length x) b.4,
        length-append b.1 (spelling s b.0 (from_list l.done)),
      )

  into_space : (ls : List Level) (fs : List (List Part)) (content : List ℕ) (make : List ℕ → Head) (n : ℕ)
      (q : List ℕ) → BuiltInto s t ls fs content make n q → bytes_in_parts ls + length content ≤ length q
  into_space [] fs content make n q b = absurd b
  into_space (l ∷ ls) [] content make n q b = absurd b
  into_space (l ∷ ls) (left ∷ fs) content make n q b =
      let done : List ℕ = spelling s b.0 (from_list l.done) in
      omega (
        arith,
        opens_space ls fs l.head (b.0 ++ b.1 ∷ left) b.2 b.4,
        spelled_space s b.0 (from_list l.done) b.5,
        ap (λ (x : List ℕ). length x) b.7,
        length-append (b.2 ++ done) (b.3 ++ content),
        length-append b.2 done,
        length-append b.3 content,
      )

  retained_space : (a : Awaits) (fs : List (List Part)) (q : List ℕ) (x : Trace) → BuiltAs s t a x fs q
      → bytes_retained x ≤ length q
  retained_space Next fs q x b =
      omega (arith, built_space x.levels fs q b.1, ap (λ (bs : List ℕ). length bs) b.0)
  retained_space (Content n) fs q x b = into_space x.levels fs x.content value.bytes n q b
  retained_space (Wide signed) fs q x b =
      omega (arith, into_space x.levels fs [] (make_wide signed) 8 q b.1, ap (λ (bs : List ℕ). length bs) b.0)
  retained_space (Low signed y) fs q x b =
      omega (
        arith,
        into_space x.levels fs (num4 (pos y)) (make_wide signed) 4 q b.1,
        ap (λ (bs : List ℕ). length bs)
            b.0,
      )

-- ---- the nodes are those that the law counts

one_begins : (k : KindView) → HasUnit (lead_of k) → one_if (is_first k (role_of k)) ≡ 1
one_begins xdr.int u = refl
one_begins xdr.unsigned u = refl
one_begins xdr.boolean u = refl
one_begins (xdr.numbered constants) u = refl
one_begins (xdr.opaque_up_to max) u = refl
one_begins (xdr.text max) u = refl
one_begins (xdr.up_to item max) u = refl
one_begins (xdr.choice tag arms other) u = refl
one_begins (xdr.maybe item) u = refl
one_begins xdr.unknown u = refl
one_begins _ u = absurd u

module _ (s : List KindView) (t : ℕ) (l : Bounds) (H : Trace → Type 0) (q : List ℕ) where
  here : (begun : List Entry) (p : Part) (ps : List Part) (fs : List (List Part))
      → HasUnit (lead_of (kind_at s p.kind))
      → nodes s (begun ++ begins_here s (length q) (dues ((p ∷ ps) ∷ fs))) ≡ nodes s begun + 1
  here begun p ps fs unit =
      omega (
        arith,
        nodes_append s begun (begins_here s (length q) (dues ((p ∷ ps) ∷ fs))),
        one_begins (kind_at s p.kind) unit,
      )

  nowhere : (begun : List Entry) (n : ℕ) (fs : List (List Part))
      → nodes s (begun ++ begins_here s (length q) (Rest n ∷ dues fs)) ≡ nodes s begun
  nowhere begun n fs = ap (λ (es : List Entry). nodes s es) (append-nil begun)

  counted : (a : Awaits) (fs : List (List Part)) → IsReady s l a fs → (r : Sees s t l H a fs q)
      → nodes s (r.reading.begun ++ begins_here s (length q) (owed a fs)) ≡ nodes_in r.trace.levels
  counted Next [] ready r = absurd ready
  counted Next ([] ∷ fs) ready r = absurd ready
  counted Next ((p ∷ ps) ∷ fs) ready r =
      here r.reading.begun p ps fs ready.0
      ∙ next_count s t l r.trace.levels ((p ∷ ps) ∷ fs) q r.reading r.built.1
  counted (Content n) fs ready r =
      nowhere r.reading.begun n fs ∙ into_count s t l r.trace.levels fs r.trace.content value.bytes n q r.reading
      r.built
  counted (Wide signed) fs ready r =
      nowhere r.reading.begun 8 fs ∙ into_count s t l r.trace.levels fs [] (make_wide signed) 8 q r.reading r.built.1
  counted (Low signed x) fs ready r =
      nowhere r.reading.begun 4 fs
      ∙ into_count s t l r.trace.levels fs (num4 (pos x)) (make_wide signed) 4 q r.reading r.built.1

  -- as many as the law holds, and as many frames as it says
  pub holds : (a : Awaits) (fs : List (List Part)) → IsReady s l a fs → (r : Sees s t l H a fs q)
      → ((bytes : ℕ) × Holds s t q (nodes_in r.trace.levels) bytes) × (length fs ≤ l.depth)
  holds Next [] ready r = absurd ready
  holds Next ([] ∷ fs) ready r = absurd ready
  holds Next ((p ∷ ps) ∷ fs) ready r =
      let ds : List Due = dues ((p ∷ ps) ∷ fs) in
      let retained : ℕ = content_before (length q) r.reading.begun in
      let h = held_by_frames s t l q r.reading.begun ds r.reading.front (reaches s t l ds q ready.0 r.reading) in (
        (retained, subst (λ (n : ℕ). Holds s t q n retained) (counted Next ((p ∷ ps) ∷ fs) ready r) h.0),
        omega (arith, ready.1),
      )
  holds (Content n) fs ready r =
      let ds : List Due = Rest n ∷ dues fs in
      let retained : ℕ = content_before (length q) r.reading.begun in
      let h = held_by_frames s t l q r.reading.begun ds r.reading.front (reaches s t l ds q ready r.reading) in (
        (retained, subst (λ (k : ℕ). Holds s t q k retained) (counted (Content n) fs ready r) h.0),
        omega (arith, h.1 (still s t l H q (Content n) fs ready r).0, dues_length fs),
      )
  holds (Wide signed) fs ready r =
      let ds : List Due = Rest 8 ∷ dues fs in
      let retained : ℕ = content_before (length q) r.reading.begun in
      let h = held_by_frames s t l q r.reading.begun ds r.reading.front
      (reaches s t l ds q (omega arith) r.reading) in (
        (retained, subst (λ (k : ℕ). Holds s t q k retained) (counted (Wide signed) fs ready r) h.0),
        omega (arith, h.1 (still s t l H q (Wide signed) fs ready r).0, dues_length fs),
      )
  holds (Low signed x) fs ready r =
      let ds : List Due = Rest 4 ∷ dues fs in
      let retained : ℕ = content_before (length q) r.reading.begun in
      let h = held_by_frames s t l q r.reading.begun ds r.reading.front
      (reaches s t l ds q (omega arith) r.reading) in (
        (retained, subst (λ (k : ℕ). Holds s t q k retained) (counted (Low signed x) fs ready r) h.0),
        omega (arith, h.1 (still s t l H q (Low signed x) fs ready r).0, dues_length fs),
      )

-- and so they are bounded
pub bounded : (x : Lists) → IsWellFormed x → sound.IsSound x.kinds → (t : ℕ) (l : Bounds) (H : Trace → Type 0)
    (q : List ℕ) (a : Awaits) (fs : List (List Part)) → IsReady x.kinds l a fs → (r : Sees x.kinds t l H a fs q)
    → (nodes_in r.trace.levels ≤ (length x.kinds + 1) * (length q / 4 + 1)) × (bytes_retained r.trace ≤ length q)
    × (length fs ≤ l.depth) × (length q % 4 ≡ 0)
bounded x well sure t l H q a fs ready r =
    let h = holds x.kinds t l H q a fs ready r in
    let units : length q % 4 ≡ 0 = (r.reading.reached []).units in
    let u : ℕ = length q / 4 in
    let most = held_bounds x well sure t q u (nodes_in r.trace.levels) h.0.0 (omega (arith, units)) h.0.1 in
    (most.0, retained_space x.kinds t a fs q r.trace r.built, h.1, units)
