-- How reading goes on by nodes that begin and end without a byte.
use Rattle.std.proofs.Common.{◌≡◌, ℕ, ◌+◌, ◌<◌, ◌≤◌, List, [], ◌∷◌, ◌++◌, length, refl, sym, subst, append-nil}
use Rattle.std.proofs.Common.{zero-add, arith}
use Rattle.std.specs.Prelude.{Contains}
use Rattle.std.proofs.lemmas.List.Elements.{Contains-append_right}
use Rattle.xdr_types.specs.Kinds as xdr
use Rattle.xdr_types.specs.Kinds.{KindView, Part, kind_at}
use Rattle.xdr_types.specs.Tree as value
use Rattle.xdr_types.specs.Tree.{Head}
use Rattle.xdr_types.specs.Fits.{parts, item_part}
use Rattle.xdr_types.specs.Spelling.{bytes_of}
use Rattle.xdr_types.specs.Within.{Bounds}
use Rattle.xdr_types.specs.Layout.{Entry, shown, shown_bytes, shown_items}
use Rattle.xdr_types.specs.Laws.{EachKindHasAValue}
use Rattle.xdr_laws.specs.Owed.{Due, Frame, Rest, Reads, lead_of, IsSilent, IsFreeBytes, free_size, silent_head}
use Rattle.xdr_laws.specs.Owed.{IsSettled, AreFrames, IsOnTrack, AllUpTo, Reaches}
use Rattle.xdr_laws.proofs.Owed.{reads_then, reads_end}
use Rattle.xdr_laws.proofs.UnitOwed.{reads_silent}
use Rattle.xdr_laws.proofs.Content.{reads_free, reads_over, free_parts}
use Rattle.xdr_laws.proofs.Parts.{all_append}
use Rattle.xdr_laws.proofs.Entered.{free_low, silent_low, free_part}
use Rattle.xdr_laws.proofs.Known.{root}
use Rattle.xdr_stream.specs.Frames.{dues}
use Rattle.xdr_stream.specs.Sees.{Reading}
use Rattle.xdr_laws.proofs.Whole.{AllLow as AreAt}

pub dues_length : (fs : List (List Part)) → length (dues fs) ≡ length fs
dues_length [] = refl
dues_length (ps ∷ fs) = let more = dues_length fs in omega arith

pub dues_frames : (fs : List (List Part)) → AreFrames (dues fs)
dues_frames [] = tt
dues_frames (ps ∷ fs) = (omega (arith, dues_length fs), dues_frames fs)

pub dues_track : (s : List KindView) (begun : List Entry) (place : ℕ) (fs : List (List Part))
    → IsOnTrack s begun place (dues fs)
dues_track s begun place [] = tt
dues_track s begun place (ps ∷ fs) = (omega (arith, dues_length fs), dues_frames fs)

bytes_deep : (most place d : ℕ) (t : Part) (k : KindView) (n : ℕ) → d ≤ most → AreAt most (shown_bytes place d t k n)
bytes_deep most place d t (xdr.opaque size) n h = (h, tt)
bytes_deep most place d t _ n h = (h, (h, tt))

items_deep : (most place d : ℕ) (t : Part) (k : KindView) → d ≤ most → AreAt most (shown_items place d t k)
items_deep most place d t (xdr.fixed item size) h = (h, tt)
items_deep most place d t _ h = (h, tt)

pub shown_deep : (most place d : ℕ) (t : Part) (k : KindView) (g : Head) → d ≤ most → AreAt most (shown place d t k g)
shown_deep most place d t k (value.bytes bs) h = bytes_deep most place d t k (length bs) h
shown_deep most place d t k (value.items n) h = items_deep most place d t k h
shown_deep most place d t k _ h = (h, tt)

free_deep : (most place d : ℕ) (t : Part) (k : KindView) → d ≤ most → AreAt most (free_parts place d t k)
free_deep most place d t (xdr.opaque size) h = (h, tt)
free_deep most place d t _ h = (h, tt)

-- the first part stands at the place and has the depth
abbrev Shows : (place d : ℕ) → List Entry → Type 0
Shows place d es = (e : Entry) × Contains es e × (e.at ≡ place) × (e.depth ≡ d)

bytes_show : (place d : ℕ) (t : Part) (k : KindView) (n : ℕ) → Shows place d (shown_bytes place d t k n)
bytes_show place d t (xdr.opaque size) n = (_, (0, omega arith, refl), refl, refl)
bytes_show place d t _ n = (_, (0, omega arith, refl), refl, refl)

items_show : (place d : ℕ) (t : Part) (k : KindView) → Shows place d (shown_items place d t k)
items_show place d t (xdr.fixed item size) = (_, (0, omega arith, refl), refl, refl)
items_show place d t _ = (_, (0, omega arith, refl), refl, refl)

pub shows : (place d : ℕ) (t : Part) (k : KindView) (g : Head) → Shows place d (shown place d t k g)
shows place d t k (value.bytes bs) = bytes_show place d t k (length bs)
shows place d t k (value.items n) = items_show place d t k
shows place d t k _ = (_, (0, omega arith, refl), refl, refl)

module _ (s : List KindView) (t : ℕ) (l : Bounds) where
  pub reaches : (ds : List Due) (q : List ℕ) → IsSettled s ds → (r : Reading s t l ds q)
      → Reaches s 0 [] (root t) q r.begun ds
  reaches ds q n r = record {
    reads = r.reads;
    settled = n;
    track = subst (λ (m : ℕ). IsOnTrack s r.begun m ds) (sym (zero-add (length q))) r.track;
    low = subst (λ (m : ℕ). AllUpTo m r.begun) (sym (zero-add (length q))) r.low;
  }

  pub reading_start : EachKindHasAValue s → t < length s → Reading s t l (dues ((item_part t ∷ []) ∷ [])) []
  reading_start has known = record {
    begun = [];
    reads = record {
      into = λ c all r. (all, refl, r);
      back = λ c es r. r;
    };
    track = dues_track s [] 0 ((item_part t ∷ []) ∷ []);
    low = tt;
    shallow = tt;
    front = (let v = has t known in (v.0, (v.1, bytes_of s t v.0, refl)));
    reached = λ rest. record { units = refl; within = omega arith; before = λ r h m. absurd (omega arith) };
  }

  -- no byte is read
  silently : (ds ds' : List Due) (q : List ℕ) (new : List Entry) (r : Reading s t l ds q)
      → Reads s (length q) ds [] new ds' → IsOnTrack s (r.begun ++ new) (length q) ds'
      → AllUpTo (length q) new → AreAt l.depth new → Reading s t l ds' q
  silently ds ds' q new r more track low deep = record {
    begun = r.begun ++ new;
    reads = subst (λ (x : List ℕ). Reads s 0 (root t) x (r.begun ++ new) ds') (append-nil q)
        (reads_then s 0 (root t) ds ds' q [] r.begun new r.reads
        (subst (λ (n : ℕ). Reads s n ds [] new ds') (sym (zero-add (length q))) more));
    track = track;
    low = all_append (λ (e : Entry). e.at ≤ length q) r.begun new r.low low;
    shallow = all_append (λ (e : Entry). e.depth ≤ l.depth) r.begun new r.shallow deep;
    front = r.front;
    reached = r.reached;
  }

  -- a node ends
  pub reading_close : (fs : List (List Part)) (q : List ℕ) → Reading s t l (dues ([] ∷ fs)) q
      → Reading s t l (dues fs) q
  reading_close fs q r =
      silently (dues ([] ∷ fs)) (dues fs) q [] r (reads_end s (length q) (length fs + 1) (dues fs))
      (dues_track s (r.begun ++ []) (length q) fs) tt tt

  -- a node of no bytes of its own begins
  pub reading_silent : (p : Part) (ps : List Part) (fs : List (List Part)) (q : List ℕ)
      → IsSilent (lead_of (kind_at s p.kind)) → length fs + 1 ≤ l.depth
      → Reading s t l (dues ((p ∷ ps) ∷ fs)) q
      → Reading s t l (dues (parts (kind_at s p.kind) (silent_head (kind_at s p.kind)) ∷ ps ∷ fs)) q
  reading_silent p ps fs q u deep r =
      let k : KindView = kind_at s p.kind in
      let inner : List Part = parts k (silent_head k) in
      let new : List Entry = shown (length q) (length fs + 1) p k (silent_head k) in
      let far : length fs + 1 + 1 ≡ length (ps ∷ fs) + 1 = omega arith in
      let more : Reads s (length q) (dues ((p ∷ ps) ∷ fs)) [] new (dues (inner ∷ ps ∷ fs)) =
      subst (λ (n : ℕ). Reads s (length q) (dues ((p ∷ ps) ∷ fs)) [] new (Frame n inner ∷ dues (ps ∷ fs))) far
      (reads_silent s (length q) (length fs + 1) p ps (dues fs) u) in
      silently (dues ((p ∷ ps) ∷ fs)) (dues (inner ∷ ps ∷ fs)) q new r more
      (dues_track s (r.begun ++ new) (length q) (inner ∷ ps ∷ fs))
      (silent_low s (length q) (length fs + 1) p k u)
      (shown_deep l.depth (length q) (length fs + 1) p k (silent_head k) deep)

  -- free bytes begin
  pub reading_free : (p : Part) (ps : List Part) (fs : List (List Part)) (q : List ℕ)
      → IsFreeBytes (lead_of (kind_at s p.kind)) → length fs + 1 ≤ l.depth
      → Reading s t l (dues ((p ∷ ps) ∷ fs)) q → Reading s t l (Rest (free_size (kind_at s p.kind)) ∷ dues (ps ∷ fs)) q
  reading_free p ps fs q u deep r =
      let k : KindView = kind_at s p.kind in
      let d : ℕ = length fs + 1 in
      let new : List Entry = free_parts (length q) d p k in
      let e = free_part s (length q) d p k refl u in
      silently (dues ((p ∷ ps) ∷ fs)) (Rest (free_size k) ∷ dues (ps ∷ fs)) q new r
      (reads_free s (length q) d p ps (dues fs) u) (
        dues_frames (ps ∷ fs),
        e.0,
        Contains-append_right r.begun new e.0 e.1,
        e.2,
        e.3,
        omega
            (arith, e.4, dues_length (ps ∷ fs)),
      )
      (free_low s (length q) d p k) (free_deep l.depth (length q) d p k deep)

  -- content of no bytes is over
  pub reading_over : (fs : List (List Part)) (q : List ℕ) → Reading s t l (Rest 0 ∷ dues fs) q
      → Reading s t l (dues fs) q
  reading_over fs q r = silently (Rest 0 ∷ dues fs) (dues fs) q [] r (reads_over s (length q) (dues fs))
      (dues_track s (r.begun ++ []) (length q) fs) tt tt
  -- ---- a unit
