-- What is seen after a node or a unit, and what a builder was reported.
use Rattle.std.proofs.Common.{◌≡◌, ℕ, ◌+◌, ◌<◌, ◌≤◌, true, false, List, [], ◌∷◌, ◌++◌, length, refl, sym, ap, subst}
use Rattle.std.proofs.Common.{◌∙◌, append-nil}
use Rattle.std.specs.Int.{w64, from_be_bytes}
use Rattle.xdr_types.specs.Kinds as xdr
use Rattle.xdr_types.specs.Kinds.{KindView, Part, kind_at}
use Rattle.xdr_types.specs.Tree as value
use Rattle.xdr_types.specs.Tree.{Head}
use Rattle.xdr_units.specs.Numbers.{pad, long_word}
use Rattle.xdr_types.specs.Fits.{is_legal, parts}
use Rattle.xdr_types.specs.Spelling.{own}
use Rattle.xdr_types.specs.Within.{Bounds}
use Rattle.xdr_types.specs.Outcome.{Outcome, TooDeep}
use Rattle.xdr_laws.specs.Owed.{Rest, lead_of, IsSilent, IsFreeBytes, silent_head, free_size}
use Rattle.xdr_laws.proofs.Legal.{IsLegal, is_legal_of, bytes_are}
use Rattle.xdr_laws.proofs.Content.{signed8_unit, unit8_less, unit8_back}
use Rattle.xdr_laws.proofs.UnitOwed.{silent_legal}
use Rattle.xdr_stream.specs.Frames.{left_of, onto, stack_of, dues}
use Rattle.xdr_stream.specs.Trace.{Level, Trace, IsOpen}
use Rattle.xdr_stream.specs.Private.Reported.{leaf_in, open_in, close_in, CanClose}
use Rattle.xdr_stream.specs.Sees.{Sees, Reading, Built, BuiltInto, Makes, make_wide}
use Rattle.xdr_stream.specs.declared.machine.frame.Frame.{Frame}
use Rattle.xdr_stream.specs.declared.machine.Awaits.TheVariants.{Next, Content, Wide}
use Rattle.xdr_stream.proofs.Frames.{onto_last}
use Rattle.xdr_stream.proofs.Built.{built_leaf, built_open, built_close}
use Rattle.xdr_stream.proofs.BuiltContent.{into_start}
use Rattle.xdr_stream.proofs.Reading.{reading_close, reading_silent, reading_free}
use Rattle.xdr_stream.proofs.UnitRead.{ends_deep}

module _ (s : List KindView) (t : ℕ) (l : Bounds) (H I : Trace → Type 0) where
  -- the innermost node ends
  pub sees_close : (left : List Part) (fs : List (List Part)) (q : List ℕ)
      → ((a : Trace) → H a → CanClose a → I (close_in a))
      → Sees s t l H Next ([] ∷ left ∷ fs) q → Sees s t l I Next (left ∷ fs) q
  sees_close left fs q reports r =
      let b = built_close s t r.trace.levels left fs q r.built.1 in
      record {
        reading = reading_close s t l (left ∷ fs) q r.reading;
        trace = close_in r.trace;
        reported = reports r.trace r.reported b.0;
        built = (r.built.0, b.1);
      }

  pub sees_popped : (work f : Frame) (parents rest : List Frame) (q : List ℕ) → left_of work ≡ []
      → parents ≡ rest ++ f ∷ [] → ((a : Trace) → H a → CanClose a → I (close_in a))
      → Sees s t l H Next (stack_of work parents) q → Sees s t l I Next (stack_of f rest) q
  sees_popped work f parents rest q none last reports r =
      let stack : stack_of work parents ≡ [] ∷ left_of f ∷ onto [] rest =
      ap (λ (ps : List Part). ps ∷ onto [] parents) none
      ∙ ap (λ (fs : List (List Part)). [] ∷ fs) (ap (λ (fs : List Frame). onto [] fs) last ∙ onto_last [] rest f) in
      sees_close (left_of f) (onto [] rest) q reports
      (subst (λ (fs : List (List Part)). Sees s t l H Next fs q) stack r)

  -- a silent node begins, whose parts come next
  pub sees_silent : (p : Part) (ps : List Part) (fs : List (List Part)) (q : List ℕ) (k : KindView) (h : Head)
      → kind_at s p.kind ≡ k → IsSilent (lead_of k) → IsOpen h → silent_head k ≡ h → own k h ≡ []
      → length fs + 1 ≤ l.depth
      → ((a : Trace) → H a → I (open_in h a)) → Sees s t l H Next ((p ∷ ps) ∷ fs) q
      → Sees s t l I Next (parts k h ∷ ps ∷ fs) q
  sees_silent p ps fs q k h is silent open_head head none deep reports r =
      let legal : is_legal s k h ≡ true =
      is_legal_of s k h (subst (λ (g : Head). IsLegal s k g) head (silent_legal s k silent)) in
      let b = built_open s t r.trace.levels fs p ps q h open_head
      (subst (λ (f : KindView). is_legal s f h ≡ true) (sym is) legal) r.built.1 in
      let read = reading_silent s t l p ps fs q
      (subst (λ (f : KindView). IsSilent (lead_of f)) (sym is) silent) deep r.reading in
      record {
        reading = subst (λ (g : Head). Reading s t l (dues (parts k g ∷ ps ∷ fs)) q) head
            (subst (λ (f : KindView). Reading s t l (dues (parts f (silent_head f) ∷ ps ∷ fs)) q) is read);
        trace = open_in h r.trace;
        reported = reports r.trace r.reported;
        built = (
          r.built.0,
          subst (λ (f : KindView). Built s t (open_in h r.trace).levels (parts f h ∷ ps ∷ fs) q) is
              (subst (λ (x : List ℕ). Built s t (open_in h r.trace).levels (parts (kind_at s p.kind) h ∷ ps ∷ fs) x)
              (ap (λ (x : List ℕ). q ++ x) (ap (λ (f : KindView). own f h) is ∙ none) ∙ append-nil q) b),
        );
      }

  -- a void part
  pub sees_void : (p : Part) (ps : List Part) (fs : List (List Part)) (q : List ℕ) → kind_at s p.kind ≡ xdr.nothing
      → length fs + 1 ≤ l.depth
      → ((a : Trace) → H a → I (leaf_in value.nothing a)) → Sees s t l H Next ((p ∷ ps) ∷ fs) q
      → Sees s t l I Next (ps ∷ fs) q
  sees_void p ps fs q is deep reports r =
      let legal : is_legal s (kind_at s p.kind) value.nothing ≡ true =
      ap (λ (f : KindView). is_legal s f value.nothing) is in
      let none : parts (kind_at s p.kind) value.nothing ≡ [] = ap (λ (f : KindView). parts f value.nothing) is in
      let b = built_leaf s t r.trace.levels fs p ps q value.nothing legal none r.built.1 in
      let read = reading_silent s t l p ps fs q
      (subst (λ (f : KindView). IsSilent (lead_of f)) (sym is) tt) deep r.reading in
      let inner : parts (kind_at s p.kind) (silent_head (kind_at s p.kind)) ≡ [] =
      ap (λ (f : KindView). parts f (silent_head f)) is in
      record {
        reading = reading_close s t l (ps ∷ fs) q
            (subst (λ (x : List Part). Reading s t l (dues (x ∷ ps ∷ fs)) q) inner read);
        trace = leaf_in value.nothing r.trace;
        reported = reports r.trace r.reported;
        built = (
          r.built.0,
          subst (λ (x : List ℕ). Built s t (leaf_in value.nothing r.trace).levels (ps ∷ fs) x)
              (append-nil q) b,
        );
      }

  -- a node that is due is too deep
  pub sees_deep : (p : Part) (ps : List Part) (fs : List (List Part)) (q rest : List ℕ) → l.depth < length fs + 1
      → Sees s t l H Next ((p ∷ ps) ∷ fs) q → Outcome s t l (q ++ rest) (TooDeep (length q))
  sees_deep p ps fs q rest deep r = ends_deep s t l p ps fs q rest deep r.reading

pub makes_wide : (s : List KindView) → Makes s xdr.hyper 8 [] (make_wide true)
makes_wide s bs len are =
    let b = signed8_unit (from_be_bytes w64 bs) (unit8_less bs len (bytes_are bs are)) in (
      is_legal_of s xdr.hyper (make_wide true bs) b.0,
      ap long_word b.1 ∙ unit8_back bs len (bytes_are bs are)
          ∙ sym (append-nil bs),
      refl,
    )

pub makes_unsigned : (s : List KindView) → Makes s xdr.unsigned_hyper 8 [] (make_wide false)
makes_unsigned s bs len are = (
  is_legal_of s xdr.unsigned_hyper (make_wide false bs) (unit8_less bs len (bytes_are bs are)),
  unit8_back bs len
      (bytes_are bs are) ∙ sym (append-nil bs),
  refl,
)

pub makes_opaque : (s : List KindView) (size : ℕ) → Makes s (xdr.opaque size) size [] value.bytes
makes_opaque s size bs len are = (
  is_legal_of s (xdr.opaque size) (value.bytes bs) (len, bytes_are bs are),
  ap
      (λ (n : ℕ). bs ++ pad n) len,
  refl,
)

module _ (s : List KindView) (t : ℕ) (l : Bounds) (H : Trace → Type 0) where
  -- free bytes begin
  free_built : (p : Part) (ps : List Part) (fs : List (List Part)) (q : List ℕ) (k : KindView) (make : List ℕ → Head)
      → kind_at s p.kind ≡ k → Makes s k (free_size k) [] make → (levels : List Level)
      → Built s t levels ((p ∷ ps) ∷ fs) q → BuiltInto s t levels (ps ∷ fs) [] make (free_size k) q
  free_built p ps fs q k make is makes levels b =
      subst (λ (x : List ℕ). BuiltInto s t levels (ps ∷ fs) [] make (free_size k) x) (append-nil q)
      (into_start s t levels fs p ps q [] (free_size k) make
      (subst (λ (f : KindView). Makes s f (free_size k) [] make) (sym is) makes) b)

  free_read : (p : Part) (ps : List Part) (fs : List (List Part)) (q : List ℕ) (k : KindView) → kind_at s p.kind ≡ k
      → IsFreeBytes (lead_of k) → length fs + 1 ≤ l.depth
      → Reading s t l (dues ((p ∷ ps) ∷ fs)) q → Reading s t l (Rest (free_size k) ∷ dues (ps ∷ fs)) q
  free_read p ps fs q k is free deep r =
      subst (λ (f : KindView). Reading s t l (Rest (free_size f) ∷ dues (ps ∷ fs)) q) is
      (reading_free s t l p ps fs q (subst (λ (f : KindView). IsFreeBytes (lead_of f)) (sym is) free) deep r)

  pub sees_wide : (p : Part) (ps : List Part) (fs : List (List Part)) (q : List ℕ) → kind_at s p.kind ≡ xdr.hyper
      → length fs + 1 ≤ l.depth → Sees s t l H Next ((p ∷ ps) ∷ fs) q → Sees s t l H (Wide true) (ps ∷ fs) q
  sees_wide p ps fs q is deep r = record {
    reading = free_read p ps fs q xdr.hyper is tt deep r.reading;
    trace = r.trace;
    reported = r.reported;
    built = (r.built.0, free_built p ps fs q xdr.hyper (make_wide true) is (makes_wide s) r.trace.levels r.built.1);
  }

  pub sees_unsigned : (p : Part) (ps : List Part) (fs : List (List Part)) (q : List ℕ)
      → kind_at s p.kind ≡ xdr.unsigned_hyper → length fs + 1 ≤ l.depth → Sees s t l H Next ((p ∷ ps) ∷ fs) q
      → Sees s t l H (Wide false) (ps ∷ fs) q
  sees_unsigned p ps fs q is deep r = record {
    reading = free_read p ps fs q xdr.unsigned_hyper is tt deep r.reading;
    trace = r.trace;
    reported = r.reported;
    built = (
      r.built.0,
      free_built p ps fs q xdr.unsigned_hyper (make_wide false) is
          (makes_unsigned s) r.trace.levels r.built.1,
    );
  }

  pub sees_opaque : (p : Part) (ps : List Part) (fs : List (List Part)) (q : List ℕ) (size : ℕ)
      → kind_at s p.kind ≡ xdr.opaque size → length fs + 1 ≤ l.depth → Sees s t l H Next ((p ∷ ps) ∷ fs) q
      → Sees s t l H (Content size) (ps ∷ fs) q
  sees_opaque p ps fs q size is deep r = record {
    reading = free_read p ps fs q (xdr.opaque size) is tt deep r.reading;
    trace = r.trace;
    reported = r.reported;
    built = subst (λ (c : List ℕ). BuiltInto s t r.trace.levels (ps ∷ fs) c value.bytes size q) (sym r.built.0)
        (free_built p ps fs q (xdr.opaque size) value.bytes is (makes_opaque s size) r.trace.levels r.built.1);
  }
