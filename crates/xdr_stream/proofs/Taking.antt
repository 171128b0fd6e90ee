-- What is seen after a unit that makes a head or a length, and why others are refused.
use Rattle.std.proofs.Common.{◌≡◌, ℕ, ◌^◌, ◌<◌, ◌≤◌, true, List, [], ◌∷◌}
use Rattle.std.proofs.Common.{◌++◌, length, refl, sym, ap, subst, ◌∙◌, append-nil}
use Rattle.std.specs.Int.{w32, from_be_bytes}
use Rattle.std.proofs.lemmas.Nat.{from_be_bytes-to_be_bytes_4}
use Rattle.xdr_types.specs.Kinds as xdr
use Rattle.xdr_types.specs.Kinds.{KindView, Part, kind_at}
use Rattle.xdr_types.specs.Tree as value
use Rattle.xdr_types.specs.Tree.{Head, Tree}
use Rattle.xdr_units.specs.Numbers.{pad, word}
use Rattle.xdr_types.specs.Fits.{is_legal, parts}
use Rattle.xdr_types.specs.Spelling.{own}
use Rattle.xdr_types.specs.Within.{Bounds}
use Rattle.xdr_types.specs.Laws.{EachKindHasAValue, EachPartIsKnown}
use Rattle.xdr_types.specs.Outcome as outcome
use Rattle.xdr_types.specs.Outcome.{Outcome, Why, IsReached}
use Rattle.xdr_laws.specs.Owed.{Rest, lead_of, HasUnit, IsUnitFirst, IsLengthFirst, Accepts, head_of, why_of}
use Rattle.xdr_laws.proofs.Legal.{is_legal_of, bytes_are, are_bytes_of}
use Rattle.xdr_laws.proofs.WholeUnits.{bytes4}
use Rattle.xdr_laws.proofs.UnitOwed.{head_legal}
use Rattle.xdr_stream.specs.Frames.{left_of, rest_of, onto, stack_of, dues}
use Rattle.xdr_stream.specs.Trace.{Trace, IsOpen}
use Rattle.xdr_stream.specs.Private.Reported.{leaf_in, open_in}
use Rattle.xdr_stream.specs.Taking.{IsWhy}
use Rattle.xdr_stream.specs.Sees.{Sees, Reading, Built, BuiltInto, Makes, Ends}
use Rattle.xdr_stream.specs.declared.fault.Reason.{Reason}
use Rattle.xdr_stream.specs.declared.fault.Reason.TheVariants as reason
use Rattle.xdr_stream.specs.declared.machine.frame.Frame.{Frame}
use Rattle.xdr_stream.specs.declared.machine.Awaits.TheVariants.{Next, Content}
use Rattle.xdr_stream.proofs.Built.{built_leaf, built_open}
use Rattle.xdr_stream.proofs.BuiltContent.{into_start}
use Rattle.xdr_stream.proofs.Reading.{reading_close, reading_over}
use Rattle.xdr_stream.proofs.UnitRead.{reading_unit, reading_length, unit_due, Decides}
use Rattle.xdr_stream.proofs.SeeingNodes.{IsNext}

-- the reason that a refusal stands for
pub ends_why : (s : List KindView) (t : ℕ) (l : Bounds) (e : Reason) (why : Why) (b : List ℕ) (p : ℕ) → IsWhy e why
    → Outcome s t l b (outcome.Broken why p) → Ends s t l e b p
ends_why s t l reason.BadBool why b p is o = subst (λ (w : Why). Outcome s t l b (outcome.Broken w p)) is o
ends_why s t l reason.BadNumbered why b p is o = subst (λ (w : Why). Outcome s t l b (outcome.Broken w p)) is o
ends_why s t l reason.BadCase why b p is o = subst (λ (w : Why). Outcome s t l b (outcome.Broken w p)) is o
ends_why s t l reason.TooLong why b p is o = subst (λ (w : Why). Outcome s t l b (outcome.Broken w p)) is o
ends_why s t l reason.BadPadding why b p is o = subst (λ (w : Why). Outcome s t l b (outcome.Broken w p)) is o
ends_why s t l reason.TooDeep why b p is o = absurd is
ends_why s t l reason.TooLarge why b p is o = absurd is
ends_why s t l reason.Truncated why b p is o = absurd is
ends_why s t l reason.NoMemory why b p is o = absurd is

-- content after its length
counted_made : (s : List KindView) (k : KindView) (x : ℕ) → IsLengthFirst (lead_of k) → Accepts s k x
    → Makes s k x (word x) value.bytes
counted_made s (xdr.opaque_up_to max) x u a bs len are = (
  is_legal_of s (xdr.opaque_up_to max) (value.bytes bs)
      (subst (λ (m : ℕ). m ≤ max) (sym len) a.0, subst (λ (m : ℕ). m < 2 ^ 32) (sym len) a.1, bytes_are bs are),
  ap
      (λ (m : ℕ). word m ++ (bs ++ pad m)) len,
  refl,
)
counted_made s (xdr.text max) x u a bs len are = (
  is_legal_of s (xdr.text max) (value.bytes bs)
      (subst (λ (m : ℕ). m ≤ max) (sym len) a.0, subst (λ (m : ℕ). m < 2 ^ 32) (sym len) a.1, bytes_are bs are),
  ap
      (λ (m : ℕ). word m ++ (bs ++ pad m)) len,
  refl,
)
counted_made s _ x u a bs len are = absurd u

module _ (s : List KindView) (has : EachKindHasAValue s) (known : EachPartIsKnown s) (t : ℕ) (l : Bounds)
    (H I : Trace → Type 0) (work : Frame) (parents : List Frame) (q : List ℕ) (k : KindView)
    (n : IsNext s l work parents k) (x : ℕ) (less : x < 2 ^ 32) (small : length q ≡ l.bytes → ⊥)
    (r : Sees s t l H Next (stack_of work parents) q) where
  seen : Sees s t l H Next ((n.part ∷ rest_of (left_of work)) ∷ onto [] parents) q
  seen = subst (λ (x : List Part). Sees s t l H Next (x ∷ onto [] parents) q) n.first r

  decided : HasUnit (lead_of k) → Decides s t l q (word x) (Accepts s k x) (why_of s k x)
  decided unit =
      let back : from_be_bytes w32 (word x) ≡ x = from_be_bytes-to_be_bytes_4 x less in
      let d = unit_due s t l has known n.part (rest_of (left_of work)) (onto [] parents) q (word x)
      (subst (λ (f : KindView). HasUnit (lead_of f)) (sym n.kind) unit) n.deep small refl
      (are_bytes_of (word x) (bytes4 x)) seen.reading in
      subst (λ (f : KindView). Decides s t l q (word x) (Accepts s f x) (why_of s f x)) n.kind
      (subst (λ (y : ℕ). Decides s t l q (word x) (Accepts s (kind_at s n.part.kind) y)
      (why_of s (kind_at s n.part.kind) y)) back d)

  -- no other unit goes on
  pub unit_refused : HasUnit (lead_of k) → (e : Reason) (rest : List ℕ) → (Accepts s k x → ⊥) → IsWhy e (why_of s k x)
      → Ends s t l e (q ++ (word x ++ rest)) (length q)
  unit_refused unit e rest bad is = ends_why s t l e (why_of s k x) (q ++ (word x ++ rest)) (length q) is
      ((decided unit).1 bad rest)

  unit_read : HasUnit (lead_of k) → IsUnitFirst (lead_of k) → Accepts s k x
      → Reading s t l (dues (parts k (head_of s k x) ∷ rest_of (left_of work) ∷ onto [] parents)) (q ++ word x)
  unit_read unit first accepts =
      let go = (decided unit).0 accepts in
      subst (λ (f : KindView). Reading s t l (dues (parts f (head_of s f x) ∷ rest_of (left_of work) ∷ onto [] parents))
      (q ++ word x)) n.kind
      (reading_unit s t l n.part (rest_of (left_of work)) (onto [] parents) q (word x) x refl
      (subst (λ (f : KindView). IsUnitFirst (lead_of f)) (sym n.kind) first)
      (subst (λ (f : KindView). Accepts s f x) (sym n.kind) accepts) n.deep go seen.reading)

  -- a node without parts
  pub unit_leaf : HasUnit (lead_of k) → IsUnitFirst (lead_of k) → Accepts s k x → (h : Head) → h ≡ head_of s k x
      → parts k (head_of s k x) ≡ [] → ((a : Trace) → H a → I (leaf_in h a))
      → Sees s t l I Next (rest_of (left_of work) ∷ onto [] parents) (q ++ word x)
  unit_leaf unit first accepts h is none reports =
      let made = head_legal s k x first accepts in
      let g : Head = head_of s k x in
      let legal : is_legal s (kind_at s n.part.kind) g ≡ true =
      subst (λ (f : KindView). is_legal s f g ≡ true) (sym n.kind) (is_legal_of s k g made.0) in
      let empty : parts (kind_at s n.part.kind) g ≡ [] = subst (λ (f : KindView). parts f g ≡ []) (sym n.kind) none in
      let bytes : own (kind_at s n.part.kind) g ≡ word x = ap (λ (f : KindView). own f g) n.kind ∙ made.1 in
      let b = built_leaf s t seen.trace.levels (onto [] parents) n.part
      (rest_of (left_of work)) q g legal empty seen.built.1 in
      let reported : I (leaf_in g seen.trace) =
      subst (λ (y : Head). I (leaf_in y seen.trace)) is (reports seen.trace seen.reported) in
      record {
        reading = reading_close s t l (rest_of (left_of work) ∷ onto [] parents) (q ++ word x)
            (subst (λ (y : List Part). Reading s t l (dues (y ∷ rest_of (left_of work) ∷ onto [] parents))
            (q ++ word x)) none (unit_read unit first accepts));
        trace = leaf_in g seen.trace;
        reported = reported;
        built = (
          seen.built.0,
          subst (λ (y : List ℕ). Built s t (leaf_in g seen.trace).levels
              (rest_of (left_of work) ∷ onto [] parents) (q ++ y)) bytes b,
        );
      }

  -- a node whose parts come next
  pub unit_open : HasUnit (lead_of k) → IsUnitFirst (lead_of k) → Accepts s k x → (h : Head) → h ≡ head_of s k x
      → IsOpen (head_of s k x) → ((a : Trace) → H a → I (open_in h a))
      → Sees s t l I Next (parts k (head_of s k x) ∷ rest_of (left_of work) ∷ onto [] parents) (q ++ word x)
  unit_open unit first accepts h is open_head reports =
      let made = head_legal s k x first accepts in
      let g : Head = head_of s k x in
      let legal : is_legal s (kind_at s n.part.kind) g ≡ true =
      subst (λ (f : KindView). is_legal s f g ≡ true) (sym n.kind) (is_legal_of s k g made.0) in
      let bytes : own (kind_at s n.part.kind) g ≡ word x = ap (λ (f : KindView). own f g) n.kind ∙ made.1 in
      let b = built_open s t seen.trace.levels (onto [] parents) n.part
      (rest_of (left_of work)) q g open_head legal seen.built.1 in
      let reported : I (open_in g seen.trace) =
      subst (λ (y : Head). I (open_in y seen.trace)) is (reports seen.trace seen.reported) in
      record {
        reading = unit_read unit first accepts;
        trace = open_in g seen.trace;
        reported = reported;
        built = (
          seen.built.0,
          subst (λ (f : KindView). Built s t (open_in g seen.trace).levels
              (parts f g ∷ rest_of (left_of work) ∷ onto [] parents) (q ++ word x)) n.kind
              (subst (λ (y : List ℕ). Built s t (open_in g seen.trace).levels
              (parts (kind_at s n.part.kind) g ∷ rest_of (left_of work) ∷ onto [] parents) (q ++ y)) bytes b),
        );
      }

  length_read : HasUnit (lead_of k) → IsLengthFirst (lead_of k) → Accepts s k x
      → Reading s t l (Rest x ∷ dues (rest_of (left_of work) ∷ onto [] parents)) (q ++ word x)
  length_read unit first accepts =
      let go = (decided unit).0 accepts in
      reading_length s t l n.part (rest_of (left_of work)) (onto [] parents) q (word x) x refl
      (subst (λ (f : KindView). IsLengthFirst (lead_of f)) (sym n.kind) first)
      (subst (λ (f : KindView). Accepts s f x) (sym n.kind) accepts) n.deep go seen.reading

  -- content of no bytes
  pub length_empty : HasUnit (lead_of k) → IsLengthFirst (lead_of k) → Accepts s k x → x ≡ 0
      → ((a : Trace) → H a → I (leaf_in (value.bytes []) a))
      → Sees s t l I Next (rest_of (left_of work) ∷ onto [] parents) (q ++ word x)
  length_empty unit first accepts none_left reports =
      let made = counted_made s k x first accepts in
      let none : is_legal s k (value.bytes []) ≡ true = (made [] (sym none_left) refl).0 in
      let legal : is_legal s (kind_at s n.part.kind) (value.bytes []) ≡ true =
      subst (λ (f : KindView). is_legal s f (value.bytes []) ≡ true) (sym n.kind) none in
      let empty : parts (kind_at s n.part.kind) (value.bytes []) ≡ [] =
      subst (λ (f : KindView). parts f (value.bytes []) ≡ []) (sym n.kind) (made [] (sym none_left) refl).2 in
      let bytes : own (kind_at s n.part.kind) (value.bytes []) ≡ word x =
      ap (λ (f : KindView). own f (value.bytes [])) n.kind ∙ (made [] (sym none_left) refl).1
      ∙ ap (λ (m : ℕ). word x ++ pad m) none_left ∙ append-nil (word x) in
      let b = built_leaf s t seen.trace.levels (onto [] parents) n.part (rest_of (left_of work)) q
      (value.bytes []) legal empty seen.built.1 in
      record {
        reading = reading_over s t l (rest_of (left_of work) ∷ onto [] parents) (q ++ word x)
            (subst (λ (m : ℕ). Reading s t l (Rest m ∷ dues (rest_of (left_of work) ∷ onto [] parents)) (q ++ word x))
            none_left (length_read unit first accepts));
        trace = leaf_in (value.bytes []) seen.trace;
        reported = reports seen.trace seen.reported;
        built = (
          seen.built.0,
          subst (λ (y : List ℕ). Built s t (leaf_in (value.bytes []) seen.trace).levels
              (rest_of (left_of work) ∷ onto [] parents) (q ++ y)) bytes b,
        );
      }

  -- content of some
  pub length_some : HasUnit (lead_of k) → IsLengthFirst (lead_of k) → Accepts s k x
      → Sees s t l H (Content x) (rest_of (left_of work) ∷ onto [] parents) (q ++ word x)
  length_some unit first accepts = record {
    reading = length_read unit first accepts;
    trace = seen.trace;
    reported = seen.reported;
    built = subst (λ (c : List ℕ). BuiltInto s t seen.trace.levels
        (rest_of (left_of work) ∷ onto [] parents) c value.bytes x (q ++ word x)) (sym seen.built.0)
        (into_start s t seen.trace.levels (onto [] parents) n.part (rest_of (left_of work)) q (word x) x value.bytes
        (subst (λ (f : KindView). Makes s f x (word x) value.bytes) (sym n.kind)
        (counted_made s k x first accepts)) seen.built.1);
  }
