-- A kind that takes no memory: nothing stands around its one node, and nothing opens.
use Rattle.std.proofs.Common.{◌≡◌, ℕ, zero, suc, ◌+◌, ◌≤◌, ◌==◌, Bool, true, false, cond, List, [], ◌∷◌, ◌++◌}
use Rattle.std.proofs.Common.{length, replicate, refl, sym, ap}
use Rattle.std.proofs.Common.{subst, ◌∙◌, arith}
use Rattle.std.proofs.lemmas.List.{length-append, length-replicate}
use Rattle.xdr_types.specs.Kinds as xdr
use Rattle.xdr_types.specs.Kinds.{KindView, Part, kind_at}
use Rattle.xdr_types.specs.Tree as value
use Rattle.xdr_types.specs.Tree.{Head}
use Rattle.xdr_types.specs.Fits.{is_legal, item_part, are_bytes}
use Rattle.xdr_types.specs.Outcome.{Why}
use Rattle.xdr_types.specs.Within.{Bounds}
use Rattle.xdr_laws.specs.Owed.{lead_of, IsLengthFirst, head_of}
use Rattle.xdr_laws.proofs.Legal.{IsLegal, legal_is}
use Rattle.xdr_stream.specs.Frames.{rest_of, Begins}
use Rattle.xdr_stream.specs.Trace.{Level, Trace, IsOpen}
use Rattle.xdr_stream.specs.Sees.{Sees, Opens, Built, BuiltInto}
use Rattle.xdr_stream.specs.Spared.{TakesNone, Spares}
use Rattle.xdr_stream.specs.Private.Alone.{IsAlone, IsAloneIn}
use Rattle.xdr_stream.specs.Private.Sound.{Starts}
use Rattle.xdr_stream.specs.Taking.{IsWhy}
use Rattle.xdr_stream.specs.declared.fault.Reason.{Reason}
use Rattle.xdr_stream.specs.declared.fault.Reason.TheVariants as reason
use Rattle.xdr_stream.specs.declared.machine.Awaits.{Awaits}
use Rattle.xdr_stream.specs.declared.machine.Awaits.TheVariants.{Next, Content, Wide, Low}

-- a reason against a unit is not an allocation failure
pub why_spares : (z : Type 0) (k : KindView) (e : Reason) (w : Why) → IsWhy e w → Spares z k e
why_spares z k reason.BadBool w i = tt
why_spares z k reason.BadNumbered w i = tt
why_spares z k reason.BadCase w i = tt
why_spares z k reason.TooLong w i = tt
why_spares z k reason.BadPadding w i = tt
why_spares z k reason.TooDeep w i = absurd i
why_spares z k reason.TooLarge w i = absurd i
why_spares z k reason.Truncated w i = absurd i
why_spares z k reason.NoMemory w i = absurd i

truth_closed : (b : Bool) → IsOpen (cond b (value.boolean false) (value.boolean true)) → ⊥
truth_closed true o = o
truth_closed false o = o

-- no unit of such a kind opens a node
pub head_closed : (z : Type 0) (s : List KindView) (k : KindView) (x : ℕ) → TakesNone z k → IsOpen (head_of s k x) → ⊥
head_closed z s xdr.int x f o = o
head_closed z s xdr.unsigned x f o = o
head_closed z s xdr.hyper x f o = o
head_closed z s xdr.unsigned_hyper x f o = o
head_closed z s xdr.boolean x f o = truth_closed (x == 0) o
head_closed z s (xdr.numbered constants) x f o = o
head_closed z s (xdr.opaque size) x f o = o
head_closed z s (xdr.opaque_up_to max) x f o = o
head_closed z s (xdr.text max) x f o = o
head_closed z s (xdr.fixed item size) x f o = f
head_closed z s (xdr.up_to item max) x f o = f
head_closed z s (xdr.structure fields) x f o = f
head_closed z s (xdr.choice tag arms other) x f o = f
head_closed z s (xdr.maybe item) x f o = f
head_closed z s xdr.nothing x f o = o
head_closed z s xdr.unknown x f o = f

-- content that comes after its length is spared
pub length_spared : (z : Type 0) (k : KindView) → TakesNone z k → IsLengthFirst (lead_of k) → z
length_spared z (xdr.opaque_up_to max) f i = f
length_spared z (xdr.text max) f i = f
length_spared z xdr.int f i = absurd i
length_spared z xdr.unsigned f i = absurd i
length_spared z xdr.hyper f i = absurd i
length_spared z xdr.unsigned_hyper f i = absurd i
length_spared z xdr.boolean f i = absurd i
length_spared z (xdr.numbered constants) f i = absurd i
length_spared z (xdr.opaque size) f i = absurd i
length_spared z (xdr.fixed item size) f i = absurd i
length_spared z (xdr.up_to item max) f i = absurd i
length_spared z (xdr.structure fields) f i = absurd i
length_spared z (xdr.choice tag arms other) f i = absurd i
length_spared z (xdr.maybe item) f i = absurd i
length_spared z xdr.nothing f i = absurd i
length_spared z xdr.unknown f i = absurd f

abbrev first_kind : List Part → ℕ
first_kind [] = 0
first_kind (p ∷ ps) = p.kind

-- the root is one part
only_kind : (t : ℕ) (ts : List Part) (p : Part) (left : List Part) → ts ++ p ∷ left ≡ item_part t ∷ [] → p.kind ≡ t
only_kind t [] p left e = ap first_kind e
only_kind t (x ∷ ts) p left e =
    absurd (omega (arith, ap (λ (ps : List Part). length ps) e, length-append ts (p ∷ left)))

-- what begins with a unit is some part
pub starts_some : (s : List KindView) (ps : List Part) → Starts s ps → 1 ≤ length ps
starts_some s [] i = absurd i
starts_some s (p ∷ ps) i = omega arith

zeros_bytes : (n : ℕ) → are_bytes (replicate n 0) ≡ true
zeros_bytes zero = refl
zeros_bytes (suc n) = zeros_bytes n

module _ (z : Type 0) (s : List KindView) (t : ℕ) (free : TakesNone z (kind_at s t)) where
  closed : (k : KindView) (h : Head) → TakesNone z k → IsLegal s k h → IsOpen h → ⊥
  closed (xdr.fixed item size) h f l o = f
  closed (xdr.up_to item max) h f l o = f
  closed (xdr.structure fields) h f l o = f
  closed (xdr.choice tag arms other) h f l o = f
  closed (xdr.maybe item) h f l o = f
  closed xdr.unknown h f l o = f
  closed xdr.int (value.int n) f l o = o
  closed xdr.unsigned (value.unsigned n) f l o = o
  closed xdr.hyper (value.hyper n) f l o = o
  closed xdr.unsigned_hyper (value.unsigned_hyper n) f l o = o
  closed xdr.boolean (value.boolean b) f l o = o
  closed (xdr.numbered constants) (value.numbered n) f l o = o
  closed (xdr.opaque size) (value.bytes bs) f l o = o
  closed (xdr.opaque_up_to max) (value.bytes bs) f l o = o
  closed (xdr.text max) (value.bytes bs) f l o = o
  closed xdr.nothing value.nothing f l o = o
  closed _ _ f l o = absurd l

  root_free : (p : Part) → p.kind ≡ t → TakesNone z (kind_at s p.kind)
  root_free p is = subst (λ (k : ℕ). TakesNone z (kind_at s k)) (sym is) free

  -- no node opens within the root
  none_opens : (l : Level) (ls : List Level) (left : List Part) (fs : List (List Part)) (h : Head) (ps : List Part)
      (o : List ℕ) → Opens s t (l ∷ ls) (left ∷ fs) h ps o → ⊥
  none_opens l [] left [] h ps o op =
      closed (kind_at s op.1.kind) h (root_free op.1 (only_kind t op.0 op.1 left op.3.1))
      (legal_is s (kind_at s op.1.kind) h op.6) op.5
  none_opens l (m ∷ ls) left (f ∷ fs) h ps o op =
      none_opens m ls f fs l.head (op.0 ++ op.1 ∷ left) op.2 op.3
  none_opens l [] left (f ∷ fs) h ps o op = absurd op.3
  none_opens l (m ∷ ls) left [] h ps o op = absurd op.3

  built_alone : (ls : List Level) (fs : List (List Part)) (q : List ℕ) → Built s t ls fs q
      → IsAloneIn ls × (length fs ≡ 1)
  built_alone (l ∷ []) (left ∷ []) q b = (b.2.0, refl)
  built_alone (l ∷ m ∷ ls) (left ∷ f ∷ fs) q b = absurd (none_opens m ls f fs l.head (b.0 ++ left) b.1 b.2)
  built_alone (l ∷ []) (left ∷ f ∷ fs) q b = absurd b.2
  built_alone (l ∷ m ∷ ls) (left ∷ []) q b = absurd b.2
  built_alone [] fs q b = absurd b
  built_alone (l ∷ ls) [] q b = absurd b

  built_left : (ls : List Level) (left : List Part) (fs : List (List Part)) (q : List ℕ) → Built s t ls (left ∷ fs) q
      → (ts : List Part) × (ts ++ left ≡ item_part t ∷ [])
  built_left (l ∷ []) left [] q b = (b.0, b.2.1)
  built_left (l ∷ m ∷ ls) left (f ∷ fs) q b = absurd (none_opens m ls f fs l.head (b.0 ++ left) b.1 b.2)
  built_left (l ∷ []) left (f ∷ fs) q b = absurd b.2
  built_left (l ∷ m ∷ ls) left [] q b = absurd b.2
  built_left [] left fs q b = absurd b

  module _ (content : List ℕ) (make : List ℕ → Head) (n : ℕ) where
    into_alone : (ls : List Level) (fs : List (List Part)) (q : List ℕ) → BuiltInto s t ls fs content make n q
        → IsAloneIn ls × (length fs ≡ 1)
    into_alone (l ∷ []) (left ∷ []) q b = (b.4.0, refl)
    into_alone (l ∷ m ∷ ls) (left ∷ f ∷ fs) q b =
        absurd (none_opens m ls f fs l.head (b.0 ++ b.1 ∷ left) b.2 b.4)
    into_alone (l ∷ []) (left ∷ f ∷ fs) q b = absurd b.4
    into_alone (l ∷ m ∷ ls) (left ∷ []) q b = absurd b.4
    into_alone [] fs q b = absurd b
    into_alone (l ∷ ls) [] q b = absurd b

    into_root : (ls : List Level) (left : List Part) (fs : List (List Part)) (q : List ℕ)
        → BuiltInto s t ls (left ∷ fs) content make n q
        → (is_legal s (kind_at s t) (make (replicate (length content + n) 0)) ≡ true) × (length left ≡ 0)
    into_root (l ∷ []) left [] q b =
        let is : b.1.kind ≡ t = only_kind t b.0 b.1 left b.4.1 in
        let size : ℕ = length content + n in (
          subst (λ (k : ℕ). is_legal s (kind_at s k) (make (replicate size 0)) ≡ true) is
              (b.6 (replicate size 0) (length-replicate size 0) (zeros_bytes size)).0,
          omega (
            arith,
            ap (λ (ps : List Part). length ps) b.4.1,
            length-append b.0 (b.1 ∷ left),
          ),
        )
    into_root (l ∷ m ∷ ls) left (f ∷ fs) q b =
        absurd (none_opens m ls f fs l.head (b.0 ++ b.1 ∷ left) b.2 b.4)
    into_root (l ∷ []) left (f ∷ fs) q b = absurd b.4
    into_root (l ∷ m ∷ ls) left [] q b = absurd b.4
    into_root [] left fs q b = absurd b

  bytes_spared : (k : KindView) (bs : List ℕ) → TakesNone z k → IsLegal s k (value.bytes bs) → z
  bytes_spared (xdr.opaque size) bs f l = f
  bytes_spared (xdr.opaque_up_to max) bs f l = f
  bytes_spared (xdr.text max) bs f l = f
  bytes_spared xdr.int bs f l = absurd l
  bytes_spared xdr.unsigned bs f l = absurd l
  bytes_spared xdr.hyper bs f l = absurd l
  bytes_spared xdr.unsigned_hyper bs f l = absurd l
  bytes_spared xdr.boolean bs f l = absurd l
  bytes_spared (xdr.numbered constants) bs f l = absurd l
  bytes_spared (xdr.fixed item size) bs f l = absurd l
  bytes_spared (xdr.up_to item max) bs f l = absurd l
  bytes_spared (xdr.structure fields) bs f l = absurd l
  bytes_spared (xdr.choice tag arms other) bs f l = absurd l
  bytes_spared (xdr.maybe item) bs f l = absurd l
  bytes_spared xdr.nothing bs f l = absurd l
  bytes_spared xdr.unknown bs f l = absurd f

  module _ (l : Bounds) (H : Trace → Type 0) where
    -- a builder was reported of no node at work
    pub seen_alone : (a : Awaits) (fs : List (List Part)) (q : List ℕ) → Sees s t l H a fs q
        → (x : Trace) × H x × IsAlone x × (length fs ≡ 1)
    seen_alone Next fs q r =
        let b = built_alone r.trace.levels fs q r.built.1 in (r.trace, r.reported, b.0, b.1)
    seen_alone (Content n) fs q r =
        let b = into_alone r.trace.content value.bytes n r.trace.levels fs q r.built in (r.trace, r.reported, b.0, b.1)
    seen_alone (Wide g) fs q r =
        let b = into_alone [] _ 8 r.trace.levels fs q r.built.1 in (r.trace, r.reported, b.0, b.1)
    seen_alone (Low g x) fs q r =
        let b = into_alone _ _ 4 r.trace.levels fs q r.built.1 in (r.trace, r.reported, b.0, b.1)

    -- the next part is the root
    pub seen_root : (left : List Part) (fs : List (List Part)) (q : List ℕ) (place : ℕ) → Begins left place
        → Sees s t l H Next (left ∷ fs) q → TakesNone z (kind_at s place)
    seen_root left fs q place b r =
        let e = built_left r.trace.levels left fs q r.built.1 in
        let is : b.0.kind ≡ t = only_kind t e.0 b.0 (rest_of left)
        (ap (λ (ps : List Part). e.0 ++ ps) (sym b.1) ∙ e.1) in
        subst (λ (k : ℕ). TakesNone z (kind_at s k)) b.2 (root_free b.0 is)

    -- and it is the last one
    pub seen_few : (left : List Part) (fs : List (List Part)) (q : List ℕ) → Sees s t l H Next (left ∷ fs) q
        → length left ≤ 1
    seen_few left fs q r =
        let e = built_left r.trace.levels left fs q r.built.1 in
        omega (arith, ap (λ (ps : List Part). length ps) e.1, length-append e.0 left)

    -- content is spared
    pub seen_content : (n : ℕ) (left : List Part) (fs : List (List Part)) (q : List ℕ)
        → Sees s t l H (Content n) (left ∷ fs) q → z
    seen_content n left fs q r =
        let e = into_root r.trace.content value.bytes n r.trace.levels left fs q r.built in
        bytes_spared (kind_at s t) (replicate (length r.trace.content + n) 0) free
        (legal_is s (kind_at s t) (value.bytes (replicate (length r.trace.content + n) 0)) e.0)

    -- nothing comes after a hyper integer
    pub seen_wide : (g : Bool) (left : List Part) (fs : List (List Part)) (q : List ℕ)
        → Sees s t l H (Wide g) (left ∷ fs) q → length left ≡ 0
    seen_wide g left fs q r = (into_root [] _ 8 r.trace.levels left fs q r.built.1).1
