-- What the fields of a reader stand for.
use Rattle.std.specs.Prelude.{◌≡◌, ℕ, ◌+◌, ◌-◌, ◌%◌, ◌≤◌, ◌<◌, pos, negsuc, cond, nat_lt, Bool, true, false}
use Rattle.std.specs.Prelude.{List, [], ◌∷◌, ◌++◌, length, ⊤}
use Rattle.std.specs.Int.{w64, from_be_bytes}
use Rattle.std.specs.List.{AllByRecursion}
use Rattle.xdr_types.specs.Kinds.{KindView, Part, kind_at}
use Rattle.xdr_types.specs.Tree as value
use Rattle.xdr_types.specs.Tree.{Head, Values, Tree, from_list}
use Rattle.xdr_units.specs.Numbers.{num4, pad}
use Rattle.xdr_types.specs.Fits.{fit, is_legal, parts, item_part, are_bytes}
use Rattle.xdr_types.specs.Spelling.{own, spelling}
use Rattle.xdr_types.specs.Within.{Bounds}
use Rattle.xdr_types.specs.Layout.{Entry}
use Rattle.xdr_types.specs.Front.{Front}
use Rattle.xdr_types.specs.Outcome as outcome
use Rattle.xdr_types.specs.Outcome.{IsReached, Outcome}
use Rattle.xdr_laws.specs.Owed.{Due, Frame, Rest, lead_of, HasUnit, Reads, IsOnTrack, AllUpTo}
use Rattle.xdr_stream.specs.declared.fault.Reason.{Reason}
use Rattle.xdr_stream.specs.declared.fault.Reason.TheVariants as reason
use Rattle.xdr_stream.specs.declared.machine.Awaits.{Awaits}
use Rattle.xdr_stream.specs.declared.machine.Awaits.TheVariants.{Next, Content, Wide, Low}
use Rattle.xdr_stream.specs.Frames.{dues}
use Rattle.xdr_stream.specs.Trace.{Level, Trace, IsOpen}

-- The nodes of ls and fs stand open around a node with this head and these parts, and the bytes up to its first part
-- are o.
abbrev pub Opens : List KindView → (kind : ℕ) → List Level → List (List Part) → Head → List Part → (o : List ℕ) → Type 0
Opens kinds kind [] [] h ps o = (h ≡ value.nothing) × (ps ≡ item_part kind ∷ []) × (o ≡ [])
Opens kinds kind (l ∷ ls) (left ∷ fs) h ps o =
    (ts : List Part) × (p : Part) × (r : List ℕ) × Opens kinds kind ls fs l.head (ts ++ p ∷ left) r
    × (fit kinds ts (from_list l.done) ≡ true)
    × IsOpen h × (is_legal kinds (kind_at kinds p.kind) h ≡ true) × (ps ≡ parts (kind_at kinds p.kind) h)
    × (o ≡ (r ++ spelling kinds ts (from_list l.done)) ++ own (kind_at kinds p.kind) h)
Opens kinds kind _ _ h ps o = ⊥

-- The finished parts of the nodes at work, each with its own bytes before them, are the bytes q.
abbrev pub Built : List KindView → (kind : ℕ) → List Level → List (List Part) → (q : List ℕ) → Type 0
Built kinds kind (l ∷ ls) (left ∷ fs) q =
    (ts : List Part) × (r : List ℕ) × Opens kinds kind ls fs l.head (ts ++ left) r
    × (fit kinds ts (from_list l.done) ≡ true)
    × (q ≡ r ++ spelling kinds ts (from_list l.done))
Built kinds kind _ _ q = ⊥

-- what content makes of its bytes: a legal head without parts, whose bytes are the length's, these, and zeros
abbrev pub Makes : List KindView → KindView → (size : ℕ) → (length_bytes : List ℕ) → (make : List ℕ → Head) → Type 0
Makes kinds f size prefix make =
    (bs : List ℕ) → length bs ≡ size → are_bytes bs ≡ true
    → (is_legal kinds f (make bs) ≡ true) × (own f (make bs) ≡ prefix ++ (bs ++ pad size))
    × (parts f (make bs) ≡ [])

-- The same in the middle of content, so many bytes of which are still to come.
abbrev pub BuiltInto : List KindView → (kind : ℕ) → List Level → List (List Part) → (content : List ℕ)
    → (make : List ℕ → Head) → (left : ℕ) → (q : List ℕ) → Type 0
BuiltInto kinds kind (l ∷ ls) (left ∷ fs) content make n q =
    (ts : List Part) × (p : Part) × (r : List ℕ) × (prefix : List ℕ) × Opens kinds kind ls fs l.head (ts ++ p ∷ left) r
    × (fit kinds ts (from_list l.done) ≡ true)
    × Makes kinds (kind_at kinds p.kind) (length content + n) prefix make
    × (q ≡ (r ++ spelling kinds ts (from_list l.done)) ++ (prefix ++ content)) × (length content % 4 ≡ 0)
    × (are_bytes content ≡ true)
BuiltInto kinds kind _ _ content make n q = ⊥

-- The bytes q are read, and ds is owed; no event stands before their end, and no node that has begun is too deep.
pub record Reading (kinds : List KindView) (kind : ℕ) (limits : Bounds) (ds : List Due) (q : List ℕ) : Type 0 where
  pub begun : List Entry
  pub reads : Reads kinds 0 (Frame 1 (item_part kind ∷ []) ∷ []) q begun ds
  pub track : IsOnTrack kinds begun (length q) ds
  pub low : AllUpTo (length q) begun
  pub shallow : AllByRecursion (λ (e : Entry). e.depth ≤ limits.depth) begun
  pub front : Front kinds kind q
  pub reached : (rest : List ℕ) → IsReached kinds kind limits (q ++ rest) (length q)

-- the number in two units, as a hyper integer, signed or not
abbrev pub make_wide : (signed : Bool) → List ℕ → Head
make_wide true bs =
    value.hyper (cond (nat_lt (from_be_bytes w64 bs) 9223372036854775808) (pos (from_be_bytes w64 bs))
    (negsuc (18446744073709551615 - from_be_bytes w64 bs)))
make_wide false bs = value.unsigned_hyper (from_be_bytes w64 bs)

-- what is owed, where this comes next
abbrev pub owed : Awaits → List (List Part) → List Due
owed Next fs = dues fs
owed (Content n) fs = Rest n ∷ dues fs
owed (Wide signed) fs = Rest 8 ∷ dues fs
owed (Low signed x) fs = Rest 4 ∷ dues fs

-- the nodes at work and the content so far make the bytes q
abbrev pub BuiltAs : List KindView → (kind : ℕ) → Awaits → Trace → List (List Part) → (q : List ℕ) → Type 0
BuiltAs kinds kind Next t fs q = (t.content ≡ []) × Built kinds kind t.levels fs q
BuiltAs kinds kind (Content n) t fs q = BuiltInto kinds kind t.levels fs t.content value.bytes n q
BuiltAs kinds kind (Wide signed) t fs q = (t.content ≡ []) × BuiltInto kinds kind t.levels fs [] (make_wide signed) 8 q
BuiltAs kinds kind (Low signed x) t fs q = (t.content ≡ [])
    × BuiltInto kinds kind t.levels fs (num4 (pos x)) (make_wide signed) 4 q

-- the bytes q are read, this comes next, and a builder was reported what they make
pub record Sees (kinds : List KindView) (kind : ℕ) (limits : Bounds) (H : Trace → Type 0) (awaits : Awaits)
    (fs : List (List Part)) (q : List ℕ) : Type 0 where
  pub reading : Reading kinds kind limits (owed awaits fs) q
  pub trace : Trace
  pub reported : H trace
  pub built : BuiltAs kinds kind awaits trace fs q

-- a unit is needed, and no node that is due is too deep
abbrev pub IsReady : List KindView → Bounds → Awaits → List (List Part) → Type 0
IsReady kinds limits Next ((p ∷ ps) ∷ fs) = HasUnit (lead_of (kind_at kinds p.kind)) × (length fs + 1 ≤ limits.depth)
IsReady kinds limits Next _ = ⊥
IsReady kinds limits (Content n) fs = 0 < n
IsReady kinds limits (Wide signed) fs = ⊤
IsReady kinds limits (Low signed x) fs = ⊤

-- the outcome that a reason stands for, unless memory was refused
abbrev pub Ends : List KindView → (kind : ℕ) → Bounds → Reason → (b : List ℕ) → (p : ℕ) → Type 0
Ends kinds kind limits reason.BadBool b p = Outcome kinds kind limits b (outcome.Broken outcome.bad_bool p)
Ends kinds kind limits reason.BadNumbered b p = Outcome kinds kind limits b (outcome.Broken outcome.bad_numbered p)
Ends kinds kind limits reason.BadCase b p = Outcome kinds kind limits b (outcome.Broken outcome.bad_case p)
Ends kinds kind limits reason.TooLong b p = Outcome kinds kind limits b (outcome.Broken outcome.too_long p)
Ends kinds kind limits reason.BadPadding b p = Outcome kinds kind limits b (outcome.Broken outcome.bad_padding p)
Ends kinds kind limits reason.TooDeep b p = Outcome kinds kind limits b (outcome.TooDeep p)
Ends kinds kind limits reason.TooLarge b p = Outcome kinds kind limits b (outcome.TooLarge p)
Ends kinds kind limits reason.Truncated b p = ⊥
Ends kinds kind limits reason.NoMemory b p = ⊤
