-- That the facts of a reader's nodes at work have one proof at most, as a fact that a type holds has to.
use Rattle.std.specs.Prelude.{List, [], ◌∷◌}
use Rattle.std.specs.Coded.{×_prop, Unit-prop, le_prop}
use Rattle.xdr_types.specs.Kinds as xdr
use Rattle.xdr_types.specs.Kinds.{KindView, Part, kind_at}
use Rattle.xdr_laws.specs.Owed.{Lead, UnitFirst, LengthFirst, FreeBytes, Silent, lead_of, HasUnit, IsSolid}
use Rattle.xdr_stream.specs.Frames.{stack_of}
use Rattle.xdr_stream.specs.Private.Sound.{AreSolid, AreAllSolid, AreKnown, IsSound, IsSoundAt, Starts, IsAwaited}
use Rattle.xdr_stream.specs.Private.Sound.{Waits}
use Rattle.xdr_stream.specs.declared.machine.frame.Frame.{Frame}
use Rattle.xdr_stream.specs.declared.machine.Awaits.{Awaits}
use Rattle.xdr_stream.specs.declared.machine.Awaits.TheVariants.{Next, Content, Wide, Low}
use Rattle.xdr_stream.specs.declared.reader.State.{State}
use Rattle.xdr_stream.specs.declared.reader.State.TheVariants.{Fresh, Reading, Finished, Failed}

⊥-prop : IsProp ⊥
⊥-prop x y = absurd x

IsSolid-prop : (k : KindView) → IsProp (IsSolid k)
IsSolid-prop xdr.nothing = ⊥-prop
IsSolid-prop _ = Unit-prop

AreSolid-prop : (kinds : List KindView) (ps : List Part) → IsProp (AreSolid kinds ps)
AreSolid-prop kinds [] = Unit-prop
AreSolid-prop kinds (p ∷ ps) =
    ×_prop (×_prop le_prop (IsSolid-prop (kind_at kinds p.kind))) (AreSolid-prop kinds ps)

AreAllSolid-prop : (kinds : List KindView) (fs : List (List Part)) → IsProp (AreAllSolid kinds fs)
AreAllSolid-prop kinds [] = Unit-prop
AreAllSolid-prop kinds (ps ∷ fs) = ×_prop (AreSolid-prop kinds ps) (AreAllSolid-prop kinds fs)

AreKnown-prop : (kinds : List KindView) (ps : List Part) → IsProp (AreKnown kinds ps)
AreKnown-prop kinds [] = Unit-prop
AreKnown-prop kinds (p ∷ []) = le_prop
AreKnown-prop kinds (p ∷ q ∷ ps) = AreSolid-prop kinds (p ∷ q ∷ ps)

IsSound-prop : (kinds : List KindView) (fs : List (List Part)) → IsProp (IsSound kinds fs)
IsSound-prop kinds [] = Unit-prop
IsSound-prop kinds (ps ∷ fs) = ×_prop (AreKnown-prop kinds ps) (AreAllSolid-prop kinds fs)

pub one_sound : (kinds : List KindView) (work : Frame) (parents : List Frame) → IsProp (IsSoundAt kinds work parents)
one_sound kinds work parents = IsSound-prop kinds (stack_of work parents)

HasUnit-prop : (l : Lead) → IsProp (HasUnit l)
HasUnit-prop UnitFirst = Unit-prop
HasUnit-prop LengthFirst = Unit-prop
HasUnit-prop FreeBytes = ⊥-prop
HasUnit-prop Silent = ⊥-prop

Starts-prop : (kinds : List KindView) (ps : List Part) → IsProp (Starts kinds ps)
Starts-prop kinds [] = ⊥-prop
Starts-prop kinds (p ∷ ps) = HasUnit-prop (lead_of (kind_at kinds p.kind))

IsAwaited-prop : (kinds : List KindView) (ps : List Part) (a : Awaits) → IsProp (IsAwaited kinds ps a)
IsAwaited-prop kinds ps Next = Starts-prop kinds ps
IsAwaited-prop kinds ps (Content n) = Unit-prop
IsAwaited-prop kinds ps (Wide signed) = Unit-prop
IsAwaited-prop kinds ps (Low signed x) = Unit-prop

pub one_wait : (kinds : List KindView) (ps : List Part) (s : State) → IsProp (Waits kinds ps s)
one_wait kinds ps Fresh = Unit-prop
one_wait kinds ps (Reading a) = IsAwaited-prop kinds ps a
one_wait kinds ps Finished = Unit-prop
one_wait kinds ps (Failed f) = Unit-prop
