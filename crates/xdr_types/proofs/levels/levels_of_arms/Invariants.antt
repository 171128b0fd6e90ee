use Rattle.std.proofs.Common.{◌-◌, ℤ, List, length, map, option_map, drop}
use Rattle.xdr_types.specs.Kinds.{KindView}
use Rattle.xdr_types.specs.KindViews.{part_of_member, branch_of}
use Rattle.xdr_types.specs.Fits.{part_of, optional_part}
use Rattle.xdr_types.specs.Private.Notes.{AreNotes, AreWithin}
use Rattle.xdr_types.proofs.levels.levels_of_arms.Given as goal

abbrev pub invariant-loop-done : goal.invariant-loop-done
invariant-loop-done l = (kinds : List KindView) → AreNotes kinds l.notes.items → (z : ℤ)
    → AreWithin kinds (optional_part (part_of (map branch_of (drop (length l.arms.items - l.done) l.arms.items))
    (option_map part_of_member l.other) z)) l.most
