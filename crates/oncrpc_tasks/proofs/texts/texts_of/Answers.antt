-- The files are read one after another.
use Rattle.std.proofs.Common.{◌≡◌, length, ap, arith}
use Rattle.std.proofs.lemmas.List.{nil_from_length}
use Rattle.oncrpc_tasks.specs.Private.Gathered.{texts_bytes}
use Rattle.oncrpc_tasks.proofs.Gathering.{front_file, none_gathered, one_gathered, all_gathered}
use Rattle.oncrpc_tasks.proofs.texts.texts_of.Goals as goal

pub loop-left-init : goal.loop-left-init
loop-left-init g c = none_gathered _ _ _ _ _ _ (ap texts_bytes c.new-texts.ensures.items)

pub loop-left-preserved : goal.loop-left-preserved
loop-left-preserved g c =
    rw c.in_ok-add.ensures
    (one_gathered _ _ _ _ _ _ _ _ _ _ _ _ _ _ c.loop-left.invariant
    (front_file _ c.file-item.result c.in-len1-up.len_at_least c.file-item.is) c.text_of.ensures.same
    c.in_ok-text.ensures.reads.opened (rw c.deref.ensures at c.in_ok-text.ensures.reads.read))

pub returns-clause-read : goal.returns-clause-read
returns-clause-read g c =
    let none : length c.loop-left.left.now ≡ 0 = omega arith in
    all_gathered _ _ _ _ _ _ _ _ _ c.loop-left.invariant (nil_from_length c.loop-left.left.now none)
