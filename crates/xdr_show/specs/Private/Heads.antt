-- What a node shows by itself, as the code has it.
use Rattle.xdr_types.specs.Tree as value
use Rattle.xdr_show.specs.declared.head.Head.{Head}
use Rattle.xdr_show.specs.declared.head.Head.TheVariants as head

-- the head of a tree's node (RFC 4506 sections 4.1 to 4.19)
abbrev pub head_view : Head → value.Head
head_view (head.Int z) = value.int z
head_view (head.Unsigned n) = value.unsigned n
head_view (head.Hyper z) = value.hyper z
head_view (head.UnsignedHyper n) = value.unsigned_hyper n
head_view (head.Bool b) = value.boolean b
head_view (head.Numbered z) = value.numbered z
head_view (head.Bytes bytes) = value.bytes bytes.now
head_view (head.Items n) = value.items n
head_view head.Fields = value.fields
head_view (head.Tag z) = value.tag z
head_view head.Present = value.present
head_view head.Absent = value.absent
head_view head.Nothing = value.nothing
