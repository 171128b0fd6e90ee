-- What a reader holds, and how much that may be.
use Rattle.std.specs.Prelude.{◌≡◌, ℕ, ◌+◌, ◌-◌, ◌*◌, ◌/◌, ◌%◌, ◌≤◌, List, ◌++◌, length, ⊤}
use Rattle.xdr_types.specs.Kinds.{KindView}
use Rattle.xdr_types.specs.Tree.{Tree}
use Rattle.xdr_types.specs.Within.{Bounds}
use Rattle.xdr_types.specs.Outcome as outcome
use Rattle.xdr_types.specs.Outcome.{Outcome}
use Rattle.xdr_laws.specs.Held.{Holds, node_count, byte_count}
use Rattle.xdr_stream.specs.Values.{trace_of}
use Rattle.xdr_stream.specs.Retained.{nodes_in, bytes_retained}
use Rattle.xdr_stream.specs.declared.machine.frame.Frame.{Frame}
use Rattle.xdr_stream.specs.declared.holding.Held.{Held}
use Rattle.xdr_stream.specs.declared.reader.Reader.{Reader}
use Rattle.xdr_stream.specs.declared.reader.State.{State}
use Rattle.xdr_stream.specs.declared.reader.State.TheVariants.{Fresh, Reading, Finished, Failed}
use Rattle.xdr_stream.specs.declared.builder.values.Values.{Values}

-- no fault came, and the value is not whole
abbrev pub GoesOn : State → Type 0
GoesOn Fresh = ⊤
GoesOn (Reading a) = ⊤
GoesOn Finished = ⊥
GoesOn (Failed f) = ⊥

-- the frames that stand open: the one at work and its parents, none where nothing more is read
abbrev pub frames_at : State → (parents : List Frame) → ℕ
frames_at Fresh fs = length fs + 1
frames_at (Reading a) fs = length fs + 1
frames_at Finished fs = 0
frames_at (Failed f) fs = 0

-- the nodes, of which the one that is due, or whose content is read, has begun; what stands around the root is none,
-- and counts for it
abbrev pub nodes_at : State → (count : ℕ) → ℕ
nodes_at Fresh n = n
nodes_at (Reading a) n = n
nodes_at Finished n = n - 1
nodes_at (Failed f) n = n - 1

-- the bytes of an unfinished unit
abbrev pub pending_at : State → (pending : ℕ) → ℕ
pending_at Fresh n = n
pending_at (Reading a) n = n
pending_at Finished n = 0
pending_at (Failed f) n = 0

-- the counts are those of a reader's own fields
pub record IsCount {B : Type 0} (r : Reader B) (nodes bytes : ℕ) (h : Held) : Type 0 where
  pub frames : h.frames ≡ frames_at r.state r.parents.items
  pub nodes_are : h.nodes ≡ nodes
  pub bytes_are : h.bytes ≡ bytes
  pub pending : h.pending ≡ pending_at r.state r.pending

-- of a decoder's: its nodes and its bytes of content too
abbrev pub Counts : Reader Values → Held → Type 0
Counts r h = IsCount r (nodes_at r.state (nodes_in (trace_of r.built).levels)) (bytes_retained (trace_of r.built)) h

-- after the bytes b, with u whole units: at most (kinds + 1) (u + 1) nodes, and a frame more than the limit on depth.
-- There is no more content than bytes, and less than a unit waits (RFC 4506 section 3)
pub record IsWithin (kinds : List KindView) (limits : Bounds) (b : List ℕ) (h : Held) : Type 0 where
  pub frames : h.frames ≤ limits.depth + 1
  pub nodes : h.nodes ≤ (length kinds + 1) * (length b / 4 + 1)
  pub bytes : h.bytes ≤ length b
  pub pending : h.pending ≤ 3

-- where a unit is needed: after the whole units of b the nodes are those that the law counts, each as soon as it is
-- due, and the bytes behind them are pending
pub record IsDue (kinds : List KindView) (kind : ℕ) (b : List ℕ) (h : Held) : Type 0 where
  pub whole : List ℕ
  pub rest : List ℕ
  pub parts : b ≡ whole ++ rest
  pub units : length whole % 4 ≡ 0
  pub pending : h.pending ≡ length rest
  pub content : ℕ
  pub holds : Holds kinds kind whole h.nodes content

-- where the value is whole, its nodes and its content are held, and nothing else
pub record IsWhole (kinds : List KindView) (kind : ℕ) (limits : Bounds) (b : List ℕ) (h : Held) : Type 0 where
  pub value : Tree
  pub outcome : Outcome kinds kind limits b (outcome.Whole value (length b))
  pub frames : h.frames ≡ 0
  pub nodes : h.nodes ≡ node_count value
  pub bytes : h.bytes ≡ byte_count value
  pub pending : h.pending ≡ 0
