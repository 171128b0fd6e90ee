-- What asking a registry for its rows writes and prints.
use Rattle.std.proofs.Common.{◌≡◌, ℕ, true, List, [], ◌∷◌, ◌++◌, Option, Result, Ok, Err, codes, flat_map, refl, arith}
use Rattle.std.specs.Io.KnownBytes.{Appends}
use Rattle.rpc_record.specs.Marked.{fragment, header}
use Rattle.rpc_message.specs.declared.message.Reply.{Reply}
use Rattle.rpc_message.specs.Message.{ReplyView, StatusView, Accepted, Denied, Success, ProgUnavail, ProgMismatch}
use Rattle.rpc_message.specs.Message.{ProcUnavail, GarbageArgs, SystemErr}
use Rattle.rpc_message.specs.Spelling.{call}
use Rattle.rpc_message.specs.View.{reply_view}
use Rattle.rpc_engine.specs.declared.fault.ClientFault.{ClientFault}
use Rattle.rpc_engine.specs.declared.fault.ClientFault.TheVariants as fault
use Rattle.rpc_engine.specs.Exchanged.{Wrote}
use Rattle.oncrpc_service.specs.Rows.{row_line, mapping_line}
use Rattle.oncrpc_service.specs.Infos.{Reports, ReportsReply, ReportsStatus, ReportsRows, rows, mappings}
use Rattle.oncrpc_service.specs.Infos.{refused, dump_call}

-- where an answer is printed the whole call went out
pub whole_call : (bytes : List ℕ) (vers status : ℕ) (text : List ℕ) (taken taken' : Option (List ℕ))
    (answer : Result Reply ClientFault) → Reports vers answer status text → Wrote bytes taken taken' answer
    → Appends taken taken' (fragment true bytes)
whole_call bytes vers status text taken taken' (Ok reply) t h = h
whole_call bytes vers status text taken taken' (Err (fault.Record f)) t h = h
whole_call bytes vers status text taken taken' (Err fault.Read) t h = h
whole_call bytes vers status text taken taken' (Err (fault.Write written)) t h = absurd t.1
whole_call bytes vers status text taken taken' (Err (fault.Reply f)) t h = h
whole_call bytes vers status text taken taken' (Err (fault.WrongXid got)) t h = h
whole_call bytes vers status text taken taken' (Err fault.TooManyReads) t h = h
whole_call bytes vers status text taken taken' (Err fault.NoMemory) t h = absurd t.1

-- the bytes of that call
pub dump_bytes : fragment true (call (dump_call 4)) ≡ 128 ∷ 0 ∷ 0 ∷ 40 ∷ 0 ∷ 0 ∷ 0 ∷ 1 ∷ 0 ∷ 0 ∷ 0 ∷ 0
    ∷ 0 ∷ 0 ∷ 0 ∷ 2 ∷ 0 ∷ 1 ∷ 134 ∷ 160 ∷ 0 ∷ 0 ∷ 0 ∷ 4 ∷ 0 ∷ 0 ∷ 0 ∷ 4
    ∷ 0 ∷ 0 ∷ 0 ∷ 0 ∷ 0 ∷ 0 ∷ 0 ∷ 0 ∷ 0 ∷ 0 ∷ 0 ∷ 0 ∷ 0 ∷ 0 ∷ 0 ∷ 0 ∷ []
unfolding header
dump_bytes = refl

-- the same without a mark
pub datagram_bytes : call (dump_call 4) ≡ 0 ∷ 0 ∷ 0 ∷ 1 ∷ 0 ∷ 0 ∷ 0 ∷ 0
    ∷ 0 ∷ 0 ∷ 0 ∷ 2 ∷ 0 ∷ 1 ∷ 134 ∷ 160 ∷ 0 ∷ 0 ∷ 0 ∷ 4 ∷ 0 ∷ 0 ∷ 0 ∷ 4
    ∷ 0 ∷ 0 ∷ 0 ∷ 0 ∷ 0 ∷ 0 ∷ 0 ∷ 0 ∷ 0 ∷ 0 ∷ 0 ∷ 0 ∷ 0 ∷ 0 ∷ 0 ∷ 0 ∷ []
datagram_bytes = refl

abbrev pub UnderHeader : List ℕ → Type 0
UnderHeader text = (lines : List ℕ) × (text ≡ codes "program vers prot port\n" ++ lines)

under_rows : (results : List ℕ) (status : ℕ) (text : List ℕ) → status ≡ 0 → ReportsRows 2 results status text
    → UnderHeader text
under_rows results _ _ zero (rows rs other begins) = (flat_map row_line rs, refl)
under_rows results _ _ zero (mappings ms two begins) = (flat_map mapping_line ms, refl)
under_rows results _ _ zero (refused f known ends none place cut) = absurd (omega (arith, zero))

under_status : (s : StatusView) (status : ℕ) (text : List ℕ) → status ≡ 0 → ReportsStatus 2 s status text
    → UnderHeader text
under_status (Success results) status text zero t = under_rows results status text zero t
under_status ProgUnavail status text zero t = let one = t.0 in absurd (omega (arith, zero, one))
under_status (ProgMismatch low high) status text zero t = let one = t.0 in absurd (omega (arith, zero, one))
under_status ProcUnavail status text zero t = let one = t.0 in absurd (omega (arith, zero, one))
under_status GarbageArgs status text zero t = let one = t.0 in absurd (omega (arith, zero, one))
under_status SystemErr status text zero t = let one = t.0 in absurd (omega (arith, zero, one))

under_reply : (v : ReplyView) (status : ℕ) (text : List ℕ) → status ≡ 0 → ReportsReply 2 v status text
    → UnderHeader text
under_reply (Accepted xid verf s) status text zero t = under_status s status text zero t
under_reply (Denied xid why) status text zero t = let one = t.0 in absurd (omega (arith, zero, one))

-- rows of version 2 are printed under their header
pub under_header : (answer : Result Reply ClientFault) (status : ℕ) (text : List ℕ) → status ≡ 0
    → Reports 2 answer status text → UnderHeader text
under_header (Ok reply) status text zero t = under_reply (reply_view reply) status text zero t
under_header (Err f) status text zero t = let one = t.0 in absurd (omega (arith, zero, one))
