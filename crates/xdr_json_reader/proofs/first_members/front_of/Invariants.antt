use Rattle.std.proofs.Common.{◌≡◌, ℕ, List, take, is_some}
use Rattle.xdr_types.specs.Kinds.{Part}
use Rattle.xdr_json_reader.specs.Private.Wanted.{IsWanted}
use Rattle.xdr_json_reader.proofs.FirstFronts.{IsKnownTo, stood_in}
use Rattle.xdr_json_reader.proofs.FirstKeys.{stood}
use Rattle.xdr_json_reader.proofs.Named.{At}
use Rattle.xdr_json_reader.proofs.first_members.front_of.Given as goal

abbrev pub invariant-loop-count : goal.invariant-loop-count
invariant-loop-count l =
    ((key : List ℕ) → is_some (At l.stood key) ≡ stood (stood_in (take l.count l.members.items)) key)
    × ((ps : List Part) → IsWanted l.fn.wanted ps → IsKnownTo ps l.members.items l.count)
