use Rattle.std.proofs.Common.{◌≡◌, ◌<◌, ℕ, List, true, false, length, take, get_or, is_some}
use Rattle.std.proofs.Common.{sym, ap, ◌∙◌, arith, not}
use Rattle.std.proofs.lemmas.Map.Text.{btree_map_updates_str}
use Rattle.std.specs.Str.{bytes_eq}
use Rattle.xdr_types.specs.declared.kind.KindId.{KindId}
use Rattle.xdr_json_reader.specs.Tape.{members_of}
use Rattle.xdr_json_reader.specs.Private.Look.{pairs}
use Rattle.xdr_json_reader.specs.Reasons.{kind_under}
use Rattle.xdr_json_reader.specs.declared.fault.JsonReason.TheVariants.{UnknownMember, MemberTwice}
use Rattle.xdr_json_reader.proofs.FirstFronts.{stood_in, stood_more, known_more, known_refused, known_end}
use Rattle.xdr_json_reader.proofs.FirstKeys.{stood, refused_none, refused_unknown, refused_twice, noted, found_kind}
use Rattle.xdr_json_reader.proofs.Named.{At}
use Rattle.xdr_json_reader.proofs.first_members.front_of.Goals as goal

pub loop-count-preserved : goal.loop-count-preserved
loop-count-preserved c =
    let ms = c.args.members.now.items in
    let i = c.loop-count.count in
    let m = c.member-item.result in
    let value = c.deref-member-items.ensures.value in
    let within : c.loop-count.count < length c.args.members.now.items =
    omega (arith, c.loop-count-test.true, ap length value) in
    let is : get_or c.args.members.now.items c.loop-count.count c.member-item.result ≡ c.member-item.result =
    sym (c.member-item.is ∙ ap (λ l. get_or l i m) value) in
    let new = sym (c.loop-count.invariant.0 m.0.name.now) ∙ sym c.contains_key.ensures ∙ c.if-contains_key.false in (
      λ (key : List ℕ).
          ap is_some (btree_map_updates_str m.0.name.now c.loop-count.stood c.insert.new.self _
          c.in_ok-insert.ensures.updates key)
          ∙ noted (bytes_eq m.0.name.now key) (At c.loop-count.stood key) (stood (stood_in (take i ms)) key)
          (c.loop-count.invariant.0 key)
          ∙ ap (λ (ks : List (List ℕ)). stood ks key) (sym (stood_more ms i m within is)),
      λ ps isw.
          let known = found_kind (λ (k : KindId). k.place) c.kind_under.result
          (kind_under ps m.0.name.now) true (c.kind_under.ensures ps isw)
          (c.is_none.ensures ∙ ap not c.if-is_none.false) in
          known_more ps ms i m within is (c.loop-count.invariant.1 ps isw)
          (refused_none ps (stood_in (take i ms)) m.0.name.now known new),
    )

pub returns-clause-front : goal.returns-clause-front
returns-clause-front c = λ ps isw.
    let ms = c.args.members.now.items in
    let value = c.deref-member-items.ensures.value in
    let all : c.loop-count.count ≡ length c.args.members.now.items =
    omega (arith, c.loop-count-test.false, c.loop-count.auto.count-end, ap length value) in
    let r = known_end ps ms c.loop-count.count all (c.loop-count.invariant.1 ps isw) in
    let long : c.len.result ≡ length c.args.members.now.items =
    omega (arith, c.len.ensures, c.args.members.now.ok.0) in
    record { is = r.1 ∙ ap (λ (n : ℕ). members_of (pairs (take n ms))) (sym long); why = r.0 }

pub returns-then-is_none-clause-front : goal.returns-then-is_none-clause-front
returns-then-is_none-clause-front c = λ ps isw.
    let ms = c.args.members.now.items in
    let i = c.loop-count.count in
    let m = c.member-item.result in
    let value = c.deref-member-items.ensures.value in
    let within : c.loop-count.count < length c.args.members.now.items =
    omega (arith, c.loop-count-test.true, ap length value) in
    let is : get_or c.args.members.now.items c.loop-count.count c.member-item.result ≡ c.member-item.result =
    sym (c.member-item.is ∙ ap (λ l. get_or l i m) value) in
    let unknown = found_kind (λ (k : KindId). k.place) c.kind_under.result (kind_under ps m.0.name.now) false
    (c.kind_under.ensures ps isw) (c.is_none.ensures ∙ ap not c.if-is_none.true) in
    let r = known_refused ps ms i m within is (c.loop-count.invariant.1 ps isw) UnknownMember
    (refused_unknown ps (stood_in (take i ms)) m.0.name.now unknown) in
    record { is = r.1; why = r.0 }

pub returns-then-contains_key-clause-front : goal.returns-then-contains_key-clause-front
returns-then-contains_key-clause-front c = λ ps isw.
    let ms = c.args.members.now.items in
    let i = c.loop-count.count in
    let m = c.member-item.result in
    let value = c.deref-member-items.ensures.value in
    let within : c.loop-count.count < length c.args.members.now.items =
    omega (arith, c.loop-count-test.true, ap length value) in
    let is : get_or c.args.members.now.items c.loop-count.count c.member-item.result ≡ c.member-item.result =
    sym (c.member-item.is ∙ ap (λ l. get_or l i m) value) in
    let known = found_kind (λ (k : KindId). k.place) c.kind_under.result (kind_under ps m.0.name.now) true
    (c.kind_under.ensures ps isw) (c.is_none.ensures ∙ ap not c.if-is_none.false) in
    let twice = sym (c.loop-count.invariant.0 m.0.name.now) ∙ sym c.contains_key.ensures ∙ c.if-contains_key.true in
    let r = known_refused ps ms i m within is (c.loop-count.invariant.1 ps isw) MemberTwice
    (refused_twice ps (stood_in (take i ms)) m.0.name.now known twice) in
    record { is = r.1; why = r.0 }
