-- The lists of the value's parts go into the buffers, or do not.
use Rattle.std.proofs.Common.{◌≡◌, length, rules, arith}
use Rattle.c_values.specs.Answers.{Question}
use Rattle.c_values.proofs.Parting.{are_parts_of}
use Rattle.c_values.proofs.parts.list_into.Goals as goal

pub returns-in-Err : goal.returns-in-Err
returns-in-Err c = c.in-Err.ensures.none (record { parts = c.args.parts.now; names = c.args.names.now })

pub returns-then-not-put : goal.returns-then-not-put
returns-then-not-put c =
    let q : Question =
    record { kinds = c.args.schema.now.kinds; place = c.args.kind.place; limits = c.args.limits } in
    let are = c.in-Ok.ensures.list in
    let parts : c.len.result ≡ length c.in-Ok.list.parts.items = search rules in
    let names : c.len-2.result ≡ length c.in-Ok.list.names.items = search rules in (
      c.in-Ok.list.parts.items,
      c.in-Ok.list.names.items,
      are_parts_of q c.args.input.now _ _ c.in-Ok.list.used c.len.result c.len-2.result are.begins are.each are.joined
          parts names,
      rw (parts, names) (c.put.ensures.small (search rules)),
      record {
        parts_stay = c.put.ensures.parts_stay (search rules);
        names_stay = c.put.ensures.names_stay (search rules);
      },
    )

pub returns-then-counts-input : goal.returns-then-counts-input
returns-then-counts-input c =
    let q : Question =
    record { kinds = c.args.schema.now.kinds; place = c.args.kind.place; limits = c.args.limits } in
    let are = c.in-Ok.ensures.list in
    let parts : c.len.result ≡ length c.in-Ok.list.parts.items = search rules in
    let names : c.len-2.result ≡ length c.in-Ok.list.names.items = search rules in (
      (
        c.in-Ok.list.parts.items,
        c.in-Ok.list.names.items,
        are_parts_of q c.args.input.now _ _ c.in-Ok.list.used c.len.result c.len-2.result are.begins are.each
            are.joined parts names,
        record {
          parts_front = c.put.ensures.parts (search rules);
          names_front = c.put.ensures.names (search rules);
        },
      ),
      omega arith,
    )

pub returns : goal.returns
returns c =
    let q : Question =
    record { kinds = c.args.schema.now.kinds; place = c.args.kind.place; limits = c.args.limits } in
    let are = c.in-Ok.ensures.list in
    let parts : c.len.result ≡ length c.in-Ok.list.parts.items = search rules in
    let names : c.len-2.result ≡ length c.in-Ok.list.names.items = search rules in (
      (
        c.in-Ok.list.parts.items,
        c.in-Ok.list.names.items,
        are_parts_of q c.args.input.now _ _ c.in-Ok.list.used c.len.result c.len-2.result are.begins are.each
            are.joined parts names,
        record {
          parts_front = c.put.ensures.parts (search rules);
          names_front = c.put.ensures.names (search rules);
        },
      ),
      omega (arith, are.begins.within),
    )
