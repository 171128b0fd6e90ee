use Rattle.std.proofs.Common.{◌++◌, List, ℕ, All, ap, subst, sym, length, ◌∙◌}
use Rattle.std.specs.List.{flat_map}
use Rattle.rpc_message.specs.View.{auth_sys_view}
use Rattle.xdr_units.specs.Numbers.{word, IsWord}
use Rattle.rpc_message.specs.Spelling.{opaque}
use Rattle.rpc_message.proofs.SysLaws.{sys_written}
use Rattle.rpc_message.proofs.credentials.write_auth_sys.Goals as goal

pub returns : goal.returns
returns c =
    sys_written (auth_sys_view c.args.a.now) c.push_word.new.out.items c.push_opaque.new.out.items
    c.push_word-2.new.out.items c.push_word-3.new.out.items c.push_word-4.new.out.items c.push_words.new.out.items
    (record {
      stamp = c.push_word.ensures.fits;
      machine = c.requires.machine;
      uid = c.push_word-2.ensures.fits;
      gid = c.push_word-3.ensures.fits;
      few = c.requires.gids;
      gids =
          subst (All IsWord) c.deref-2.ensures.value c.in_ok-push_words.ensures.fits;
    })
    (c.in_ok-push_word.ensures.ok ∙ ap (λ (t : List ℕ). t ++ word c.args.a.now.stamp) c.new-out.ensures.items)
    (c.in_ok-push_opaque.ensures.ok ∙ ap (λ (t : List ℕ). c.push_word.new.out.items ++ opaque t) c.deref.ensures.value)
    c.in_ok-push_word-2.ensures.ok
    c.in_ok-push_word-3.ensures.ok
    (c.in_ok-push_word-4.ensures.ok ∙ ap (λ (k : ℕ). c.push_word-3.new.out.items ++ word k)
    (c.len.ensures ∙ sym c.deref-2.ensures.len ∙ ap length c.deref-2.ensures.value))
    (c.in_ok-push_words.ensures.ok ∙ ap (λ (t : List ℕ). c.push_word-4.new.out.items
    ++ flat_map word t) c.deref-2.ensures.value)
