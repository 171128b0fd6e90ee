-- What a writer's refusals say.
use Rattle.std.proofs.Common.{◌≡◌, ℕ, ◌-◌, ◌%◌, List, ap, sym, ◌∙◌, subst, arith}
use Rattle.std.specs.Prelude.{None, Err}
use Rattle.xdr_types.specs.Within.{Bounds}
use Rattle.xdr_types.specs.Outcome.{Outcome, Pending}
use Rattle.xdr_stream.specs.Represents as reported
use Rattle.xdr_stream.specs.declared.fault.DecodeFault.{DecodeFault}
use Rattle.xdr_stream.specs.declared.fault.Reason.TheVariants as reason
use Rattle.xdr_codec.specs.Checks as checks
use Rattle.xdr_writer.specs.Items.{ItemView, NodeItem, all_spelled}
use Rattle.xdr_writer.specs.Represents.{RepresentsItems, HasRefused, kinds_of, kind_of}
use Rattle.xdr_writer.specs.Answers.{Refuses, Rejects, RefusesEnd, RejectsEnd}
use Rattle.xdr_writer.specs.Private.Judged.{IsEnd}
use Rattle.xdr_writer.specs.Private.After.{RefusesItem}
use Rattle.xdr_writer.specs.declared.refusal.Why.{Why}
use Rattle.xdr_writer.specs.declared.refusal.Why.TheVariants as why
use Rattle.xdr_writer.specs.declared.refusal.WriteRefusal.{WriteRefusal}
use Rattle.xdr_writer.specs.declared.writer.Writer.{Writer}
use Rattle.xdr_writer.proofs.Putting.{refused_none, end_none}

-- an item that is refused
pub rejects : (a b : Writer) (i : ItemView) (before after : List ℕ) (space : ℕ) (f : WriteRefusal)
    → a.limits.bytes % 4 ≡ 0 → space ≡ a.limits.bytes - a.written → f.item ≡ a.count
    → RefusesItem a.checker space i before after f.why → HasRefused b f → Rejects a b i before after (Err f)
rejects a b i before after space f units room item h stays =
    let same : (checks.limits_of a.checker).bytes ≡ a.limits.bytes = ap (λ (l : Bounds). l.bytes) a.limits_are in
    let each : (is : List NodeItem) → RepresentsItems a is → Refuses (kinds_of a) (kind_of a) a.limits is i f.why =
    λ is st. subst (λ (l : Bounds). Refuses (kinds_of a) (kind_of a) l is i f.why) a.limits_are
    (h.refuses is (record { bytes = st.bytes; begin = st.begin }) (omega (arith, room, st.written, same))) in
    record {
      refuses = λ is st. (each is st, item ∙ st.count);
      no_value = λ is st known.
          refused_none (kinds_of a) (kind_of a) a.limits is st.begin units i f.why (each is st) known;
      retained = h.retained;
      refused = stays;
    }

-- ---- the end

module _ (a : Writer) (units : a.limits.bytes % 4 ≡ 0) (fault : DecodeFault)
    (counts : (b : List ℕ) → checks.RepresentsBytes a.checker b → checks.CountsIn a.checker b (Err fault))
    (granted : fault.why ≡ reason.NoMemory → checks.HasFailed a.checker fault) where
  pub end_granted : (w : Why) → IsEnd fault w → a.refused ≡ None → w ≡ why.NoMemory → ⊥
  end_granted w is goes_on same =
      a.sound goes_on fault (granted (subst (λ (x : Why). IsEnd fault x) same is))

  end_refuses : (w : Why) → IsEnd fault w → (is : List NodeItem) → RepresentsItems a is
      → RefusesEnd (kinds_of a) (kind_of a) a.limits is w
  end_refuses why.Unfinished end is st =
      subst (λ (l : Bounds). Outcome (kinds_of a) (kind_of a) l (all_spelled is) Pending) a.limits_are
      ((counts (all_spelled is) st.bytes).0 end).0
  end_refuses (why.Refused g) end is st = (
    subst (λ (x : DecodeFault). x.why ≡ reason.NoMemory → ⊥) (sym end.0) end.1,
    subst (λ (l : Bounds). reported.Fails (kinds_of a) (kind_of a) l g (all_spelled is)) a.limits_are
        (subst (λ (x : DecodeFault). reported.Fails (kinds_of a) (kind_of a) (checks.limits_of a.checker) x
        (all_spelled is)) (sym end.0) ((counts (all_spelled is) st.bytes).1 end.2)),
  )
  end_refuses why.NoMemory end is st = absurd (a.sound st.goes_on fault (granted end))
  end_refuses why.WrongItem end is st = absurd end
  end_refuses why.NotInRange end is st = absurd end
  end_refuses why.PastEnd end is st = absurd end
  end_refuses why.PastLimit end is st = absurd end

  pub rejects_end : (f : WriteRefusal) → IsEnd fault f.why → f.item ≡ a.count → RejectsEnd a (Err f)
  rejects_end f end item = record {
    refuses = λ is st. end_refuses f.why end is st;
    no_value = λ is st.
        end_none (kinds_of a) (kind_of a) a.limits is st.begin units f.why (end_refuses f.why end is st);
    item = λ is st. item ∙ st.count;
  }
