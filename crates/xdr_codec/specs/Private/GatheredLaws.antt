-- Gatherings one after another.
use Rattle.std.proofs.Common.{ℕ, List, [], ◌++◌, length, refl, sym, ap, subst, arith, append_assoc, Option}
use Rattle.std.proofs.lemmas.List.{append-nil, length-append, take-append-le}
use Rattle.std.specs.Io.KnownBytes.{Appends}
use Rattle.xdr_io.proofs.Chained.{Counts-trans, Counts-none}
use Rattle.xdr_codec.specs.Private.Gathered.{Gathering, Holds, IsCut, Gathers, Breaks}

pub gathers-none : (a : Gathering) → Gathers a a []
gathers-none a = record {
  holds = λ t done small h. subst (λ (z : List ℕ). Holds t a z) (sym (append-nil done)) h;
  none_failed = Counts-none a.failures;
}

pub gathers-trans : (a b c : Gathering) (x y : List ℕ) → Gathers a b x → Gathers b c y → Gathers a c (x ++ y)
gathers-trans a b c x y p q = record {
  holds = λ t done small h.
      let same = append_assoc done x y in
      subst (λ (z : List ℕ). Holds t c z) same (q.holds t (done ++ x) (omega (arith, small, ap length same))
      (p.holds t done (omega (arith, small, ap length same, length-append (done ++ x) y)) h));
  none_failed = Counts-trans a.failures b.failures c.failures 0 0 0 refl p.none_failed q.none_failed;
}

pub breaks-after : (a b c : Gathering) (x y : List ℕ) → Gathers a b x → Breaks b c y → Breaks a c (x ++ y)
breaks-after a b c x y p q = record {
  cut = λ t done small h.
      let same = append_assoc done x y in
      subst (λ (z : List ℕ). IsCut t c z) same (q.cut t (done ++ x) (omega (arith, small, ap length same))
      (p.holds t done (omega (arith, small, ap length same, length-append (done ++ x) y)) h));
  one_failed = Counts-trans a.failures b.failures c.failures 0 1 1 refl p.none_failed q.one_failed;
}

cut-longer : (t : Option (List ℕ)) (g : Gathering) (done more : List ℕ) → IsCut t g done → IsCut t g (done ++ more)
cut-longer t g done more h = record {
  sent = subst (λ (z : List ℕ). Appends t g.taken z) (sym (take-append-le g.written done more (omega (arith, h.short))))
      h.sent;
  short = omega (arith, h.short, length-append done more);
}

pub breaks-longer : (a b : Gathering) (x y : List ℕ) → Breaks a b x → Breaks a b (x ++ y)
breaks-longer a b x y p = record {
  cut = λ t done small h.
      let same = append_assoc done x y in
      subst (λ (z : List ℕ). IsCut t b z) same
      (cut-longer t b (done ++ x) y (p.cut t done
      (omega (arith, small, ap length same, length-append (done ++ x) y)) h));
  one_failed = p.one_failed;
}
