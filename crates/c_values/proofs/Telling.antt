-- What C's items tell: one item each, or none.
use Rattle.std.proofs.Common.{◌≡◌, ℕ, ◌<◌, List, [], ◌∷◌, ◌++◌, Bool, true, false, refl, sym, ap, ◌∙◌, inl, inr, arith}
use Rattle.xdr_writer.specs.Items as item
use Rattle.xdr_writer.specs.Items.{ItemView}
use Rattle.c_values.specs.declared.item.ItemWhy.{ItemWhy}
use Rattle.c_values.specs.declared.item.ItemWhy.TheVariants as fault
use Rattle.c_values.specs.declared.item.ValueItem.{ValueItem}
use Rattle.c_values.specs.Items.{IsFlag, Tells, AreTold, IsUntold}

flag_one : (a b : Bool) (n : ℕ) → IsFlag n a → IsFlag n b → a ≡ b
flag_one true true n e f = refl
flag_one false false n e f = refl
flag_one true false n e f = absurd (omega (arith, e, f))
flag_one false true n e f = absurd (omega (arith, e, f))

flag_low : (b : Bool) (n : ℕ) → 1 < n → IsFlag n b → ⊥
flag_low true n more e = omega (arith, more, e)
flag_low false n more e = omega (arith, more, e)

module _ (bytes : List ℕ) where
  -- C's item tells one item
  pub tells_one : (c : ValueItem) (i j : ItemView) → Tells bytes c i → Tells bytes c j → i ≡ j
  tells_one c (item.number y) (item.number z) (inl a) (inl b) = ap item.number (a.1 ∙ sym b.1)
  tells_one c (item.number y) (item.number z) (inl a) (inr b) = absurd (omega (arith, a.0, b.0))
  tells_one c (item.number y) (item.number z) (inr a) (inl b) = absurd (omega (arith, a.0, b.0))
  tells_one c (item.number y) (item.number z) (inr a) (inr b) = ap item.number (a.1 ∙ sym b.1)
  tells_one c (item.number y) (item.flag b) (inl a) d = absurd (omega (arith, a.0, d.0))
  tells_one c (item.number y) (item.flag b) (inr a) d = absurd (omega (arith, a.0, d.0))
  tells_one c (item.number y) (item.count n) (inl a) d = absurd (omega (arith, a.0, d.0))
  tells_one c (item.number y) (item.count n) (inr a) d = absurd (omega (arith, a.0, d.0))
  tells_one c (item.number y) (item.content bs) (inl a) d = absurd (omega (arith, a.0, d.0))
  tells_one c (item.number y) (item.content bs) (inr a) d = absurd (omega (arith, a.0, d.0))
  tells_one c (item.flag b) (item.number z) a (inl d) = absurd (omega (arith, a.0, d.0))
  tells_one c (item.flag b) (item.number z) a (inr d) = absurd (omega (arith, a.0, d.0))
  tells_one c (item.flag b) (item.flag e) a d = ap item.flag (flag_one b e c.number a.1 d.1)
  tells_one c (item.flag b) (item.count n) a d = absurd (omega (arith, a.0, d.0))
  tells_one c (item.flag b) (item.content bs) a d = absurd (omega (arith, a.0, d.0))
  tells_one c (item.count n) (item.number z) a (inl d) = absurd (omega (arith, a.0, d.0))
  tells_one c (item.count n) (item.number z) a (inr d) = absurd (omega (arith, a.0, d.0))
  tells_one c (item.count n) (item.flag b) a d = absurd (omega (arith, a.0, d.0))
  tells_one c (item.count n) (item.count m) a d = ap item.count (a.1 ∙ sym d.1)
  tells_one c (item.count n) (item.content bs) a d = absurd (omega (arith, a.0, d.0))
  tells_one c (item.content bs) (item.number z) a (inl d) = absurd (omega (arith, a.0, d.0))
  tells_one c (item.content bs) (item.number z) a (inr d) = absurd (omega (arith, a.0, d.0))
  tells_one c (item.content bs) (item.flag b) a d = absurd (omega (arith, a.0, d.0))
  tells_one c (item.content bs) (item.count n) a d = absurd (omega (arith, a.0, d.0))
  tells_one c (item.content bs) (item.content cs) a d = ap item.content (a.2 ∙ sym d.2)

  -- so do several
  pub told_one : (cs : List ValueItem) (is js : List ItemView) → AreTold bytes cs is → AreTold bytes cs js → is ≡ js
  told_one [] [] [] a b = refl
  told_one [] [] (j ∷ js) a b = absurd b
  told_one [] (i ∷ is) js a b = absurd a
  told_one (c ∷ cs) [] js a b = absurd a
  told_one (c ∷ cs) (i ∷ is) [] a b = absurd b
  told_one (c ∷ cs) (i ∷ is) (j ∷ js) a b =
      ap (λ (x : ItemView). x ∷ is) (tells_one c i j a.0 b.0)
      ∙ ap (λ (xs : List ItemView). j ∷ xs) (told_one cs is js a.1 b.1)

  -- one more
  pub told_more : (cs : List ValueItem) (c : ValueItem) (is : List ItemView) (i : ItemView) → AreTold bytes cs is
      → Tells bytes c i → AreTold bytes (cs ++ c ∷ []) (is ++ i ∷ [])
  told_more [] c [] i a t = (t, tt)
  told_more [] c (j ∷ js) i a t = absurd a
  told_more (d ∷ cs) c [] i a t = absurd a
  told_more (d ∷ cs) c (j ∷ js) i a t = (a.0, told_more cs c js i a.1 t)

  -- and one less
  pub told_last : (cs : List ValueItem) (c : ValueItem) (is : List ItemView) → AreTold bytes (cs ++ c ∷ []) is
      → (xs : List ItemView) × (x : ItemView) × AreTold bytes cs xs × Tells bytes c x × (is ≡ xs ++ x ∷ [])
  told_last [] c [] a = absurd a
  told_last [] c (i ∷ []) a = ([], i, tt, a.0, refl)
  told_last [] c (i ∷ j ∷ is) a = absurd a.1
  told_last (d ∷ cs) c [] a = absurd a
  told_last (d ∷ cs) c (i ∷ is) a =
      let k = told_last cs c is a.1 in
      (i ∷ k.0, k.1, (a.0, k.2), k.3, ap (λ (xs : List ItemView). i ∷ xs) k.4)

  -- an item that is refused for itself tells none
  pub tells_none : (c : ValueItem) (w : ItemWhy) → IsUntold bytes c w → (i : ItemView) → Tells bytes c i → ⊥
  tells_none c fault.NoForm (inl u) (item.number z) (inl a) = omega (arith, u, a.0)
  tells_none c fault.NoForm (inl u) (item.number z) (inr a) = omega (arith, u, a.0)
  tells_none c fault.NoForm (inr u) (item.number z) (inl a) = omega (arith, u, a.0)
  tells_none c fault.NoForm (inr u) (item.number z) (inr a) = omega (arith, u, a.0)
  tells_none c fault.NoForm (inl u) (item.flag b) a = omega (arith, u, a.0)
  tells_none c fault.NoForm (inr u) (item.flag b) a = omega (arith, u, a.0)
  tells_none c fault.NoForm (inl u) (item.count n) a = omega (arith, u, a.0)
  tells_none c fault.NoForm (inr u) (item.count n) a = omega (arith, u, a.0)
  tells_none c fault.NoForm (inl u) (item.content bs) a = omega (arith, u, a.0)
  tells_none c fault.NoForm (inr u) (item.content bs) a = omega (arith, u, a.0)
  tells_none c fault.NoNumber (inl u) (item.number z) (inl a) = omega (arith, u.0, a.0)
  tells_none c fault.NoNumber (inl u) (item.number z) (inr a) = omega (arith, u.0, a.0)
  tells_none c fault.NoNumber (inl u) (item.flag b) a = flag_low b c.number u.1 a.1
  tells_none c fault.NoNumber (inl u) (item.count n) a = omega (arith, u.0, a.0)
  tells_none c fault.NoNumber (inl u) (item.content bs) a = omega (arith, u.0, a.0)
  tells_none c fault.NoNumber (inr u) (item.number z) (inl a) = omega (arith, u.0, a.0)
  tells_none c fault.NoNumber (inr u) (item.number z) (inr a) = omega (arith, u.0, a.0)
  tells_none c fault.NoNumber (inr u) (item.flag b) a = omega (arith, u.0, a.0)
  tells_none c fault.NoNumber (inr u) (item.count n) a = omega (arith, u.1, a.1, a.2)
  tells_none c fault.NoNumber (inr u) (item.content bs) a = omega (arith, u.0, a.0)
  tells_none c fault.Outside u (item.number z) (inl a) = omega (arith, u.0, a.0)
  tells_none c fault.Outside u (item.number z) (inr a) = omega (arith, u.0, a.0)
  tells_none c fault.Outside u (item.flag b) a = omega (arith, u.0, a.0)
  tells_none c fault.Outside u (item.count n) a = omega (arith, u.0, a.0)
  tells_none c fault.Outside u (item.content bs) a = omega (arith, u.1, a.1)
  tells_none c (fault.Refused w) u i a = u
  tells_none c fault.Unfinished u i a = u
