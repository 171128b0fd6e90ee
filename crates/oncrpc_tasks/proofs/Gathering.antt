-- The texts of files, one after another.
use Rattle.std.proofs.Common.{◌≡◌, ◌⊎◌, inl, inr, ℕ, List, [], ◌∷◌, ◌++◌, Option, refl, sym, subst, ◌∙◌, append_assoc}
use Rattle.std.proofs.Common.{String, string_bytes, ◌≤◌, ◌-◌, suc, length, take, drop, get_or, ap, arith}
use Rattle.std.specs.declared.alloc.Global.{Global}
use Rattle.std.proofs.lemmas.List.{append-nil}
use Rattle.std.proofs.Math.Seq.{take-length}
use Rattle.xdr_io.specs.Reported.{Counts}
use Rattle.xdr_io.proofs.Chained.{Counts-trans, Counts-none}
use Rattle.oncrpc_tasks.specs.Private.Gathered.{IsRead, AreRead}
use Rattle.oncrpc_tasks.specs.Sources.{FailsToRead, FileFails}

-- These texts were read of the files before the rest, and nothing failed.
pub record Gathering {T : Type 0} (left : T → Option (List ℕ)) (text_failures : T → Option ℕ)
    (reported reported' : List ℕ → Option (List ℕ)) (failures failures' : Option ℕ)
    (files rest : List (String Global)) (texts : List (List ℕ)) : Type 0 where
  pub same : reported' ≡ reported
  pub opened : Counts 0 failures failures'
  pub read : (bs : List (List ℕ)) → AreRead reported rest bs → AreRead reported files (texts ++ bs)
  pub fails : (last : Option ℕ) → FileFails left text_failures reported rest failures last
      → FileFails left text_failures reported files failures last

-- the first of files, and the others
pub front_file : (fs : List (String Global)) (f : String Global) → 1 ≤ length fs → f ≡ get_or fs 0 f
    → fs ≡ f ∷ take (length fs - 1) (drop 1 fs)
front_file [] f some is = absurd (omega arith)
front_file (g ∷ fs) f some is =
    let e : suc (length fs) - 1 ≡ length fs = omega arith in
    rw e (ap (λ (x : String Global). x ∷ fs) (sym is) ∙ ap (λ (l : List (String Global)). f ∷ l) (sym (take-length fs)))

pub none_gathered : {T : Type 0} (left : T → Option (List ℕ)) (text_failures : T → Option ℕ)
    (reported : List ℕ → Option (List ℕ)) (failures : Option ℕ) (files : List (String Global))
    (texts : List (List ℕ)) → texts ≡ []
    → Gathering left text_failures reported reported failures failures files files texts
none_gathered left text_failures reported failures files texts none = record {
  same = refl;
  opened = Counts-none failures;
  read = λ bs h. subst (λ (x : List (List ℕ)). AreRead reported files (x ++ bs)) (sym none) h;
  fails = λ last h. h;
}

module _ {T : Type 0} (left : T → Option (List ℕ)) (text_failures : T → Option ℕ)
    (reported reported' : List ℕ → Option (List ℕ)) (failures failures' : Option ℕ) (files : List (String Global)) where
  -- one more
  pub one_gathered : (reported'' : List ℕ → Option (List ℕ)) (last : Option ℕ) (rest fs : List (String Global))
      (f : String Global) (texts : List (List ℕ)) (t : List ℕ)
      → Gathering left text_failures reported reported' failures failures' files rest texts
      → rest ≡ f ∷ fs → reported'' ≡ reported' → Counts 0 failures' last → IsRead (reported' (string_bytes f)) t
      → Gathering left text_failures reported reported'' failures last files fs (texts ++ (t ∷ []))
  one_gathered reported'' last rest fs f texts t g is stays opened read =
      let own : IsRead (reported (string_bytes f)) t =
      subst (λ (r : List ℕ → Option (List ℕ)). IsRead (r (string_bytes f)) t) g.same read in
      record {
        same = stays ∙ g.same;
        opened = Counts-trans failures failures' last 0 0 0 refl g.opened opened;
        read = λ bs h.
            let all = g.read (t ∷ bs)
            (subst (λ (r : List (String Global)). AreRead reported r (t ∷ bs)) (sym is) (own, h)) in
            subst (λ (x : List (List ℕ)). AreRead reported files x) (sym (append_assoc texts (t ∷ []) bs)) all;
        fails = λ end h. g.fails end
            (subst (λ (r : List (String Global)). FileFails left text_failures reported r failures end) (sym is)
            (inr h));
      }

  -- all
  pub all_gathered : (rest : List (String Global)) (texts : List (List ℕ))
      → Gathering left text_failures reported reported' failures failures' files rest texts → rest ≡ []
      → AreRead reported files texts
  all_gathered rest texts g none =
      subst (λ (x : List (List ℕ)). AreRead reported files x) (append-nil texts)
      (g.read [] (subst (λ (r : List (String Global)). AreRead reported r []) (sym none) tt))

  -- one that could not be opened or read
  pub one_fails : (last : Option ℕ) (rest fs : List (String Global)) (f : String Global) (texts : List (List ℕ))
      → Gathering left text_failures reported reported' failures failures' files rest texts → rest ≡ f ∷ fs
      → Counts 1 failures' last ⊎ FailsToRead left text_failures (reported' (string_bytes f))
      → FileFails left text_failures reported files failures last
  one_fails last rest fs f texts g is (inl unopened) = g.fails last
      (subst (λ (r : List (String Global)). FileFails left text_failures reported r failures last) (sym is)
      (inl (inl (Counts-trans failures failures' last 0 1 1 refl g.opened unopened))))
  one_fails last rest fs f texts g is (inr unread) = g.fails last
      (subst (λ (r : List (String Global)). FileFails left text_failures reported r failures last) (sym is)
      (inl (inr (subst (λ (r : List ℕ → Option (List ℕ)). FailsToRead left text_failures (r (string_bytes f))) g.same
      unread))))
