-- The machine values of a handle, a pointer beside a `bool`, and what it owns. Assumes `Logic`.
use Rattle.std.proofs.Common.{◌≡◌, ℕ, List, [], ◌∷◌, ◌++◌, refl, subst, Option, Some, None}
use mathlib.Core.Bool.{Bool, true, false}
use lib.Dec.{T, lit<}
use seplogic.Ra.Ura.{Ura}
use mir.Syntax.{ty_ptr}
use mir.Raw.{raw as bare}
use mir.Val.{Val, vbool, vstruct, of_list, has_ty, WT}
use base.Fml.{Fml, feq, fex, fsep}
use base.Logic.{never, fst∗}
use types.Logic.{Logic, sem}
use types.Kit.{Item, Goal, Seq, Step, step, ‵, ◌$◌, drop, fsplit, fjoin, fpick, fpack, feq_i, feq_l}
use denote.RattleType.{RattleType, Valss, flat, owns}
use denote.Builtin.{RawPtr, bool}
use denote.Memory.{lone}
use denote.RawPtr.{Ptr, block_ptr, null_ptr, ptr_val, in_a_block}
use denote.Steps.{nothing}
use Rattle.libc.specs.Heap.{chunk}
use Rattle.std.specs.Box.Ownership.{box_owns}
use Rattle.c_handles.specs.Retained.{retained}
use Rattle.c_handles.proofs.Values.{both}

pub ptr_good : (p : Ptr) → T (has_ty ty_ptr (ptr_val p)) × WT (ptr_val p)
ptr_good (block_ptr b o) = (tt, tt)
ptr_good null_ptr = (tt, record { fits = lit< tt })

abbrev cells : List RattleType
cells = RawPtr ∷ bool ∷ []

-- the pointer and the `bool` as these machine values
abbrev lies : Ptr → Bool → List Val → Valss cells → Fml
lies p l vs vss =
    fsep (feq (List Val) vs (vstruct (of_list (flat cells vss)) ∷ [])) (owns cells (p, (l, tt)) vss)

module _ (R : RattleType) where
  -- what a handle owns
  abbrev pub handle_owns : Ptr → Bool → Option R.Denot → List Val → Fml
  handle_owns p l x vs = fsep (fex (Valss cells) (lies p l vs)) (retained R l p x)

  module _ {M : Type 1} {𝓤 : Ura M} {𝓛 : Logic 𝓤} {K : Type 0} {Γ : List (Item 𝓤)} {G : Goal 𝓤 𝓛.H} where
    pub handle_out : K → (p : Ptr) (l : Bool) (x : Option R.Denot) (vs : List Val)
        → (vs ≡ both (ptr_val p) (vbool l) ∷ [] → Seq K 𝓛 (‵ (retained R l p x) ∷ Γ) G)
        → Seq K 𝓛 (‵ (handle_owns p l x vs) ∷ Γ) G
    handle_out t p l x vs k =
        fsplit t $ fpick t
        (λ vss. fsplit t $ feq_l t (λ ev. fsplit t $ feq_l t (λ ep. fsplit t $ feq_l t (λ el. drop t $ k
        (subst (λ (ls : List Val). vs ≡ vstruct (of_list (ptr_val p ∷ (ls ++ []))) ∷ []) el
        (subst (λ (ps : List Val). vs ≡ vstruct (of_list (ps ++ (vss.1.0 ++ []))) ∷ []) ep ev))))))

    pub handle_in : K → (p : Ptr) (l : Bool) (x : Option R.Denot)
        → Step K 𝓛 (‵ (handle_owns p l x (both (ptr_val p) (vbool l) ∷ [])) ∷ Γ) G (‵ (retained R l p x) ∷ Γ) G
    handle_in t p l x = step (λ s. let v : Val = both (ptr_val p) (vbool l) in
        nothing t $ feq_i t (List Val) (vbool l ∷ []) (vbool l ∷ []) refl $ fjoin t $
        feq_i t (List Val) (ptr_val p ∷ []) (ptr_val p ∷ []) refl $ fjoin t $
        feq_i t (List Val) (v ∷ []) (v ∷ []) refl $ fjoin t $
        fpack t (Valss cells) (lies p l (v ∷ [])) (ptr_val p ∷ [], (vbool l ∷ [], tt)) $ fjoin t $ s)

    pub retained_cases : K → (l : Bool) (p : Ptr) (x : Option R.Denot) → (l ≡ false → x ≡ None → Seq K 𝓛 Γ G)
        → ((b o : ℕ) (v : R.Denot) → l ≡ true → p ≡ block_ptr b o → x ≡ Some v
        → Seq K 𝓛 (‵ (box_owns chunk R (block_ptr b o) v) ∷ Γ) G)
        → Seq K 𝓛 (‵ (retained R l p x) ∷ Γ) G
    retained_cases t l p None n s = feq_l t (λ e. n e refl)
    retained_cases t l p (Some v) n s = fsplit t $ feq_l t (λ e. in_a_block t p (λ q. box_owns chunk R q v)
        (fst∗ 𝓤 (never 𝓤) (sem 𝓛 (chunk (bare (lone R.mir)) null_ptr))) (λ b o eb. s b o v e eb refl))
