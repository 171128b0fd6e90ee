-- A handle of a box as its pointer keeps what the box owned.
use Rattle.std.proofs.Common.{◌≡◌, List, [], ◌∷◌, ◌++◌, refl, sym, subst, Some}
use mathlib.Core.Bool.{Bool, true}
use seplogic.Ra.Ura.{Ura}
use mir.Syntax.{Sym, Fn, Callee, seq, assign, place, field, rv_opd, aggregate, copy, opd_true, ty_ptr}
use mir.Syntax as syntax
use mir.Val.{Val, vptr, vbool}
use base.Logic.{SProp, ent, emp, id⊢}
use base.Fml.{Fml, ftrue}
use prog.Model.{Model}
use prog.Wp.{WpFn, Closed}
use types.Logic.{Logic}
use types.Kit.{‵, raw, ◌⊛◌, ◌$◌, ◌∵◌, !, qed, done, move, keep, split, join, fsplit, fjoin, feq_i, rewrite, suffices}
use types.Run.{stop, fld, of_opd, no_more, and_then, true_lit, returns, enter}
use types.ByLocal.{alloc_all, pass_all, free_all, look_at, get, get_in, sets}
use types.Part.{agg, sub, whole}
use contract.Monad.{fact}
use contract.Running.{Running, tables}
use denote.Exit.{yes}
use denote.RattleType.{RattleType, owns}
use denote.RawPtr.{block_ptr}
use denote.Param.{layout}
use denote.Signature.{types_at, plain}
use denote.Steps.{nothing}
use denote.Triple.Clauses.{Ended, Clauses, closing}
use denote.Triple.Spec.{Meets}
use denote.Triple.Walked.{Stays, stay_dropped, walk_of, says, ends_at, Goes-dropped}
use Rattle.std.specs.contracts.alloc.Global as heap
use Rattle.std.proofs.alloc.Global.TheLaws as heap_laws
use Rattle.std.specs.contracts.impls.GlobalAllocator.TheImpl.{ghosts}
use Rattle.std.proofs.raw_atomic.Walks.{proved_at}
use Rattle.c_handles.proofs.Values.{both, loose_good, loose_out}
use Rattle.c_handles.proofs.Handles.{handle_in}
use Rattle.c_handles.proofs.Slots.{Slot, Held, one_local, slot_local}

module _ (R : RattleType) (S : Slot R) where
  abbrev pub function : Fn
  function = record {
    lifetimes = 0;
    outlives = [];
    ty_params = [];
    givens = 0;
    params = 1;
    locals = slot_local S.name ∷ one_local (layout (Held R)) ∷ one_local ty_ptr ∷ one_local ty_ptr ∷ [];
    body = seq (assign (place 2 []) (rv_opd (copy (place 1 (field 0 ∷ [])))))
        (seq (assign (place 3 []) (rv_opd (copy (place 2 []))))
        (seq (assign (place 0 []) (aggregate (copy (place 3 []) ∷ opd_true ∷ []))) syntax.return));
  }

  abbrev pub ended : Ended
  ended = record {
    signature = record {
      lifetimes = 0;
      outlives = [];
      params = plain (λ κs. Held R) ∷ [];
      result = plain (λ κs. S.row);
    };
    kept = (yes, tt);
  }

  abbrev pub clauses : {M : Type 1} (𝓤 : Ura M) → Clauses 𝓤 ended
  clauses 𝓤 κs a = record {
    ghost = Unit {0};
    requires = λ g. emp 𝓤;
    ensures = λ g r end. fact 𝓤 (S.held r ≡ Some a.0.value);
  }

  pub of_meets : {M : Type 1} (𝓤 : Ura M) (𝓛 : Logic 𝓤) (𝓜 : Model 𝓤 𝓛.H) (𝓡 : Running 𝓤 𝓛.H 𝓜) (k : Callee)
      → Closed 𝓤 𝓛.H (tables 𝓤 𝓛.H 𝓜 𝓡 𝓡.env).C (tables 𝓤 𝓛.H 𝓜 𝓡 𝓡.env).Λ k function
      → Meets 𝓛 ended.signature ((tables 𝓤 𝓛.H 𝓜 𝓡 𝓡.env).C k) (closing 𝓛 ended (clauses 𝓤))
  of_meets 𝓤 𝓛 𝓜 𝓡 k closed =
      let H = 𝓛.H in let 𝓣 = tables 𝓤 H 𝓜 𝓡 𝓡.env in let Z : RattleType = heap.the_row in
      let LZ = heap_laws.the_row_laws in let c = clauses 𝓤 in let fn = function in
      let hs : Stays ended.signature.params ended.kept = (stay_dropped (plain (λ _. Held R)) yes, tt) in
      proved_at 𝓛 ended hs c 𝓜 𝓡 (Goes-dropped 𝓛 0 (plain (λ _. Held R)) yes (λ κs x f. refl), tt) k fn closed (λ z are.
      let κs = z.0.0 in let v = z.0.3.0 in let Post : Val → SProp 𝓤 = (walk_of 𝓛 ended hs c).post z in
      let Run : List Val → SProp 𝓤 = λ ws. WpFn 𝓤 H 𝓣.C 𝓣.Λ fn ws Post in
      qed 𝓛 ((‵ ftrue ⊛ ‵ (owns (types_at ended.signature.params κs) z.0.3 z.0.4)) ∷ raw ((c κs z.0.3).requires z.1)
      ∷ []) ∵ split ! $ move ! (1 ∷ []) $ fsplit ! $ loose_out R Z LZ ghosts ! v z.0.4.0 (λ b o h e ws fits.
      -- [the block; the allocator; nothing; no tokens; no requires]
      let w : Val = both (vptr b o) h in let u : Val = both (vptr b o) (vbool true) in
      suffices ! (Run (w ∷ [])) (subst (λ (us : List Val). ent 𝓤 (Run (w ∷ [])) (Run us)) (sym (λ i. ws i ++ []))
      (id⊢ 𝓤 (Run (w ∷ [])))) $
      enter ! 𝓣.C 𝓣.Λ fn (w ∷ []) Post $ alloc_all ! (λ l. pass_all ! refl (loose_good R Z LZ ghosts b o h fits, tt) $
      sets ! (of_opd ! (get_in ! (fld ! refl (stop !)) (sub ! 0 refl (whole !)))) refl (tt, tt) $ sets !
      (of_opd ! (get ! refl)) refl (tt, tt) $
      sets ! (agg ! (and_then ! (get ! refl) (and_then ! (true_lit !) (no_more !)))) refl (tt, (tt, (tt, tt))) $
      returns ! (look_at ! 0 refl) $ free_all ! refl $ keep ! (0 ∷ []) $
      suffices ! _ (ends_at 𝓛 ended hs c z u (S.make (block_ptr b o) true (Some v.value)) (tt, tt) (tt, tt)) $
      says ! (S.holds (block_ptr b o) true (Some v.value)) $
      feq_i ! Bool true true refl $ fjoin ! $ handle_in R ! (block_ptr b o) true (Some v.value) $
      rewrite ! 0 (λ (F : Fml). ‵ F) (sym (S.owns_made (block_ptr b o) true (Some v.value) (u ∷ []))) refl $
      nothing ! $ nothing ! $ fjoin ! $ join ! $ nothing ! $ join ! $ done !)))
