-- What a handle owned is given back as a box's pointer.
use Rattle.std.proofs.Common.{◌≡◌, List, [], ◌∷◌, ◌++◌, refl, sym, subst, lit<, option_map}
use mathlib.Core.Bool.{Bool, true, false}
use seplogic.Ra.Ura.{Ura}
use mir.Syntax.{Fn, Callee, Body, seq, assign, place, field, rv_opd, aggregate, cond, skip, copy, int, w8}
use mir.Syntax.{ty_ptr, ty_bool}
use mir.Syntax as syntax
use mir.Val.{Val, vptr, vbool, vcons, vnil}
use base.Logic.{SProp, ent, emp, id⊢}
use base.Fml.{Fml, ftrue}
use prog.Model.{Model}
use prog.Wp.{WpFn, Closed}
use types.Logic.{Logic}
use types.Kit.{‵, raw, ◌⊛◌, at_ret, ◌$◌, ◌∵◌, !, qed, done, move, keep, split, join, fsplit3, fjoin, suffices}
use types.Kit.{use0, use1, rewrite}
use types.Run.{stop, fld, lit, of_opd, no_more, and_then, first, branches, skips, exec, returns, returns_within, enter}
use types.ByLocal.{alloc_all, pass_all, free_all, look_at, get, get_in, sets, env}
use types.Part.{agg, sub, whole}
use types.Match.{live}
use contract.Monad.{fact}
use contract.Running.{Running, tables}
use denote.Exit.{yes, rest}
use denote.RattleType.{RattleType, owns}
use denote.Signature.{types_at, plain}
use denote.RawPtr.{Ptr, block_ptr, ptr_val}
use denote.Steps.{nothing}
use denote.Param.{layout}
use denote.Triple.Clauses.{Ended, Clauses, closing}
use denote.Triple.Spec.{Meets}
use denote.Triple.Walked.{Stays, stay_dropped, walk_of, says, ends_at, Goes-dropped}
use Rattle.std.proofs.cell.Inside.{Good, one}
use Rattle.std.proofs.option.Made.{Some-of, none_of}
use Rattle.std.proofs.ResultValues.{and_tt}
use Rattle.std.specs.contracts.option.Option as option
use Rattle.std.specs.declared.option.Option.TheVariants.{None, Some}
use Rattle.std.specs.contracts.alloc.Global as heap
use Rattle.std.proofs.alloc.Global.TheLaws as heap_laws
use Rattle.std.specs.contracts.impls.GlobalAllocator.TheImpl.{ghosts}
use Rattle.std.proofs.raw_atomic.Walks.{proved_at}
use Rattle.c_handles.proofs.Values.{both, both_tt, loose_good, loose_in}
use Rattle.c_handles.proofs.Handles.{handle_out, retained_cases, ptr_good}
use Rattle.c_handles.proofs.Slots.{Slot, Held, one_local, slot_local}

-- behind the branch
abbrev none_left : Body
none_left = seq (assign (place 0 []) (aggregate (int w8 0 ∷ []))) syntax.return

abbrev one_left : Body
one_left = seq (assign (place 6 []) (rv_opd (copy (place 3 []))))
    (seq (assign (place 7 []) (aggregate (copy (place 6 []) ∷ copy (place 2 []) ∷ [])))
    (seq (assign (place 0 []) (aggregate (int w8 1 ∷ copy (place 7 []) ∷ []))) syntax.return))

module _ (R : RattleType) (S : Slot R) where
  abbrev Out : RattleType
  Out = option.the_row (Held R)

  abbrev pub function : Fn
  function = record {
    lifetimes = 0;
    outlives = [];
    ty_params = [];
    givens = 0;
    params = 2;
    locals = one_local (layout Out) ∷ slot_local S.name ∷ one_local (layout heap.the_row) ∷ one_local ty_ptr
        ∷ one_local ty_bool ∷ one_local ty_bool ∷ one_local ty_ptr ∷ one_local (layout (Held R)) ∷ [];
    body = seq (assign (place 3 []) (rv_opd (copy (place 1 (field 0 ∷ [])))))
        (seq (assign (place 4 []) (rv_opd (copy (place 1 (field 1 ∷ [])))))
        (seq (assign (place 5 []) (rv_opd (copy (place 4 []))))
        (seq (cond (copy (place 5 [])) one_left skip) none_left)));
  }

  abbrev pub ended : Ended
  ended = record {
    signature = record {
      lifetimes = 0;
      outlives = [];
      params = plain (λ κs. S.row) ∷ plain (λ κs. heap.the_row) ∷ [];
      result = plain (λ κs. Out);
    };
    kept = (yes, (yes, tt));
  }

  abbrev pub clauses : {M : Type 1} (𝓤 : Ura M) → Clauses 𝓤 ended
  clauses 𝓤 κs a = record {
    ghost = Unit {0};
    requires = λ g. emp 𝓤;
    ensures = λ g r end. fact 𝓤 (option_map (λ b. b.value) r ≡ S.held a.0);
  }

  pub opened_meets : {M : Type 1} (𝓤 : Ura M) (𝓛 : Logic 𝓤) (𝓜 : Model 𝓤 𝓛.H) (𝓡 : Running 𝓤 𝓛.H 𝓜) (k : Callee)
      → Closed 𝓤 𝓛.H (tables 𝓤 𝓛.H 𝓜 𝓡 𝓡.env).C (tables 𝓤 𝓛.H 𝓜 𝓡 𝓡.env).Λ k function
      → Meets 𝓛 ended.signature ((tables 𝓤 𝓛.H 𝓜 𝓡 𝓡.env).C k) (closing 𝓛 ended (clauses 𝓤))
  opened_meets 𝓤 𝓛 𝓜 𝓡 k closed =
      let H = 𝓛.H in let 𝓣 = tables 𝓤 H 𝓜 𝓡 𝓡.env in let Z : RattleType = heap.the_row in
      let LZ = heap_laws.the_row_laws in let Lr : RattleType = Held R in let c = clauses 𝓤 in let fn = function in
      let hs : Stays ended.signature.params ended.kept =
      (stay_dropped (plain (λ _. S.row)) yes, (stay_dropped (plain (λ _. Z)) yes, tt)) in
      proved_at 𝓛 ended hs c 𝓜 𝓡 (
        Goes-dropped 𝓛 0 (plain (λ _. S.row)) yes (λ κs x f. S.silent x f),
        (Goes-dropped 𝓛 0 (plain (λ _. Z)) yes (λ κs x f. refl), tt),
      ) k fn closed (λ z are.
      let κs = z.0.0 in let d = z.0.3.0 in let a = z.0.3.1.0 in
      let Post : Val → SProp 𝓤 = (walk_of 𝓛 ended hs c).post z in
      let Run : List Val → SProp 𝓤 = λ ws. WpFn 𝓤 H 𝓣.C 𝓣.Λ fn ws Post in
      let h = one (layout Z) z.0.4.1.0 ((LZ.lawful 𝓛).typed a z.0.4.1.0 are.1.0) in
      qed 𝓛 ((‵ ftrue ⊛ ‵ (owns (types_at ended.signature.params κs) z.0.3 z.0.4)) ∷ raw ((c κs z.0.3).requires z.1)
      ∷ []) ∵ split ! $ move ! (1 ∷ []) $ fsplit3 ! $
      rewrite ! 1 (λ (us : List Val). ‵ (Z.own_val a us)) h.1 refl $
      rewrite ! 0 (λ (F : Fml). ‵ F) (S.owns d z.0.4.0) refl $ handle_out R ! (S.at d) (S.live d) (S.held d) z.0.4.0
      (λ ws. retained_cases R ! (S.live d) (S.at d) (S.held d)
      -- [the allocator; nothing; no tokens; no requires], with the block before them where there is one
      (λ off none. let v : Val = both (ptr_val (S.at d)) (vbool false) in let v₀ : Val = live 0 vnil in
      let reported = subst (λ (l : Bool). z.0.4.0 ≡ both (ptr_val (S.at d)) (vbool l) ∷ []) off ws in
      suffices ! (Run (v ∷ h.0 ∷ [])) (subst (λ (us : List Val). ent 𝓤 (Run (v ∷ h.0 ∷ [])) (Run us))
      (sym (λ i. reported i ++ (h.1 i ++ []))) (id⊢ 𝓤 (Run (v ∷ h.0 ∷ [])))) $
      enter ! 𝓣.C 𝓣.Λ fn (v ∷ h.0 ∷ []) Post $ alloc_all !
      (λ l. pass_all ! refl ((both_tt _ true (ptr_good (S.at d)).0 tt, ((ptr_good (S.at d)).1, (tt, tt))), (h.2, tt)) $
      let Ev = env fn.locals l in
      sets ! (of_opd ! (get_in ! (fld ! refl (stop !)) (sub ! 0 refl (whole !)))) refl (ptr_good (S.at d)) $ sets !
      (of_opd ! (get_in ! (fld ! refl (stop !)) (sub ! 1 refl (whole !)))) refl (tt, tt) $ sets !
      (of_opd ! (get ! refl)) refl (tt, tt) $
      first ! $ branches ! (get ! refl) (λ wrong. absurd wrong) (λ _. skips ! $ exec ! 𝓣.C 𝓣.Λ Ev none_left
      (at_ret Ev Post) $
      sets ! (agg ! (and_then ! (lit ! tt) (no_more !))) refl (tt, (record { fits = lit< tt }, tt)) $
      returns ! (look_at ! 0 refl) $ free_all ! refl $ keep ! [] $
      suffices ! _ (ends_at 𝓛 ended hs c z v₀ None (rest (S.row.exit yes) d, (tt, tt)) (tt, (tt, tt))) $
      says ! (sym none) $
      use0 𝓛 (‵ (Out.own_val None (v₀ ∷ []))) (none_of 𝓛 Lr) $ nothing ! $ nothing ! $ fjoin ! $ nothing ! $ fjoin ! $
      join ! $ nothing ! $ join ! $ done !)))
      (λ b o x on at is. let v : Val = both (vptr b o) (vbool true) in let made : Val = both (vptr b o) h.0 in let
      v₁ : Val = live 1 (vcons made vnil) in
      let held : Lr.Denot = record { at = block_ptr b o; alloc = a; value = x } in
      let good = loose_good R Z LZ ghosts b o h.0 h.2 in
      let fits : Good (layout Out) v₁ = (and_tt _ good.0, (record { fits = lit< tt }, (good.1, tt))) in
      let reported = subst (λ (p : Ptr). z.0.4.0 ≡ both (ptr_val p) (vbool true) ∷ []) at
      (subst (λ (l : Bool). z.0.4.0 ≡ both (ptr_val (S.at d)) (vbool l) ∷ []) on ws) in
      suffices ! (Run (v ∷ h.0 ∷ [])) (subst (λ (us : List Val). ent 𝓤 (Run (v ∷ h.0 ∷ [])) (Run us))
      (sym (λ i. reported i ++ (h.1 i ++ []))) (id⊢ 𝓤 (Run (v ∷ h.0 ∷ [])))) $
      enter ! 𝓣.C 𝓣.Λ fn (v ∷ h.0 ∷ []) Post $ alloc_all ! (λ l. pass_all ! refl ((tt, (tt, (tt, tt))), (h.2, tt)) $
      sets ! (of_opd ! (get_in ! (fld ! refl (stop !)) (sub ! 0 refl (whole !)))) refl (tt, tt) $ sets !
      (of_opd ! (get_in ! (fld ! refl (stop !)) (sub ! 1 refl (whole !)))) refl (tt, tt) $ sets !
      (of_opd ! (get ! refl)) refl (tt, tt) $
      first ! $ branches ! (get ! refl) (λ _. sets ! (of_opd ! (get ! refl)) refl (tt, tt) $ sets !
      (agg ! (and_then ! (get ! refl) (and_then ! (get ! refl) (no_more !)))) refl good $
      sets ! (agg ! (and_then ! (lit ! tt) (and_then ! (get ! refl) (no_more !)))) refl fits $
      returns_within ! Post refl (look_at ! 0 refl) $ free_all ! refl $ keep ! (0 ∷ 1 ∷ []) $
      suffices ! _ (ends_at 𝓛 ended hs c z v₁ (Some held) (rest (S.row.exit yes) d, (tt, tt)) (tt, (tt, tt))) $
      says ! (sym is) $
      loose_in R Z LZ ghosts ! b o h.0 a x $ use1 𝓛 (‵ (Out.own_val (Some held) (v₁ ∷ []))) (Some-of 𝓛 Lr held made) $
      nothing ! $ nothing ! $ fjoin ! $ nothing ! $ fjoin ! $ join ! $ nothing ! $ join ! $ done !)
      (λ wrong. absurd wrong)))))
