-- A handle that holds none is a pointer and `false`: it owns nothing.
use Rattle.std.proofs.Common.{◌≡◌, [], ◌∷◌, refl, sym, None}
use mathlib.Core.Bool.{Bool, true, false}
use seplogic.Ra.Ura.{Ura}
use mir.Syntax.{Sym, Fn, Callee, Body, seq, assign, place, aggregate, copy, opd_false, ty_ptr}
use mir.Syntax as syntax
use mir.Val.{Val, vbool}
use base.Logic.{emp}
use base.Fml.{Fml}
use prog.Model.{Model}
use prog.Wp.{Closed}
use types.Logic.{Logic}
use types.Kit.{‵, raw, ◌$◌, ◌∵◌, !, qed, done, keep, drop, join, fjoin, feq_i, rewrite, suffices}
use types.Run.{no_more, and_then, false_lit, returns, enter}
use types.ByLocal.{alloc_all, pass_all, free_all, look_at, get, sets}
use types.Part.{agg}
use contract.Monad.{fact}
use contract.Running.{Running, tables}
use denote.Exit.{yes}
use denote.RattleType.{RattleType}
use denote.RawPtr.{RawPtr, ptr_val, rawptr_vals, rawptr_Tells, rawptr_Lawful}
use denote.Signature.{plain}
use denote.Steps.{nothing}
use denote.Triple.Clauses.{Ended, Clauses, closing}
use denote.Triple.Entry.{on_entry}
use denote.Triple.Spec.{Meets}
use denote.Triple.Walked.{Stays, walk_of, says, stay_dropped, Goes-dropped, ends_at}
use Rattle.std.proofs.raw_atomic.Walks.{proved}
use Rattle.c_handles.proofs.Values.{both, both_tt}
use Rattle.c_handles.proofs.Handles.{handle_in, ptr_good}
use Rattle.c_handles.proofs.Slots.{Slot, one_local, slot_local}

abbrev pub function : Sym → Fn
function name = record {
  lifetimes = 0;
  outlives = [];
  ty_params = [];
  givens = 0;
  params = 1;
  locals = slot_local name ∷ one_local ty_ptr ∷ [];
  body = seq (assign (place 0 []) (aggregate (copy (place 1 []) ∷ opd_false ∷ []))) syntax.return;
}

module _ (R : RattleType) (S : Slot R) where
  abbrev pub ended : Ended
  ended = record {
    signature = record {
      lifetimes = 0;
      outlives = [];
      params = plain (λ κs. RawPtr) ∷ [];
      result = plain (λ κs. S.row);
    };
    kept = (yes, tt);
  }

  abbrev pub clauses : {M : Type 1} (𝓤 : Ura M) → Clauses 𝓤 ended
  clauses 𝓤 κs a = record {
    ghost = Unit {0};
    requires = λ g. emp 𝓤;
    ensures = λ g r end. fact 𝓤 (S.held r ≡ None);
  }

  abbrev stayed : Stays ended.signature.params ended.kept
  stayed = (stay_dropped _ yes, tt)

  pub none_meets : {M : Type 1} (𝓤 : Ura M) (𝓛 : Logic 𝓤) (𝓜 : Model 𝓤 𝓛.H) (𝓡 : Running 𝓤 𝓛.H 𝓜) (k : Callee)
      → Closed 𝓤 𝓛.H (tables 𝓤 𝓛.H 𝓜 𝓡 𝓡.env).C (tables 𝓤 𝓛.H 𝓜 𝓡 𝓡.env).Λ k (function S.name)
      → Meets 𝓛 ended.signature ((tables 𝓤 𝓛.H 𝓜 𝓡 𝓡.env).C k) (closing 𝓛 ended (clauses 𝓤))
  none_meets 𝓤 𝓛 𝓜 𝓡 k closed =
      let c = clauses 𝓤 in let W = walk_of 𝓛 ended stayed c in
      proved 𝓛 ended stayed c 𝓜 𝓡 (Goes-dropped 𝓛 0 (plain (λ _. RawPtr)) yes (λ κs x w. refl), tt)
      k (function S.name) closed
      (λ κs. (rawptr_vals, tt)) (λ κs. (rawptr_Tells, tt)) (λ κs qs bounds a n are.
      let p = a.0 in let y : W.Ghost = ((κs, qs, bounds, a, (rawptr_vals p, tt)), n) in let
      v : Val = both (ptr_val p) (vbool false) in
      qed 𝓛 (raw (on_entry 𝓛 ended.signature κs qs a y.0.4) ∷ raw ((c κs a).requires n) ∷ []) ∵ drop ! $ drop ! $
      enter ! _ _ _ _ _ $ alloc_all ! (λ l. pass_all ! refl ((rawptr_Lawful 𝓛).typed p _ refl) $
      sets ! (agg ! (and_then ! (get ! refl) (and_then ! (false_lit !) (no_more !)))) refl
      (both_tt _ true (ptr_good p).0 tt, ((ptr_good p).1, (tt, tt))) $
      returns ! (look_at ! 0 refl) $ free_all ! refl $ keep ! [] $
      suffices ! _ (ends_at 𝓛 ended stayed c y v (S.make p false None) (tt, tt) (tt, tt)) $
      says ! (S.holds p false None) $
      feq_i ! Bool false false refl $ handle_in R ! p false None $
      rewrite ! 0 (λ (F : Fml). ‵ F) (sym (S.owns_made p false None (v ∷ []))) refl $ nothing ! $ nothing ! $ fjoin ! $
      join ! $ nothing ! $ join ! $ done !))
