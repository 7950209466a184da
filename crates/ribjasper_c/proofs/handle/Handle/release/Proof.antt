-- `release` moves one field out of a handle that owns nothing.
use mathlib.Core.Path.{refl, sym, subst}
use mathlib.Core.Bool.{Bool, true, false, ◌&&◌}
use mathlib.Core.List.{List, [], ◌∷◌, ◌++◌}
use lib.Dec.{T}
use seplogic.Ra.Ura.{Ura}
use mir.Val.{Val, vstruct, vcons, vnil, has_ty, of_list}
use mir.Syntax.{ty_ptr}
use base.Logic.{SProp, ent}
use base.Fml.{ftrue, fsep}
use prog.Memory.{Memory}
use prog.Routine.{Routine}
use prog.Wp.{WpFn, Tables}
use types.Logic.{Logic}
use contract.Monad.{Fun, fact}
use contract.Running.{tables, tables_of}
use sound.WpLaws.{WpFn-mono}
use types.Kit.{Item, ‵, raw, ◌⊛◌, ◌$◌, ◌∵◌, !, qed, by, move, drop, join, split, fsplit, fjoin, fpick, feq_l, suffices, done}
use types.Part.{whole, sub}
use types.Run.{stop, fld, of_opd, returns, enter}
use types.ByLocal.{alloc_all, pass_all, free_all, look_at, get, get_in, sets}
use denote.Exit.{yes}
use denote.RawPtr.{ptr_val, rawptr_Lawful}
use denote.Steps.{heard, nothing}
use denote.Triple.Spec.{triple_of}
use denote.Triple.Table.{entered}
use denote.Triple.Walked.{says, Stays, stay_dropped, walk_of, ends_at, Goes-dropped, walk_Meets}
use Rattle.std.proofs.Common.{◌≡◌, length}
use Rattle.core.proofs.alloc.Calls.{α, handle_tells}
use Rattle.std_alloc.proofs.BoxSteps.Form.{P}
use Rattle.std_alloc.proofs.ResultValues.{and_tt}
use Rattle.ribjasper_c.proofs.AsBox.{E, FromHandle as From}
use Rattle.ribjasper_c.specs.contracts.handle.Handle as Handle
use Rattle.ribjasper_c.specs.contracts.handle.Handle.release as F
use Rattle.ribjasper_c.specs.contracts.handle.Handle.release.Key.{name as #self}
use Rattle.ribjasper_c.proofs.handle.Handle.release.Statement as stated
use Rattle.ribjasper_c.proofs.handle.Handle.release.Code as code

abbrev stayed : Stays (F.ended).signature.params (F.ended).kept
stayed = (stay_dropped From yes, tt)

and_both : (a b : Bool) → T a → T b → T (a && (b && true))
and_both true b at bt = and_tt b bt
and_both false b at bt = absurd at

module _ {M : Type 1} {𝓤 : Ura M} (𝓛 : Logic 𝓤) (at_mem : Memory → SProp 𝓤) (run : Routine → Fun 𝓤)
    (𝓣 : Tables 𝓤 𝓛.H) where
  open 𝓛 use {H}

  walk : (z : (walk_of 𝓛 F.ended stayed (F.clauses 𝓛 at_mem run)).Ghost)
      → ent 𝓤 ((walk_of 𝓛 F.ended stayed (F.clauses 𝓛 at_mem run)).pre z) (WpFn 𝓤 H 𝓣.C 𝓣.Λ code.function
      (z.0.4.0 ++ []) ((walk_of 𝓛 F.ended stayed (F.clauses 𝓛 at_mem run)).post z))
  walk z =
      let Post = (walk_of 𝓛 F.ended stayed (F.clauses 𝓛 at_mem run)).post z in
      let a = z.0.3.0 in
      qed 𝓛 ((‵ ftrue ⊛ ‵ (fsep (Handle.the_row.own_val a z.0.4.0) ftrue))
      ∷ raw (fact 𝓤 (length a.players ≡ 0)) ∷ []) ∵
      move ! (1 ∷ []) $ heard ! (length a.players ≡ 0) (λ none. split ! $ drop ! $ fsplit ! $
      fsplit ! $ fpick ! (λ vss. fsplit ! $ feq_l ! (λ ev. fsplit ! $ feq_l ! (λ ep. fsplit ! $
      handle_tells E.al ! a.alloc vss.1.0
      (λ hv ea fa. move ! (1 ∷ []) $ drop ! $ move ! (1 ∷ []) $ drop ! $ move ! (1 ∷ []) $ drop ! $
      let w : Val = vstruct (vcons (ptr_val a.at) (vcons hv vnil)) in
      let ws : z.0.4.0 ≡ w ∷ [] =
      subst (λ (us : List Val). z.0.4.0 ≡ vstruct (of_list (ptr_val a.at ∷ (us ++ []))) ∷ []) ea
      (subst (λ (ps : List Val). z.0.4.0 ≡ vstruct (of_list (ps ++ (vss.1.0 ++ []))) ∷ []) ep ev) in
      let Γ : List (Item 𝓤) = ‵ ((P E).own_val a.alloc (hv ∷ [])) ∷ [] in
      let typed = (rawptr_Lawful 𝓛).typed a.at (ptr_val a.at ∷ []) refl in
      by ! (subst
      (λ (us : List Val). ent 𝓤 (types.Kit.⋆ 𝓛 Γ) (WpFn 𝓤 H 𝓣.C 𝓣.Λ code.function (us ++ []) Post)) (sym ws)
      (qed 𝓛 Γ ∵
      enter ! 𝓣.C 𝓣.Λ code.function (w ∷ []) _ $ alloc_all ! (λ ls. pass_all ! refl (
        (
          and_both (has_ty ty_ptr (ptr_val a.at)) (has_ty (α E.al) hv) typed.0.0 fa.0,
          (typed.0.1, (fa.1, tt)),
        ),
        tt,
      ) $
      sets ! (of_opd ! (get_in ! (fld ! refl (stop !)) (sub ! 1 refl (whole !)))) refl fa $
      sets ! (of_opd ! (get ! refl)) refl fa $ returns ! (look_at ! 0 refl) $ free_all ! refl $
      suffices ! _ (ends_at 𝓛 F.ended stayed (F.clauses 𝓛 at_mem run) z hv a.alloc (tt, tt) (tt, tt)) $
      says ! refl $
      nothing ! $ nothing ! $ fjoin ! $ join ! $ nothing ! $ join ! $ done !))))))))

pub release_spec : {M : Type 1} → stated.statement M
unfolding tables_of
release_spec 𝓤 𝓛 𝓜 𝓡 wired =
    let 𝓣 : Tables 𝓤 𝓛.H = tables_of 𝓤 𝓛.H 𝓜 (tables 𝓤 𝓛.H 𝓜 𝓡 𝓡.env) in
    entered 𝓤 𝓛.H (triple_of 𝓛 F.signature (F.spec 𝓛 𝓜.mem 𝓡.returns)) 𝓣.C 𝓣.Λ #self code.function
    (code.unfolded 𝓤 𝓛.H 𝓜 𝓡 wired)
    (walk_Meets 𝓛 F.ended stayed (Goes-dropped 𝓛 0 From yes (λ κs x f. refl), tt)
    (F.clauses 𝓛 𝓜.mem 𝓡.returns) (WpFn 𝓤 𝓛.H 𝓣.C 𝓣.Λ code.function) (WpFn-mono 𝓤 𝓛.H 𝓛.laws 𝓣 code.function)
    (walk 𝓛 𝓜.mem 𝓡.returns 𝓣))
