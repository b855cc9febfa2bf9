-- The machine values of a `Handle`, and of the structs of C. Each is a pointer and an allocator's handle, under the name of S. Assumes `Logic`.
--     handle_out, handle_in     a handle by value is [what it holds; the allocator's handle]
--     cases                     it holds nothing and its pointer is null, or it holds a box and its pointer may be compared with null
use Rattle.std.proofs.Common.{◌≡◌, ℕ, List, [], ◌∷◌, ◌++◌, refl, subst}
use seplogic.Ra.Ura.{Ura}
use mir.Raw.{raw as bare}
use lib.Dec.{lit<}
use mir.Syntax.{ty_ptr, impl, tnil, dnil}
use mir.Val.{Val, vstruct, of_list, has_ty}
use base.Fml.{Fml, fsep}
use base.Fraction.{full_share}
use base.Logic.{SProp, ent, guard, guard_i, via, never, fst∗, snd∗}
use types.Logic.{Logic, sem}
use types.Kit.{Item, Goal, Seq, Step, step, ‵, given, ◌$◌, move, drop, use1, learn, fsplit, fjoin, fpick, fpack, feq_i, feq_l}
use contract.Monad.{fact_use}
use denote.RattleType.{RattleType, Valss}
use denote.Memory.{lone}
use denote.RawPtr.{Ptr, block_ptr, null_ptr, ptr_val, in_a_block, lies_at, Testable}
use denote.Steps.{nothing}
use denote.Param.{layout}
use denote.Param.Laws.{Laws}
use denote.Builtin.{RawPtr}
use denote.Struct.Struct.{Shape, Struct, within}
use Rattle.std.proofs.alloc.Calls.{Al, handle_tells}
use Rattle.std.proofs.cell.Inside.{Good}
use Rattle.std.specs.contracts.alloc.Global as heap
use Rattle.std.proofs.alloc.Global.TheLaws as heap_laws
use Rattle.std.specs.contracts.impls.GlobalAllocator.TheImpl.{ghosts}
use Rattle.std.proofs.GlobalToken.{dealloc_token-Testable}
use Rattle.std.specs.declared.alloc.Global.{Global}
use Rattle.std.specs.declared.option.Option.{Option}
use Rattle.std.specs.declared.option.Option.TheVariants.{None, Some}
use Rattle.std.specs.Box.Ownership.{box_owns}
use Rattle.osc_c.proofs.LooseValues.{both, both_tt}
use Rattle.osc_c.specs.{holds}

abbrev pub Z : RattleType
Z = heap.the_row

abbrev pub LZ : Laws Z
LZ = heap_laws.the_row_laws

abbrev pub al : Al
al = record { row = Z; laws = LZ; g = ghosts; d = impl [] tnil dnil; drops = impl [] tnil dnil }

pub ptr_good : (p : Ptr) → Good ty_ptr (ptr_val p)
ptr_good null_ptr = (tt, record { fits = lit< tt })
ptr_good (block_ptr b o) = (tt, tt)

module _ (S : Shape) where
  abbrev Named : Shape
  Named = record { name = S.name; args = S.args; types = S.types; fields = RawPtr ∷ Z ∷ [] }

  pub handle_good : (p : Ptr) (h : Val) → Good (layout Z) h → Good (layout (Struct Named)) (both (ptr_val p) h)
  handle_good p h fits = let g = ptr_good p in (both_tt _ (has_ty (layout Z) h) g.0 fits.0, (g.1, (fits.1, tt)))

  module _ (R : RattleType) where
    -- a handle that holds x
    abbrev pub Has : Global → Ptr → Option R.Denot → List Val → Fml
    Has a p x vs = fsep ((Struct Named).own_val (p, (a, tt)) vs) (holds R a p x)

    module _ {M : Type 1} {𝓤 : Ura M} {𝓛 : Logic 𝓤} {K : Type 0} {Γ : List (Item 𝓤)} {G : Goal 𝓤 𝓛.H} where
      pub handle_out : K → (a : Global) (p : Ptr) (x : Option R.Denot) (vs : List Val)
          → ((h : Val) → vs ≡ both (ptr_val p) h ∷ [] → Good (layout Z) h → Seq K 𝓛 (‵ (holds R a p x) ∷ ‵ (Z.own_val a (h ∷ [])) ∷ Γ) G)
          → Seq K 𝓛 (‵ (Has a p x vs) ∷ Γ) G
      handle_out t a p x vs k =
          fsplit t $ fpick t (λ vss. fsplit t $ feq_l t (λ ev. fsplit t $ feq_l t (λ ep. fsplit t $ handle_tells al t a vss.1.0 (λ h ea fits. move t (1 ∷ []) $ drop t $ move t (1 ∷ []) $ k h
          (subst (λ (ws : List Val). vs ≡ vstruct (of_list (ptr_val p ∷ (ws ++ []))) ∷ []) ea (subst (λ (ps : List Val). vs ≡ vstruct (of_list (ps ++ (vss.1.0 ++ []))) ∷ []) ep ev)) fits))))

      pub handle_in : K → (a : Global) (p : Ptr) (x : Option R.Denot) (h : Val)
          → Step K 𝓛 (‵ (Has a p x (both (ptr_val p) h ∷ [])) ∷ Γ) G (‵ (holds R a p x) ∷ ‵ (Z.own_val a (h ∷ [])) ∷ Γ) G
      handle_in t a p x h = step (λ s. let v : Val = both (ptr_val p) h in
          nothing t $ move t (2 ∷ 0 ∷ []) $ fjoin t $ feq_i t (List Val) (ptr_val p ∷ []) (ptr_val p ∷ []) refl $ fjoin t $ feq_i t (List Val) (v ∷ []) (v ∷ []) refl $ fjoin t $
          fpack t (Valss (RawPtr ∷ Z ∷ [])) (within Named (p, (a, tt)) (v ∷ [])) (ptr_val p ∷ [], (h ∷ [], tt)) $ fjoin t $ s)

module _ (R : RattleType) where
  module _ {M : Type 1} {𝓤 : Ura M} (𝓛 : Logic 𝓤) where
    tested : (a : Global) (p : Ptr) (x : R.Denot) → ent 𝓤 (sem 𝓛 (box_owns (ghosts.dealloc_token a) R p x)) (guard 𝓤 (Testable p) (sem 𝓛 (box_owns (ghosts.dealloc_token a) R p x)))
    tested a p x = let B : SProp 𝓤 = sem 𝓛 (box_owns (ghosts.dealloc_token a) R p x) in
        fact_use 𝓤 (Testable p) (via 𝓤 _ (snd∗ 𝓤 (sem 𝓛 (lies_at R full_share p x)) (sem 𝓛 (ghosts.dealloc_token a (bare (lone R.mir)) p))) (dealloc_token-Testable 𝓛 a (bare (lone R.mir)) p)) (guard_i 𝓤 (Testable p) B)

  module _ {M : Type 1} {𝓤 : Ura M} {𝓛 : Logic 𝓤} {K : Type 0} {Γ : List (Item 𝓤)} {G : Goal 𝓤 𝓛.H} where
    pub cases : K → (a : Global) (p : Ptr) (x : Option R.Denot) → (p ≡ null_ptr → x ≡ None → Seq K 𝓛 Γ G)
        → ((b o : ℕ) (y : R.Denot) → p ≡ block_ptr b o → x ≡ Some y → Testable (block_ptr b o) → Seq K 𝓛 (‵ (box_owns (ghosts.dealloc_token a) R (block_ptr b o) y) ∷ Γ) G)
        → Seq K 𝓛 (‵ (holds R a p x) ∷ Γ) G
    cases t a p None none one = feq_l t (λ e. none e refl)
    cases t a p (Some y) none one = in_a_block t p (λ s. box_owns (ghosts.dealloc_token a) R s y) (fst∗ 𝓤 (never 𝓤) (sem 𝓛 (ghosts.dealloc_token a (bare (lone R.mir)) null_ptr))) (λ b o e.
        use1 𝓛 (given (Testable (block_ptr b o)) (‵ (box_owns (ghosts.dealloc_token a) R (block_ptr b o) y))) (tested 𝓛 a (block_ptr b o) y) $ learn t (λ i. one b o y e refl i))
