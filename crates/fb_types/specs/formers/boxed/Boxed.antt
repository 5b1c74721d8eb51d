-- `Boxed` as a part of recursive types.
use mathlib.Core.Path.{refl}
use mathlib.Core.Former.{Former, this, const, pair, via}
use base.Stored.{gnil}
use base.Fml.{ftrue}
use denote.RattleType.{RattleType}
use denote.Memory.{part_of}
use denote.RawPtr.{Ptr}
use denote.Sharing.{nothing}
use denote.HoleLaws.{Alike}
use denote.HolePlaces.{Recodes, struct_places, laid, one_value}
use denote.Hole.Fix.{over}
use denote.Param.Weighed.{Weighed}
use denote.Model.Placed.{view_places}
use Rattle.std.specs.declared.boxed.Box.{Box}
use Rattle.std.specs.contracts.boxed.Box as box
use Rattle.std.specs.declared.alloc.Global.{Global}
use Rattle.std.specs.contracts.alloc.Global as heap
use Rattle.std.specs.contracts.impls.GlobalAllocator.TheImpl.{ghosts}
use Rattle.fb_types.specs.declared.boxed.Boxed.TheInside.{Inside}
use Rattle.fb_types.specs.declared.boxed.Boxed.TheView.{view, invariant}
use Rattle.fb_types.specs.contracts.boxed.Boxed as C
use Rattle.fb_types.specs.contracts.boxed.Boxed.TheInside as I

abbrev pub the_former : Former {0} → Former {0}
the_former g = g

abbrev pub the_weighed : {g : Former {0}} → Weighed g → Weighed (the_former g)
the_weighed w = w

abbrev fields : Former {0}
fields = via (pair (const (Ptr × Global)) this) Inside (λ X a. ((a.inner.ptr, a.inner.alloc), a.inner.value))
    (λ X v. record { inner = record { ptr = v.0.0; alloc = v.0.1; value = v.1 } }) (λ X a. refl) (λ X v. refl)

abbrev with_value : {X Y : Type 0} → Box X Global → Y → Box Y Global
with_value b y = record { ptr = b.ptr; alloc = b.alloc; value = y }

abbrev box_of : RattleType → RattleType
box_of R = box.the_row R heap.the_row ghosts

module _ (R S : RattleType) (h : R.Denot → S.Denot) where
  box_places : Alike R S h → Alike (box_of R) (box_of S) (λ b. with_value b (h b.value))
  unfolding part_of
  box_places a = record {
    mir_same = λ i. (box_of (one_value R (a.mir_same i) (λ _. ftrue) (λ _ _. nothing) gnil)).mir;
    own_same = λ b i. (box_of (one_value R (a.mir_same i) (a.own_same b.value i) (a.shr_same b.value i) gnil)).own_val (with_value b tt);
    shr_same = λ b i. (box_of (one_value R (a.mir_same i) (a.own_same b.value i) (a.shr_same b.value i) gnil)).shr_at (with_value b tt);
  }

  pub the_places : Alike R S h → Alike (C.the_row R) (C.the_row S) ((the_former this).map R.Denot S.Denot h)
  the_places a = view_places fields this view (λ X Y k u. refl) (λ X u. refl) R.Denot S.Denot h (C.the_row R).coded (C.the_row S).coded
      (invariant R.Denot) (invariant S.Denot) (λ u p q. refl) (λ u p q. refl) (λ u e. tt) (λ u e. tt)
      (over (I.the_row R)) (over (I.the_row S))
      (struct_places (I.the_type R) (I.the_type S) ((λ b. with_value b (h b.value)), tt) _ (λ d. refl) refl (laid _ _ _ (box_places a), tt))

  pub the_codes_placed : Recodes R S h → Recodes (C.the_row R) (C.the_row S) ((the_former this).map R.Denot S.Denot h)
  the_codes_placed e d = e d
