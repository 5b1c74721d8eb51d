-- The copies of the variables of other resources are found by the sides of their instances.
use Rattle.fb_net.proofs.lemmas.Common.{◌≡◌, ◌≢◌, ℕ, ◌<◌, ◌+◌, Bool, true, false, List, [], ◌∷◌, ◌++◌, length, refl, sym, ◌∙◌, ap, inl, inr, arith, zero, suc, Option, Some, None, if◌then◌else◌, slice_get, slice_set, unwrap_or, cases_eq, InstanceVariable, Value, IsSet, held_at, side_index_of, HeldCopies}
use Rattle.fb_types.proofs.Common.{◌*◌}
use Rattle.fb_types.proofs.lemmas.lists.ByIndex.{element_at}
use Rattle.fb_net.specs.HeldAt.{IsAdded, side_in}
use Rattle.fb_net.proofs.lemmas.blocks.OtherBlocks.{get_set_other, get_set_same}

-- ---- Places

-- a side is that of one side of one instance
pub side_once : (x y : InstanceVariable) → side_index_of x ≡ side_index_of y → (x.instance ≡ y.instance) × (x.is_output ≡ y.is_output)
side_once x y e = go x.is_output y.is_output e
  where
    go : (a b : Bool) → 2 * x.instance + (if a then 1 else 0) ≡ 2 * y.instance + (if b then 1 else 0) → (x.instance ≡ y.instance) × (a ≡ b)
    go true true h = (omega (arith, h), refl)
    go false false h = (omega (arith, h), refl)
    go true false h = absurd (omega (arith, h))
    go false true h = absurd (omega (arith, h))

variable_from : (x y : InstanceVariable) → side_index_of x ≡ side_index_of y → x.variable ≡ y.variable → x ≡ y
variable_from x y side_index variable =
    let once = side_once x y side_index in λ j. record { instance = once.0 j; variable = variable j; is_output = once.1 j }

-- the copy of a variable, where those of its side are known
pub held_by : (h : HeldCopies) (x : InstanceVariable) (vs : List Value) → side_in h.sides (side_index_of x) ≡ vs → held_at h x ≡ slice_get vs x.variable
unfolding held_at
held_by h x vs side = ap (λ (ws : List Value). slice_get ws x.variable) side

-- ---- Another value

module _ (h : HeldCopies) (x : InstanceVariable) (v : Value) (vs : List Value) (side : slice_get h.sides (side_index_of x) ≡ Some vs) where
  abbrev with : List Value
  with = slice_set vs x.variable v

  abbrev after : HeldCopies
  after = record { sides = slice_set h.sides (side_index_of x) with }

  -- what the side has then
  here_after : (y : InstanceVariable) → side_index_of y ≡ side_index_of x → held_at after y ≡ slice_get with y.variable
  here_after y e =
      held_by after y with (ap (side_in after.sides) e ∙ ap (λ o. unwrap_or o []) (get_set_same h.sides (side_index_of x) vs with side))

  before_here : (y : InstanceVariable) → side_index_of y ≡ side_index_of x → held_at h y ≡ slice_get vs y.variable
  before_here y e = held_by h y vs (ap (side_in h.sides) e ∙ ap (λ o. unwrap_or o []) side)

  pub is_set : IsSet h x v after
  is_set = record {
    here = λ u was. here_after x refl ∙ get_set_same vs x.variable u v (sym (before_here x refl) ∙ was);
    elsewhere = λ y ne. elim (cases_eq (side_index_of y) (side_index_of x)) [
      | inl e ↦
          let variables : y.variable ≢ x.variable = λ same. ne (variable_from y x e same) in
          here_after y e ∙ get_set_other vs x.variable y.variable v variables ∙ sym (before_here y e)
      | inr apart ↦
          held_by after y (side_in h.sides (side_index_of y)) (ap (λ o. unwrap_or o []) (get_set_other h.sides (side_index_of x) (side_index_of y) with apart))
          ∙ sym (held_by h y (side_in h.sides (side_index_of y)) refl)
    ];
  }

-- where the side has no list, nothing is set
pub none_set : (h : HeldCopies) (x : InstanceVariable) (v : Value) → slice_get h.sides (side_index_of x) ≡ None → IsSet h x v h
none_set h x v none = record {
  here = λ u was. absurd (let bad : None ≡ Some u = sym (held_by h x [] (ap (λ o. unwrap_or o []) none)) ∙ was in cc);
  elsewhere = λ y ne. refl;
}

-- ---- More copies

-- one more side without copies changes none
pub room_kept : (sides : List (List Value)) (other : ℕ) → side_in (sides ++ [] ∷ []) other ≡ side_in sides other
room_kept [] zero = refl
room_kept [] (suc other) = refl
room_kept (k ∷ ks) zero = refl
room_kept (k ∷ ks) (suc other) = room_kept ks other

module _ (h : HeldCopies) (x : InstanceVariable) (values : List Value) (room : List (List Value)) (long : side_index_of x < length room)
    (same : (other : ℕ) → side_in room other ≡ side_in h.sides other) where
  abbrev more : HeldCopies
  more = record { sides = slice_set room (side_index_of x) values }

  pub is_added : IsAdded h x values more
  is_added = record {
    here = λ y e.
        let was = element_at room (side_index_of x) long in
        held_by more y values (ap (side_in more.sides) e ∙ ap (λ o. unwrap_or o []) (get_set_same room (side_index_of x) was.0 values was.1));
    elsewhere = λ y apart u was.
        held_by more y (side_in h.sides (side_index_of y))
        (ap (λ o. unwrap_or o []) (get_set_other room (side_index_of x) (side_index_of y) values apart) ∙ same (side_index_of y))
        ∙ sym (held_by h y (side_in h.sides (side_index_of y)) refl) ∙ was;
  }
