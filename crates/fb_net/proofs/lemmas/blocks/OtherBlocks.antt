-- Blocks that a change of another block leaves as they were.
use Rattle.fb_types.proofs.Common.{◌≡◌, ◌≢◌, ℕ, zero, suc, List, [], ◌∷◌, refl, ap, ◌∙◌, sym, ⊎_elim, cases_eq, Option, Some, None, slice_get, slice_set}
use Rattle.std.specs.Option.{option_map, option_and_then}
use Rattle.fb_net.specs.Blocks.{components_of, with_components, own_of}
use Rattle.fb_net.specs.Trees.{block_at, own_at, put_back, put_at, PutAlone, OthersStay}
use Rattle.fb_net.specs.declared.block.Block.{Block}
use Rattle.fb_net.proofs.lemmas.opening.Components.{components_of-with, own_of-with}
use Rattle.fb_net.proofs.lemmas.blocks.Descents.{block_at-nothing}

pub get_set_same : {A : Type 0} (bs : List A) (p : ℕ) (b w : A) → slice_get bs p ≡ Some b → slice_get (slice_set bs p w) p ≡ Some w
get_set_same [] p b w e = cc
get_set_same (x ∷ bs) zero b w e = refl
get_set_same (x ∷ bs) (suc p) b w e = get_set_same bs p b w e

pub get_set_other : {A : Type 0} (bs : List A) (p q : ℕ) (w : A) → q ≢ p → slice_get (slice_set bs p w) q ≡ slice_get bs q
get_set_other [] p q w ne = refl
get_set_other (x ∷ bs) zero zero w ne = absurd (ne refl)
get_set_other (x ∷ bs) zero (suc q) w ne = refl
get_set_other (x ∷ bs) (suc p) zero w ne = refl
get_set_other (x ∷ bs) (suc p) (suc q) w ne = get_set_other bs p q w (λ e. ne (ap suc e))

-- what is below a block, among its components
inside : (blocks : List Block) (p : ℕ) (b : Block) (s : ℕ) (t : List ℕ) → slice_get blocks p ≡ Some b → own_at blocks (p ∷ (s ∷ t)) ≡ own_at (components_of b) (s ∷ t)
inside blocks p b s t e = ap (λ o. option_map own_of (option_and_then (λ a. block_at (components_of a) (s ∷ t)) o)) e

other_block : (blocks : List Block) (p q : ℕ) (t : List ℕ) (w : Block) → q ≢ p → own_at (slice_set blocks p w) (q ∷ t) ≡ own_at blocks (q ∷ t)
other_block blocks p q [] w ne = ap (option_map own_of) (get_set_other blocks p q w ne)
other_block blocks p q (s ∷ t) w ne = ap (λ o. option_map own_of (option_and_then (λ a. block_at (components_of a) (s ∷ t)) o)) (get_set_other blocks p q w ne)

-- a block above another one can have other components
pub still_composite : (a b : Block) (bs : List Block) (way : List ℕ) → block_at (components_of a) way ≡ Some b → components_of (with_components a bs) ≡ bs
still_composite a b bs way e = by_components (components_of a) refl e
  where
    by_components : (cs : List Block) → components_of a ≡ cs → block_at cs way ≡ Some b → components_of (with_components a bs) ≡ bs
    by_components [] is e = cc (block_at-nothing way)
    by_components (c ∷ cs) is e = components_of-with a bs cs c is

module _ (blocks : List Block) (p : ℕ) (b : Block) (represents : slice_get blocks p ≡ Some b) where
  -- below a block that is put at an index are its components
  below_put : (w : Block) (q s : ℕ) (t : List ℕ) → q ≡ p → own_at (slice_set blocks p w) (q ∷ (s ∷ t)) ≡ own_at (components_of w) (s ∷ t)
  below_put w q s t e = ap (λ k. own_at (slice_set blocks p w) (k ∷ (s ∷ t))) e ∙ inside (slice_set blocks p w) p w s t (get_set_same blocks p b w represents)

  below_old : (q s : ℕ) (t : List ℕ) → q ≡ p → own_at blocks (q ∷ (s ∷ t)) ≡ own_at (components_of b) (s ∷ t)
  below_old q s t e = ap (λ k. own_at blocks (k ∷ (s ∷ t))) e ∙ inside blocks p b s t represents

  top_elsewhere : (w : Block) → components_of w ≡ components_of b → (other : List ℕ) → other ≢ p ∷ [] → own_at (slice_set blocks p w) other ≡ own_at blocks other
  top_elsewhere w same [] ne = refl
  top_elsewhere w same (q ∷ []) ne = other_block blocks p q [] w (λ e. ne (ap (λ k. k ∷ []) e))
  top_elsewhere w same (q ∷ (s ∷ t)) ne =
      ⊎_elim (λ e. below_put w q s t e ∙ ap (λ cs. own_at cs (s ∷ t)) same ∙ sym (below_old q s t e)) (other_block blocks p q (s ∷ t) w) (cases_eq q p)

  module _ (rest : List ℕ) (next : ℕ) (own : Block) (new : List Block) (put : PutAlone (components_of b) (next ∷ rest) own new) (composite : components_of (with_components b new) ≡ new) where
    deep_elsewhere : (other : List ℕ) → other ≢ p ∷ (next ∷ rest) → own_at (slice_set blocks p (with_components b new)) other ≡ own_at blocks other
    deep_elsewhere [] ne = refl
    deep_elsewhere (q ∷ []) ne =
        ⊎_elim (λ e. ap (λ k. own_at (slice_set blocks p (with_components b new)) (k ∷ [])) e
        ∙ ap (option_map own_of) (get_set_same blocks p b (with_components b new) represents)
        ∙ ap Some (own_of-with b new) ∙ sym (ap (λ k. own_at blocks (k ∷ [])) e ∙ ap (option_map own_of) represents))
        (other_block blocks p q [] (with_components b new)) (cases_eq q p)
    deep_elsewhere (q ∷ (s ∷ t)) ne =
        ⊎_elim (λ e. below_put (with_components b new) q s t e ∙ ap (λ cs. own_at cs (s ∷ t)) composite
        ∙ put.elsewhere (s ∷ t) (λ same. ne (ap (λ k. k ∷ (s ∷ t)) e ∙ ap (λ r. p ∷ r) same)) ∙ sym (below_old q s t e))
        (other_block blocks p q (s ∷ t) (with_components b new)) (cases_eq q p)

    deep : PutAlone blocks (p ∷ (next ∷ rest)) own (slice_set blocks p (with_components b new))
    deep =
        record {
          here = below_put (with_components b new) p next rest refl ∙ ap (λ cs. own_at cs (next ∷ rest)) composite ∙ put.here;
          elsewhere = deep_elsewhere;
        }

by_index : (blocks : List Block) (p next : ℕ) (rest : List ℕ) (b w : Block) (o : Option Block) → slice_get blocks p ≡ o →
    option_and_then (λ a. block_at (components_of a) (next ∷ rest)) o ≡ Some b →
    ((cs : List Block) → block_at cs (next ∷ rest) ≡ Some b → PutAlone cs (next ∷ rest) (own_of w) (put_at cs (next ∷ rest) w)) →
    PutAlone blocks (p ∷ (next ∷ rest)) (own_of w) (put_back blocks p (λ a. with_components a (put_at (components_of a) (next ∷ rest) w)) o)
by_index blocks p next rest b w None is stood inner = cc
by_index blocks p next rest b w (Some a) is stood inner =
    deep blocks p a is rest next (own_of w) (put_at (components_of a) (next ∷ rest) w) (inner (components_of a) stood)
    (still_composite a b (put_at (components_of a) (next ∷ rest) w) (next ∷ rest) stood)

pub others_stay : OthersStay
others_stay blocks [] b w stood same = cc
others_stay blocks (p ∷ []) b w stood same =
    record { here = ap (option_map own_of) (get_set_same blocks p b w stood); elsewhere = top_elsewhere blocks p b stood w same }
others_stay blocks (p ∷ (next ∷ rest)) b w stood same =
    by_index blocks p next rest b w (slice_get blocks p) refl stood (λ cs e. others_stay cs (next ∷ rest) b w e same)
