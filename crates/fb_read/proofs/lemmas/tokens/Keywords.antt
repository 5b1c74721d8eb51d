-- One table of all keywords, and one for each letter.
use Rattle.fb_types.proofs.Common.{◌≡◌, ℕ, Bool, true, false, cond, [], ◌∷◌, ◌++◌, length, Some, refl, sym, ap, ◌∙◌, eq-eqb, nat_eq, true≢false, bytes_eq-Decides, bytes_eq}
use Rattle.fb_read.specs.Blank.{Text, at}
use Rattle.fb_read.specs.Letters.{all_words, from_loops, from_sections, from_statements, from_types, group}
use Rattle.fb_read.specs.Words.{Table, look_up, or_else, block_words, section_words, type_words, statement_words, loop_words, operator_words, keyword}

-- texts of different lengths
pub differing : (a b : Text) → ¬ (length a ≡ length b) → bytes_eq a b ≡ false
differing a b apart = go (bytes_eq a b) refl
  where
    go : (t : Bool) → bytes_eq a b ≡ t → t ≡ false
    go true e = absurd (apart (ap length ((bytes_eq-Decides a b).0 e)))
    go false e = refl

look_up-append : (a b : Table) (w : Text) → look_up (a ++ b) w ≡ or_else (look_up a w) (look_up b w)
look_up-append [] b w = refl
look_up-append (k ∷ a) b w = go (bytes_eq w k.0) (look_up-append a b w)
  where
    go : (t : Bool) → look_up (a ++ b) w ≡ or_else (look_up a w) (look_up b w) → cond t (Some k.1) (look_up (a ++ b) w) ≡ or_else (cond t (Some k.1) (look_up a w)) (look_up b w)
    go true rest = refl
    go false rest = rest

pub keyword-is : (w : Text) → look_up all_words w ≡ keyword w
unfolding keyword
keyword-is w =
    look_up-append block_words from_sections w ∙ ap (or_else (look_up block_words w))
    (look_up-append section_words from_types w ∙ ap (or_else (look_up section_words w))
    (look_up-append type_words from_statements w ∙ ap (or_else (look_up type_words w))
    (look_up-append statement_words from_loops w ∙ ap (or_else (look_up statement_words w)) (look_up-append loop_words operator_words w))))

-- ---- One table for each letter

-- texts that begin with different bytes
unlike : (w v : Text) → ¬ (at v 0 ≡ at w 0) → bytes_eq w v ≡ false
unlike w v apart = go (bytes_eq w v) refl
  where
    go : (t : Bool) → bytes_eq w v ≡ t → t ≡ false
    go true e = absurd (apart (ap (λ (t : Text). at t 0) (sym ((bytes_eq-Decides w v).0 e))))
    go false e = refl

group-is : (b : ℕ) (w : Text) (t : Table) → at w 0 ≡ b → look_up (group b t) w ≡ look_up t w
group-is b w [] is = refl
group-is b w (k ∷ t) is =
    elim (nat_eq (at k.0 0) b) as
    (λ s. nat_eq (at k.0 0) b ≡ s → look_up (cond s (k ∷ group b t) (group b t)) w ≡ cond (bytes_eq w k.0) (Some k.1) (look_up t w)) [
      | true ↦ λ e. ap (cond (bytes_eq w k.0) (Some k.1)) (group-is b w t is)
      | false ↦ λ e.
          let other : bytes_eq w k.0 ≡ false = unlike w k.0 (λ same. true≢false (sym (eq-eqb (at k.0 0) b (same ∙ is)) ∙ e)) in
          group-is b w t is ∙ ap (λ s. cond s (Some k.1) (look_up t w)) (sym other)
    ] refl

-- the table of its first letter has what all tables have
pub in_group : (w : Text) (b : ℕ) (t : Table) → b ≡ at w 0 → t ≡ group b all_words → look_up t w ≡ keyword w
in_group w b t is all = ap (λ (u : Table). look_up u w) all ∙ group-is b w all_words (sym is) ∙ keyword-is w
