-- Rows and timers by their keys.
use Rattle.fb_types.proofs.Common.{◌≡◌, ℕ, suc, ◌+◌, List, [], ◌∷◌, ◌++◌, length, eqb, true, ap, ◌∙◌, arith, ◌&&◌, eqb-true, stimulus_key, stimuli_from, Stimulated, System, is_timer_of}
use Rattle.fb_types.specs.declared.key.Key.{Key}
use Rattle.std.specs.Cmp.{first_so, second_so}
use Rattle.fb_types.specs.Simulation.{Stimulus}

-- the key of a timer has class 1
pub timer_class : (r n : ℕ) (j : Key) → is_timer_of r n j ≡ true → j.class ≡ 1
timer_class r n j h =
    eqb-true j.class 1 (second_so (eqb j.resource r) (eqb j.class 1) (first_so (eqb j.resource r && eqb j.class 1) (eqb j.a n) h))

-- one more row comes after the others, under its number
pub stimuli_push : (sys : System) (row : ℕ) (ss : List Stimulus) (s : Stimulus)
    → stimuli_from sys row (ss ++ s ∷ []) ≡ stimuli_from sys row ss ++ (stimulus_key s.tick (sys.resource s.port.at) (row + length ss), Stimulated s.port s.sets) ∷ []
stimuli_push sys row [] s = let e : row ≡ row + 0 = omega arith in ap (λ n. (stimulus_key s.tick (sys.resource s.port.at) n, Stimulated s.port s.sets) ∷ []) e
stimuli_push sys row (x ∷ ss) s =
    let e : row + 1 + length ss ≡ row + suc (length ss) = omega arith in
    ap (λ zs. (stimulus_key x.tick (sys.resource x.port.at) row, Stimulated x.port x.sets) ∷ zs)
    (stimuli_push sys (row + 1) ss s ∙ ap (λ n. stimuli_from sys (row + 1) ss ++ (stimulus_key s.tick (sys.resource s.port.at) n, Stimulated s.port s.sets) ∷ []) e)
