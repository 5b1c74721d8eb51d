use Rattle.fb_types.proofs.Common.{◌≡◌, ℕ, Bool, true, false, List, refl, sym, ◌∙◌, ap, replicate, slice_set}
use Rattle.fb_coverage.specs.Openings as spec
use Rattle.fb_coverage.specs.declared.part.Part.{Part}
use Rattle.fb_coverage.specs.declared.part.Part.TheVariants.{States, Transitions, Algorithms, Events}
use Rattle.fb_coverage.proofs.opening.first_flags.Goals.{in-States, in_default}
use Rattle.fb_coverage.proofs.opening.first_flags.Goals as goal

-- no flag of what is no state is set
plain : (n : ℕ) (p : Part) → ¬ (p ≡ States) → replicate n false ≡ spec.first_flags p n
plain n States none = absurd (none refl)
plain n Transitions none = refl
plain n Algorithms none = refl
plain n Events none = refl

pub returns : goal.returns
returns c =
    let n = spec.part_count c.args.part c.args.basic.now in
    let first : c.in_ok-flags.flags ≡ replicate n false = c.in_ok-flags.ensures ∙ ap (λ (k : ℕ). replicate k false) c.part_count.ensures in
    elim c.match-part.branch [
      | in-States w ↦
          w.flags-is ∙ w.set.ensures ∙ ap (λ (flags : List Bool). slice_set flags 0 true) first ∙ sym (ap (λ (p : Part). spec.first_flags p n) w.in-States.is)
      | in_default w ↦ w.flags-is ∙ first ∙ plain n c.args.part w.in_default.not-States
    ]
