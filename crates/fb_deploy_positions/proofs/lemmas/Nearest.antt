-- The nearest position that has bytes, one step after another.
use Rattle.std.proofs.Common.{◌≡◌, ℕ, Option, Some, None, sym, subst, ap}
use Rattle.fb_read.specs.declared.token.Span.{Span}
use Rattle.fb_inputs.specs.Positions.{around_deploy, stepped}
use Rattle.fb_inputs.specs.declared.position.DeployPosition.{DeployPosition}
use Rattle.fb_inputs.proofs.lemmas.positions.StepsAround.{steps_to_start}
use Rattle.fb_deploy_positions.specs.Entries.{IsAt, start_of}
use Rattle.fb_deploy_positions.specs.Values.{Text}

pub some_at : (at : DeployPosition → Option Span) (p here : DeployPosition) (o : Option Span) (span : Span) → o ≡ at here → o ≡ Some span → here ≡ p → at p ≡ Some span
some_at at p here o span is some same = cc

pub none_at : (at : DeployPosition → Option Span) (p here : DeployPosition) (o : Option Span) → o ≡ at here → o ≡ None → here ≡ p → (other : Span) → at p ≡ Some other → ⊥
none_at at p here o is none same other there = cc

-- the beginning of a text is around all
pub begins : (text : Text) (position : DeployPosition) (steps : ℕ) (span : Span) → steps ≡ 5 → span ≡ start_of text → IsAt text (stepped around_deploy steps position) span
begins text position steps span five start =
    subst (λ (n : ℕ). IsAt text (stepped around_deploy n position) span) (sym five)
    (subst (λ (p : DeployPosition). IsAt text p span) (steps_to_start position) (ap (λ (s : Span). Some s) (sym start)))
