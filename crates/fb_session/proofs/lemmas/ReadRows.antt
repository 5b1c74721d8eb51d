-- What is known of a row that was read.
use Rattle.fb_types.proofs.Common.{◌≡◌, ◌^◌, ◌≤◌, Bool, true, false, cond, refl, Result, Ok, Err, subst, leb-true, nat_le, nat_lt}
use Rattle.fb_types.specs.declared.deploy.Stimulus.{Stimulus}
use Rattle.fb_inputs.specs.declared.location.RowFault as fault
use Rattle.fb_inputs.specs.declared.location.RowFault.TheVariants.{Crowded, Fields, Late, Tick}
use Rattle.fb_inputs.specs.Lists.{each_at}
use Rattle.fb_inputs.specs.Numbers.{natural}
use Rattle.fb_inputs.specs.Refusals.{and_then, or_refuse}
use Rattle.fb_inputs.specs.Rows.{Row, draft, setting}
use Rattle.fb_inputs.specs.Stimuli.{limited, most_rows, stimulus, three}
use Rattle.fb_inputs.specs.StimuliLocations.{value_at}

first_ok : {A B N : Type 0} (r : Result A N) (f : A → Result B N) (y : B) → and_then r f ≡ Ok y → (x : A) × (f x ≡ Ok y)
first_ok (Ok x) f y h = (x, h)
first_ok (Err n) f y h = absurd cc

same_row : (x y : Stimulus) (r : Result Stimulus fault.RowFault) → r ≡ Ok x → r ≡ Ok y → x ≡ y
same_row x y r a b = cc

limit_kept : (read s : Stimulus) → limited 0 read ≡ Ok s → s.tick ≤ 10 ^ 12
limit_kept read s h = go (nat_le read.tick (10 ^ 12)) refl h
  where
    go : (b : Bool) → nat_le read.tick (10 ^ 12) ≡ b → cond b (cond (nat_lt 0 most_rows) (Ok read) (Err Crowded)) (Err Late) ≡ Ok s → s.tick ≤ 10 ^ 12
    go true e h = subst (λ (z : Stimulus). z.tick ≤ 10 ^ 12) (same_row read s (Ok read) refl h) (leb-true read.tick (10 ^ 12) e)
    go false e h = absurd cc

-- a row that was read has a tick within the limit
pub read_early : (row : Row) (s : Stimulus) → stimulus 0 row ≡ Ok s → s.tick ≤ 10 ^ 12
unfolding stimulus
read_early row s h =
    let a = first_ok (or_refuse Fields (three row)) _ s h in
    let b = first_ok (draft a.0.1 a.0.2) _ s a.1 in
    let c = first_ok (or_refuse Tick (natural a.0.0)) _ s b.1 in
    let d = first_ok (each_at value_at setting 0 b.0.words) _ s c.1 in
    limit_kept _ s d.1
