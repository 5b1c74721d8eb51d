-- Steps from a position to those around it.
use Rattle.std.proofs.Common.{◌≡◌, ℕ, ◌+◌, refl, sym, ap, ◌∙◌, add-one}
use Rattle.fb_inputs.specs.Positions.{around_deploy, around_stimuli, stepped}
use Rattle.fb_inputs.specs.declared.deploy_location.DeployKey.{DeployKey}
use Rattle.fb_inputs.specs.declared.deploy_location.DeployKey.TheVariants as key
use Rattle.fb_inputs.specs.declared.deploy_location.TableLocation.{TableLocation}
use Rattle.fb_inputs.specs.declared.deploy_location.TableLocation.TheVariants as table
use Rattle.fb_inputs.specs.declared.position.DeployPosition.{DeployPosition}
use Rattle.fb_inputs.specs.declared.position.DeployPosition.TheVariants as in_deploy
use Rattle.fb_inputs.specs.declared.position.StimuliPosition.{StimuliPosition}
use Rattle.fb_inputs.specs.declared.position.StimuliPosition.TheVariants as in_stimuli

pub no_step : {P : Type 0} (around : P → P) (p : P) → p ≡ stepped around 0 p
unfolding stepped
no_step around p = refl

one_more : {P : Type 0} (around : P → P) (n : ℕ) (p : P) → stepped around (n + 1) p ≡ around (stepped around n p)
unfolding stepped
one_more around n p = rw add-one refl

pub next_step : {P : Type 0} (around : P → P) (n : ℕ) (p here next : P) → next ≡ around here → here ≡ stepped around n p → next ≡ stepped around (n + 1) p
next_step around n p here next e before = e ∙ ap around before ∙ sym (one_more around n p)

-- ---- The beginning of a text is around all

from_key : (t : TableLocation) (k : DeployKey) → around_deploy (around_deploy (around_deploy (around_deploy (in_deploy.Key t k)))) ≡ in_deploy.Start
from_key table.Top k = refl
from_key (table.Resource i) key.Latencies = refl
from_key (table.Link i) key.Latencies = refl
from_key t k = refl

-- at most five steps around a position of a deployment
pub steps_to_start : (p : DeployPosition) → in_deploy.Start ≡ stepped around_deploy 5 p
unfolding stepped
steps_to_start in_deploy.Start = refl
steps_to_start (in_deploy.Byte at) = refl
steps_to_start (in_deploy.Table table.Top) = refl
steps_to_start (in_deploy.Table (table.Resource i)) = refl
steps_to_start (in_deploy.Table (table.Link i)) = refl
steps_to_start (in_deploy.Key t k) = sym (ap around_deploy (from_key t k))
steps_to_start (in_deploy.Element t k i) = sym (from_key t k)

-- at most three around one of stimuli
pub steps_to_beginning : (p : StimuliPosition) → in_stimuli.Start ≡ stepped around_stimuli 3 p
unfolding stepped
steps_to_beginning in_stimuli.Start = refl
steps_to_beginning in_stimuli.Heading = refl
steps_to_beginning (in_stimuli.Row k) = refl
steps_to_beginning (in_stimuli.Field k f) = refl
steps_to_beginning (in_stimuli.Word k w) = refl
