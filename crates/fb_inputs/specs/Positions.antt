-- The positions at which locations are shown (this project's own).
use Rattle.std.specs.Prelude.{ℕ, zero, suc}
use Rattle.fb_inputs.specs.declared.deploy_location.DeployKey.{DeployKey}
use Rattle.fb_inputs.specs.declared.deploy_location.DeployKey.TheVariants as key
use Rattle.fb_inputs.specs.declared.deploy_location.DeployLocation.{DeployLocation}
use Rattle.fb_inputs.specs.declared.deploy_location.DeployLocation.TheVariants as deploy
use Rattle.fb_inputs.specs.declared.deploy_location.TableFault.{TableFault}
use Rattle.fb_inputs.specs.declared.deploy_location.TableFault.TheVariants as fault
use Rattle.fb_inputs.specs.declared.deploy_location.TableLocation.{TableLocation}
use Rattle.fb_inputs.specs.declared.deploy_location.TableLocation.TheVariants as table
use Rattle.fb_inputs.specs.declared.location.RowFault.{RowFault}
use Rattle.fb_inputs.specs.declared.location.RowFault.TheVariants as row_fault
use Rattle.fb_inputs.specs.declared.location.StimuliLocation.{StimuliLocation}
use Rattle.fb_inputs.specs.declared.location.StimuliLocation.TheVariants as stimuli
use Rattle.fb_inputs.specs.declared.position.DeployPosition.{DeployPosition}
use Rattle.fb_inputs.specs.declared.position.DeployPosition.TheVariants as in_deploy
use Rattle.fb_inputs.specs.declared.position.StimuliPosition.{StimuliPosition}
use Rattle.fb_inputs.specs.declared.position.StimuliPosition.TheVariants as in_stimuli

-- ---- Deployments

-- A fault of a table is shown at the key that it names, or else at the table.
abbrev pub fault_position : TableLocation → TableFault → DeployPosition
fault_position t (fault.Wrong k) = in_deploy.Key t k
fault_position t (fault.Element k i) = in_deploy.Element t k i
fault_position t fault.Both = in_deploy.Key t key.Latencies
fault_position t fault.Itself = in_deploy.Key t key.To
fault_position t fault.Empty = in_deploy.Key t key.Resource
fault_position t fault.NoTable = in_deploy.Table t
fault_position t (fault.Missing k) = in_deploy.Table t
fault_position t fault.Further = in_deploy.Table t

-- A fault of the whole text is shown at its beginning.
abbrev pub deploy_position : DeployLocation → DeployPosition
deploy_position deploy.Bytes = in_deploy.Start
deploy_position (deploy.Document at) = in_deploy.Byte at
deploy_position (deploy.Shape t why) = fault_position t why
deploy_position (deploy.Latency l e) = in_deploy.Element (table.Link l) key.Latencies e
deploy_position (deploy.NoEntry l) = in_deploy.Key (table.Link l) key.Latencies
deploy_position (deploy.Entry l e) = in_deploy.Element (table.Link l) key.Latencies e
deploy_position deploy.Resources = in_deploy.Start
deploy_position deploy.Links = in_deploy.Start
deploy_position (deploy.Entries l) = in_deploy.Key (table.Link l) key.Latencies

-- the position around a table: where the array begins that it is in
abbrev pub around_table : TableLocation → DeployPosition
around_table table.Top = in_deploy.Start
around_table (table.Resource i) = in_deploy.Key table.Top key.Resource
around_table (table.Link i) = in_deploy.Key table.Top key.Link

-- the position around a key: its table; a link has a table of latencies, or else one latency
abbrev pub around_key : TableLocation → DeployKey → DeployPosition
around_key table.Top k = in_deploy.Start
around_key (table.Resource i) key.Latencies = in_deploy.Key (table.Resource i) key.Latency
around_key (table.Link i) key.Latencies = in_deploy.Key (table.Link i) key.Latency
around_key t k = in_deploy.Table t

abbrev pub around_deploy : DeployPosition → DeployPosition
around_deploy in_deploy.Start = in_deploy.Start
around_deploy (in_deploy.Byte at) = in_deploy.Start
around_deploy (in_deploy.Table t) = around_table t
around_deploy (in_deploy.Key t k) = around_key t k
around_deploy (in_deploy.Element t k i) = in_deploy.Key t k

-- ---- Stimuli

abbrev pub row_position : ℕ → RowFault → StimuliPosition
row_position k row_fault.Fields = in_stimuli.Row k
row_position k row_fault.Event = in_stimuli.Field k 1
row_position k (row_fault.Word w) = in_stimuli.Word k w
row_position k row_fault.Tick = in_stimuli.Field k 0
row_position k (row_fault.Value w) = in_stimuli.Word k w
row_position k row_fault.Late = in_stimuli.Field k 0
row_position k row_fault.Crowded = in_stimuli.Row k

abbrev pub stimuli_position : StimuliLocation → StimuliPosition
stimuli_position stimuli.Bytes = in_stimuli.Start
stimuli_position stimuli.Heading = in_stimuli.Heading
stimuli_position (stimuli.Row k why) = row_position k why

abbrev pub around_stimuli : StimuliPosition → StimuliPosition
around_stimuli in_stimuli.Start = in_stimuli.Start
around_stimuli in_stimuli.Heading = in_stimuli.Start
around_stimuli (in_stimuli.Row k) = in_stimuli.Start
around_stimuli (in_stimuli.Field k f) = in_stimuli.Row k
around_stimuli (in_stimuli.Word k w) = in_stimuli.Field k 2

-- ---- Around

-- what a number of steps outwards give
unfoldable pub stepped : {P : Type 0} → (P → P) → ℕ → P → P
stepped around zero p = p
stepped around (suc n) p = around (stepped around n p)
