-- What becomes of resources that were away, before their messages are exchanged (this project's profile).
use Rattle.std.specs.Prelude.{◌≡◌, ℕ, ◌<◌, ◌++◌, List, [], All, drop, length, map, Option, Some, None, slice_get, slice_index_or}
use Rattle.std.specs.Global.{Vec}
use Rattle.std.specs.List.{AllZip}
use Rattle.fb_types.specs.Headline.{Inputs}
use Rattle.fb_types.specs.declared.run.Line.{Line}
use Rattle.fb_types.specs.declared.run.Message.{Message}
use Rattle.fb_types.specs.declared.run.StopMark.{StopMark}
use Rattle.fb_types.specs.declared.value.Reason.{Reason}
use Rattle.fb_resource.specs.Resources.{HasRun}
use Rattle.fb_resource.specs.declared.resource.Resource.{Resource}
use Rattle.fb_resource.specs.declared.resource.WindowDone.{WindowDone}
use Rattle.fb_resource.specs.declared.resource.WindowDone.TheVariants.{Ran}
use Rattle.fb_window.specs.Jobs.{Does, jobs_of, resting_of}
use Rattle.fb_window.specs.Texts.{HasLines}
use Rattle.fb_window.specs.declared.home.Home.{Home}

-- A resource that ran comes back from below its bound, its lines after those that were kept; one that has stopped is as it was.
pub record HasCome (i : Inputs) (limit bound : ℕ) (x : Resource) (kept : List Line) (y : Resource) (lines : List Line) (sent : Vec Message) : Type 0 where
  pub ran : x.stopped ≡ None → (new : Vec Line) × (stop : Option StopMark) × HasRun i limit x bound (Ran y new sent stop) × (lines ≡ kept ++ new.items)
  pub rested : (reason : Reason) → x.stopped ≡ Some reason → (y ≡ x) × (lines ≡ kept) × (sent.items ≡ [])

-- what is at an index, of all lists
pub record IsHomeAt (i : Inputs) (limit : ℕ) (bounds : List ℕ) (xs : List Resource) (lists : List (Vec Line)) (index : ℕ) (h : Home) : Type 0 where
  pub old : Resource
  pub kept : Vec Line
  pub new : Resource
  pub lines : Vec Line
  pub sent : Vec Message
  pub old_at : slice_get xs index ≡ Some old
  pub kept_at : slice_get lists index ≡ Some kept
  pub new_at : slice_get h.resources.items index ≡ Some new
  pub lines_at : slice_get h.pending.items index ≡ Some lines
  pub sent_at : slice_get h.outboxes.items index ≡ Some sent
  pub come : HasCome i limit (slice_index_or bounds index 0) old kept.items new lines.items sent

-- The resources below an index have come home, and of the others the lists and the jobs' done values are left.
pub record IsHomeTo (i : Inputs) (limit : ℕ) (bounds : List ℕ) (xs : List Resource) (lists : List (Vec Line)) (index : ℕ) (kept : List (Vec Line)) (dones : List WindowDone) (h : Home) : Type 0 where
  pub resources : length h.resources.items ≡ index
  pub pending : length h.pending.items ≡ index
  pub outboxes : length h.outboxes.items ≡ index
  pub left : kept ≡ drop index lists
  pub done : AllZip Does (jobs_of i limit bounds index (drop index xs)) dones
  pub each : (r : ℕ) → r < index → IsHomeAt i limit bounds xs lists r h

-- Resources are awaited, the first of them at this index: those that rest, the lines that each has kept, and a done value for each job of the others.
pub record AreAwaited (resting : List (Option Resource)) (kept : List (Vec Line)) (dones : List WindowDone) : Type 0 where
  pub inputs : Inputs
  pub limit : ℕ
  pub bounds : List ℕ
  pub index : ℕ
  pub resources : List Resource
  pub is : resting ≡ map resting_of resources
  pub counted : length kept ≡ length resources
  pub done : AllZip Does (jobs_of inputs limit bounds index resources) dones

-- All are home.
pub record AreHome (i : Inputs) (limit : ℕ) (bounds : List ℕ) (xs : List Resource) (lists : List (Vec Line)) (h : Home) : Type 0 where
  pub resources : length h.resources.items ≡ length xs
  pub pending : length h.pending.items ≡ length xs
  pub outboxes : length h.outboxes.items ≡ length xs
  pub each : (r : ℕ) → r < length xs → IsHomeAt i limit bounds xs lists r h

-- No line is kept, and the lines at home are those that the jobs gave; these done values are left.
pub record HasGiven (dones : List WindowDone) (kept : List (Vec Line)) (left : List WindowDone) (h : Home) : Type 0 where
  pub none : All (λ p. p.items ≡ []) kept
  pub seen : List WindowDone
  pub are : dones ≡ seen ++ left
  pub lines : AllZip HasLines h.pending.items seen
