-- The result of a taking after an outbox from which nothing goes out.
use Rattle.fb_resource.proofs.lemmas.Common.{◌≡◌, ℕ, [], All, map, Option, Some, None, sym, subst, Inputs, system_of, Key, Keep, Reason, Event, BelongsTo, out_of, Outbox, Forest}
use Rattle.fb_types.proofs.Common.{Result, All-nil, line_of}
use Rattle.fb_types.specs.declared.run.Halt.{Halt}
use Rattle.fb_net.specs.Events.{Came, CameAlone, CameTo, HasTaken, Remembered}
use Rattle.fb_net.specs.Outs.{Gathered, IsOut, StillAreOuts, gathered, only_lines}
use Rattle.fb_net.specs.OfSystem.{AreOuts}
use Rattle.fb_resource.specs.Takings.{ended}

-- the lines of an outbox from which nothing goes out, and of whose timer nothing is asked, are all that it has
gathered_lines : (i : Inputs) (x : Outbox) → x.outs.items ≡ [] → x.timer ≡ Keep → gathered i x ≡ only_lines (map (line_of (system_of i)) x.lines.items)
gathered_lines i x none keeps n = record { lines = map (line_of (system_of i)) x.lines.items; outs = map (out_of (system_of i)) (none n); timer = keeps n }

pub came_alone : (i : Inputs) (k : Key) (event : Event) (old : Forest) (before : Outbox) (left : ℕ) (stop : Option Reason) (new : Forest) (after : ℕ) (x : Outbox)
    → before.outs.items ≡ [] → before.timer ≡ Keep
    → Came i k event old before left stop new after x → CameAlone i k event old before left stop new after x
came_alone i k event old before left stop new after x none keeps came w stood =
    subst (λ (g : Gathered). CameTo i k event g left stop new after x w) (gathered_lines i before none keeps)
    (came w stood)

-- ---- How it ended

-- what came, where the reason is known with which it ended
pub came_ended :
    (i : Inputs) (k : Key) (event : Event) (old : Forest) (before : Outbox) (left : ℕ) (stop : Option Reason) (end : Result (Unit {0}) Halt) (new : Forest) (after : ℕ) (x : Outbox)
    → before.outs.items ≡ [] → before.timer ≡ Keep → end ≡ ended stop
    → HasTaken i k event old before left end new after x → CameAlone i k event old before left stop new after x
came_ended i k event old before left None end new after x none keeps is taken =
    came_alone i k event old before left None new after x none keeps (subst (λ (r : Result (Unit {0}) Halt). HasTaken i k event old before left r new after x) is taken)
came_ended i k event old before left (Some reason) end new after x none keeps is taken =
    came_alone i k event old before left (Some reason) new after x none keeps (subst (λ (r : Result (Unit {0}) Halt). HasTaken i k event old before left r new after x) is taken)

remembered : {P : Type 0} (stop : Option Reason) (end : Result (Unit {0}) Halt) → end ≡ ended stop → Remembered end P → P
remembered {P} None end is held = subst (λ (r : Result (Unit {0}) Halt). Remembered r P) is held
remembered {P} (Some reason) end is held = subst (λ (r : Result (Unit {0}) Halt). Remembered r P) is held

-- what was put out belongs to the system, where nothing was put out before
pub put_out :
    (i : Inputs) (old : Forest) (before : Outbox) (new : Forest) (x : Outbox) (stop : Option Reason) (end : Result (Unit {0}) Halt) → end ≡ ended stop
    → All (BelongsTo (system_of i)) before.lines.items → before.outs.items ≡ [] → Remembered end (StillAreOuts i old before new x) → AreOuts i new.resource x
put_out i old before new x stop end is lines none still =
    remembered stop end is still (record {
      lines = lines;
      outs = subst (All (IsOut (system_of i) old.resource)) (sym none) (All-nil (IsOut (system_of i) old.resource));
    })
