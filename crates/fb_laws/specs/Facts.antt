-- The facts of taking one event on which the law of one resource rests (this project's profile).
use Rattle.std.specs.Prelude.{◌≡◌, ◌≤◌, ◌<◌, ◌==◌, ℕ, Option, Some, true, false}
use Rattle.fb_types.specs.Keys.{found}
use Rattle.fb_types.specs.Machines.{Machine, Outcome, Each}
use Rattle.fb_types.specs.declared.key.Key.{Key}

module _ (M : Machine) where
  -- Of each taking of an event that fits its key.
  pub record IsTaking (key : Key) (o : Outcome M.Part M.Event M.Line M.Reason) : Type 0 where
    -- local events and timers are of the key's resource, and come at its tick or later
    pub own : (k : Key) (v : Option M.Event) → o.changes k ≡ Some v → k.resource ≡ key.resource
    pub later : (k : Key) (v : M.Event) → o.changes k ≡ Some (Some v) → key.tick ≤ k.tick
    -- messages go over the resource's links, and arrive as these say
    pub sent_own : (k : Key) (v : M.Event) → found k o.sent ≡ Some v → M.sender k ≡ key.resource
    pub sent_arrives : (k : Key) (v : M.Event) → found k o.sent ≡ Some v → M.Arrives k key.tick
    -- arrivals have class 2, and nothing else has
    pub own_class : (k : Key) (v : Option M.Event) → o.changes k ≡ Some v → (k.class == 2) ≡ false
    pub sent_class : (k : Key) (v : M.Event) → found k o.sent ≡ Some v → (k.class == 2) ≡ true
    -- lines are of the key's tick and resource
    pub here : Each (λ (x : M.Line). (M.line_tick x ≡ key.tick) × (M.line_resource x ≡ key.resource)) o.lines

  pub record IsLawful : Type 0 where
    -- what a taking gives is determined by its resource's part, its key and its event
    pub one : (p : M.Part) (key : Key) (e : M.Event) (o x : Outcome M.Part M.Event M.Line M.Reason)
        → M.Fits key e → M.Gives p key e o → M.Gives p key e x → o ≡ x
    pub taking : (p : M.Part) (key : Key) (e : M.Event) (o : Outcome M.Part M.Event M.Line M.Reason)
        → M.Fits key e → M.Gives p key e o → IsTaking key o
    -- a message arrives later than it was sent
    pub arrives_later : (k : Key) (sent : ℕ) → M.Arrives k sent → sent < k.tick
