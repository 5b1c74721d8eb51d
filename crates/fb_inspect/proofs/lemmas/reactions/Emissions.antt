-- What the reaction of a block emits: event outputs of its type, with values of the types of the variables WITH them.
use Rattle.fb_types.proofs.Common.{◌≡◌, ℕ, zero, suc, Bool, true, false, List, [], ◌∷◌, Option, Some, None, refl, sym, subst, ◌&&◌, ◌||◌, codes, if◌then◌else◌, nat_lt, End, Went, Left, Returned, Stopped, RunsBody, Emission, Event, among, bound, outputs_with, ports_of, types_of, variables_of, Acts, AfterBody, ChartReacts, Clears, Enters, Fails, Halts, Links, Moving, NoneClears, Performs, Position, Rests, Trial, actions_of, algorithm_of, at_point, emitting, trial_at, Each, Name, emissions, event_outs, Values, fits}
use Rattle.fb_types.specs.declared.event_kind.EventKind.{EventKind}
use Rattle.fb_types.specs.declared.event_kind.EventKind.TheVariants.{Restart, Split, Merge, Rendezvous, Permit, Select, Switch, Delay, Cycle, SetReset, DataLatch, RisingEdge, FallingEdge, CountUp}
use Rattle.fb_types.specs.declared.library.Action.{Action}
use Rattle.fb_types.specs.declared.library.BasicType.{BasicType}
use Rattle.fb_types.specs.declared.library.Ports.{Ports}
use Rattle.fb_types.specs.declared.library.Variable.{Variable}
use Rattle.fb_types.specs.declared.value.Reason.{Reason}
use Rattle.fb_types.specs.declared.value.Reason.TheVariants.{Steps}
use Rattle.fb_types.specs.declared.value.Value.{Value}
use Rattle.fb_types.specs.Charts.{OrHalts}
use Rattle.fb_types.specs.EventBlocks as blocks
use Rattle.fb_types.specs.States.{Remembers}
use Rattle.fb_types.proofs.lemmas.lists.EachLaws.{each_append}
use Rattle.fb_laws.specs.Typed.{AllFit, IsTypedMemory, variable_named}
use Rattle.fb_laws.proofs.lemmas.typing.Bodies.{Keeps, body-keeps}
use Rattle.fb_laws.proofs.lemmas.typing.EventBlocks.{outputs-fit}
use Rattle.fb_laws.proofs.lemmas.typing.Values.{with_value-fits}
use Rattle.fb_inspect.specs.walk.RunLines.{HasOutput}

-- An emission of an event output of an interface, with values of the types of the variables WITH it.
pub record IsEmitted (its : Ports) (e : Emission) : Type 0 where
  pub event : among (event_outs its) e.event ≡ true
  pub vars : Values
  pub values : e.values ≡ bound (outputs_with its e.event) vars
  pub fit : AllFit its.outputs vars

-- ---- Charts

types_named : (t : BasicType) (n : Name) (v : Value) (x : Variable) → variable_named n (variables_of t) ≡ Some x → fits (types_of t n) v ≡ true → fits x.ty v ≡ true
types_named t n v x h fit = rw (h, types_of) at fit

algorithm_keeps : (t : BasicType) (a : Name) → Keeps (AllFit (variables_of t)) (RunsBody (types_of t) (algorithm_of t a))
algorithm_keeps t a =
    body-keeps (types_of t) (AllFit (variables_of t))
    (λ n v vars fit good. with_value-fits (variables_of t) n v vars (λ x h. types_named t n v x h fit) good) (algorithm_of t a)

module _ (t : BasicType) (outputs : (vars : Values) → AllFit (variables_of t) vars → AllFit t.ports.outputs vars)
    (known : (s : Name) → Each (λ (a : Action). HasOutput t a.output) (actions_of t s)) where
  record IsFine (p : Position) : Type 0 where
    vars : AllFit (variables_of t) p.vars
    emitted : Each (IsEmitted t.ports) p.emitted

  abbrev Stays : Moving → Type 0
  Stays R = (p : Position) (s : Option Reason) (q : Position) → R p s q → IsFine p → IsFine q

  halts_stay : (how : Option Reason) → Stays (Halts how)
  halts_stay how p s q h fine = subst IsFine (sym h.1) fine

  after_body_stays : (e : End) (R : Moving) → Stays R → Stays (AfterBody e R)
  after_body_stays Went R k = k
  after_body_stays Left R k = k
  after_body_stays Returned R k = k
  after_body_stays (Stopped r) R k = halts_stay (Some r)

  performs_stays : (a : Option Name) (R : Moving) → Stays R → Stays (Performs t a R)
  performs_stays None R k p s q h fine = k p s q h fine
  performs_stays (Some a) R k p s q h fine =
      after_body_stays h.0 R k (at_point p h.1) s q h.3
      (record { vars = algorithm_keeps t a (record { vars = p.vars; left = p.left }) h.0 h.1 h.2 fine.vars; emitted = fine.emitted })

  emitting_stays : (o : Option Name) → HasOutput t o → (p : Position) → IsFine p → IsFine (emitting t o p)
  emitting_stays None has p fine = fine
  emitting_stays (Some e) has p fine =
      record {
        vars = fine.vars;
        emitted = each_append (IsEmitted t.ports) p.emitted _ fine.emitted (record { event = has; vars = p.vars; values = refl; fit = outputs p.vars fine.vars }, tt);
      }

  acts_stay : (as' : List Action) → Each (λ (a : Action). HasOutput t a.output) as' → (left : ℕ) → Stays (Acts t as' left)
  acts_stay [] has left p s q h fine = halts_stay None p s q h fine
  acts_stay (a ∷ as') has zero p s q h fine = halts_stay (Some Steps) p s q h fine
  acts_stay (a ∷ as') has (suc left) p s q h fine =
      performs_stays a.algorithm (λ m stop q. Acts t as' (emitting t a.output m).left (emitting t a.output m) stop q)
      (λ m s q h fine. acts_stay as' has.1 (emitting t a.output m).left (emitting t a.output m) s q h (emitting_stays a.output has.0 m fine))
      (record p { left = left }) s q h (record { vars = fine.vars; emitted = fine.emitted })

  or_halts_stays : (r : Option Reason) (R : Moving) → Stays R → Stays (OrHalts r R)
  or_halts_stays None R k = k
  or_halts_stays (Some r) R k = halts_stay (Some r)

  rests_stays : (x : Trial) → Stays (Rests x)
  rests_stays (Clears target left) p s q h fine = absurd h
  rests_stays (NoneClears left) p s q h fine = subst IsFine (sym h.1) (record { vars = fine.vars; emitted = fine.emitted })
  rests_stays (Fails r left) p s q h fine = subst IsFine (sym h.1) (record { vars = fine.vars; emitted = fine.emitted })

  enters_stays : (x : Trial) (R : Moving) → Stays R → Stays (Enters t x R)
  enters_stays (Clears target left) R k p s q h fine =
      or_halts_stays h.0 R k h.1 s q h.3
      (acts_stay (actions_of t target) (known target) left (record p { state = target; left = left }) h.0 h.1 h.2 (record { vars = fine.vars; emitted = fine.emitted }))
  enters_stays (NoneClears left) R k p s q h fine = absurd h
  enters_stays (Fails r left) R k p s q h fine = absurd h

  links_stay : (n : ℕ) (present : Option Name) → Stays (Links t n present)
  links_stay zero present p s q h fine = rests_stays (trial_at t present p) p s q h fine
  links_stay (suc n) present p s q h fine = enters_stays (trial_at t present p) (Links t n None) (links_stay n None) p s q h fine

  pub chart_emits :
      (e : Name) (p : Position) (s : Option Reason) (q : Position) → ChartReacts t e p s q → AllFit (variables_of t) p.vars → p.emitted ≡ [] → Each (IsEmitted t.ports) q.emitted
  chart_emits e p s q h fit none =
      (links_stay h.0 (Some e) p s q h.1 (record { vars = fit; emitted = subst (Each (IsEmitted t.ports)) (sym none) tt })).emitted

-- ---- Event blocks

abbrev Known : EventKind → List Name → Type 0
Known kind es = Each (λ (n : Name). among (event_outs (ports_of (Event kind))) n ≡ true) es

if_known : (kind : EventKind) (b : Bool) (x y : blocks.Reaction) → Known kind x.emits → Known kind y.emits → Known kind (if b then x else y).emits
if_known kind true x y h g = h
if_known kind false x y h g = g

rendezvous_known : (m : blocks.Memory) (e : Name) → Known Rendezvous (blocks.rendezvous m e).emits
rendezvous_known (blocks.Marks a b) e =
    if_known Rendezvous (blocks.is e (codes "R")) _ _ tt
    (if_known Rendezvous ((a || blocks.is e (codes "EI1")) && (b || blocks.is e (codes "EI2"))) (blocks.emits (blocks.Marks false false) (codes "EO" ∷ [])) _ (refl, tt) tt)
rendezvous_known _ e = tt

started_known : (kind : EventKind) (m : blocks.Memory) (tick time : ℕ) → Known kind (blocks.started m tick time).emits
started_known kind (blocks.Running before) tick time = tt
started_known kind _ tick time = tt

counted_known : (m : blocks.Memory) (pv : ℕ) → Known CountUp (blocks.counted m pv).emits
counted_known (blocks.Count cv q) pv = if_known CountUp (nat_lt cv 65535) (blocks.emits _ (codes "CUO" ∷ [])) (blocks.stays _) (refl, tt) tt
counted_known _ pv = tt

switched_known : (b : Bool) → Known Switch ((if b then codes "EO1" else codes "EO0") ∷ [])
switched_known true = (refl, tt)
switched_known false = (refl, tt)

one_known : (kind : EventKind) (b : Bool) (m n : blocks.Memory) → among (event_outs (ports_of (Event kind))) (codes "EO") ≡ true → Known kind (if b then blocks.emits m (codes "EO" ∷ []) else blocks.stays n).emits
one_known kind true m n h = (h, tt)
one_known kind false m n h = tt

-- what event blocks emit are event outputs of theirs
pub reaction_known : (kind : EventKind) (m : blocks.Memory) (e : Name) (tick : ℕ) (vars : Values) → Known kind (blocks.reaction kind m e tick vars).emits
reaction_known Restart m e tick vars = tt
reaction_known Split m e tick vars = (refl, (refl, tt))
reaction_known Merge m e tick vars = (refl, tt)
reaction_known Rendezvous m e tick vars = rendezvous_known m e
reaction_known Permit m e tick vars = one_known Permit _ m m refl
reaction_known Select m e tick vars = one_known Select _ m m refl
reaction_known Switch m e tick vars = switched_known _
reaction_known Delay m e tick vars = if_known Delay (blocks.is e (codes "START")) _ _ (started_known Delay m tick _) tt
reaction_known Cycle m e tick vars = if_known Cycle (blocks.is e (codes "START")) _ _ (started_known Cycle m tick _) tt
reaction_known SetReset m e tick vars = one_known SetReset _ _ _ refl
reaction_known DataLatch m e tick vars = one_known DataLatch _ _ _ refl
reaction_known RisingEdge m e tick vars = one_known RisingEdge _ _ _ refl
reaction_known FallingEdge m e tick vars = one_known FallingEdge _ _ _ refl
reaction_known CountUp m e tick vars = if_known CountUp (blocks.is e (codes "R")) (blocks.emits _ (codes "RO" ∷ [])) _ (refl, tt) (counted_known m _)

again_known : (m : blocks.Memory) (tick : ℕ) → Known Cycle (blocks.again m tick).emits
again_known (blocks.Running time) tick = (refl, tt)
again_known _ tick = tt

pub expiry_known : (kind : EventKind) (m : blocks.Memory) (tick : ℕ) → Known kind (blocks.expiry kind m tick).emits
expiry_known Restart m tick = (refl, tt)
expiry_known Delay m tick = (refl, tt)
expiry_known Cycle m tick = again_known m tick
expiry_known _ m tick = tt

pub emissions_emitted :
    (kind : EventKind) (m : blocks.Memory) → IsTypedMemory (Event kind) (Remembers m) → (es : List Name) → Known kind es
    → Each (IsEmitted (ports_of (Event kind))) (emissions (ports_of (Event kind)) (blocks.output_of m) es)
emissions_emitted kind m typed [] h = tt
emissions_emitted kind m typed (e ∷ es) h =
    (record { event = h.0; vars = blocks.output_of m; values = refl; fit = outputs-fit kind m typed }, emissions_emitted kind m typed es h.1)
