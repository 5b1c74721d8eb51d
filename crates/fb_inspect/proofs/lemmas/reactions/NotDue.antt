-- Where the timer of an event block does not go off with a line, no taking of it begins with the line.
use Rattle.fb_inspect.proofs.lemmas.Common.{◌≡◌, ℕ, Bool, List, [], ◌∷◌, map, inl, inr, refl, sym, ◌∙◌, ap, subst, All, All-head, Emission, Event, ports_of_event_block, system_of, Name, emission_of, line_of, path_at, ports_at, memory_of, EventKind, Restart, Ports, Line, IsEmission as IsEmissionOf, HasNames, PortTable, Seen, emission_line, emissions_by, IsBlockKept, EventBlock}
use Rattle.fb_types.proofs.Common.{All-weaker}
use Rattle.fb_types.specs.declared.event_kind.EventKind.TheVariants.{Delay, Cycle}
use Rattle.fb_types.specs.EventBlocks as blocks
use Rattle.fb_types.specs.States as model
use Rattle.fb_types.specs.declared.run.Emission as run
use Rattle.fb_event.specs.Reactions.{IsWellFormed, meanings}
use Rattle.fb_net.proofs.lemmas.values.Sampling.{ports-of_kind}
use Rattle.fb_inspect.specs.Refusals.{IsOfTimer}
use Rattle.fb_inspect.specs.walk.Timing.{IsBlockLine, IsNoExpiry, timer_reaction}
use Rattle.fb_inspect.proofs.lemmas.lines.OneEmission.{emission_once}
use Rattle.fb_inspect.proofs.lemmas.reactions.Timed.{shown_emission}

-- ---- One emission at most

abbrev IsAtMostOne : List Name → Type 0
IsAtMostOne ns = (n : Name) (more : List Name) → ns ≡ n ∷ more → more ≡ []

none_at : IsAtMostOne []
none_at n more e = absurd (cc)

one_at : (m : Name) → IsAtMostOne (m ∷ [])
one_at m n more e = sym (cc)

cycle_once : (m : blocks.Memory) (tick : ℕ) → IsAtMostOne (blocks.again m tick).emits
cycle_once blocks.Idle tick = none_at
cycle_once (blocks.Marks a b) tick = none_at
cycle_once (blocks.Flag a) tick = none_at
cycle_once (blocks.Running time) tick = one_at _
cycle_once (blocks.Count n p) tick = none_at

expiry_once : (k : EventKind) (m : blocks.Memory) (tick : ℕ) → IsAtMostOne (blocks.expiry k m tick).emits
expiry_once Restart m tick = one_at _
expiry_once Delay m tick = one_at _
expiry_once Cycle m tick = cycle_once m tick
expiry_once _ m tick = none_at

mapped_once : (f : Name → Emission) (ns : List Name) → IsAtMostOne ns → (x : Emission) (xs : List Emission) → x ∷ xs ≡ map f ns → xs ≡ []
mapped_once f [] once x xs e = absurd (cc)
mapped_once f (n ∷ ns) once x xs e = tails e ∙ ap (map f) (once n ns refl)
  where
    tails : {y : Emission} {ys : List Emission} → x ∷ xs ≡ y ∷ ys → xs ≡ ys
    tails e = cc

-- the only emission, by its meaning
only_one : (f : run.Emission → Emission) (es : List run.Emission) (x : Emission) → map f es ≡ x ∷ [] → (e : run.Emission) × (es ≡ e ∷ []) × (f e ≡ x)
only_one f [] x e = absurd (cc)
only_one f (y ∷ []) x e = (y, refl, cc)
only_one f (y ∷ z ∷ zs) x e = absurd (more e)
  where
    more : {v w : Emission} {ws : List Emission} → v ∷ w ∷ ws ≡ x ∷ [] → ⊥
    more e = absurd (cc)

-- ---- Well-formed emissions

pub fit_block : (k : EventKind) (its : Ports) (es : List run.Emission) → its ≡ ports_of_event_block k → All (IsWellFormed k) es → All (IsEmissionOf its) es
fit_block k its es same all =
    All-weaker (IsWellFormed k) (IsEmissionOf its)
    (λ e fit. subst (λ (own : Ports). IsEmissionOf own e) (sym same) (record { event = fit.0; values = fit.1 })) es all

-- ---- The timer

module _ (t : PortTable) (b : EventBlock) (l : Line) (line : IsBlockLine (system_of t.system.now) b l) (names : HasNames (system_of t.system.now))
    (s : Seen) (kept : IsBlockKept b.state.kind b s) where
  pub not_due : IsNoExpiry l b → (emits : List Emission) → IsOfTimer (system_of t.system.now) b.state.kind s l emits → ⊥
  not_due (inl late) emits it = late (kept.due_is ∙ it.due)
  not_due (inr (es, meant, fit, other)) emits it =
      let sys = system_of t.system.now in
      let kind = b.state.kind in
      let its : Ports = ports_at sys (path_at sys l.instance) in
      let own : its ≡ ports_of_event_block kind = ports-of_kind sys (path_at sys l.instance) (Event kind) line.kind in
      let here : model.Line = line_of sys l in
      let expiry : blocks.Reaction = timer_reaction kind s l in
      let emitted : meanings kind es ≡ emissions_by kind expiry =
      meant ∙ ap (λ (m : blocks.Memory). emissions_by kind (blocks.expiry kind m l.key.tick)) (sym (ap memory_of kept.memory_is))
      in
      let none : emits ≡ [] = mapped_once _ expiry.emits (expiry_once kind (memory_of s.memory) l.key.tick) (shown_emission here) emits it.is in
      let one = only_one (emission_of (ports_of_event_block kind)) es (shown_emission here) (emitted ∙ sym it.is ∙ ap (λ (xs : List Emission). shown_emission here ∷ xs) none) in
      let rest = other one.0 one.1 in
      let same : here ≡ emission_line here (emission_of its one.0) =
      ap (λ (v : Bool). record here { taken = v }) it.emitted
      ∙ ap (λ (x : Emission). emission_line here x) (sym (ap (λ (x : Ports). emission_of x one.0) own ∙ one.2))
      in
      let all : All (IsEmissionOf its) (one.0 ∷ []) = subst (λ (xs : List run.Emission). All (IsEmissionOf its) xs) one.1 (fit_block kind its es own fit) in
      rest.1 (emission_once t l l one.0 line.line line.line (All-head (IsEmissionOf its) one.0 [] all) rest.0 same)
