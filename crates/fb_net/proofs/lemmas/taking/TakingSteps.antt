-- A taking goes on after a step of it, of the same system and under the same key.
use Rattle.fb_net.proofs.lemmas.Common.{◌≡◌, ◌<◌, ◌++◌, ℕ, List, Result, Ok, Err, length, refl, sym, ap, subst, ◌∙◌, Inputs, system_of, Outcome, World, Key, ComesTo, IsReady, StillAreOuts, AreKept, Outbox, Forest}
use Rattle.fb_types.proofs.Common.{OnOk}
use Rattle.fb_types.specs.declared.run.Emission.{Emission}
use Rattle.fb_net.specs.Emitting.{HasEmitted}
use Rattle.fb_net.specs.Outs.{AreOuts}
use Rattle.fb_net.specs.Steps.{ArePutOut, EmitsWell, HasDone, IsKept, IsSame, MayBegin, MayEmit, StaysWhole}
use Rattle.fb_net.specs.declared.taking.Taking.{Taking}
use Rattle.fb_net.proofs.lemmas.emitting.Emitting.{more_emitted}
use Rattle.fb_net.proofs.lemmas.blocks.BlocksKept.{kept-same, kept-then, stands-kept}
use Rattle.fb_net.specs.Worlds.{Stands}

-- what is said of system and key before holds after
pub still : (P : Inputs → Key → Type 0) (a b : Taking) → IsSame a b → P a.system.now a.key.now → P b.system.now b.key.now
still P a b same h = subst (λ (k : Key). P b.system.now k) (sym same.key) (subst (λ (i : Inputs). P i a.key.now) (sym same.system) h)

-- what is said of them after held before
pub already : (P : Inputs → Key → Type 0) (a b : Taking) → IsSame a b → P b.system.now b.key.now → P a.system.now a.key.now
already P a b same h = subst (λ (k : Key). P a.system.now k) same.key (subst (λ (i : Inputs). P i b.key.now) same.system h)

-- nothing has changed
pub stays-whole : (a : Taking) → StaysWhole a a
stays-whole a = record {
  same = record { system = refl; key = refl; forest = refl; outbox = refl };
  kept = kept-same a.system.now a.forest.now;
}

-- one step after the other
pub kept-after : (a b c : Taking) → IsSame a b → IsKept a b → IsKept b c → IsKept a c
kept-after a b c same first next =
    kept-then a.system.now a.forest.now b.forest.now c.forest.now first
    (already (λ (i : Inputs) (k : Key). AreKept i b.forest.now c.forest.now) a b same next)

pub whole-after : (a b c : Taking) → StaysWhole a b → StaysWhole b c → StaysWhole a c
whole-after a b c first next = record {
  same = record {
    system = next.same.system ∙ first.same.system;
    key = next.same.key ∙ first.same.key;
    forest = next.same.forest ∙ first.same.forest;
    outbox = next.same.outbox ∙ first.same.outbox;
  };
  kept = kept-after a b c first.same first.kept next.kept;
}

pub emitted-after : (a b c : Taking) (n : ℕ) (es ds : List Emission) → IsSame a b → EmitsWell a n es b → EmitsWell b n ds c → EmitsWell a n (es ++ ds) c
emitted-after a b c n es ds same first next =
    more_emitted a.system.now a.key.now n a.forest.now b.forest.now c.forest.now a.outbox.now b.outbox.now c.outbox.now es ds first
    (already (λ (i : Inputs) (k : Key). HasEmitted i k n b.forest.now b.outbox.now ds c.forest.now c.outbox.now) a b same next)

pub ready-after : (a b : Taking) → StaysWhole a b → MayBegin a → IsReady a.key.now b.forest.now
ready-after a b whole ready = record { resource = ready.resource ∙ sym whole.kept.resource }

pub may-emit-again : (a b : Taking) (n : ℕ) → StaysWhole a b → MayEmit a n → MayEmit b n
may-emit-again a b n whole may = record {
  number = still (λ (i : Inputs) (k : Key). n < length (system_of i).paths) a b whole.same may.number;
  stands = still (λ (i : Inputs) (k : Key). Stands i b.forest.now n) a b whole.same (stands-kept a.system.now a.forest.now b.forest.now n whole.kept may.stands);
  resource = ap (λ (k : Key). k.resource) whole.same.key ∙ may.resource ∙ sym whole.kept.resource;
}

-- a step that did not fail has its result, and what it put out belongs to the system
pub done-well :
    {E : Type 0} (step : World → ℕ → Outcome) (a b : Taking) (r : Result (Unit {0}) E) → OnOk r (ComesTo a.system.now step a.forest.now a.outbox.now b.forest.now b.outbox.now)
    → OnOk r (ArePutOut a b) → OnOk r (HasDone step a b)
done-well step a b (Ok u) comes outs = record { comes = comes; outs = outs }
done-well step a b (Err e) comes outs = tt

pub put-out-after : (a b : Taking) (f : Forest) (x : Outbox) → IsSame a b → ArePutOut a b → StillAreOuts b.system.now b.forest.now b.outbox.now f x → StillAreOuts a.system.now a.forest.now a.outbox.now f x
put-out-after a b f x same first next were =
    already (λ (i : Inputs) (k : Key). AreOuts (system_of i) f.resource x) a b same
    (next (still (λ (i : Inputs) (k : Key). AreOuts (system_of i) b.forest.now.resource b.outbox.now) a b same (first were)))

-- Of some emissions those before the rest were made.
pub record EmittedSoFar (a b : Taking) (n : ℕ) (all rest : List Emission) : Type 0 where
  pub done : List Emission
  pub parts : all ≡ done ++ rest
  pub emitted : EmitsWell a n done b
  pub whole : StaysWhole a b
