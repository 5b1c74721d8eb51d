-- A run that goes on, and what comes after.
use Rattle.fb_types.proofs.Common.{◌≡◌, ℕ, ◌<◌, ◌+◌, All, List, [], ◌∷◌, ◌++◌, map, refl, sym, ap, subst, ◌∙◌, append_assoc, append-nil, length, length-append, length-map, Option, Some, None, arith, All-nil, All-append, All-push, Inputs, system_of, line_of, Each, Config, System, Taken, TakesLeast, NothingAfter, Chain, RestsAt, Ending, AtHorizon, AtStop, after, last, lines_of, ending_by, ending_of}
use Rattle.fb_types.specs.declared.run.Line.{Line}
use Rattle.fb_types.specs.declared.run.StopMark.{StopMark}
use Rattle.fb_types.specs.declared.value.Reason.{Reason}
use Rattle.fb_types.specs.States as model
use Rattle.fb_sim_machine.specs.Completions.{Completes, Reaches, ending_at}

-- ---- What was taken before and after

pub lines_of-append : (ts us : List Taken) → lines_of (ts ++ us) ≡ lines_of ts ++ lines_of us
lines_of-append [] us = refl
lines_of-append (t ∷ ts) us = ap (λ (ls : List model.Line). t.effect.lines ++ ls) (lines_of-append ts us) ∙ sym (append_assoc t.effect.lines (lines_of ts) (lines_of us))

pub each_append : {A : Type 0} (P : A → Type 0) (xs ys : List A) → Each P xs → Each P ys → Each P (xs ++ ys)
each_append P [] ys a b = b
each_append P (x ∷ xs) ys a b = (a.0, each_append P xs ys a.1 b)

pub last_append : (xs ys : List Taken) (c : Config) → last c (xs ++ ys) ≡ last (last c xs) ys
last_append [] ys c = refl
last_append (t ∷ ts) ys c = last_append ts ys (after c t)

-- none of them stops its resource
abbrev pub Going : List Taken → Type 0
Going ts = Each (λ t. t.effect.stop ≡ None) ts

pub chain_append : (sys : System) (limit : ℕ) (xs ys : List Taken) (c : Config) → Going xs → Chain sys limit c xs → Chain sys limit (last c xs) ys → Chain sys limit c (xs ++ ys)
chain_append sys limit [] ys c g x y = y
chain_append sys limit (t ∷ ts) ys c g x y =
    (x.0, subst (λ (s : Option Reason). NothingAfter s (ts ++ ys)) (sym g.0) tt, chain_append sys limit ts ys (after c t) g.1 x.2 y)

pub ending_append : (horizon : ℕ) (xs ys : List Taken) → Going xs → ending_of horizon (xs ++ ys) ≡ ending_of horizon ys
ending_append horizon [] ys g = refl
ending_append horizon (t ∷ ts) ys g = ap (λ (s : Option Reason). ending_by s t.key (ending_of horizon (ts ++ ys))) g.0 ∙ ending_append horizon ts ys g.1

-- the lines of what was taken before and after are put after those that were there
pub lines_after : (xs ys : List Taken) (old mid new : List model.Line) → mid ≡ old ++ lines_of xs → new ≡ mid ++ lines_of ys → new ≡ old ++ lines_of (xs ++ ys)
lines_after xs ys old mid new before now =
    now ∙ ap (λ z. z ++ lines_of ys) before ∙ append_assoc old (lines_of xs) (lines_of ys) ∙ ap (λ z. old ++ z) (sym (lines_of-append xs ys))

pub lines_more : (ts : List Taken) (t : Taken) (old mid new : List model.Line) → mid ≡ old ++ lines_of ts → new ≡ mid ++ t.effect.lines → new ≡ old ++ lines_of (ts ++ t ∷ [])
lines_more ts t old mid new before now = lines_after ts (t ∷ []) old mid new before (now ∙ ap (λ z. mid ++ z) (sym (append-nil t.effect.lines)))

-- ---- Where no line is there

no_lines : {X : Type 0} (os ls : List X) → os ++ ls ≡ [] → ls ≡ []
no_lines [] ls is = is
no_lines (x ∷ os) ls is = absurd cc

-- if there is no line now, none was there before, and none came
pub none_came : (sys : System) (old new : List Line) (ls : List model.Line) → length new < 1 → map (line_of sys) new ≡ map (line_of sys) old ++ ls → ls ≡ []
none_came sys old [] ls few is = no_lines (map (line_of sys) old) ls (sym is)
none_came sys old (x ∷ new) ls few is = absurd (omega (arith, few))

-- as many lines are there now as were there before, and came
pub count_came : (sys : System) (old new : List Line) (ls : List model.Line) → map (line_of sys) new ≡ map (line_of sys) old ++ ls → length new ≡ length old + length ls
count_came sys old new ls is =
    sym (length-map new (line_of sys)) ∙ ap length is ∙ length-append (map (line_of sys) old) ls ∙ ap (λ k. k + length ls) (length-map old (line_of sys))

-- ---- A run that goes on

module _ (i : Inputs) (horizon limit : ℕ) where
  pub reaches_none : (c : Config) → Reaches i horizon limit c c []
  reaches_none c = record { chain = tt; going = tt; below = All-nil (λ (t : Taken). t.key.tick < horizon); leads = refl }

  pub reaches_after : (c d e : Config) (xs ys : List Taken) → Reaches i horizon limit c d xs → Reaches i horizon limit d e ys → Reaches i horizon limit c e (xs ++ ys)
  reaches_after c d e xs ys x y = record {
    chain = chain_append (system_of i) limit xs ys c x.going x.chain (subst (λ (z : Config). Chain (system_of i) limit z ys) (sym x.leads) y.chain);
    going = each_append (λ (t : Taken). t.effect.stop ≡ None) xs ys x.going y.going;
    below = All-append (λ (t : Taken). t.key.tick < horizon) xs ys x.below y.below;
    leads = last_append xs ys c ∙ ap (λ (z : Config). last z ys) x.leads ∙ y.leads;
  }

  -- one event more
  pub reaches_more : (c d : Config) (ts : List Taken) (t : Taken) → Reaches i horizon limit c d ts → TakesLeast (system_of i) limit d t → t.effect.stop ≡ None → t.key.tick < horizon
      → Reaches i horizon limit c (after d t) (ts ++ t ∷ [])
  reaches_more c d ts t before takes going below = reaches_after c d (after d t) ts (t ∷ []) before (record {
    chain = (takes, subst (λ (s : Option Reason). NothingAfter s []) (sym going) tt, tt);
    going = (going, tt);
    below = All-push (λ (u : Taken). u.key.tick < horizon) [] t (All-nil (λ (u : Taken). u.key.tick < horizon)) below;
    leads = refl;
  })

  -- One event more, which stops its resource.
  pub record Halts (c d : Config) (ts : List Taken) (t : Taken) (r : Reason) : Type 0 where
    pub chain : Chain (system_of i) limit c (ts ++ t ∷ [])
    pub below : All (λ (u : Taken). u.key.tick < horizon) (ts ++ t ∷ [])
    pub leads : last c (ts ++ t ∷ []) ≡ after d t
    pub ending : ending_of horizon (ts ++ t ∷ []) ≡ AtStop t.key.tick t.key.resource r

  pub halts : (c d : Config) (ts : List Taken) (t : Taken) (r : Reason) → Reaches i horizon limit c d ts → TakesLeast (system_of i) limit d t → t.effect.stop ≡ Some r
      → t.key.tick < horizon → Halts c d ts t r
  halts c d ts t r before takes stops below = record {
    chain =
        chain_append (system_of i) limit ts (t ∷ []) c before.going before.chain
        (subst (λ (z : Config). Chain (system_of i) limit z (t ∷ [])) (sym before.leads) (takes, subst (λ (s : Option Reason). NothingAfter s []) (sym stops) refl, tt));
    below = All-push (λ (u : Taken). u.key.tick < horizon) ts t before.below below;
    leads = last_append ts (t ∷ []) c ∙ ap (λ (z : Config). after z t) before.leads;
    ending = ending_append horizon ts (t ∷ []) before.going ∙ ap (λ (s : Option Reason). ending_by s t.key (AtHorizon horizon)) stops;
  }

  -- What was taken from c to d, and from there on what completes the run.
  pub record Joins (c : Config) (ts us : List Taken) (stop : Option StopMark) : Type 0 where
    pub chain : Chain (system_of i) limit c (ts ++ us)
    pub below : All (λ t. t.key.tick < horizon) (ts ++ us)
    pub rests : RestsAt horizon (ending_of horizon (ts ++ us)) (last c (ts ++ us)).agenda
    pub ending : ending_at horizon stop ≡ ending_of horizon (ts ++ us)

  pub joins : (c d : Config) (ts : List Taken) (before after' : List Line) (stop : Option StopMark) → Reaches i horizon limit c d ts
      → (rest : Completes i horizon limit d before after' stop) → Joins c ts rest.taken stop
  joins c d ts before after' stop goes rest =
      let us = rest.taken in
      record {
        chain = chain_append (system_of i) limit ts us c goes.going goes.chain (subst (λ (z : Config). Chain (system_of i) limit z us) (sym goes.leads) rest.chain);
        below = All-append (λ (t : Taken). t.key.tick < horizon) ts us goes.below rest.below;
        rests =
            subst (λ (e : Ending). RestsAt horizon e (last c (ts ++ us)).agenda) (sym (ending_append horizon ts us goes.going))
            (subst (λ (z : Config). RestsAt horizon (ending_of horizon us) z.agenda) (sym (last_append ts us c ∙ ap (λ (z : Config). last z us) goes.leads)) rest.rests);
        ending = rest.ending ∙ sym (ending_append horizon ts us goes.going);
      }

  -- What completes the run from where it went on to, completes it from where it began.
  pub completes_after : (c d : Config) (ts : List Taken) (before mid after' : List Line) (stop : Option StopMark) → Reaches i horizon limit c d ts
      → map (line_of (system_of i)) mid ≡ map (line_of (system_of i)) before ++ lines_of ts → Completes i horizon limit d mid after' stop → Completes i horizon limit c before after' stop
  completes_after c d ts before mid after' stop goes lines rest =
      let us = rest.taken in
      let whole = joins c d ts mid after' stop goes rest in
      record {
        taken = ts ++ us;
        chain = whole.chain;
        below = whole.below;
        rests = whole.rests;
        lines =
            rest.lines ∙ ap (λ z. z ++ lines_of us) lines ∙ append_assoc (map (line_of (system_of i)) before) (lines_of ts) (lines_of us)
            ∙ ap (λ z. map (line_of (system_of i)) before ++ z) (sym (lines_of-append ts us));
        ending = whole.ending;
      }
