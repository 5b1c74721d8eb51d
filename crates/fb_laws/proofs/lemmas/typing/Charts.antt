-- What the runs of bodies keep, the reaction of a chart keeps, and it emits such values.
use Rattle.fb_types.proofs.Common.{ℕ, zero, suc, sym, subst, List, [], ◌∷◌, Option, Some, None, All, All-push, Name, Values, End, Went, Left, Returned, Stopped, RunsBody, types_of, outputs_with, bound, Emission, Position, Moving, Halts, Performs, AfterBody, Acts, Trial, Clears, NoneClears, Fails, Rests, Enters, Links, ChartReacts, trial_at, actions_of, algorithm_of, at_point, emitting}
use Rattle.fb_types.specs.declared.library.Action.{Action}
use Rattle.fb_types.specs.declared.library.BasicType.{BasicType}
use Rattle.fb_types.specs.declared.value.Reason.{Reason}
use Rattle.fb_types.specs.declared.value.Reason.TheVariants.{Steps}
use Rattle.fb_types.specs.Charts.{OrHalts}
use Rattle.fb_laws.proofs.lemmas.typing.Bodies.{Keeps}

-- a position with such values, where all that was emitted is good
pub record IsGoodIndex (Good : Values → Type 0) (IsFitting : Emission → Type 0) (p : Position) : Type 0 where
  pub vars : Good p.vars
  pub emitted : All IsFitting p.emitted

module _ (b : BasicType) (Good : Values → Type 0) (IsFitting : Emission → Type 0)
    (bodies : (a : Name) → Keeps Good (RunsBody (types_of b) (algorithm_of b a)))
    (fitting : (e : Name) (vars : Values) → Good vars → IsFitting (record { event = e; values = bound (outputs_with b.ports e) vars })) where
  abbrev Fine : Position → Type 0
  Fine = IsGoodIndex Good IsFitting

  abbrev Stays : Moving → Type 0
  Stays R = (p : Position) (s : Option Reason) (q : Position) → R p s q → Fine p → Fine q

  halts-stay : (how : Option Reason) → Stays (Halts how)
  halts-stay how p s q h fine = subst Fine (sym h.1) fine

  after_body-stays : (e : End) (R : Moving) → Stays R → Stays (AfterBody e R)
  after_body-stays Went R k = k
  after_body-stays Left R k = k
  after_body-stays Returned R k = k
  after_body-stays (Stopped r) R k = halts-stay (Some r)

  performs-stays : (a : Option Name) (R : Moving) → Stays R → Stays (Performs b a R)
  performs-stays None R k p s q h fine = k p s q h fine
  performs-stays (Some a) R k p s q h fine =
      after_body-stays h.0 R k (at_point p h.1) s q h.3
      (record { vars = bodies a (record { vars = p.vars; left = p.left }) h.0 h.1 h.2 fine.vars; emitted = fine.emitted })

  emitting-stays : (o : Option Name) (p : Position) → Fine p → Fine (emitting b o p)
  emitting-stays None p fine = fine
  emitting-stays (Some e) p fine = record {
    vars = fine.vars;
    emitted = All-push IsFitting p.emitted (record { event = e; values = bound (outputs_with b.ports e) p.vars }) fine.emitted (fitting e p.vars fine.vars);
  }

  acts-stay : (as' : List Action) (left : ℕ) → Stays (Acts b as' left)
  acts-stay [] left p s q h fine = halts-stay None p s q h fine
  acts-stay (a ∷ as') zero p s q h fine = halts-stay (Some Steps) p s q h fine
  acts-stay (a ∷ as') (suc left) p s q h fine =
      performs-stays a.algorithm (λ m stop q. Acts b as' (emitting b a.output m).left (emitting b a.output m) stop q)
      (λ m s q h fine. acts-stay as' (emitting b a.output m).left (emitting b a.output m) s q h (emitting-stays a.output m fine))
      (record p { left = left }) s q h (record { vars = fine.vars; emitted = fine.emitted })

  or_halts-stays : (r : Option Reason) (R : Moving) → Stays R → Stays (OrHalts r R)
  or_halts-stays None R k = k
  or_halts-stays (Some r) R k = halts-stay (Some r)

  rests-stays : (x : Trial) → Stays (Rests x)
  rests-stays (Clears target left) p s q h fine = absurd h
  rests-stays (NoneClears left) p s q h fine = subst Fine (sym h.1) (record { vars = fine.vars; emitted = fine.emitted })
  rests-stays (Fails r left) p s q h fine = subst Fine (sym h.1) (record { vars = fine.vars; emitted = fine.emitted })

  enters-stays : (x : Trial) (R : Moving) → Stays R → Stays (Enters b x R)
  enters-stays (Clears target left) R k p s q h fine =
      or_halts-stays h.0 R k h.1 s q h.3
      (acts-stay (actions_of b target) left (record p { state = target; left = left }) h.0 h.1 h.2 (record { vars = fine.vars; emitted = fine.emitted }))
  enters-stays (NoneClears left) R k p s q h fine = absurd h
  enters-stays (Fails r left) R k p s q h fine = absurd h

  links-stay : (n : ℕ) (present : Option Name) → Stays (Links b n present)
  links-stay zero present p s q h fine = rests-stays (trial_at b present p) p s q h fine
  links-stay (suc n) present p s q h fine = enters-stays (trial_at b present p) (Links b n None) (links-stay n None) p s q h fine

  pub chart-stays : (e : Name) → Stays (ChartReacts b e)
  chart-stays e p s q h fine = links-stay h.0 (Some e) p s q h.1 fine
