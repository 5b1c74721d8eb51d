-- A chart has at most one reaction.
use Rattle.fb_types.proofs.Common.{◌≡◌, ℕ, zero, suc, sym, subst, ◌∙◌, List, [], ◌∷◌, Option, Some, None, Name, End, Went, Left, Returned, Stopped, types_of, Position, Moving, Halts, Performs, AfterBody, Acts, Trial, Clears, NoneClears, Fails, Rests, Enters, Links, ChartReacts, trial_at, actions_of, algorithm_of, at_point, emitting, Action, BasicType, Reason, Steps}
use Rattle.fb_types.specs.Charts.{OrHalts}
use Rattle.fb_types.proofs.lemmas.determined.BodyLaws.{body-one}

-- Two movements from a position end the same way, one of each kind.
abbrev OneOf : Moving → Moving → Type 0
OneOf R S = (p : Position) (s t : Option Reason) (q u : Position) → R p s q → S p t u → (s ≡ t) × (q ≡ u)

halts-one : (how : Option Reason) (p : Position) (s t : Option Reason) (q u : Position) → Halts how p s q → Halts how p t u → (s ≡ t) × (q ≡ u)
halts-one how p s t q u h i = (h.0 ∙ sym i.0, h.1 ∙ sym i.1)

after_body-one : (e : End) (R : Moving) → OneOf R R → OneOf (AfterBody e R) (AfterBody e R)
after_body-one Went R d = d
after_body-one Left R d = d
after_body-one Returned R d = d
after_body-one (Stopped r) R d = λ p. halts-one (Some r) p

performs-one : (b : BasicType) (a : Option Name) (R : Moving) → OneOf R R → OneOf (Performs b a R) (Performs b a R)
performs-one b None R d p s t q u h i = d p s t q u h i
performs-one b (Some a) R d p s t q u h i =
    let x = body-one (algorithm_of b a) (types_of b) (record { vars = p.vars; left = p.left }) h.0 i.0 h.1 i.1 h.2 i.2 in
    let j = subst (λ m. AfterBody h.0 R (at_point p m) t u) (sym x.1) (subst (λ e. AfterBody e R (at_point p i.1) t u) (sym x.0) i.3) in
    after_body-one h.0 R d (at_point p h.1) s t q u h.3 j

acts-one : (b : BasicType) (as' : List Action) (left : ℕ) → OneOf (Acts b as' left) (Acts b as' left)
acts-one b [] left p = halts-one None p
acts-one b (a ∷ as') zero p = halts-one (Some Steps) p
acts-one b (a ∷ as') (suc left) p =
    performs-one b a.algorithm (λ m stop q. Acts b as' (emitting b a.output m).left (emitting b a.output m) stop q)
    (λ m. acts-one b as' (emitting b a.output m).left (emitting b a.output m)) (record p { left = left })

or_halts-one : (r : Option Reason) (R S : Moving) → OneOf R S → OneOf (OrHalts r R) (OrHalts r S)
or_halts-one None R S d = d
or_halts-one (Some r) R S d = λ p. halts-one (Some r) p

rests-one : (x : Trial) → OneOf (Rests x) (Rests x)
rests-one (Clears target left) p s t q u h i = absurd h
rests-one (NoneClears left) p s t q u h i = (h.0 ∙ sym i.0, h.1 ∙ sym i.1)
rests-one (Fails r left) p s t q u h i = (h.0 ∙ sym i.0, h.1 ∙ sym i.1)

rests-or-enters : (b : BasicType) (x : Trial) (S : Moving) → OneOf (Rests x) (Enters b x S)
rests-or-enters b (Clears target left) S p s t q u h i = absurd h
rests-or-enters b (NoneClears left) S p s t q u h i = absurd i
rests-or-enters b (Fails r left) S p s t q u h i = absurd i

enters-or-rests : (b : BasicType) (x : Trial) (S : Moving) → OneOf (Enters b x S) (Rests x)
enters-or-rests b (Clears target left) S p s t q u h i = absurd i
enters-or-rests b (NoneClears left) S p s t q u h i = absurd h
enters-or-rests b (Fails r left) S p s t q u h i = absurd h

enters-one : (b : BasicType) (x : Trial) (R S : Moving) → OneOf R S → OneOf (Enters b x R) (Enters b x S)
enters-one b (Clears target left) R S d p s t q u h i =
    let x = acts-one b (actions_of b target) left (record p { state = target; left = left }) h.0 i.0 h.1 i.1 h.2 i.2 in
    let j = subst (λ m. OrHalts h.0 S m t u) (sym x.1) (subst (λ r. OrHalts r S i.1 t u) (sym x.0) i.3) in
    or_halts-one h.0 R S d h.1 s t q u h.3 j
enters-one b (NoneClears left) R S d p s t q u h i = absurd h
enters-one b (Fails r left) R S d p s t q u h i = absurd h

links-one : (b : BasicType) (n m : ℕ) (present : Option Name) → OneOf (Links b n present) (Links b m present)
links-one b zero zero present p = rests-one (trial_at b present p) p
links-one b zero (suc m) present p = rests-or-enters b (trial_at b present p) (Links b m None) p
links-one b (suc n) zero present p = enters-or-rests b (trial_at b present p) (Links b n None) p
links-one b (suc n) (suc m) present p =
    enters-one b (trial_at b present p) (Links b n None) (Links b m None) (links-one b n m None) p

pub chart-one : (b : BasicType) (e : Name) → OneOf (ChartReacts b e) (ChartReacts b e)
chart-one b e p s t q u h i = links-one b h.0 i.0 (Some e) p s t q u h.1 i.1
