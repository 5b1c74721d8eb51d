-- A reaction of a basic block that does not run out of steps is the same with more of them, and it is shown alike.
use Rattle.fb_inspect.proofs.lemmas.Common.{◌≡◌, ℕ, zero, suc, ◌+◌, Bool, true, false, List, [], ◌∷◌, Option, Some, None, Result, Ok, Err, refl, sym, ◌∙◌, ap, subst, arith, Name, End, Went, Returned, Stopped, types_of, Position, Trial, Clears, NoneClears, Fails, Rests, trial_at, is_true, leaving, actions_of, algorithm_of, at_point, emitting, Values, Action, BasicType, Transition, Reason, Steps, first_true, Piece, Showing, Silent, rest_pieces, ShowsAfter, ShowsPerform, ShowsEmission, ShowsActs, ShowsOr, ShowsEnters, ShowsLinks, ShowsChain, ShowsReaction}
use Rattle.fb_types.proofs.Common.{Left, trial_of, by_condition}
use Rattle.fb_inspect.proofs.lemmas.runs.MoreSteps.{body_longer, later as later_point}

module _ (d : ℕ) where
  -- a position with this many more steps left
  abbrev pub later : Position → Position
  later p = record p { left = p.left + d }

  -- a movement that does not run out of steps goes the same way with more, and is shown alike
  abbrev pub IsLonger : Showing → Type 0
  IsLonger S = (p : Position) (stop : Option Reason) (q : Position) (ps : List Piece) → S p stop q ps → (stop ≡ Some Steps → ⊥) → S (later p) stop (later q) ps

  silent_longer : (how : Option Reason) → IsLonger (Silent how)
  silent_longer how p stop q ps h s = (h.0, ap later h.1, h.2)

  -- ---- Trials

  abbrev pub later_trial : Trial → Trial
  later_trial (Clears target left) = Clears target (left + d)
  later_trial (NoneClears left) = NoneClears (left + d)
  later_trial (Fails r left) = Fails r (left + d)

  -- the steps ran out in the trial
  abbrev pub RunsOut : Trial → Type 0
  RunsOut (Clears target left) = ⊥
  RunsOut (NoneClears left) = ⊥
  RunsOut (Fails r left) = r ≡ Steps

  by_longer :
      (c : Result Bool Reason) (target : Name) (left : ℕ) (rest more : Trial) → ((RunsOut rest → ⊥) → more ≡ later_trial rest)
      → (RunsOut (by_condition c target left rest) → ⊥) → by_condition c target (left + d) more ≡ later_trial (by_condition c target left rest)
  by_longer (Ok true) target left rest more then s = refl
  by_longer (Ok false) target left rest more then s = then s
  by_longer (Err r) target left rest more then s = refl

  pub trial_longer :
      (ts : List Transition) (present : Option Name) (vars : Values) (left : ℕ) → (RunsOut (trial_of ts present vars left) → ⊥)
      → trial_of ts present vars (left + d) ≡ later_trial (trial_of ts present vars left)
  trial_longer [] present vars left s = refl
  trial_longer (t ∷ ts) present vars zero s = absurd (s refl)
  trial_longer (t ∷ ts) present vars (suc left) s =
      let same : suc left + d ≡ suc (left + d) = omega arith in
      ap (trial_of (t ∷ ts) present vars) same
      ∙ by_longer (is_true t.condition present vars) t.to left (trial_of ts present vars left) (trial_of ts present vars (left + d)) (trial_longer ts present vars left) s

  -- ---- Actions

  after_longer : (e : End) (S : Showing) → IsLonger S → IsLonger (ShowsAfter e S)
  after_longer Went S l = l
  after_longer Left S l = l
  after_longer Returned S l = l
  after_longer (Stopped r) S l = silent_longer (Some r)

  after_stop : (e : End) (S : Showing) (p : Position) (stop : Option Reason) (q : Position) (ps : List Piece) → ShowsAfter e S p stop q ps → e ≡ Stopped Steps → stop ≡ Some Steps
  after_stop e S p stop q ps h is = (subst (λ (f : End). ShowsAfter f S p stop q ps) is h).0

  perform_longer : (t : BasicType) (a : Option Name) (S : Showing) → IsLonger S → IsLonger (ShowsPerform t a S)
  perform_longer t None S l p stop q ps h s = l p stop q ps h s
  perform_longer t (Some a) S l p stop q ps h s = (
    h.0,
    later_point d h.1,
    h.2,
    body_longer d (algorithm_of t a) (types_of t) (record { vars = p.vars; left = p.left }) h.0 h.1 h.3 (λ is. s (after_stop h.0 S (at_point p h.1) stop q h.2 h.5 is)),
    h.4,
    after_longer h.0 S l (at_point p h.1) stop q h.2 h.5 s,
  )

  abbrev pub Next : BasicType → List Action → Option Name → Showing
  Next t others o m stop q ps = ShowsEmission t o (λ n stop q ps. ShowsActs t others n.left n stop q ps) m stop q ps

  emission_longer :
      (t : BasicType) (o : Option Name) (others : List Action) → ((left : ℕ) → (p : Position) (stop : Option Reason) (q : Position) (ps : List Piece) → ShowsActs t others left p stop q ps → (stop ≡ Some Steps → ⊥) → ShowsActs t others (left + d) (later p) stop (later q) ps)
      → IsLonger (Next t others o)
  emission_longer t None others l m stop q ps h s = (h.0, h.1, l m.left m stop q h.0 h.2 s)
  emission_longer t (Some e) others l m stop q ps h s = (h.0, h.1, l m.left (emitting t (Some e) m) stop q h.0 h.2 s)

  pub acts_longer :
      (t : BasicType) (actions : List Action) (left : ℕ) (p : Position) (stop : Option Reason) (q : Position) (ps : List Piece) → ShowsActs t actions left p stop q ps → (stop ≡ Some Steps → ⊥)
      → ShowsActs t actions (left + d) (later p) stop (later q) ps
  acts_longer t [] left p stop q ps h s = silent_longer None p stop q ps h s
  acts_longer t (a ∷ others) zero p stop q ps h s = absurd (s h.0)
  acts_longer t (a ∷ others) (suc left) p stop q ps h s =
      let same : suc (left + d) ≡ suc left + d = omega arith in
      subst (λ (k : ℕ). ShowsActs t (a ∷ others) k (later p) stop (later q) ps) same
      (perform_longer t a.algorithm (Next t others a.output) (emission_longer t a.output others (acts_longer t others)) (record p { left = left }) stop q ps h s)

  -- ---- Links

  rests_longer : (x : Trial) (p : Position) (stop : Option Reason) (q : Position) → Rests x p stop q → Rests (later_trial x) (later p) stop (later q)
  rests_longer (Clears target left) p stop q h = absurd h
  rests_longer (NoneClears left) p stop q h = (h.0, ap later h.1)
  rests_longer (Fails r left) p stop q h = (h.0, ap later h.1)

  rests_out : (x : Trial) (p : Position) (stop : Option Reason) (q : Position) → Rests x p stop q → RunsOut x → stop ≡ Some Steps
  rests_out (Clears target left) p stop q h out = absurd h
  rests_out (NoneClears left) p stop q h out = absurd out
  rests_out (Fails r left) p stop q h out = h.0 ∙ ap (λ (x : Reason). Some x) out

  rest_shown : (x : Trial) (present : Option Name) (s : Name) → rest_pieces (later_trial x) present s ≡ rest_pieces x present s
  rest_shown (Clears target left) present s = refl
  rest_shown (NoneClears left) None s = refl
  rest_shown (NoneClears left) (Some e) s = refl
  rest_shown (Fails r left) present s = refl

  or_longer : (s : Option Reason) (S : Showing) → IsLonger S → IsLonger (ShowsOr s S)
  or_longer None S l = l
  or_longer (Some r) S l = silent_longer (Some r)

  or_stop : (s : Option Reason) (S : Showing) (p : Position) (stop : Option Reason) (q : Position) (ps : List Piece) → ShowsOr s S p stop q ps → s ≡ Some Steps → stop ≡ Some Steps
  or_stop s S p stop q ps h is = (subst (λ (r : Option Reason). ShowsOr r S p stop q ps) is h).0

  pub enters_out : (t : BasicType) (x : Trial) (c : Option Transition) (S : Showing) (p : Position) (stop : Option Reason) (q : Position) (ps : List Piece) → ShowsEnters t c x S p stop q ps → RunsOut x → ⊥
  enters_out t (Clears target left) c S p stop q ps h out = out
  enters_out t (NoneClears left) c S p stop q ps h out = out
  enters_out t (Fails r left) c S p stop q ps h out = h

  enters_longer : (t : BasicType) (x : Trial) (c : Option Transition) (S : Showing) → IsLonger S → (p : Position) (stop : Option Reason) (q : Position) (ps : List Piece) → ShowsEnters t c x S p stop q ps → (stop ≡ Some Steps → ⊥)
      → ShowsEnters t c (later_trial x) S (later p) stop (later q) ps
  enters_longer t (Clears target left) c S l p stop q ps h s = (
    h.0,
    h.1,
    later h.2,
    h.3,
    h.4,
    h.5,
    acts_longer t (actions_of t target) left (record p { state = target; left = left }) h.1 h.2 h.3 h.6 (λ is. s (or_stop h.1 S h.2 stop q h.4 h.7 is)),
    or_longer h.1 S l h.2 stop q h.4 h.7 s,
    h.8,
  )
  enters_longer t (NoneClears left) c S l p stop q ps h s = absurd h
  enters_longer t (Fails r left) c S l p stop q ps h s = absurd h

  links_longer : (t : BasicType) (n : ℕ) (present : Option Name) → IsLonger (ShowsLinks t n present)
  links_longer t zero present p stop q ps h s =
      let x = trial_at t present p in
      let e : trial_at t present (later p) ≡ later_trial x = trial_longer (leaving t p.state) present p.vars p.left (λ out. s (rests_out x p stop q h.0 out)) in (
        subst (λ (y : Trial). Rests y (later p) stop (later q)) (sym e) (rests_longer x p stop q h.0),
        h.1 ∙ sym (rest_shown x present p.state) ∙ ap (λ (y : Trial). rest_pieces y present p.state) (sym e),
      )
  links_longer t (suc n) present p stop q ps h s =
      let x = trial_at t present p in
      let c = first_true (leaving t p.state) present p.vars in
      let S : Showing = λ m stop q ps. ShowsLinks t n None m stop q ps in
      let e : trial_at t present (later p) ≡ later_trial x = trial_longer (leaving t p.state) present p.vars p.left (enters_out t x c S p stop q ps h) in
      subst (λ (y : Trial). ShowsEnters t c y S (later p) stop (later q) ps) (sym e) (enters_longer t x c S (links_longer t n None) p stop q ps h s)

  chain_longer : (t : BasicType) (present : Option Name) → IsLonger (ShowsChain t present)
  chain_longer t present p stop q ps h s = (h.0, links_longer t h.0 present p stop q ps h.1 s)

  pub reaction_longer : (t : BasicType) (e : Name) → IsLonger (ShowsReaction t e)
  reaction_longer t e p stop q ps h s = (h.0, chain_longer t (Some e) p stop q h.0 h.1 s, h.2)
