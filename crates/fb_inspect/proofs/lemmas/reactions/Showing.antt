-- What is shown of a reaction, put together from its steps.
use Rattle.fb_types.proofs.Common.{◌≡◌, ℕ, zero, suc, List, [], ◌∷◌, ◌++◌, map, Option, Some, None, refl, sym, ◌∙◌, ap, subst, append_assoc, append-nil, Name, End, Went, Left, Returned, Stopped, bound, outputs_with, Emission, Position, Moving, Acts, AfterBody, Performs, Trial, Clears, NoneClears, Fails, Rests, trial_at, leaving, actions_of, emitting, at_point, Values}
use Rattle.fb_types.specs.declared.library.Action.{Action}
use Rattle.fb_types.specs.declared.library.BasicType.{BasicType}
use Rattle.fb_types.specs.declared.library.Transition.{Transition}
use Rattle.fb_types.specs.declared.value.Reason.{Reason}
use Rattle.fb_ecc.specs.Steps.{first_true}
use Rattle.fb_inspect.specs.walk.Chains.{Piece, Clears_by, Ran, Emits, Showing, Silent, emission_pieces, ShowsAfter, ShowsPerform, ShowsEmission, ShowsActs, rest_pieces, ShowsOr, ShowsEnters, ShowsLinks, ShowsChain}

-- ---- Actions, one after another

abbrev Alone : BasicType → Option Name → Showing
Alone t o m stop q ps = ShowsEmission t o (λ n stop q ps. Silent None n stop q ps) m stop q ps

abbrev Others : BasicType → Option Name → List Action → Showing
Others t o others m stop q ps = ShowsEmission t o (λ n stop q ps. ShowsActs t others n.left n stop q ps) m stop q ps

module _ (t : BasicType) (o : Option Name) (others : List Action) where
  emission_next :
      (x m q : Position) (stop : Option Reason) (ps qs : List Piece) → Alone t o x None m ps → ShowsActs t others m.left m stop q qs → Others t o others x stop q (ps ++ qs)
  emission_next x m q stop ps qs h rest = (
    qs,
    ap (λ (l : List Piece). l ++ qs) (h.1 ∙ ap (λ (l : List Piece). emission_pieces t o x ++ l) h.2.2 ∙ append-nil (emission_pieces t o x)),
    subst (λ (n : Position). ShowsActs t others n.left n stop q qs) h.2.1 rest,
  )

  after_next :
      (e : End) (x m q : Position) (stop : Option Reason) (ps qs : List Piece) → ShowsAfter e (Alone t o) x None m ps → ShowsActs t others m.left m stop q qs
      → ShowsAfter e (Others t o others) x stop q (ps ++ qs)
  after_next Went x m q stop ps qs h rest = emission_next x m q stop ps qs h rest
  after_next Left x m q stop ps qs h rest = emission_next x m q stop ps qs h rest
  after_next Returned x m q stop ps qs h rest = emission_next x m q stop ps qs h rest
  after_next (Stopped r) x m q stop ps qs h rest = absurd (let e = h.0 in cc)

  perform_next :
      (a : Option Name) (x m q : Position) (stop : Option Reason) (ps qs : List Piece) → ShowsPerform t a (Alone t o) x None m ps → ShowsActs t others m.left m stop q qs
      → ShowsPerform t a (Others t o others) x stop q (ps ++ qs)
  perform_next None x m q stop ps qs h rest = emission_next x m q stop ps qs h rest
  perform_next (Some a) x m q stop ps qs h rest =
      (h.0, h.1, h.2 ++ qs, h.3, ap (λ (l : List Piece). l ++ qs) h.4, after_next h.0 (at_point x h.1) m q stop h.2 qs h.5 rest)

  after_stops : (e : End) (x q : Position) (r : Reason) (ps : List Piece) → ShowsAfter e (Alone t o) x (Some r) q ps → ShowsAfter e (Others t o others) x (Some r) q ps
  after_stops Went x q r ps h = absurd (let e = h.2.0 in cc)
  after_stops Left x q r ps h = absurd (let e = h.2.0 in cc)
  after_stops Returned x q r ps h = absurd (let e = h.2.0 in cc)
  after_stops (Stopped s) x q r ps h = h

  perform_stops : (a : Option Name) (x q : Position) (r : Reason) (ps : List Piece) → ShowsPerform t a (Alone t o) x (Some r) q ps → ShowsPerform t a (Others t o others) x (Some r) q ps
  perform_stops None x q r ps h = absurd (let e = h.2.0 in cc)
  perform_stops (Some a) x q r ps h = (h.0, h.1, h.2, h.3, h.4, after_stops h.0 (at_point x h.1) q r h.2 h.5)

pub acts_next :
    (t : BasicType) (a : Action) (others : List Action) (left : ℕ) (p m q : Position) (stop : Option Reason) (ps qs : List Piece) → ShowsActs t (a ∷ []) left p None m ps
    → ShowsActs t others m.left m stop q qs → ShowsActs t (a ∷ others) left p stop q (ps ++ qs)
acts_next t a others zero p m q stop ps qs h rest = absurd (let e = h.0 in cc)
acts_next t a others (suc left) p m q stop ps qs h rest = perform_next t a.output others a.algorithm (record p { left = left }) m q stop ps qs h rest

pub acts_stop :
    (t : BasicType) (a : Action) (others : List Action) (left : ℕ) (p q : Position) (r : Reason) (ps : List Piece) → ShowsActs t (a ∷ []) left p (Some r) q ps
    → ShowsActs t (a ∷ others) left p (Some r) q ps
acts_stop t a others zero p q r ps h = h
acts_stop t a others (suc left) p q r ps h = perform_stops t a.output others a.algorithm (record p { left = left }) q r ps h

-- ---- One action

-- an algorithm that ran, if there is one and a step is left
abbrev pub ran_pieces : Option Name → (left : ℕ) → (before after : Values) → List Piece
ran_pieces None left before after = []
ran_pieces (Some a) zero before after = []
ran_pieces (Some a) (suc left) before after = Ran a before after ∷ []

abbrev pub emits_pieces : List Emission → List Piece
emits_pieces es = map (λ e. Emits e) es

-- what an emission adds to none
emission_alone : (t : BasicType) (o : Option Name) (x : Position) → x.emitted ≡ [] → emits_pieces (emitting t o x).emitted ≡ emission_pieces t o x
emission_alone t None x none = ap emits_pieces none
emission_alone t (Some e) x none =
    ap (λ (l : List Emission). emits_pieces (l ++ record { event = e; values = bound (outputs_with t.ports e) x.vars } ∷ [])) none

module _ (t : BasicType) (o : Option Name) where
  -- what follows an algorithm
  alone_shown :
      (x q : Position) (stop : Option Reason) → x.emitted ≡ [] → (stop ≡ None) × (q ≡ emitting t o x) → Alone t o x stop q (emits_pieces q.emitted)
  alone_shown x q stop none h = (
    [],
    ap (λ (y : Position). emits_pieces y.emitted) h.1 ∙ emission_alone t o x none ∙ sym (append-nil (emission_pieces t o x)),
    (h.0, h.1, refl),
  )

  vars_kept : (x : Position) → (emitting t o x).vars ≡ x.vars
  vars_kept x = elim o as (λ o. (emitting t o x).vars ≡ x.vars) [ None ↦ refl | Some e ↦ refl ]

  abbrev Halting : Moving
  Halting m stop q = (stop ≡ None) × (q ≡ emitting t o m)

  after_shown :
      (e : End) (x q : Position) (stop : Option Reason) → x.emitted ≡ [] → AfterBody e Halting x stop q → ShowsAfter e (Alone t o) x stop q (emits_pieces q.emitted) × (x.vars ≡ q.vars)
  after_shown Went x q stop none h = (alone_shown x q stop none h, sym (ap (λ (y : Position). y.vars) h.1 ∙ vars_kept x))
  after_shown Left x q stop none h = (alone_shown x q stop none h, sym (ap (λ (y : Position). y.vars) h.1 ∙ vars_kept x))
  after_shown Returned x q stop none h = (alone_shown x q stop none h, sym (ap (λ (y : Position). y.vars) h.1 ∙ vars_kept x))
  after_shown (Stopped r) x q stop none h =
      ((h.0, h.1, ap emits_pieces (ap (λ (y : Position). y.emitted) h.1 ∙ none)), sym (ap (λ (y : Position). y.vars) h.1))

  perform_shown :
      (alg : Option Name) (left : ℕ) (x q : Position) (stop : Option Reason) → x.emitted ≡ [] → Performs t alg Halting x stop q
      → ShowsPerform t alg (Alone t o) x stop q (ran_pieces alg (suc left) x.vars q.vars ++ emits_pieces q.emitted)
  perform_shown None left x q stop none h = alone_shown x q stop none h
  perform_shown (Some a) left x q stop none h =
      let after = after_shown h.0 (at_point x h.1) q stop none h.3 in
      (h.0, h.1, emits_pieces q.emitted, h.2, ap (λ (v : Values). Ran a x.vars v ∷ emits_pieces q.emitted) (sym after.1), after.0)

nothing_ran : (alg : Option Name) (before after : Values) → ran_pieces alg zero before after ≡ []
nothing_ran None before after = refl
nothing_ran (Some a) before after = refl

-- An action by itself is shown by its algorithm and by what it emits.
pub act_shown :
    (t : BasicType) (a : Action) (left : ℕ) (p q : Position) (stop : Option Reason) → p.emitted ≡ [] → Acts t (a ∷ []) left p stop q
    → ShowsActs t (a ∷ []) left p stop q (ran_pieces a.algorithm left p.vars q.vars ++ emits_pieces q.emitted)
act_shown t a zero p q stop none h = (
  h.0,
  h.1,
  ap (λ (l : List Piece). l ++ emits_pieces q.emitted) (nothing_ran a.algorithm p.vars q.vars) ∙ ap (λ (y : Position). emits_pieces y.emitted) h.1 ∙ ap emits_pieces none,
)
act_shown t a (suc left) p q stop none h = perform_shown t a.output a.algorithm left (record p { left = left }) q stop none h

-- ---- Emissions that came before

abbrev pub before : List Emission → Position → Position
before es p = record p { emitted = es ++ p.emitted }

emission_before : (t : BasicType) (o : Option Name) (es : List Emission) (m : Position) → emitting t o (before es m) ≡ before es (emitting t o m)
emission_before t None es m = refl
emission_before t (Some e) es m =
    ap (λ (l : List Emission). record m { emitted = l }) (append_assoc es m.emitted (record { event = e; values = bound (outputs_with t.ports e) m.vars } ∷ []))

pieces_before : (t : BasicType) (o : Option Name) (es : List Emission) (m : Position) → emission_pieces t o (before es m) ≡ emission_pieces t o m
pieces_before t None es m = refl
pieces_before t (Some e) es m = refl

-- a movement that goes the same way whatever came before
abbrev pub IsSameBefore : List Emission → Showing → Type 0
IsSameBefore es S = (p : Position) (stop : Option Reason) (q : Position) (ps : List Piece) → S p stop q ps → S (before es p) stop (before es q) ps

after-before : (e : End) (es : List Emission) (S : Showing) → IsSameBefore es S → IsSameBefore es (ShowsAfter e S)
after-before Went es S same p stop q ps h = same p stop q ps h
after-before Left es S same p stop q ps h = same p stop q ps h
after-before Returned es S same p stop q ps h = same p stop q ps h
after-before (Stopped r) es S same p stop q ps h = (h.0, ap (before es) h.1, h.2)

perform-before : (t : BasicType) (a : Option Name) (es : List Emission) (S : Showing) → IsSameBefore es S → IsSameBefore es (ShowsPerform t a S)
perform-before t None es S same p stop q ps h = same p stop q ps h
perform-before t (Some a) es S same p stop q ps h = (h.0, h.1, h.2, h.3, h.4, after-before h.0 es S same (at_point p h.1) stop q h.2 h.5)

emission-before : (t : BasicType) (o : Option Name) (es : List Emission) (S : Showing) → IsSameBefore es S → IsSameBefore es (ShowsEmission t o S)
emission-before t o es S same m stop q ps h = (
  h.0,
  h.1 ∙ ap (λ (l : List Piece). l ++ h.0) (sym (pieces_before t o es m)),
  subst (λ (n : Position). S n stop (before es q) h.0) (sym (emission_before t o es m)) (same (emitting t o m) stop q h.0 h.2),
)

pub acts_before : (t : BasicType) (actions : List Action) (left : ℕ) (es : List Emission) → IsSameBefore es (ShowsActs t actions left)
acts_before t [] left es p stop q ps h = (h.0, ap (before es) h.1, h.2)
acts_before t (a ∷ others) zero es p stop q ps h = (h.0, ap (before es) h.1, h.2)
acts_before t (a ∷ others) (suc left) es p stop q ps h =
    perform-before t a.algorithm es (Others t a.output others)
    (emission-before t a.output es (λ n stop q ps. ShowsActs t others n.left n stop q ps) (λ n stop q ps g. acts_before t others n.left es n stop q ps g))
    (record p { left = left }) stop q ps h

or-before : (s : Option Reason) (es : List Emission) (S : Showing) → IsSameBefore es S → IsSameBefore es (ShowsOr s S)
or-before None es S same p stop q ps h = same p stop q ps h
or-before (Some r) es S same p stop q ps h = (h.0, ap (before es) h.1, h.2)

rests-before : (x : Trial) (es : List Emission) (p : Position) (stop : Option Reason) (q : Position) → Rests x p stop q → Rests x (before es p) stop (before es q)
rests-before (Clears target left) es p stop q h = absurd h
rests-before (NoneClears left) es p stop q h = (h.0, ap (before es) h.1)
rests-before (Fails r left) es p stop q h = (h.0, ap (before es) h.1)

enters-before :
    (t : BasicType) (cleared : Option Transition) (x : Trial) (es : List Emission) (S : Showing) → IsSameBefore es S → IsSameBefore es (ShowsEnters t cleared x S)
enters-before t cleared (Clears target left) es S same p stop q ps h = (
  h.0,
  h.1,
  before es h.2,
  h.3,
  h.4,
  h.5,
  acts_before t (actions_of t target) left es (record p { state = target; left = left }) h.1 h.2 h.3 h.6,
  or-before h.1 es S same h.2 stop q h.4 h.7,
  h.8,
)
enters-before t cleared (NoneClears left) es S same p stop q ps h = absurd h
enters-before t cleared (Fails r left) es S same p stop q ps h = absurd h

links-before : (t : BasicType) (n : ℕ) (present : Option Name) (es : List Emission) → IsSameBefore es (ShowsLinks t n present)
links-before t zero present es p stop q ps h = (rests-before (trial_at t present p) es p stop q h.0, h.1)
links-before t (suc n) present es p stop q ps h =
    enters-before t (first_true (leaving t p.state) present p.vars) (trial_at t present p) es (λ m stop q ps. ShowsLinks t n None m stop q ps)
    (λ m stop q ps g. links-before t n None es m stop q ps g) p stop q ps h

pub chain_before : (t : BasicType) (present : Option Name) (es : List Emission) → IsSameBefore es (ShowsChain t present)
chain_before t present es p stop q ps h = (h.0, links-before t h.0 present es p stop q ps h.1)

-- ---- Links

module _ (t : BasicType) (present : Option Name) where
  pub chain_goes_on :
      (p m q : Position) (x : Transition) (target : Name) (left : ℕ) (stop : Option Reason) (ps qs : List Piece) → trial_at t present p ≡ Clears target left
      → first_true (leaving t p.state) present p.vars ≡ Some x → ShowsActs t (actions_of t target) left (record p { state = target; left = left }) None m ps
      → ShowsChain t None m stop q qs → ShowsChain t present p stop q (Clears_by x ∷ (ps ++ qs))
  chain_goes_on p m q x target left stop ps qs tried first acts (n, rest) = (
    suc n,
    subst (λ (y : Trial). ShowsEnters t (first_true (leaving t p.state) present p.vars) y (λ m stop q ps. ShowsLinks t n None m stop q ps) p stop q (Clears_by x ∷ (ps ++ qs))) (sym tried)
        (x, None, m, ps, qs, first, acts, rest, refl),
  )

  pub chain_stops :
      (p q : Position) (x : Transition) (target : Name) (left : ℕ) (r : Reason) (ps : List Piece) → trial_at t present p ≡ Clears target left
      → first_true (leaving t p.state) present p.vars ≡ Some x → ShowsActs t (actions_of t target) left (record p { state = target; left = left }) (Some r) q ps
      → ShowsChain t present p (Some r) q (Clears_by x ∷ ps)
  chain_stops p q x target left r ps tried first acts = (
    suc zero,
    subst (λ (y : Trial). ShowsEnters t (first_true (leaving t p.state) present p.vars) y (λ m stop q ps. ShowsLinks t zero None m stop q ps) p (Some r) q (Clears_by x ∷ ps)) (sym tried)
        (x, Some r, q, ps, [], first, acts, (refl, refl, refl), ap (λ (l : List Piece). Clears_by x ∷ l) (sym (append-nil ps))),
  )

  pub chain_rests :
      (p : Position) (left : ℕ) → trial_at t present p ≡ NoneClears left → ShowsChain t present p None (record p { left = left }) (rest_pieces (NoneClears left) present p.state)
  chain_rests p left tried =
      (zero, subst (λ (y : Trial). Rests y p None (record p { left = left }) × (rest_pieces (NoneClears left) present p.state ≡ rest_pieces y present p.state)) (sym tried) ((refl, refl), refl))

  pub chain_fails : (p : Position) (left : ℕ) (r : Reason) → trial_at t present p ≡ Fails r left → ShowsChain t present p (Some r) (record p { left = left }) []
  chain_fails p left r tried =
      (zero, subst (λ (y : Trial). Rests y p (Some r) (record p { left = left }) × ([] ≡ rest_pieces y present p.state)) (sym tried) ((refl, refl), refl))
