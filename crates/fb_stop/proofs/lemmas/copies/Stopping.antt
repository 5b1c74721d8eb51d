-- Chains of states that stop, put together from their links.
use Rattle.fb_types.proofs.Common.{◌≡◌, ℕ, zero, suc, ◌+◌, List, [], ◌∷◌, ◌++◌, take, drop, Option, Some, None, refl, sym, ap, subst, ◌∙◌, arith, slice_get, Name, Went, Left, Returned, Stopped, Position, Moving, Trial, Clears, NoneClears, Fails, Acts, ChartReacts, Enters, Links, Performs, actions_of, at_point, emitting, trial_at}
use Rattle.fb_types.specs.declared.library.Action.{Action}
use Rattle.fb_types.specs.declared.library.BasicType.{BasicType}
use Rattle.fb_types.specs.declared.value.Reason.{Reason}
use Rattle.fb_ecc.specs.Indexes.{state_at}
use Rattle.fb_ecc.specs.Links.{Chain}
use Rattle.fb_ecc.proofs.lemmas.Actions.{no_next_acts}
use Rattle.fb_ecc.proofs.lemmas.Links.{fails, goes_on, stops_in}
use Rattle.fb_stop.specs.Sites.{ChainStops, Leads, ReactionStops, StopsAfter, StopsAt, StopsThere, entered}
use Rattle.fb_stop.specs.declared.site.Inside.{Inside}
use Rattle.fb_stop.specs.declared.site.ReactionStop.{ReactionStop}
use Rattle.fb_stop.specs.declared.site.Site.{Site}
use Rattle.fb_stop.specs.declared.site.Site.TheVariants as site

-- ---- Actions

-- what follows an action that went through is replaced
performs_map : (t : BasicType) (n : Option Name) (R S : Moving) (p m q : Position) (stop : Option Reason)
    → ((x : Position) → R x None m → S x stop q) → Performs t n R p None m → Performs t n S p stop q
performs_map t None R S p m q stop f h = f p h
performs_map t (Some a) R S p m q stop f (Went, x, run, h) = (Went, x, run, f (at_point p x) h)
performs_map t (Some a) R S p m q stop f (Left, x, run, h) = (Left, x, run, f (at_point p x) h)
performs_map t (Some a) R S p m q stop f (Returned, x, run, h) = (Returned, x, run, f (at_point p x) h)
performs_map t (Some a) R S p m q stop f (Stopped r, x, run, (e, is)) = absurd (cc)

-- the event of an action, and then others
abbrev then_acts : BasicType → Action → List Action → Moving
then_acts t a as' m stop q = let n = emitting t a.output m in Acts t as' n.left n stop q

-- some actions, and then others
pub acts_append : (t : BasicType) (as' bs : List Action) (left : ℕ) (p m q : Position) (stop : Option Reason) → left ≡ p.left → Acts t as' left p None m
    → Acts t bs m.left m stop q → Acts t (as' ++ bs) left p stop q
acts_append t [] bs left p m q stop same (e, is) after =
    subst (λ (n : ℕ). Acts t bs n p stop q) (sym same) (subst (λ (z : Position). Acts t bs z.left z stop q) is after)
acts_append t (x ∷ xs) bs zero p m q stop same (e, is) after = absurd (cc)
acts_append t (x ∷ xs) bs (suc left) p m q stop same h after =
    performs_map t x.algorithm (then_acts t x xs) (then_acts t x (xs ++ bs)) (record p { left = left }) m q stop
    (λ y k. let n = emitting t x.output y in acts_append t xs bs n.left n m q stop refl k after) h

take_more : {A : Type 0} (xs : List A) (j : ℕ) (x : A) → slice_get xs j ≡ Some x → take (suc j) xs ≡ take j xs ++ x ∷ []
take_more [] j x at = absurd (cc)
take_more (y ∷ xs) zero x at = let e : y ≡ x = cc in ap (λ z. z ∷ []) e
take_more (y ∷ xs) (suc j) x at = ap (λ zs. y ∷ zs) (take_more xs j x at)

cut_at : {A : Type 0} (xs : List A) (j : ℕ) (x : A) → slice_get xs j ≡ Some x → xs ≡ take j xs ++ x ∷ drop (suc j) xs
cut_at [] j x at = absurd (cc)
cut_at (y ∷ xs) zero x at = let e : y ≡ x = cc in ap (λ z. z ∷ xs) e
cut_at (y ∷ xs) (suc j) x at = ap (λ zs. y ∷ zs) (cut_at xs j x at)

-- one action more
pub acts_more : (t : BasicType) (actions : List Action) (j : ℕ) (a : Action) (p m q : Position) → slice_get actions j ≡ Some a
    → Acts t (take j actions) p.left p None m → Acts t (a ∷ []) m.left m None q → Acts t (take (j + 1) actions) p.left p None q
acts_more t actions j a p m q at before one =
    let next : suc j ≡ j + 1 = omega arith in
    subst (λ (l : List Action). Acts t l p.left p None q) (sym (take_more actions j a at) ∙ ap (λ (n : ℕ). take n actions) next)
    (acts_append t (take j actions) (a ∷ []) p.left p m q None refl before one)

-- an action that stops is the last one
stops_all : (t : BasicType) (actions : List Action) (left : ℕ) (p q : Position) (r : Reason) (j : ℕ) (inside : Option Inside) → left ≡ p.left → StopsAt t actions left p r j inside q → Acts t actions left p (Some r) q
stops_all t actions left p q r j inside same h =
    subst (λ (l : List Action). Acts t l left p (Some r) q) (sym (cut_at actions j h.action h.at))
    (acts_append t (take j actions) (h.action ∷ drop (suc j) actions) left p h.between q (Some r) same h.before
    (no_next_acts t h.action (drop (suc j) actions) h.between q h.between.left r h.stops))

-- ---- Links

leads_on : (t : BasicType) (x : Trial) (holds holds' : Position → Type 0) (p : Position) → ((m : Position) → holds m → holds' m) → Leads t x holds p → Leads t x holds' p
leads_on t (Clears target left) holds holds' p f (m, acts, h) = (m, acts, f m h)
leads_on t (NoneClears left) holds holds' p f h = absurd h
leads_on t (Fails r left) holds holds' p f h = absurd h

-- one link, and then a chain that stops
pub stops_on : (t : BasicType) (present : Option Name) (p m q : Position) (x : ReactionStop) → Leads t (trial_at t present p) (λ z. z ≡ m) p
    → ChainStops t None m x q → ChainStops t present p x q
stops_on t present p m q x led (n, rest) = (
  suc n,
  leads_on t (trial_at t present p) (λ z. z ≡ m) (λ z. StopsAfter t n None z x.reason x.site q) p
      (λ z is. subst (λ (y : Position). StopsAfter t n None y x.reason x.site q) (sym is) rest) led,
)

enters_on : (t : BasicType) (x : Trial) (p m q : Position) (stop : Option Reason) (rest : Moving) → Leads t x (λ z. z ≡ m) p → rest m stop q → Enters t x rest p stop q
enters_on t (Clears target left) p m q stop rest (z, acts, is) after = (None, z, acts, subst (λ (y : Position). rest y stop q) (sym is) after)
enters_on t (NoneClears left) p m q stop rest h after = absurd h
enters_on t (Fails r left) p m q stop rest h after = absurd h

-- one link, and then a chain
pub chain_on : (t : BasicType) (present : Option Name) (p m q : Position) (stop : Option Reason) → Leads t (trial_at t present p) (λ z. z ≡ m) p
    → Chain t None m stop q → Chain t present p stop q
chain_on t present p m q stop led (n, rest) = (suc n, enters_on t (trial_at t present p) p m q stop (Links t n None) led rest)

-- ---- A chain that stops is one of the model

stops_there : (t : BasicType) (present : Option Name) (p q : Position) (r : Reason) (x : Site) → StopsThere t present p r x q → Chain t present p (Some r) q
stops_there t present p q r (site.Transition s j operation) h =
    subst (λ (z : Position). Chain t present p (Some r) z) (sym h.stays) (fails t present p q.left r h.tried)
stops_there t present p q r (site.Action s j inside) h =
    stops_in t present p q (state_at t s) h.left r h.clears (stops_all t (actions_of t (state_at t s)) h.left (entered (state_at t s) h.left p) q r j inside refl h.here)

-- one link, and then what is a chain
leads_into : (t : BasicType) (present : Option Name) (p q : Position) (r : Reason) (x : Site) (n : ℕ) (y : Trial) → trial_at t present p ≡ y
    → ((m : Position) → StopsAfter t n None m r x q → Chain t None m (Some r) q) → Leads t y (λ m. StopsAfter t n None m r x q) p → Chain t present p (Some r) q
leads_into t present p q r x n (Clears target left) is on (m, acts, rest) = goes_on t present p m q target left (Some r) is acts (on m rest)
leads_into t present p q r x n (NoneClears left) is on h = absurd h
leads_into t present p q r x n (Fails s left) is on h = absurd h

stops_after : (t : BasicType) (n : ℕ) (present : Option Name) (p q : Position) (r : Reason) (x : Site) → StopsAfter t n present p r x q → Chain t present p (Some r) q
stops_after t zero present p q r x h = stops_there t present p q r x h
stops_after t (suc n) present p q r x h =
    leads_into t present p q r x n (trial_at t present p) refl (λ m rest. stops_after t n None m q r x rest) h

-- the reaction that stops is the one of the model
pub stops_reacts : (t : BasicType) (e : Name) (p q : Position) (x : ReactionStop) → ReactionStops t e p x q → ChartReacts t e p (Some x.reason) q
stops_reacts t e p q x (n, h) = stops_after t n (Some e) p q x.reason x.site h
