-- Each reaction is shown, and in one way.
use Rattle.fb_types.proofs.Common.{◌≡◌, ℕ, zero, suc, true, false, List, [], ◌∷◌, ◌++◌, Option, Some, None, Ok, Err, refl, sym, ◌∙◌, ap, subst, Name, Point, End, Went, Left, Returned, Stopped, types_of, Position, Moving, Acts, AfterBody, ChartReacts, Enters, Links, Performs, Trial, Clears, NoneClears, Fails, Rests, trial_at, trial_of, by_condition, is_true, leaving, actions_of, algorithm_of, at_point, emitting, Values}
use Rattle.fb_types.specs.declared.library.Action.{Action}
use Rattle.fb_types.specs.declared.library.BasicType.{BasicType}
use Rattle.fb_types.specs.declared.library.Transition.{Transition}
use Rattle.fb_types.specs.declared.value.Reason.{Reason}
use Rattle.fb_types.specs.declared.value.Reason.TheVariants.{Steps}
use Rattle.fb_types.specs.Charts.{OrHalts}
use Rattle.fb_types.proofs.lemmas.determined.BodyLaws.{body-one}
use Rattle.fb_ecc.specs.Steps.{first_by, first_true}
use Rattle.fb_inspect.specs.walk.Chains.{Piece, Clears_by, Ran, Showing, Silent, emission_pieces, ShowsAfter, ShowsPerform, ShowsEmission, ShowsActs, ShowsOr, ShowsEnters, ShowsLinks, ShowsChain, ShowsReaction, rest_pieces, stop_pieces}

-- Two movements from a position that are shown end the same way, and are shown alike.
pub record AreOne (s t : Option Reason) (q u : Position) (ps qs : List Piece) : Type 0 where
  pub stop_is : s ≡ t
  pub end_is : q ≡ u
  pub pieces_are : ps ≡ qs

abbrev pub OneShown : Showing → Showing → Type 0
OneShown S T = (p : Position) (s t : Option Reason) (q u : Position) (ps qs : List Piece) → S p s q ps → T p t u qs → AreOne s t q u ps qs

silent-one : (how : Option Reason) → OneShown (Silent how) (Silent how)
silent-one how p s t q u ps qs h i = record { stop_is = h.0 ∙ sym i.0; end_is = h.1 ∙ sym i.1; pieces_are = h.2 ∙ sym i.2 }

after-one : (e : End) (S : Showing) → OneShown S S → OneShown (ShowsAfter e S) (ShowsAfter e S)
after-one Went S d = d
after-one Left S d = d
after-one Returned S d = d
after-one (Stopped r) S d = silent-one (Some r)

perform-one : (b : BasicType) (a : Option Name) (S : Showing) → OneShown S S → OneShown (ShowsPerform b a S) (ShowsPerform b a S)
perform-one b None S d p s t q u ps qs h i = d p s t q u ps qs h i
perform-one b (Some a) S d p s t q u ps qs h i =
    let x = body-one (algorithm_of b a) (types_of b) (record { vars = p.vars; left = p.left }) h.0 i.0 h.1 i.1 h.3 i.3 in
    let j = subst (λ (m : Point). ShowsAfter h.0 S (at_point p m) t u i.2) (sym x.1) (subst (λ (e : End). ShowsAfter e S (at_point p i.1) t u i.2) (sym x.0) i.5) in
    let one = after-one h.0 S d (at_point p h.1) s t q u h.2 i.2 h.5 j in
    record {
      stop_is = one.stop_is;
      end_is = one.end_is;
      pieces_are = h.4
          ∙ ap (λ (m : Point). Ran a p.vars m.vars ∷ h.2) x.1
          ∙ ap (λ (l : List Piece). Ran a p.vars i.1.vars ∷ l) one.pieces_are
          ∙ sym i.4;
    }

emission-one : (b : BasicType) (o : Option Name) (S : Showing) → OneShown S S → OneShown (ShowsEmission b o S) (ShowsEmission b o S)
emission-one b o S d m s t q u ps qs h i =
    let one = d (emitting b o m) s t q u h.0 i.0 h.2 i.2 in
    record {
      stop_is = one.stop_is;
      end_is = one.end_is;
      pieces_are = h.1 ∙ ap (λ (l : List Piece). emission_pieces b o m ++ l) one.pieces_are ∙ sym i.1;
    }

pub acts-one : (b : BasicType) (actions : List Action) (left : ℕ) → OneShown (ShowsActs b actions left) (ShowsActs b actions left)
acts-one b [] left p = silent-one None p
acts-one b (a ∷ others) zero p = silent-one (Some Steps) p
acts-one b (a ∷ others) (suc left) p =
    perform-one b a.algorithm (λ m stop q ps. ShowsEmission b a.output (λ n stop q ps. ShowsActs b others n.left n stop q ps) m stop q ps)
    (emission-one b a.output (λ n stop q ps. ShowsActs b others n.left n stop q ps) (λ n. acts-one b others n.left n)) (record p { left = left })

or-one : (r : Option Reason) (S T : Showing) → OneShown S T → OneShown (ShowsOr r S) (ShowsOr r T)
or-one None S T d = d
or-one (Some r) S T d = silent-one (Some r)

rests-one : (x : Trial) (p : Position) (s t : Option Reason) (q u : Position) → Rests x p s q → Rests x p t u → (s ≡ t) × (q ≡ u)
rests-one (Clears target left) p s t q u h i = absurd h
rests-one (NoneClears left) p s t q u h i = (h.0 ∙ sym i.0, h.1 ∙ sym i.1)
rests-one (Fails r left) p s t q u h i = (h.0 ∙ sym i.0, h.1 ∙ sym i.1)

rests-or-enters : (b : BasicType) (c : Option Transition) (x : Trial) (S : Showing) (p : Position) (s t : Option Reason) (q u : Position) (qs : List Piece) → Rests x p s q
    → ShowsEnters b c x S p t u qs → ⊥
rests-or-enters b c (Clears target left) S p s t q u qs h i = h
rests-or-enters b c (NoneClears left) S p s t q u qs h i = i
rests-or-enters b c (Fails r left) S p s t q u qs h i = i

same_first : (c : Option Transition) (x y : Transition) → c ≡ Some x → c ≡ Some y → x ≡ y
same_first c x y h i = cc

enters-one : (b : BasicType) (c : Option Transition) (x : Trial) (S T : Showing) → OneShown S T → OneShown (ShowsEnters b c x S) (ShowsEnters b c x T)
enters-one b c (Clears target left) S T d p s t q u ps qs h i =
    let acts = acts-one b (actions_of b target) left (record p { state = target; left = left }) h.1 i.1 h.2 i.2 h.3 i.3 h.6 i.6 in
    let j = subst (λ (m : Position). ShowsOr h.1 T m t u i.4) (sym acts.end_is) (subst (λ (r : Option Reason). ShowsOr r T i.2 t u i.4) (sym acts.stop_is) i.7) in
    let rest = or-one h.1 S T d h.2 s t q u h.4 i.4 h.7 j in
    record {
      stop_is = rest.stop_is;
      end_is = rest.end_is;
      pieces_are = h.8
          ∙ ap (λ (y : Transition). Clears_by y ∷ (h.3 ++ h.4)) (same_first c h.0 i.0 h.5 i.5)
          ∙ ap (λ (l : List Piece). Clears_by i.0 ∷ (l ++ h.4)) acts.pieces_are
          ∙ ap (λ (l : List Piece). Clears_by i.0 ∷ (i.3 ++ l)) rest.pieces_are
          ∙ sym i.8;
    }
enters-one b c (NoneClears left) S T d p s t q u ps qs h i = absurd h
enters-one b c (Fails r left) S T d p s t q u ps qs h i = absurd h

links-one : (b : BasicType) (n m : ℕ) (present : Option Name) → OneShown (ShowsLinks b n present) (ShowsLinks b m present)
links-one b zero zero present p s t q u ps qs h i =
    let one = rests-one (trial_at b present p) p s t q u h.0 i.0 in
    record { stop_is = one.0; end_is = one.1; pieces_are = h.1 ∙ sym i.1 }
links-one b zero (suc m) present p s t q u ps qs h i =
    absurd (rests-or-enters b (first_true (leaving b p.state) present p.vars) (trial_at b present p) (λ m' stop q ps. ShowsLinks b m None m' stop q ps) p s t q u qs h.0 i)
links-one b (suc n) zero present p s t q u ps qs h i =
    absurd (rests-or-enters b (first_true (leaving b p.state) present p.vars) (trial_at b present p) (λ m' stop q ps. ShowsLinks b n None m' stop q ps) p t s u q ps i.0 h)
links-one b (suc n) (suc m) present p s t q u ps qs h i =
    enters-one b (first_true (leaving b p.state) present p.vars) (trial_at b present p) (λ m' stop q ps. ShowsLinks b n None m' stop q ps) (λ m' stop q ps. ShowsLinks b m None m' stop q ps)
    (λ m' s t q u ps qs h i. links-one b n m None m' s t q u ps qs h i) p s t q u ps qs h i

pub chain_one : (b : BasicType) (present : Option Name) → OneShown (ShowsChain b present) (ShowsChain b present)
chain_one b present p s t q u ps qs h i = links-one b h.0 i.0 present p s t q u ps qs h.1 i.1

-- the reaction to an event is shown in one way
pub reaction_one : (b : BasicType) (e : Name) → OneShown (ShowsReaction b e) (ShowsReaction b e)
reaction_one b e p s t q u ps qs h i =
    let one = chain_one b (Some e) p s t q u h.0 i.0 h.1 i.1 in
    record {
      stop_is = one.stop_is;
      end_is = one.end_is;
      pieces_are = h.2 ∙ ap (λ (l : List Piece). l ++ stop_pieces s) one.pieces_are ∙ ap (λ (r : Option Reason). i.0 ++ stop_pieces r) one.stop_is ∙ sym i.2;
    }

-- ---- Each reaction is shown

abbrev pub Shows : Moving → Showing → Type 0
Shows M S = (p : Position) (s : Option Reason) (q : Position) → M p s q → (ps : List Piece) × S p s q ps

after-shows : (e : End) (M : Moving) (S : Showing) → Shows M S → Shows (AfterBody e M) (ShowsAfter e S)
after-shows Went M S d p s q h = d p s q h
after-shows Left M S d p s q h = d p s q h
after-shows Returned M S d p s q h = d p s q h
after-shows (Stopped r) M S d p s q h = ([], (h.0, h.1, refl))

perform-shows : (b : BasicType) (a : Option Name) (M : Moving) (S : Showing) → Shows M S → Shows (Performs b a M) (ShowsPerform b a S)
perform-shows b None M S d p s q h = d p s q h
perform-shows b (Some a) M S d p s q h =
    let rest = after-shows h.0 M S d (at_point p h.1) s q h.3 in
    (Ran a p.vars h.1.vars ∷ rest.0, (h.0, h.1, rest.0, h.2, refl, rest.1))

acts-shows : (b : BasicType) (actions : List Action) (left : ℕ) → Shows (Acts b actions left) (ShowsActs b actions left)
acts-shows b [] left p s q h = ([], (h.0, h.1, refl))
acts-shows b (a ∷ others) zero p s q h = ([], (h.0, h.1, refl))
acts-shows b (a ∷ others) (suc left) p s q h =
    perform-shows b a.algorithm (λ m stop q. let n = emitting b a.output m in Acts b others n.left n stop q)
    (λ m stop q ps. ShowsEmission b a.output (λ n stop q ps. ShowsActs b others n.left n stop q ps) m stop q ps)
    (λ m s q g.
    let rest = acts-shows b others (emitting b a.output m).left (emitting b a.output m) s q g in
    (emission_pieces b a.output m ++ rest.0, (rest.0, refl, rest.1)))
    (record p { left = left }) s q h

or-shows : (r : Option Reason) (M : Moving) (S : Showing) → Shows M S → Shows (OrHalts r M) (ShowsOr r S)
or-shows None M S d p s q h = d p s q h
or-shows (Some r) M S d p s q h = ([], (h.0, h.1, refl))

-- where a transition clears there is a first true one
pub first_clears :
    (ts : List Transition) (present : Option Name) (vars : Values) (left : ℕ) (target : Name) (less : ℕ) → trial_of ts present vars left ≡ Clears target less
    → (x : Transition) × (first_true ts present vars ≡ Some x)
first_clears [] present vars left target less h = absurd (cc)
first_clears (t ∷ ts) present vars zero target less h = absurd (cc)
first_clears (t ∷ ts) present vars (suc left) target less h =
    (elim (is_true t.condition present vars) as (λ r. by_condition r t.to left (trial_of ts present vars left) ≡ Clears target less
    → (x : Transition) × (first_by r t (first_true ts present vars) ≡ Some x)) [
      | Ok b ↦ elim b as (λ b. by_condition (Ok b) t.to left (trial_of ts present vars left) ≡ Clears target less
          → (x : Transition) × (first_by (Ok b) t (first_true ts present vars) ≡ Some x)) [
            | true ↦ λ e. (t, refl)
            | false ↦ λ e. first_clears ts present vars left target less e
          ]
      | Err r ↦ λ e. absurd (cc)
    ]) h

enters-shows :
    (b : BasicType) (present : Option Name) (x : Trial) (M : Moving) (S : Showing) → Shows M S → (p : Position) (s : Option Reason) (q : Position) → trial_at b present p ≡ x
    → Enters b x M p s q → (ps : List Piece) × ShowsEnters b (first_true (leaving b p.state) present p.vars) x S p s q ps
enters-shows b present (Clears target left) M S d p s q tried h =
    let first = first_clears (leaving b p.state) present p.vars p.left target left tried in
    let acts = acts-shows b (actions_of b target) left (record p { state = target; left = left }) h.0 h.1 h.2 in
    let rest = or-shows h.0 M S d h.1 s q h.3 in
    (Clears_by first.0 ∷ (acts.0 ++ rest.0), (first.0, h.0, h.1, acts.0, rest.0, first.1, acts.1, rest.1, refl))
enters-shows b present (NoneClears left) M S d p s q tried h = absurd h
enters-shows b present (Fails r left) M S d p s q tried h = absurd h

links-shows : (b : BasicType) (n : ℕ) (present : Option Name) → Shows (Links b n present) (ShowsLinks b n present)
links-shows b zero present p s q h = (rest_pieces (trial_at b present p) present p.state, (h, refl))
links-shows b (suc n) present p s q h =
    enters-shows b present (trial_at b present p) (Links b n None) (λ m stop q ps. ShowsLinks b n None m stop q ps) (λ m s q g. links-shows b n None m s q g) p s q refl h

-- the reaction of the definitions is shown by some pieces
pub reaction_shows : (b : BasicType) (e : Name) → Shows (ChartReacts b e) (ShowsReaction b e)
reaction_shows b e p s q h =
    let chain = links-shows b h.0 (Some e) p s q h.1 in
    (chain.0 ++ stop_pieces s, (chain.0, (h.0, chain.1), refl))
