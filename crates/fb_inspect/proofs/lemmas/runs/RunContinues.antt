-- A run goes on after the takings of a walk as the next taking says, or runs out of steps in it.
use Rattle.fb_inspect.proofs.lemmas.Common.{◌≡◌, ◌⊎◌, ℕ, zero, suc, ◌+◌, ◌-◌, ◌≤◌, true, false, List, [], ◌∷◌, ◌++◌, length, map, Option, Some, None, refl, sym, ◌∙◌, ap, subst, inl, inr, arith, append_assoc, append-nil, if◌then◌else◌, Bool, eq-eqb, append_cancel_left, length-append, length-map, map-append, Kind, Basic, Event, Composite, Emission, AtHorizon, AtStop, Ending, System, EventKind, Key, BasicType, Steps, Divide, Range, AreTakings, EndsSo, IsOneOf, KeepsLimit, all_lines, last_look, limited, IsTaking, IsTakingAt, IsTakingWith, Look, Taking, emission_line, left_at, most, opening_look, taking_lines}
use Rattle.fb_types.specs.States.{Line}
use Rattle.fb_inspect.specs.walk.RunTakings.{GoesOn}
use Rattle.fb_inspect.proofs.lemmas.reactions.FewerSteps.{Begins, reaction_begins, same_begins}
use Rattle.fb_inspect.proofs.lemmas.reactions.OneTaking.{at_line, first_line, nothing, rests, row_one, taking_one}

-- ---- A taking with fewer steps

module _ (sys : System) (limit : ℕ) (within : limit ≤ most) where
  abbrev more_steps : ℕ
  more_steps = most - limit

  module _ (left : ℕ) (look : Look) (t r : ℕ) (y x : Taking) where
    chart_begins : (b : BasicType) → IsTakingAt left (limited limit t r look) (Some (Basic b)) y → IsTakingAt (left + more_steps) look (Some (Basic b)) (at_line x y.first) → Begins y.emits x.emits
    chart_begins b h i =
        let found = reaction_begins more_steps b y.first.event _ y.stop x.stop h.end i.end y.pieces x.pieces h.shown i.shown in
        (found.0, i.emitted ∙ found.1 ∙ ap (λ (es : List Emission). es ++ found.0) (sym h.emitted))

    event_begins : (kind : EventKind) → IsTakingAt left (limited limit t r look) (Some (Event kind)) y → IsTakingAt (left + more_steps) look (Some (Event kind)) (at_line x y.first) → Begins y.emits x.emits
    event_begins kind (inl h) (inl i) = same_begins y.emits x.emits (i.is.0 ∙ sym h.is.0)
    event_begins kind (inl h) (inr i) = absurd (mixed h.taken i.emitted)
      where
        mixed : y.first.taken ≡ true → y.first.taken ≡ false → ⊥
        mixed a b = cc
    event_begins kind (inr h) (inl i) = absurd (mixed i.taken h.emitted)
      where
        mixed : y.first.taken ≡ true → y.first.taken ≡ false → ⊥
        mixed a b = cc
    event_begins kind (inr h) (inr i) = same_begins y.emits x.emits (rests _ _ x.emits y.emits (i.is.0 ∙ sym h.is.0))

    at_begins : (k : Option Kind) → IsTakingAt left (limited limit t r look) k y → IsTakingAt (left + more_steps) look k (at_line x y.first) → Begins y.emits x.emits
    at_begins None h i = absurd h
    at_begins (Some (Basic b)) h i = chart_begins b h i
    at_begins (Some (Event kind)) h i = event_begins kind h i
    at_begins (Some (Composite c)) h i = same_begins y.emits x.emits (i.none ∙ sym h.none)

  -- what is left of the limit
  pub limited_at : (look : Look) (t r : ℕ) → left_at limit t ((limited limit t r look).steps r) ≡ (left_at most t (look.steps r) + limit) - most
  limited_at look t r =
      let left = (left_at most t (look.steps r) + limit) - most in
      ap (λ (b : Bool). left_at limit t (if b then record { tick = Some t; left = left; least = (look.steps r).least } else look.steps r)) (eq-eqb r r refl)
      ∙ ap (λ (b : Bool). if b then left else limit) (eq-eqb t t refl)

  with_begins : (look : Look) (t r : ℕ) (y x : Taking) (n m : ℕ) → m ≡ n + more_steps → IsTakingWith sys (limited limit t r look) n y → IsTakingWith sys look m (at_line x y.first) → Begins y.emits x.emits
  with_begins look t r y x zero m same h i = absurd h
  with_begins look t r y x (suc n) m same h i =
      let long : m ≡ suc (n + more_steps) = omega (arith, same) in
      at_begins n look t r y x (sys.kind y.first.at) h.1 (subst (λ (k : ℕ). IsTakingWith sys look k (at_line x y.first)) long i).1

  pub limited_begins :
      (look : Look) (y x : Taking) → KeepsLimit limit y.first.key.tick y.first.key.resource look → IsTaking sys limit (limited limit y.first.key.tick y.first.key.resource look) y → IsTaking sys most look x → x.first ≡ y.first
      → Begins y.emits x.emits
  limited_begins look y x keeps h i first =
      let k : Key = y.first.key in
      let own = limited_at look k.tick k.resource in
      let same : left_at most k.tick (look.steps k.resource) ≡ left_at limit k.tick ((limited limit k.tick k.resource look).steps k.resource) + more_steps = omega (arith, own, keeps, within) in
      with_begins look k.tick k.resource y x _ _ same h (subst (λ (l : Line). IsTaking sys most look (at_line x l)) first i)

-- ---- Rows of takings

pub tails : (l m : Line) (ls ms : List Line) → l ∷ ls ≡ m ∷ ms → ls ≡ ms
tails l m ls ms same = cc

emission_lines : (x z : Taking) → z ≡ x → map (emission_line z.first) z.emits ≡ map (emission_line x.first) x.emits
emission_lines x z same = ap (λ (y : Taking). map (emission_line y.first) y.emits) same

module _ (sys : System) where
  pub taking_after : (look : Look) (xs zs : List Taking) (z : Taking) → AreTakings sys most look (xs ++ z ∷ zs) → IsTaking sys most (last_look look xs) z
  taking_after look [] zs z are = are.0
  taking_after look (x ∷ xs) zs z are = taking_after x.after xs zs z are.2

  -- a row that goes on after another one with the first line of a taking
  pub goes_on :
      (look : Look) (xs ys : List Taking) (x : Taking) (more : List Line) → AreTakings sys most look xs → IsTaking sys most (last_look look xs) x → AreTakings sys most look ys → all_lines ys ≡ all_lines xs ++ x.first ∷ more
      → (rest : List Line) × (more ≡ map (emission_line x.first) x.emits ++ rest)
  goes_on look xs ys x more are is_taking other lines =
      let split = row_one sys most look xs ys (x.first ∷ more) are other lines in
      by split.0 split.1 split.2
    where
      by : (zs : List Taking) → ys ≡ xs ++ zs → all_lines zs ≡ x.first ∷ more → (rest : List Line) × (more ≡ map (emission_line x.first) x.emits ++ rest)
      by [] parts all = absurd (nothing x.first more all)
      by (z ∷ zs) parts all =
          let same : z ≡ x =
          taking_one sys most (last_look look xs) z x (taking_after look xs zs z (subst (λ (ts : List Taking). AreTakings sys most look ts) parts other)) is_taking (first_line z.first x.first _ more all)
          in
          (all_lines zs, sym (tails z.first x.first _ more all) ∙ ap (λ (ls : List Line). ls ++ all_lines zs) (emission_lines x z same))

  pub all_both : (xs ys : List Taking) → all_lines (xs ++ ys) ≡ all_lines xs ++ all_lines ys
  all_both [] ys = refl
  all_both (x ∷ xs) ys = ap (λ (ls : List Line). taking_lines x ++ ls) (all_both xs ys) ∙ sym (append_assoc (taking_lines x) (all_lines xs) (all_lines ys))

  pub last_none : (look : Look) (xs : List Taking) → last_look look (xs ++ []) ≡ last_look look xs
  last_none look [] = refl
  last_none look (x ∷ xs) = last_none x.after xs

  -- of two rows with the same lines, one goes on where the other ends
  pub compare :
      (look : Look) (xs bs : List Taking) (A B : List Line) → AreTakings sys most look xs → AreTakings sys most look bs → all_lines bs ++ A ≡ all_lines xs ++ B
      → ((zs : List Taking) × (bs ≡ xs ++ zs) × (all_lines zs ++ A ≡ B)) ⊎ ((w : Taking) × (ws : List Taking) × (xs ≡ bs ++ w ∷ ws) × (A ≡ all_lines (w ∷ ws) ++ B))
  compare look [] bs A B are other e = inl (bs, refl, e)
  compare look (x ∷ xs) [] A B are other e = inr (x, xs, refl, e)
  compare look (x ∷ xs) (b ∷ bs) A B are other e =
      let same : x ≡ b = taking_one sys most look x b are.0 other.0 (sym (first_line b.first x.first _ _ e)) in
      let rest : all_lines bs ++ A ≡ all_lines xs ++ B =
      append_cancel_left (taking_lines b) _ _
      (sym (append_assoc (taking_lines b) (all_lines bs) A) ∙ e ∙ append_assoc (taking_lines x) (all_lines xs) B ∙ ap (λ (z : Taking). taking_lines z ++ (all_lines xs ++ B)) same)
      in
      by same (compare b.after xs bs A B (subst (λ (z : Taking). AreTakings sys most z.after xs) same are.2) other.2 rest)
    where
      by : x ≡ b → ((zs : List Taking) × (bs ≡ xs ++ zs) × (all_lines zs ++ A ≡ B)) ⊎ ((w : Taking) × (ws : List Taking) × (xs ≡ bs ++ w ∷ ws) × (A ≡ all_lines (w ∷ ws) ++ B))
          → ((zs : List Taking) × (b ∷ bs ≡ x ∷ xs ++ zs) × (all_lines zs ++ A ≡ B)) ⊎ ((w : Taking) × (ws : List Taking) × (x ∷ xs ≡ b ∷ bs ++ w ∷ ws) × (A ≡ all_lines (w ∷ ws) ++ B))
      by same (inl found) = inl (found.0, ap (λ (ts : List Taking). b ∷ ts) found.1 ∙ ap (λ (z : Taking). z ∷ (xs ++ found.0)) (sym same), found.2)
      by same (inr found) = inr (found.0, found.1, ap (λ (ts : List Taking). x ∷ ts) found.2 ∙ ap (λ (z : Taking). z ∷ (bs ++ found.0 ∷ found.1)) same, found.3)

module _ (sys : System) (limit : ℕ) (within : limit ≤ most) (look : Look) (xs : List Taking) (x : Taking) (more : List Line) (are : AreTakings sys most look xs) (is_taking : IsTaking sys most (last_look look xs) x) where
  abbrev emitted : List Line
  emitted = map (emission_line x.first) x.emits

  -- the lines go on with the emissions of the taking, or the steps run out in it
  abbrev pub GoesSo : (tick resource : ℕ) → Type 0
  GoesSo t r = ((rest : List Line) × (more ≡ emitted ++ rest)) ⊎ ((rest : List Line) × (emitted ≡ more ++ rest) × (x.first.key.tick ≡ t) × (x.first.key.resource ≡ r))

  module _ (before : List Taking) (chain : AreTakings sys most look before) (y : Taking) (keeps : KeepsLimit limit y.first.key.tick y.first.key.resource (last_look look before))
      (judged : IsTaking sys limit (limited limit y.first.key.tick y.first.key.resource (last_look look before)) y) where
    abbrev A : List Line
    A = taking_lines y ++ []

    -- the walk's taking is after those of the run
    within_before : (zs : List Taking) → before ≡ xs ++ zs → all_lines zs ++ A ≡ x.first ∷ more → GoesSo y.first.key.tick y.first.key.resource
    within_before [] parts e =
        let first : y.first ≡ x.first = first_line y.first x.first _ more e in
        let at : last_look look before ≡ last_look look xs = ap (last_look look) parts ∙ last_none sys look xs in
        let begins = limited_begins sys limit within (last_look look before) y x keeps judged (subst (λ (l : Look). IsTaking sys most l x) (sym at) is_taking) (sym first) in
        let f = emission_line x.first in
        let said : map f y.emits ≡ more = ap (λ (l : Line). map (emission_line l) y.emits) (sym first) ∙ sym (append-nil _) ∙ tails y.first x.first _ more e in
        inr (
          map f begins.0,
          ap (map f) begins.1 ∙ map-append f y.emits begins.0 ∙ ap (λ (ls : List Line). ls ++ map f begins.0) said,
          ap (λ (l : Line). l.key.tick) (sym first),
          ap (λ (l : Line). l.key.resource) (sym first),
        )
    within_before (z ∷ zs) parts e =
        let same : z ≡ x =
        taking_one sys most (last_look look xs) z x (taking_after sys look xs zs z (subst (λ (ts : List Taking). AreTakings sys most look ts) parts chain)) is_taking (first_line z.first x.first _ more e)
        in
        let f = map (emission_line z.first) z.emits in
        inl (
          all_lines zs ++ A,
          sym (tails z.first x.first _ more e) ∙ append_assoc f (all_lines zs) A ∙ ap (λ (ls : List Line). ls ++ (all_lines zs ++ A)) (emission_lines x z same),
        )

    -- the walk has gone on after the run: it has more lines than the run
    beyond : (w : Taking) (ws : List Taking) → xs ≡ before ++ w ∷ ws → A ≡ all_lines (w ∷ ws) ++ x.first ∷ more → ⊥
    beyond w ws parts e =
        let first : w.first ≡ y.first = sym (first_line y.first w.first _ _ e) in
        let there = taking_after sys look before ws w (subst (λ (ts : List Taking). AreTakings sys most look ts) parts are) in
        let begins = limited_begins sys limit within (last_look look before) y w keeps judged there first in
        let long = ap length begins.1 ∙ length-append y.emits begins.0 in
        let mine = length-map y.emits (emission_line y.first) in
        let its = length-map w.emits (emission_line w.first) in
        let left = length-append (map (emission_line y.first) y.emits) [] in
        let one = length-append (map (emission_line w.first) w.emits ++ all_lines ws) (x.first ∷ more) in
        let two = length-append (map (emission_line w.first) w.emits) (all_lines ws) in
        let same = ap length (tails y.first w.first _ _ e) in
        omega (arith, long, mine, its, left, one, two, same)

    pub goes_so : all_lines before ++ A ≡ all_lines xs ++ x.first ∷ more → GoesSo y.first.key.tick y.first.key.resource
    goes_so e = by (compare sys look xs before A (x.first ∷ more) are chain e)
      where
        by : ((zs : List Taking) × (before ≡ xs ++ zs) × (all_lines zs ++ A ≡ x.first ∷ more)) ⊎ ((w : Taking) × (ws : List Taking) × (xs ≡ before ++ w ∷ ws) × (A ≡ all_lines (w ∷ ws) ++ x.first ∷ more))
            → GoesSo y.first.key.tick y.first.key.resource
        by (inl found) = within_before found.0 found.1 found.2
        by (inr found) = absurd (beyond found.0 found.1 found.2 found.3)

module _ (sys : System) (limit : ℕ) (within : limit ≤ most) (xs : List Taking) (x : Taking) (more : List Line) (are : AreTakings sys most (opening_look sys) xs)
    (is_taking : IsTaking sys most (last_look (opening_look sys) xs) x) where
  abbrev look : Look
  look = opening_look sys

  steps_go :
      (t r : ℕ) (before last : List Taking) → AreTakings sys most look before → IsOneOf t r last → KeepsLimit limit t r (last_look look before)
      → AreTakings sys limit (limited limit t r (last_look look before)) last → all_lines before ++ all_lines last ≡ all_lines xs ++ x.first ∷ more → GoesOn x more (AtStop t r Steps)
  steps_go t r before [] chain one keeps judged e = inl (goes_on sys look xs before x more are is_taking chain (sym (append-nil (all_lines before)) ∙ e))
  steps_go t r before (y ∷ []) chain one keeps judged e =
      let at = last_look look before in
      let own = subst (λ (n : ℕ). KeepsLimit limit y.first.key.tick n at) (sym one.1) (subst (λ (n : ℕ). KeepsLimit limit n r at) (sym one.0) keeps) in
      let its =
      subst (λ (n : ℕ). IsTaking sys limit (limited limit y.first.key.tick n at) y) (sym one.1) (subst (λ (n : ℕ). IsTaking sys limit (limited limit n r at) y) (sym one.0) judged.0)
      in
      by (goes_so sys limit within look xs x more are is_taking before chain y own its e)
    where
      by : GoesSo sys limit within look xs x more are is_taking y.first.key.tick y.first.key.resource → GoesOn x more (AtStop t r Steps)
      by (inl goes) = inl goes
      by (inr stops) =
          inr (
            stops.0,
            stops.1,
            ap (λ (n : ℕ). AtStop n r Steps) (sym (stops.2 ∙ one.0)) ∙ ap (λ (n : ℕ). AtStop x.first.key.tick n Steps) (sym (stops.3 ∙ one.1)),
          )
  steps_go t r before (y ∷ (z ∷ zs)) chain one keeps judged e = absurd one

  pub run_goes_on : (ys : List Taking) (end : Ending) → EndsSo sys limit ys end → all_lines ys ≡ all_lines xs ++ x.first ∷ more → GoesOn x more end
  run_goes_on ys (AtHorizon h) ends e = inl (goes_on sys look xs ys x more are is_taking ends.0 e)
  run_goes_on ys (AtStop t r Steps) ends e =
      let it = ends.limited_so in
      steps_go t r it.before it.last it.chain it.one it.within it.judged (sym (all_both sys it.before it.last) ∙ ap all_lines (sym it.parts) ∙ e)
  run_goes_on ys (AtStop t r Divide) ends e = inl (goes_on sys look xs ys x more are is_taking ends.0 e)
  run_goes_on ys (AtStop t r Range) ends e = inl (goes_on sys look xs ys x more are is_taking ends.0 e)
