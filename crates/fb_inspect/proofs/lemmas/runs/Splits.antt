-- Where a row of takings that ends as a run has the lines of another row, and more.
use Rattle.fb_inspect.proofs.lemmas.Common.{◌≡◌, ◌⊎◌, ℕ, zero, suc, ◌+◌, ◌-◌, ◌≤◌, min, Bool, true, false, List, [], ◌∷◌, ◌++◌, length, map, Option, Some, None, refl, sym, ◌∙◌, ap, subst, inl, inr, arith, ◌^◌, if◌then◌else◌, cases_eq, eq-eqb, ne_eqb, length-append, length-map, Basic, Composite, Event, Kind, memory_of, System, Key, BasicType, AreTakings, IsOneOf, KeepSteps, KeepsLimit, all_lines, last_look, limited, IsTaking, IsTakingAt, IsTakingWith, Left, Look, Taking, emission_line, left_at, most, reacted, taking_lines, with_left, with_seen}
use Rattle.fb_types.specs.EventBlocks as blocks
use Rattle.fb_types.specs.States.{Line}
use Rattle.fb_inspect.proofs.lemmas.reactions.FewerSteps.{Begins}
use Rattle.fb_inspect.proofs.lemmas.runs.RunContinues.{compare, limited_at, limited_begins, tails, taking_after}
use Rattle.fb_inspect.proofs.lemmas.reactions.OneTaking.{at_line, first_line, nothing, rests}
use Rattle.fb_inspect.proofs.lemmas.reactions.SomeTaking.{taking_there}

-- ---- Lists

pub no_lines : (xs : List Taking) → all_lines xs ≡ [] → xs ≡ []
no_lines [] e = refl
no_lines (x ∷ xs) e = absurd (nothing x.first _ (sym e))

pub no_part : (xs ys : List Line) → xs ++ ys ≡ [] → (xs ≡ []) × (ys ≡ [])
no_part [] ys e = (refl, e)
no_part (x ∷ xs) ys e = absurd (nothing x (xs ++ ys) (sym e))

pub no_length : (xs : List Line) → length xs ≡ 0 → xs ≡ []
no_length [] e = refl
no_length (x ∷ xs) e = absurd (omega (arith, e))

-- ---- Steps after a taking

left_with : (limit n : ℕ) (look : Look) (k : Key) → left_at limit k.tick ((with_left k n look).steps k.resource) ≡ n
left_with limit n look k =
    let own : Left = record { tick = Some k.tick; left = n; least = min (look.steps k.resource).least n } in
    ap (λ (b : Bool). left_at limit k.tick (if b then own else look.steps k.resource)) (eq-eqb k.resource k.resource refl)
    ∙ ap (λ (b : Bool). if b then n else limit) (eq-eqb k.tick k.tick refl)

module _ (sys : System) (limit n : ℕ) (look after : Look) (k : Key) (steps : after.steps ≡ (with_left k n look).steps) where
  abbrev own : Left
  own = record { tick = Some k.tick; left = n; least = min (look.steps k.resource).least n }

  own_is : (r : ℕ) → r ≡ k.resource → after.steps r ≡ own
  own_is r e = ap (λ (g : ℕ → Left). g r) steps ∙ ap (λ (b : Bool). if b then own else look.steps r) (eq-eqb r k.resource e)

  other_is : (r : ℕ) → (r ≡ k.resource → ⊥) → after.steps r ≡ look.steps r
  other_is r e = ap (λ (g : ℕ → Left). g r) steps ∙ ap (λ (b : Bool). if b then own else look.steps r) (ne_eqb r k.resource e)

  -- the steps are kept
  keep_with : KeepSteps sys limit look → most ≤ n + limit → KeepSteps sys limit after
  keep_with kept enough r small = by (cases_eq r k.resource)
    where
      by : (r ≡ k.resource) ⊎ (r ≡ k.resource → ⊥) → most ≤ (after.steps r).least + limit
      by (inl e) =
          let before : most ≤ (look.steps k.resource).least + limit = subst (λ (s : ℕ). most ≤ (look.steps s).least + limit) e (kept r small) in
          let now : most ≤ own.least + limit = omega (arith, before, enough) in
          subst (λ (l : Left). most ≤ l.least + limit) (sym (own_is r e)) now
      by (inr e) = subst (λ (l : Left). most ≤ l.least + limit) (sym (other_is r e)) (kept r small)

  -- the steps were kept before the taking
  keep_back : KeepSteps sys limit after → KeepSteps sys limit look
  keep_back kept r small = by (cases_eq r k.resource)
    where
      by : (r ≡ k.resource) ⊎ (r ≡ k.resource → ⊥) → most ≤ (look.steps r).least + limit
      by (inl e) =
          let now : most ≤ own.least + limit = subst (λ (l : Left). most ≤ l.least + limit) (own_is r e) (kept r small) in
          let before : most ≤ (look.steps k.resource).least + limit = omega (arith, now) in
          subst (λ (s : ℕ). most ≤ (look.steps s).least + limit) (sym e) before
      by (inr e) = subst (λ (l : Left). most ≤ l.least + limit) (other_is r e) (kept r small)

-- ---- Takings with fewer steps

abbrev pub IsBasic : System → Line → Type 0
IsBasic sys l = (t : BasicType) × (sys.kind l.at ≡ Some (Basic t))

pub basic_or_not : (sys : System) (l : Line) → IsBasic sys l ⊎ (IsBasic sys l → ⊥)
basic_or_not sys l = by (sys.kind l.at) refl
  where
    by : (o : Option Kind) → sys.kind l.at ≡ o → IsBasic sys l ⊎ (IsBasic sys l → ⊥)
    by None e = inr (λ h. let clash : None ≡ Some (Basic h.0) = sym e ∙ h.1 in cc)
    by (Some (Basic t)) e = inl (t, e)
    by (Some (Event k)) e = inr (λ h. let clash : Some (Event k) ≡ Some (Basic h.0) = sym e ∙ h.1 in cc)
    by (Some (Composite c)) e = inr (λ h. let clash : Some (Composite c) ≡ Some (Basic h.0) = sym e ∙ h.1 in cc)

-- what holds of the steps after each taking
pub steps_after : (left : ℕ) (look : Look) (k : Option Kind) (x : Taking) → IsTakingAt left look k x → (n : ℕ) × (x.after.steps ≡ (with_left x.first.key n look).steps)
steps_after left look None x h = absurd h
steps_after left look (Some (Basic t)) x h = (h.end.left, ap (λ (l : Look). l.steps) h.is)
steps_after left look (Some (Event k)) x (inl h) = (left, ap (λ (l : Look). l.steps) h.is.2)
steps_after left look (Some (Event k)) x (inr h) = (left, ap (λ (l : Look). l.steps) h.is.2)
steps_after left look (Some (Composite c)) x h = (left, ap (λ (l : Look). l.steps) h.is)

-- a taking of a block that is not basic goes on, and uses no steps of its own
pub plain_after :
    (left : ℕ) (look : Look) (k : Option Kind) (x : Taking) → ((t : BasicType) → k ≡ Some (Basic t) → ⊥) → IsTakingAt left look k x
    → (x.stop ≡ None) × (x.after.steps ≡ (with_left x.first.key left look).steps)
plain_after left look None x other h = absurd h
plain_after left look (Some (Basic t)) x other h = absurd (other t refl)
plain_after left look (Some (Event k)) x other (inl h) = (h.goes_on, ap (λ (l : Look). l.steps) h.is.2)
plain_after left look (Some (Event k)) x other (inr h) = (h.goes_on, ap (λ (l : Look). l.steps) h.is.2)
plain_after left look (Some (Composite c)) x other h = (h.goes_on, ap (λ (l : Look). l.steps) h.is)

-- a taking with the same first line from the same memory, with any other steps
pub other_there :
    (steps t r left more : ℕ) (look : Look) (k : Option Kind) (x : Taking) → IsTakingAt left (limited steps t r look) k x → (y : Taking) × (y.first ≡ x.first) × IsTakingAt more look k y
other_there steps t r left more look None x h = absurd h
other_there steps t r left more look (Some (Basic b)) x h = taking_there more look (Basic b) x.first h.taken
other_there steps t r left more look (Some (Event k)) x (inl h) = taking_there more look (Event k) x.first h.taken
other_there steps t r left more look (Some (Event k)) x (inr h) =
    let b = look.blocks x.first.at in
    let c = reacted b (blocks.expiry k (memory_of b.memory) x.first.key.tick) b.variables None in (
      record { first = x.first; emits = x.emits; pieces = x.pieces; stop = None; after = with_seen x.first.at c (with_left x.first.key more look) },
      refl,
      inr (record { emitted = h.emitted; due = h.due; goes_on = refl; is = (h.is.0, h.is.1, refl) }),
    )
other_there steps t r left more look (Some (Composite c)) x h =
    (record { first = x.first; emits = []; pieces = []; stop = None; after = with_left x.first.key more look }, refl, record { none = refl; silent = refl; goes_on = refl; is = refl })

module _ (left more t r limit : ℕ) (look : Look) (y x : Taking) where
  mixed : y.first.taken ≡ true → y.first.taken ≡ false → ⊥
  mixed a b = cc

  -- the block emits the same, if it is no basic one
  same_emits : (k : Option Kind) → ((b : BasicType) → k ≡ Some (Basic b) → ⊥) → IsTakingAt left (limited limit t r look) k y → IsTakingAt more look k (at_line x y.first) → x.emits ≡ y.emits
  same_emits None other h i = absurd h
  same_emits (Some (Basic b)) other h i = absurd (other b refl)
  same_emits (Some (Event kind)) other (inl h) (inl i) = i.is.0 ∙ sym h.is.0
  same_emits (Some (Event kind)) other (inl h) (inr i) = absurd (mixed h.taken i.emitted)
  same_emits (Some (Event kind)) other (inr h) (inl i) = absurd (mixed i.taken h.emitted)
  same_emits (Some (Event kind)) other (inr h) (inr i) = rests _ _ x.emits y.emits (i.is.0 ∙ sym h.is.0)
  same_emits (Some (Composite c)) other h i = i.none ∙ sym h.none

module _ (sys : System) (limit : ℕ) (within : limit ≤ most) where
  -- the taking has what is left of the limit in its tick
  abbrev pub Near : Look → Taking → Type 0
  Near look x = IsTaking sys limit (limited limit x.first.key.tick x.first.key.resource look) x

  abbrev pub Keeps : Look → Taking → Type 0
  Keeps look x = KeepsLimit limit x.first.key.tick x.first.key.resource look

  -- the steps that are left of the limit, and of the greatest one
  near_left :
      (look : Look) (x : Taking) → Keeps look x
      → left_at most x.first.key.tick (look.steps x.first.key.resource) ≡ left_at limit x.first.key.tick ((limited limit x.first.key.tick x.first.key.resource look).steps x.first.key.resource) + (most - limit)
  near_left look x keeps = let own = limited_at sys limit within look x.first.key.tick x.first.key.resource in omega (arith, own, keeps, within)

  -- it is there with the greatest limit, too
  pub free_there : (look : Look) (x : Taking) → Keeps look x → Near look x → (y : Taking) × (y.first ≡ x.first) × IsTaking sys most look y
  free_there look x keeps h = by (left_at limit x.first.key.tick ((limited limit x.first.key.tick x.first.key.resource look).steps x.first.key.resource)) (near_left look x keeps) h
    where
      by : (n : ℕ) → left_at most x.first.key.tick (look.steps x.first.key.resource) ≡ n + (most - limit) → IsTakingWith sys (limited limit x.first.key.tick x.first.key.resource look) n x
          → (y : Taking) × (y.first ≡ x.first) × IsTaking sys most look y
      by zero same h = absurd h
      by (suc n) same h =
          let long : left_at most x.first.key.tick (look.steps x.first.key.resource) ≡ suc (n + (most - limit)) = omega (arith, same) in
          let found = other_there limit x.first.key.tick x.first.key.resource n (n + (most - limit)) look (sys.kind x.first.at) x h.1 in
          let is_taking : IsTakingWith sys look (suc (n + (most - limit))) found.0 =
          subst (λ (l : Line). (l.key.tick ≤ 10 ^ 12) × IsTakingAt (n + (most - limit)) look (sys.kind l.at) found.0) (sym found.1) (h.0, found.2) in
          (found.0, found.1, subst (λ (l : Line). IsTakingWith sys look (left_at most l.key.tick (look.steps l.key.resource)) found.0) (sym found.1) (subst (λ (m : ℕ). IsTakingWith sys look m found.0) (sym long) is_taking))

  module _ (look : Look) (x z : Taking) (keeps : Keeps look x) (near : Near look x) (free : IsTaking sys most look z) (first : z.first ≡ x.first) where
    abbrev k : Key
    k = x.first.key

    its : IsTaking sys most look (at_line z x.first)
    its = subst (λ (l : Line). IsTaking sys most look (at_line z l)) first free

    -- what holds of both, if the block is no basic one
    pub record AreBoth : Type 0 where
      pub left : ℕ
      pub near_is : left_at limit k.tick ((limited limit k.tick k.resource look).steps k.resource) ≡ suc left
      pub free_is : left_at most k.tick (look.steps k.resource) ≡ suc (left + (most - limit))
      pub near_at : IsTakingAt left (limited limit k.tick k.resource look) (sys.kind x.first.at) x
      pub free_at : IsTakingAt (left + (most - limit)) look (sys.kind x.first.at) (at_line z x.first)

    pub both : AreBoth
    both = by (left_at limit k.tick ((limited limit k.tick k.resource look).steps k.resource)) (left_at most k.tick (look.steps k.resource)) refl refl (near_left look x keeps) near its
      where
        by : (n m : ℕ) → left_at limit k.tick ((limited limit k.tick k.resource look).steps k.resource) ≡ n → left_at most k.tick (look.steps k.resource) ≡ m → m ≡ n + (most - limit)
            → IsTakingWith sys (limited limit k.tick k.resource look) n x → IsTakingWith sys look m (at_line z x.first) → AreBoth
        by zero m a b same h i = absurd h
        by (suc n) zero a b same h i = absurd i
        by (suc n) (suc m) a b same h i =
            let less : m ≡ n + (most - limit) = omega (arith, same) in
            record {
              left = n;
              near_is = a;
              free_is = b ∙ ap (λ (j : ℕ). suc j) less;
              near_at = h.1;
              free_at = subst (λ (j : ℕ). IsTakingAt j look (sys.kind x.first.at) (at_line z x.first)) less i.1;
            }

    pub begins : Begins x.emits z.emits
    begins = limited_begins sys limit within look x z keeps near free first

    pub plain_emits : (IsBasic sys x.first → ⊥) → z.emits ≡ x.emits
    plain_emits other = same_emits both.left (both.left + (most - limit)) k.tick k.resource limit look x z (sys.kind x.first.at) (λ b e. other (b, e)) both.near_at both.free_at

    pub plain_stops : (IsBasic sys x.first → ⊥) → (x.stop ≡ None) × (z.stop ≡ None)
    plain_stops other = (
      (plain_after both.left (limited limit k.tick k.resource look) (sys.kind x.first.at) x (λ b e. other (b, e)) both.near_at).0,
      (plain_after (both.left + (most - limit)) look (sys.kind x.first.at) (at_line z x.first) (λ b e. other (b, e)) both.free_at).0,
    )

    -- the steps that are left after each, where the block is no basic one
    pub near_after : (IsBasic sys x.first → ⊥) → left_at limit k.tick (x.after.steps k.resource) ≡ both.left
    near_after other =
        let after = plain_after both.left (limited limit k.tick k.resource look) (sys.kind x.first.at) x (λ b e. other (b, e)) both.near_at in
        ap (λ (g : ℕ → Left). left_at limit k.tick (g k.resource)) after.1 ∙ left_with limit both.left (limited limit k.tick k.resource look) k

    free_steps : (IsBasic sys x.first → ⊥) → z.after.steps ≡ (with_left k (both.left + (most - limit)) look).steps
    free_steps other = (plain_after (both.left + (most - limit)) look (sys.kind x.first.at) (at_line z x.first) (λ b e. other (b, e)) both.free_at).1

    pub free_after : (IsBasic sys x.first → ⊥) → left_at most k.tick (z.after.steps k.resource) ≡ both.left + (most - limit)
    free_after other = ap (λ (g : ℕ → Left). left_at most k.tick (g k.resource)) (free_steps other) ∙ left_with most (both.left + (most - limit)) look k

    pub free_keeps : (IsBasic sys x.first → ⊥) → KeepSteps sys limit look → KeepSteps sys limit z.after
    free_keeps other kept = keep_with sys limit (both.left + (most - limit)) look z.after k (free_steps other) kept (omega (arith, within))

-- ---- Steps along a row

pub takings_at : (sys : System) (limit : ℕ) (look : Look) (x : Taking) → IsTaking sys limit look x → (left : ℕ) × IsTakingAt left look (sys.kind x.first.at) x
takings_at sys limit look x h = by (left_at limit x.first.key.tick (look.steps x.first.key.resource)) h
  where
    by : (n : ℕ) → IsTakingWith sys look n x → (left : ℕ) × IsTakingAt left look (sys.kind x.first.at) x
    by zero h = absurd h
    by (suc n) h = (n, h.1)

-- Where the steps were kept after takings, they were before.
pub keep_row : (sys : System) (limit : ℕ) (look : Look) (zs : List Taking) → AreTakings sys most look zs → KeepSteps sys limit (last_look look zs) → KeepSteps sys limit look
keep_row sys limit look [] are h = h
keep_row sys limit look (z ∷ zs) are h =
    let at = takings_at sys most look z are.0 in
    let after = steps_after at.0 look (sys.kind z.first.at) z at.1 in
    keep_back sys limit after.0 look z.after z.first.key after.1 (keep_row sys limit z.after zs are.2 h)

-- ---- The split

-- The lines of takings, the last of which may have what is left of a limit, are those of others, and more.
module _ (sys : System) (limit : ℕ) (within : limit ≤ most) (look : Look) (ys : List Taking) (are : AreTakings sys most look ys) (before last : List Taking) (chain : AreTakings sys most look before) (t r : ℕ)
    (one : IsOneOf t r last) (keeps : KeepsLimit limit t r (last_look look before)) (judged : AreTakings sys limit (limited limit t r (last_look look before)) last) where
  -- the last taking, where there is one
  pub record IsLast (x : Taking) : Type 0 where
    pub last_is : last ≡ x ∷ []
    pub tick : x.first.key.tick ≡ t
    pub resource : x.first.key.resource ≡ r
    pub keeps_so : Keeps sys limit within (last_look look before) x
    pub near : Near sys limit within (last_look look before) x

  pub last_there : (x : Taking) (xs : List Taking) → last ≡ x ∷ xs → IsLast x
  last_there x [] e =
      let own = subst (IsOneOf t r) e one in
      let its = subst (AreTakings sys limit (limited limit t r (last_look look before))) e judged in
      record {
        last_is = e;
        tick = own.0;
        resource = own.1;
        keeps_so = subst (λ (n : ℕ). KeepsLimit limit x.first.key.tick n (last_look look before)) (sym own.1) (subst (λ (n : ℕ). KeepsLimit limit n r (last_look look before)) (sym own.0) keeps);
        near = subst (λ (n : ℕ). IsTaking sys limit (limited limit x.first.key.tick n (last_look look before)) x) (sym own.1)
            (subst (λ (n : ℕ). IsTaking sys limit (limited limit n r (last_look look before)) x) (sym own.0) its.0);
      }
  last_there x (y ∷ xs) e = absurd (subst (IsOneOf t r) e one)

  -- the takings go on after the others
  pub record GoesPast (rest : List Line) : Type 0 where
    pub more : List Taking
    pub parts : before ≡ ys ++ more
    pub lines : all_lines more ++ all_lines last ≡ rest

  -- the last one is that of the others, with the same lines
  pub record EndsIn (rest : List Line) : Type 0 where
    pub x : Taking
    pub is_last : IsLast x
    pub z : Taking
    pub parts : ys ≡ before ++ z ∷ []
    pub first : z.first ≡ x.first
    pub free : IsTaking sys most (last_look look before) z
    pub none : rest ≡ []

  ends_in :
      (rest : List Line) (w : Taking) (ws : List Taking) → ys ≡ before ++ w ∷ ws → (xs : List Taking) → last ≡ xs → all_lines last ≡ all_lines (w ∷ ws) ++ rest → EndsIn rest
  ends_in rest w ws parts [] e lines = absurd (nothing w.first _ (ap all_lines (sym e) ∙ lines))
  ends_in rest w ws parts (x ∷ xs) e lines =
      let is = last_there x xs e in
      let all : taking_lines x ++ [] ≡ all_lines (w ∷ ws) ++ rest = ap all_lines (sym is.last_is) ∙ lines in
      let first : w.first ≡ x.first = sym (first_line x.first w.first _ _ all) in
      let free = taking_after sys look before ws w (subst (λ (ts : List Taking). AreTakings sys most look ts) parts are) in
      let begins_so = begins sys limit within (last_look look before) x w is.keeps_so is.near free first in
      let long = ap length begins_so.1 ∙ length-append x.emits begins_so.0 in
      let mine = length-map x.emits (emission_line x.first) in
      let its = length-map w.emits (emission_line w.first) in
      let left = length-append (map (emission_line x.first) x.emits) [] in
      let one = length-append (map (emission_line w.first) w.emits ++ all_lines ws) rest in
      let two = length-append (map (emission_line w.first) w.emits) (all_lines ws) in
      let same = ap length (tails x.first w.first _ _ all) in
      let none_after : length (all_lines ws) ≡ 0 = omega (arith, long, mine, its, left, one, two, same) in
      let none_rest : length rest ≡ 0 = omega (arith, long, mine, its, left, one, two, same) in
      record {
        x = x;
        is_last = is;
        z = w;
        parts = parts ∙ ap (λ (ts : List Taking). before ++ w ∷ ts) (no_lines ws (no_length (all_lines ws) none_after));
        first = first;
        free = free;
        none = no_length rest none_rest;
      }

  pub split : (rest : List Line) → all_lines before ++ all_lines last ≡ all_lines ys ++ rest → GoesPast rest ⊎ EndsIn rest
  split rest e = by (compare sys look ys before (all_lines last) rest are chain e)
    where
      by : ((zs : List Taking) × (before ≡ ys ++ zs) × (all_lines zs ++ all_lines last ≡ rest)) ⊎ ((w : Taking) × (ws : List Taking) × (ys ≡ before ++ w ∷ ws) × (all_lines last ≡ all_lines (w ∷ ws) ++ rest))
          → GoesPast rest ⊎ EndsIn rest
      by (inl h) = inl (record { more = h.0; parts = h.1; lines = h.2 })
      by (inr h) = inr (ends_in rest h.0 h.1 h.2 last refl h.3)
