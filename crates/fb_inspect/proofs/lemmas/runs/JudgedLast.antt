-- A trace that stops for its steps can be gone through so that its last taking, if that is of a basic block of the resource that stops, in that tick, is judged with
-- what is left of the steps.
use Rattle.fb_inspect.proofs.lemmas.Common.{◌≡◌, ◌⊎◌, ◌≤◌, ◌^◌, ℕ, zero, suc, ◌+◌, ◌-◌, Bool, List, [], ◌∷◌, ◌++◌, Option, Some, None, refl, sym, ap, subst, ◌∙◌, inl, inr, append-nil, arith, if◌then◌else◌, cases_eq, eq-eqb, min, AtHorizon, AtStop, Ending, Basic, Kind, System, Key, BasicType, Position, Reason, Steps, Divide, Range, AreTakings, EndsBySteps, EndsSo, KeepSteps, KeepsLimit, NoneStops, NothingAfter, RunsOut, all_lines, last_look, limited, IsTaking, IsTakingAt, IsTakingWith, Left, Look, Taking, left_at, most, opening_look, taking_lines, with_left, with_seen, ShowsReaction}
use Rattle.fb_types.specs.States.{InState, Line}
use Rattle.fb_types.specs.Reactions.{state_of, with_values}
use Rattle.fb_inspect.specs.walk.Looks.{IsTakingByChart}
use Rattle.fb_inspect.proofs.lemmas.reactions.LessReactions.{Shorter, reaction_falls, reaction_short}
use Rattle.fb_inspect.proofs.lemmas.runs.RunContinues.{all_both, limited_at, taking_after}
use Rattle.fb_inspect.proofs.lemmas.runs.Rightly.{look_push, none_at}
use Rattle.fb_inspect.proofs.lemmas.runs.ShownRows.{JudgesLast}
use Rattle.fb_inspect.proofs.lemmas.runs.Splits.{IsBasic, basic_or_not, keep_row}

-- ---- Rows

nothing_after : (s : Option Reason) → NothingAfter s []
nothing_after None = tt
nothing_after (Some r) = refl

-- a row that goes on has no stop in its first takings
none_front : (ys zs : List Taking) → NoneStops (ys ++ zs) → NoneStops ys
none_front [] zs h = tt
none_front (y ∷ ys) zs h = (h.0, none_front ys zs h.1)

goes_after : (s : Option Reason) (xs : List Taking) → s ≡ None → NothingAfter s xs
goes_after s xs is = subst (λ (o : Option Reason). NothingAfter o xs) (sym is) tt

chain_front : (sys : System) (look : Look) (ys zs : List Taking) → AreTakings sys most look (ys ++ zs) → NoneStops (ys ++ zs) → AreTakings sys most look ys
chain_front sys look [] zs are goes = tt
chain_front sys look (y ∷ ys) zs are goes = (are.0, goes_after y.stop ys goes.0, chain_front sys y.after ys zs are.2 goes.1)

none_there : (x : Taking) (xs : List Taking) → x ∷ xs ≡ [] → ⊥
none_there x xs e = cc

none_pushed : (front : List Taking) (z : Taking) → front ++ z ∷ [] ≡ [] → ⊥
none_pushed [] z e = none_there z [] e
none_pushed (y ∷ front) z e = none_there y (front ++ z ∷ []) e

heads : (x y : Taking) (xs ys : List Taking) → x ∷ xs ≡ y ∷ ys → (x ≡ y) × (xs ≡ ys)
heads x y xs ys e = (cc, cc)

same_last : (xs ys : List Taking) (x y : Taking) → xs ++ x ∷ [] ≡ ys ++ y ∷ [] → x ≡ y
same_last [] [] x y e = (heads x y [] [] e).0
same_last [] (b ∷ ys) x y e = absurd (none_pushed ys y (sym (heads x b [] (ys ++ y ∷ []) e).1))
same_last (a ∷ xs) [] x y e = absurd (none_pushed xs x (heads a y (xs ++ x ∷ []) [] e).1)
same_last (a ∷ xs) (b ∷ ys) x y e = same_last xs ys x y (heads a b (xs ++ x ∷ []) (ys ++ y ∷ []) e).1

-- the last one, if there is one
abbrev HasLast : List Taking → Type 0
HasLast xs = (xs ≡ []) ⊎ ((front : List Taking) × (z : Taking) × (xs ≡ front ++ z ∷ []))

has_last : (xs : List Taking) → HasLast xs
has_last [] = inl refl
has_last (x ∷ xs) = by (has_last xs)
  where
    by : HasLast xs → HasLast (x ∷ xs)
    by (inl none) = inr ([], x, ap (λ (ys : List Taking). x ∷ ys) none)
    by (inr h) = inr (x ∷ h.0, h.1, ap (λ (ys : List Taking). x ∷ ys) h.2)

-- ---- One taking

left_with : (limit n : ℕ) (look : Look) (k : Key) → left_at limit k.tick ((with_left k n look).steps k.resource) ≡ n
left_with limit n look k =
    let own : Left = record { tick = Some k.tick; left = n; least = min (look.steps k.resource).least n } in
    ap (λ (b : Bool). left_at limit k.tick (if b then own else look.steps k.resource)) (eq-eqb k.resource k.resource refl)
    ∙ ap (λ (b : Bool). if b then n else limit) (eq-eqb k.tick k.tick refl)

module _ (sys : System) (limit : ℕ) (within : limit ≤ most) where
  -- A taking with these lines and this end, which has what is left of the limit in its tick, and uses it up.
  record IsNearer (look : Look) (z : Taking) : Type 0 where
    y : Taking
    first_is : y.first ≡ z.first
    lines : taking_lines y ≡ taking_lines z
    stop_is : y.stop ≡ z.stop
    keeps : KeepsLimit limit z.first.key.tick z.first.key.resource look
    near : IsTaking sys limit (limited limit z.first.key.tick z.first.key.resource look) y
    out : left_at limit z.first.key.tick (y.after.steps z.first.key.resource) ≡ 0

  -- what a taking with the greatest limit leaves is what the limit lacks
  module _ (look : Look) (z : Taking) (b : BasicType) (kind : sys.kind z.first.at ≡ Some (Basic b)) (leaves : left_at most z.first.key.tick (z.after.steps z.first.key.resource) + limit ≡ most) where
    abbrev k : Key
    k = z.first.key

    abbrev less : Look
    less = limited limit k.tick k.resource look

    abbrev d : ℕ
    d = most - limit

    -- where a reaction begins with these steps
    abbrev begins : ℕ → Position
    begins n = record { state = state_of (look.blocks z.first.at).memory; vars = with_values z.first.values (look.blocks z.first.at).variables; left = n; emitted = [] }

    module _ (m : ℕ) (enough : left_at most k.tick (look.steps k.resource) ≡ suc m) (early : k.tick ≤ 10 ^ 12) (chart : IsTakingByChart m look b z) where
      left_is : left_at most k.tick (z.after.steps k.resource) ≡ chart.end.left
      left_is = ap (λ (l : Look). left_at most k.tick (l.steps k.resource)) chart.is ∙ left_with most chart.end.left look k

      end_left : chart.end.left ≡ d
      end_left = omega (arith, left_is, leaves, within)

      falls : chart.end.left ≤ m
      falls = reaction_falls b z.first.event (begins m) z.stop chart.end z.pieces chart.shown

      long : m ≡ (m - d) + d
      long = omega (arith, falls, end_left)

      nearer_by : Shorter d (ShowsReaction b z.first.event) (begins (m - d)) z.stop chart.end z.pieces → IsNearer look z
      nearer_by (inl fewer) = absurd (omega (arith, fewer, end_left))
      nearer_by (inr e) =
          let y : Taking = record {
            first = z.first;
            emits = z.emits;
            pieces = z.pieces;
            stop = z.stop;
            after = with_seen z.first.at (record (look.blocks z.first.at) { memory = InState e.0.state; variables = e.0.vars }) (with_left k e.0.left less);
          } in
          let taking : IsTakingByChart (m - d) less b y = record { taken = chart.taken; end = e.0; shown = e.2; emitted = chart.emitted ∙ ap (λ (x : Position). x.emitted) e.1; is = refl } in
          let own = limited_at sys limit within look k.tick k.resource in
          let steps : left_at limit k.tick (less.steps k.resource) ≡ suc (m - d) = omega (arith, own, enough, falls, end_left, within) in
          let all : chart.end.left ≡ e.0.left + d = ap (λ (x : Position). x.left) e.1 in
          let none : e.0.left ≡ 0 = omega (arith, all, end_left) in
          record {
            y = y;
            first_is = refl;
            lines = refl;
            stop_is = refl;
            keeps = omega (arith, enough, falls, end_left, within);
            near = subst (λ (n : ℕ). IsTakingWith sys less n y) (sym steps) (early, subst (λ (o : Option Kind). IsTakingAt (m - d) less o y) (sym kind) taking);
            out = left_with limit e.0.left less k ∙ none;
          }

      nearer_at : IsNearer look z
      nearer_at =
          nearer_by
          (reaction_short d b z.first.event (begins (m - d)) z.stop chart.end z.pieces (subst (λ (n : ℕ). ShowsReaction b z.first.event (begins n) z.stop chart.end z.pieces) long chart.shown))

    nearer_with : (n : ℕ) → left_at most k.tick (look.steps k.resource) ≡ n → IsTakingWith sys look n z → IsNearer look z
    nearer_with zero enough h = absurd h
    nearer_with (suc m) enough h = nearer_at m enough h.0 (subst (λ (o : Option Kind). IsTakingAt m look o z) kind h.1)

    nearer : IsTaking sys most look z → IsNearer look z
    nearer h = nearer_with (left_at most k.tick (look.steps k.resource)) refl h

  -- ---- A trace

  -- Takings with the same lines, which end so and judge the last one.
  pub record IsJudged (xs : List Taking) (end : Ending) : Type 0 where
    pub takings : List Taking
    pub lines : all_lines takings ≡ all_lines xs
    pub ends : EndsSo sys limit takings end
    pub exact : JudgesLast sys limit takings end ends

  module _ (t r : ℕ) (xs : List Taking) (e : EndsBySteps sys limit t r xs) where
    abbrev before : List Taking
    before = e.limited_so.before

    abbrev opening : Look
    opening = opening_look sys

    -- they judge it already
    as_they_are : JudgesLast sys limit xs (AtStop t r Steps) e → IsJudged xs (AtStop t r Steps)
    as_they_are exact = record { takings = xs; lines = refl; ends = e; exact = exact }

    some_last : (x : Taking) (ls : List Taking) → e.limited_so.last ≡ x ∷ ls → IsJudged xs (AtStop t r Steps)
    some_last x ls is = as_they_are (λ none front z parts basic tick resource. none_there x ls (sym is ∙ none))

    none_before : before ≡ [] → IsJudged xs (AtStop t r Steps)
    none_before none = as_they_are (λ over front z parts basic tick resource. none_pushed front z (sym parts ∙ none))

    -- the last one before is another one
    other_before : (front : List Taking) (z : Taking) → before ≡ front ++ z ∷ [] → (IsBasic sys z.first → z.first.key.tick ≡ t → z.first.key.resource ≡ r → ⊥) → IsJudged xs (AtStop t r Steps)
    other_before front z is other =
        as_they_are
        (λ over ys x parts basic tick resource.
        let same : x ≡ z = same_last ys front x z (sym parts ∙ is) in
        other (subst (λ (y : Taking). IsBasic sys y.first) same basic) (ap (λ (y : Taking). y.first.key.tick) (sym same) ∙ tick) (ap (λ (y : Taking). y.first.key.resource) (sym same) ∙ resource))

    module _ (front : List Taking) (z : Taking) (none : e.limited_so.last ≡ []) (is : before ≡ front ++ z ∷ []) (b : BasicType) (kind : sys.kind z.first.at ≡ Some (Basic b)) (tick : z.first.key.tick ≡ t)
        (resource : z.first.key.resource ≡ r) where
      abbrev here : Look
      here = last_look opening front

      chain : AreTakings sys most opening (front ++ z ∷ [])
      chain = subst (λ (ys : List Taking). AreTakings sys most opening ys) is e.limited_so.chain

      goes : NoneStops (front ++ z ∷ [])
      goes = subst NoneStops is e.limited_so.goes_on

      look_is : last_look opening before ≡ z.after
      look_is = ap (last_look opening) is ∙ look_push opening front [] z

      taking : IsTaking sys most here z
      taking = taking_after sys opening front [] z chain

      runs_out : left_at limit t ((limited limit t r (last_look opening before)).steps r) ≡ 0
      runs_out = subst (λ (ls : List Taking). RunsOut limit t r (limited limit t r (last_look opening before)) ls) none e.runs_out

      leaves : left_at most t (z.after.steps r) + limit ≡ most
      leaves =
          let own = limited_at sys limit within (last_look opening before) t r in
          let kept = e.limited_so.within in
          let over = runs_out in
          let all : left_at most t ((last_look opening before).steps r) + limit ≡ most = omega (arith, own, kept, over) in
          subst (λ (l : Look). left_at most t (l.steps r) + limit ≡ most) look_is all

      near : IsNearer here z
      near =
          nearer here z b kind
          (subst (λ (n : ℕ). left_at most n (z.after.steps z.first.key.resource) + limit ≡ most) (sym tick) (subst (λ (n : ℕ). left_at most t (z.after.steps n) + limit ≡ most) (sym resource) leaves)) taking

      kept : KeepSteps sys limit here
      kept = keep_row sys limit here (z ∷ []) (taking, nothing_after z.stop, tt) (subst (KeepSteps sys limit) look_is e.limited_so.kept)

      last_is : IsTaking sys limit (limited limit t r here) near.y
      last_is =
          subst (λ (n : ℕ). IsTaking sys limit (limited limit n r here) near.y) tick
          (subst (λ (n : ℕ). IsTaking sys limit (limited limit z.first.key.tick n here) near.y) resource near.near)

      out : left_at limit t (near.y.after.steps r) ≡ 0
      out = subst (λ (n : ℕ). left_at limit n (near.y.after.steps r) ≡ 0) tick (subst (λ (n : ℕ). left_at limit z.first.key.tick (near.y.after.steps n) ≡ 0) resource near.out)

      last_before : IsJudged xs (AtStop t r Steps)
      last_before =
          record {
            takings = front ++ near.y ∷ [];
            lines =
                all_both sys front (near.y ∷ []) ∙ ap (λ (ls : List Line). all_lines front ++ (ls ++ [])) near.lines ∙ sym (all_both sys front (z ∷ [])) ∙ ap all_lines (sym is)
                ∙ ap all_lines (sym (append-nil before)) ∙ ap (λ (ls : List Taking). all_lines (before ++ ls)) (sym none) ∙ ap all_lines (sym e.limited_so.parts);
            ends = record {
              limited_so = record {
                before = front;
                last = near.y ∷ [];
                parts = refl;
                chain = chain_front sys opening front (z ∷ []) chain goes;
                goes_on = none_front front (z ∷ []) goes;
                one = (ap (λ (l : Line). l.key.tick) near.first_is ∙ tick, ap (λ (l : Line). l.key.resource) near.first_is ∙ resource);
                kept = kept;
                within = subst (λ (n : ℕ). KeepsLimit limit n r here) tick (subst (λ (n : ℕ). KeepsLimit limit z.first.key.tick n here) resource near.keeps);
                judged = (last_is, nothing_after near.y.stop, tt);
              };
              runs_out = inr (near.stop_is ∙ none_at front [] z goes, out);
            };
            exact = λ over ys x parts basic same_tick same_resource. none_there near.y [] over;
          }

    by_last : (front : List Taking) (z : Taking) → e.limited_so.last ≡ [] → before ≡ front ++ z ∷ [] → IsBasic sys z.first ⊎ (IsBasic sys z.first → ⊥) → ((z.first.key.tick ≡ t) ⊎ (z.first.key.tick ≡ t → ⊥))
        → ((z.first.key.resource ≡ r) ⊎ (z.first.key.resource ≡ r → ⊥)) → IsJudged xs (AtStop t r Steps)
    by_last front z none is (inl basic) (inl tick) (inl resource) = last_before front z none is basic.0 basic.1 tick resource
    by_last front z none is (inr other) tick resource = other_before front z is (λ basic same_tick same_resource. other basic)
    by_last front z none is (inl basic) (inr other) resource = other_before front z is (λ basic same_tick same_resource. other same_tick)
    by_last front z none is (inl basic) (inl tick) (inr other) = other_before front z is (λ basic same_tick same_resource. other same_resource)

    by_before : e.limited_so.last ≡ [] → HasLast before → IsJudged xs (AtStop t r Steps)
    by_before none (inl over) = none_before over
    by_before none (inr h) = by_last h.0 h.1 none h.2 (basic_or_not sys h.1.first) (cases_eq h.1.first.key.tick t) (cases_eq h.1.first.key.resource r)

    by_rows : (ls : List Taking) → e.limited_so.last ≡ ls → IsJudged xs (AtStop t r Steps)
    by_rows [] none = by_before none (has_last before)
    by_rows (x ∷ ls) is = some_last x ls is

    judged_stop : IsJudged xs (AtStop t r Steps)
    judged_stop = by_rows e.limited_so.last refl

  pub judged : (xs : List Taking) (end : Ending) → EndsSo sys limit xs end → IsJudged xs end
  judged xs (AtHorizon h) e = record { takings = xs; lines = refl; ends = e; exact = tt }
  judged xs (AtStop t r Steps) e = judged_stop t r xs e
  judged xs (AtStop t r Divide) e = record { takings = xs; lines = refl; ends = e; exact = tt }
  judged xs (AtStop t r Range) e = record { takings = xs; lines = refl; ends = e; exact = tt }
