-- The first event after which a resource had used too many steps.
use Rattle.fb_inspect.proofs.lemmas.Common.{◌≡◌, ◌<◌, ◌≤◌, ℕ, zero, suc, ◌+◌, min, Bool, true, false, List, [], ◌∷◌, ◌++◌, length, Option, Some, None, refl, sym, ap, subst, ◌∙◌, inl, inr, append_assoc, arith, ◌==◌, if◌then◌else◌, false_from_ne_true, nat_tests, Basic, Composite, Event, Kind, System, KeepSteps, all_lines, last_look, IsTaking, IsTakingAt, IsTakingWith, Left, Look, Taking, left_at, most, opening_look, with_left, Watches}
use Rattle.fb_types.proofs.Common.{◌≢◌}
use Rattle.fb_inspect.specs.Refusals.{IsTooMany}
use Rattle.fb_inspect.proofs.lemmas.walk.WalkedTakings.{look_more}
use Rattle.fb_inspect.proofs.lemmas.walk.Walked.{one_or_other}

-- ---- The steps after a taking

taking_steps : (sys : System) (limit : ℕ) (look : Look) (x : Taking) → IsTaking sys limit look x → (left : ℕ) × (x.after.steps ≡ (with_left x.first.key left look).steps)
taking_steps sys limit look x taking = by_left (left_at limit x.first.key.tick (look.steps x.first.key.resource)) taking
  where
    by_kind : (left : ℕ) (k : Option Kind) → IsTakingAt left look k x → (n : ℕ) × (x.after.steps ≡ (with_left x.first.key n look).steps)
    by_kind left None h = absurd h
    by_kind left (Some (Basic t)) h = (h.end.left, ap (λ (l : Look). l.steps) h.is)
    by_kind left (Some (Event kind)) (inl h) = (left, ap (λ (l : Look). l.steps) h.is.2)
    by_kind left (Some (Event kind)) (inr h) = (left, ap (λ (l : Look). l.steps) h.is.2)
    by_kind left (Some (Composite c)) h = (left, ap (λ (l : Look). l.steps) h.is)

    by_left : (left : ℕ) → IsTakingWith sys look left x → (n : ℕ) × (x.after.steps ≡ (with_left x.first.key n look).steps)
    by_left zero h = absurd h
    by_left (suc left) h = by_kind left (sys.kind x.first.at) h.1

steps_other : (sys : System) (limit : ℕ) (look : Look) (x : Taking) → IsTaking sys limit look x → (r : ℕ) → r ≢ x.first.key.resource → x.after.steps r ≡ look.steps r
steps_other sys limit look x taking r differ =
    let all = taking_steps sys limit look x taking in
    let theirs : (r == x.first.key.resource) ≡ false = false_from_ne_true (r == x.first.key.resource) (λ e. differ (grind (arith, nat_tests))) in
    ap (λ (f : ℕ → Left). f r) all.1
    ∙ ap (λ (b : Bool). if b then record { tick = Some x.first.key.tick; left = all.0; least = min (look.steps x.first.key.resource).least all.0 } else look.steps r) theirs

-- ---- What was watched

module _ (sys : System) (steps : ℕ) (takings : List Taking) (x : Taking) (taking_is : IsTaking sys most (last_look (opening_look sys) takings) x) where
  abbrev more : List Taking
  more = takings ++ x ∷ []

  kept_on :
      KeepSteps sys steps (last_look (opening_look sys) takings) → (x.first.key.resource < length sys.resource_names → most ≤ (x.after.steps x.first.key.resource).least + steps)
      → KeepSteps sys steps (last_look (opening_look sys) more)
  kept_on kept own r within =
      subst (λ (l : Look). most ≤ (l.steps r).least + steps) (sym (look_more (opening_look sys) takings x))
      (one_or_other r x.first.key.resource (most ≤ (x.after.steps r).least + steps)
      (λ same. subst (λ (q : ℕ). most ≤ (x.after.steps q).least + steps) (sym same) (own (subst (λ (q : ℕ). q < length sys.resource_names) same within)))
      (λ differ.
      subst (λ (l : Left). most ≤ l.least + steps) (sym (steps_other sys most (last_look (opening_look sys) takings) x taking_is r differ)) (kept r within)))

  excess_more : (n : ℕ) → IsTooMany sys steps takings n → IsTooMany sys steps more n
  excess_more n is = record {
    before = is.before;
    taking = is.taking;
    later = is.later ++ x ∷ [];
    parts = ap (λ (ts : List Taking). ts ++ x ∷ []) is.parts ∙ append_assoc is.before (is.taking ∷ is.later) (x ∷ []);
    kept = is.kept;
    over = is.over;
    numbered = is.numbered;
  }

  pub watches_on :
      (n : ℕ) (old new : Option ℕ) (over : Bool) → Watches sys steps takings old → n ≡ length (all_lines takings) + 1 → ((first : ℕ) → old ≡ Some first → new ≡ Some first)
      → (old ≡ None → over ≡ true → new ≡ Some n) → (old ≡ None → over ≡ false → new ≡ None)
      → (over ≡ true → (x.first.key.resource < length sys.resource_names) × (most ≤ (x.after.steps x.first.key.resource).least + steps → ⊥))
      → (over ≡ false → x.first.key.resource < length sys.resource_names → most ≤ (x.after.steps x.first.key.resource).least + steps)
      → Watches sys steps more new
  watches_on n (Some k) new over is counted first set unset too kept = subst (Watches sys steps more) (sym (first k refl)) (excess_more k is)
  watches_on n None new true is counted first set unset too kept =
      subst (Watches sys steps more) (sym (set refl refl))
      (record {
        before = takings;
        taking = x;
        later = [];
        parts = refl;
        kept = is;
        over = λ all. (too refl).1 (all x.first.key.resource (too refl).0);
        numbered = counted;
      })
  watches_on n None new false is counted first set unset too kept = subst (Watches sys steps more) (sym (unset refl refl)) (kept_on is (kept refl))
