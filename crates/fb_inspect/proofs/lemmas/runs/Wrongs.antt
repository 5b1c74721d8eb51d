-- What comes after the first lines of a row of takings that ends as a run, whatever its end is.
use Rattle.fb_inspect.proofs.lemmas.Common.{◌≡◌, ◌⊎◌, ℕ, ◌+◌, ◌≤◌, List, [], ◌∷◌, ◌++◌, Option, Some, None, sym, ◌∙◌, ap, subst, inl, inr, append-nil, append_assoc, append_cancel_left, same_Some, AtHorizon, AtStop, Ending, System, Reason, Steps, Divide, Range, AreTakings, EndsBySteps, EndsSo, KeepSteps, NoneStops, NothingAfter, all_lines, last_look, stop_of, IsTaking, Look, Taking, most, opening_look, taking_lines, MayEnd}
use Rattle.fb_types.specs.States.{Line}
use Rattle.fb_inspect.proofs.lemmas.runs.RunContinues.{taking_after}
use Rattle.fb_inspect.proofs.lemmas.reactions.OneTaking.{first_line, nothing, row_one, taking_one}
use Rattle.fb_inspect.proofs.lemmas.runs.Rightly.{GoesRight, StopsLast, StopsRight, after_part, chain_after, look_push, none_at, none_stops, parted, steps_begin, steps_end, steps_go, steps_stop_at, stop_none, stop_push, unpush}
use Rattle.fb_inspect.proofs.lemmas.runs.Splits.{EndsIn, GoesPast, IsBasic, basic_or_not, free_keeps, keep_row, no_lines}

module _ (sys : System) (limit : ℕ) (within : limit ≤ most) (ys : List Taking) (are : AreTakings sys most (opening_look sys) ys) where
  abbrev look : Look
  look = opening_look sys

  abbrev at : Look
  at = last_look look ys

  -- ---- Rows of takings with the greatest limit

  module _ (xs : List Taking) (chain : AreTakings sys most look xs) where
    chain_begins : (l : Line) (more : List Line) → all_lines xs ≡ all_lines ys ++ l ∷ more → (x : Taking) × (x.first ≡ l) × IsTaking sys most at x
    chain_begins l more e =
        let split = row_one sys most look ys xs (l ∷ more) are chain e in
        by split.0 split.1 split.2
      where
        by : (zs : List Taking) → xs ≡ ys ++ zs → all_lines zs ≡ l ∷ more → (x : Taking) × (x.first ≡ l) × IsTaking sys most at x
        by [] parts lines = absurd (nothing l more lines)
        by (z ∷ zs) parts lines = (z, first_line z.first l _ more lines, taking_after sys look ys zs z (subst (λ (ts : List Taking). AreTakings sys most look ts) parts chain))

    -- the row after these, where it goes on with the first line of a taking
    record GoesWith (z : Taking) (rest : List Line) : Type 0 where
      zs : List Taking
      w : Taking
      parts : xs ≡ ys ++ w ∷ zs
      same : w ≡ z
      lines : taking_lines z ++ all_lines zs ≡ rest

    goes_with : (z : Taking) (more : List Line) → IsTaking sys most at z → all_lines xs ≡ all_lines ys ++ z.first ∷ more → GoesWith z (z.first ∷ more)
    goes_with z more is_taking e =
        let split = row_one sys most look ys xs (z.first ∷ more) are chain e in
        by split.0 split.1 split.2
      where
        by : (zs : List Taking) → xs ≡ ys ++ zs → all_lines zs ≡ z.first ∷ more → GoesWith z (z.first ∷ more)
        by [] parts lines = absurd (nothing z.first more lines)
        by (w ∷ zs) parts lines =
            let same : w ≡ z = taking_one sys most at w z (taking_after sys look ys zs w (subst (λ (ts : List Taking). AreTakings sys most look ts) parts chain)) is_taking (first_line w.first z.first _ more lines) in
            record { zs = zs; w = w; parts = parts; same = same; lines = ap (λ (v : Taking). taking_lines v ++ all_lines zs) (sym same) ∙ lines }

    chain_goes :
        (end : Ending) (z : Taking) (passed : List Line) (next : Line) (more back : List Line) → IsTaking sys most at z → taking_lines z ≡ (z.first ∷ passed) ++ next ∷ more
        → all_lines xs ≡ all_lines ys ++ ((z.first ∷ passed) ++ back) → (rest : List Line) × (back ≡ next ∷ rest)
    chain_goes end z passed next more back is_taking parts e =
        let g = goes_with z (passed ++ back) is_taking e in (more ++ all_lines g.zs, sym (after_part z passed next more back (all_lines g.zs) parts g.lines))

    -- a taking that stops its resource is the last one
    record StopsWith (z : Taking) (back : List Line) : Type 0 where
      whole : xs ≡ ys ++ z ∷ []
      none : back ≡ []

    chain_stops : (z : Taking) (reason : Reason) (back : List Line) → IsTaking sys most at z → z.stop ≡ Some reason → all_lines xs ≡ all_lines ys ++ (taking_lines z ++ back) → StopsWith z back
    chain_stops z reason back is_taking stop e =
        let g = goes_with z _ is_taking e in
        let last : NothingAfter g.w.stop g.zs = (chain_after sys look ys g.zs g.w (subst (λ (ts : List Taking). AreTakings sys most look ts) g.parts chain)).0 in
        let none : g.zs ≡ [] = subst (λ (s : Option Reason). NothingAfter s g.zs) (ap (λ (v : Taking). v.stop) g.same ∙ stop) last in
        record {
          whole = g.parts ∙ ap (λ (v : Taking). ys ++ v ∷ g.zs) g.same ∙ ap (λ (ts : List Taking). ys ++ z ∷ ts) none;
          none = sym (append_cancel_left (taking_lines z) (all_lines g.zs) back g.lines) ∙ ap all_lines none;
        }

    chain_same : all_lines xs ≡ all_lines ys → xs ≡ ys
    chain_same e =
        let split = row_one sys most look ys xs [] are chain (e ∙ sym (append-nil (all_lines ys))) in
        split.1 ∙ ap (λ (ts : List Taking). ys ++ ts) (no_lines split.0 split.2) ∙ append-nil ys

    stop_ends : (end : Ending) → stop_of xs ≡ Some end → (z : Taking) (reason : Reason) (back : List Line) → IsTaking sys most at z → z.stop ≡ Some reason → all_lines xs ≡ all_lines ys ++ (taking_lines z ++ back)
        → StopsRight sys limit within ys are z reason back end
    stop_ends end stops z reason back is_taking stop e =
        let g = chain_stops z reason back is_taking stop e in
        let own : stop_of (z ∷ []) ≡ Some (AtStop z.first.key.tick z.first.key.resource reason) =
        ap (λ (s : Option Reason). elim s [ None ↦ None | Some r ↦ Some (AtStop z.first.key.tick z.first.key.resource r) ]) stop
        in
        (g.none, inl (same_Some end _ (sym stops ∙ ap stop_of g.whole ∙ stop_push ys z ∙ own)))

  -- ---- Any row

  module _ (xs : List Taking) where
    -- the next line begins a taking
    pub begins_right : (end : Ending) → EndsSo sys limit xs end → (l : Line) (more : List Line) → all_lines xs ≡ all_lines ys ++ l ∷ more → (x : Taking) × (x.first ≡ l) × IsTaking sys most at x
    begins_right (AtHorizon h) ends l more e = chain_begins xs ends.0 l more e
    begins_right (AtStop t r Steps) ends l more e = steps_begin sys limit within ys are t r xs ends l more e
    begins_right (AtStop t r Divide) ends l more e = chain_begins xs ends.0 l more e
    begins_right (AtStop t r Range) ends l more e = chain_begins xs ends.0 l more e

    -- the row may end there
    pub ends_right : (end : Ending) → EndsSo sys limit xs end → NoneStops ys → all_lines xs ≡ all_lines ys → MayEnd sys limit at end ⊎ StopsLast sys limit within ys are end
    ends_right (AtHorizon h) ends goes e = inl tt
    ends_right (AtStop t r Steps) ends goes e = steps_end sys limit within ys are t r xs ends e
    ends_right (AtStop t r Divide) ends goes e = absurd (stop_none ys (AtStop t r Divide) goes (ap stop_of (sym (chain_same xs ends.0 e)) ∙ ends.1))
    ends_right (AtStop t r Range) ends goes e = absurd (stop_none ys (AtStop t r Range) goes (ap stop_of (sym (chain_same xs ends.0 e)) ∙ ends.1))

    -- after some lines of a taking comes its next one
    pub goes_right :
        (end : Ending) → EndsSo sys limit xs end → (z : Taking) (passed : List Line) (next : Line) (more back : List Line) → IsTaking sys most at z → taking_lines z ≡ (z.first ∷ passed) ++ next ∷ more
        → all_lines xs ≡ all_lines ys ++ ((z.first ∷ passed) ++ back) → GoesRight sys limit within ys are z next back end
    goes_right (AtHorizon h) ends z passed next more back is_taking parts e = inl (chain_goes xs ends.0 (AtHorizon h) z passed next more back is_taking parts e)
    goes_right (AtStop t r Steps) ends z passed next more back is_taking parts e = steps_go sys limit within ys are t r xs ends z passed next more back is_taking parts e
    goes_right (AtStop t r Divide) ends z passed next more back is_taking parts e = inl (chain_goes xs ends.0 (AtStop t r Divide) z passed next more back is_taking parts e)
    goes_right (AtStop t r Range) ends z passed next more back is_taking parts e = inl (chain_goes xs ends.0 (AtStop t r Range) z passed next more back is_taking parts e)

    -- after a taking that stops its resource the row ends
    pub stops_right :
        (end : Ending) → EndsSo sys limit xs end → (z : Taking) (reason : Reason) (back : List Line) → IsTaking sys most at z → z.stop ≡ Some reason → all_lines xs ≡ all_lines ys ++ (taking_lines z ++ back)
        → StopsRight sys limit within ys are z reason back end
    stops_right (AtHorizon h) ends z reason back is_taking stop e =
        let g = chain_stops xs ends.0 z reason back is_taking stop e in
        absurd (none_stops z.stop reason (none_at ys [] z (subst NoneStops g.whole ends.1)) stop)
    stops_right (AtStop t r Steps) ends z reason back is_taking stop e = steps_stop_at sys limit within ys are t r xs ends z reason back is_taking stop e
    stops_right (AtStop t r Divide) ends z reason back is_taking stop e = stop_ends xs ends.0 (AtStop t r Divide) ends.1 z reason back is_taking stop e
    stops_right (AtStop t r Range) ends z reason back is_taking stop e = stop_ends xs ends.0 (AtStop t r Range) ends.1 z reason back is_taking stop e

-- ---- Steps that were not kept

-- After a taking that used too many steps a row ends for its steps only if that is of a basic block and the last one.
module _ (sys : System) (limit : ℕ) (within : limit ≤ most) (ys : List Taking) (z : Taking) (later : List Taking) (are : AreTakings sys most (opening_look sys) (ys ++ z ∷ later)) (over : KeepSteps sys limit z.after → ⊥)
    (t r : ℕ) (xs : List Taking) (ends : EndsBySteps sys limit t r xs) (untaken : List Line) where
  abbrev whole : List Taking
  whole = ys ++ z ∷ later

  pub record UsesLast : Type 0 where
    pub no_later : later ≡ []
    pub no_line : untaken ≡ []
    pub basic : IsBasic sys z.first
    pub tick : z.first.key.tick ≡ t
    pub resource : z.first.key.resource ≡ r

  abbrev Inside : Type 0
  Inside = EndsIn sys limit within (opening_look sys) whole are ends.limited_so.before ends.limited_so.last ends.limited_so.chain t r ends.limited_so.one ends.limited_so.within ends.limited_so.judged untaken

  -- the steps were kept after later takings
  kept_later : (more : List Taking) → ends.limited_so.before ≡ ys ++ z ∷ more → KeepSteps sys limit z.after
  kept_later more parts =
      let chain = subst (λ (ts : List Taking). AreTakings sys most (opening_look sys) ts) parts ends.limited_so.chain in
      let kept = subst (λ (ts : List Taking). KeepSteps sys limit (last_look (opening_look sys) ts)) parts ends.limited_so.kept in
      keep_row sys limit z.after more (chain_after sys (opening_look sys) ys more z chain).1 (subst (KeepSteps sys limit) (look_push (opening_look sys) ys more z) kept)

  pub too_many : all_lines xs ≡ all_lines whole ++ untaken → UsesLast
  too_many e = by (parted sys limit within whole are t r xs ends untaken e)
    where
      last_one : (inside : Inside) → later ≡ [] → ys ≡ ends.limited_so.before → z ≡ inside.z → IsBasic sys z.first ⊎ (IsBasic sys z.first → ⊥) → UsesLast
      last_one inside none same is (inl basic) =
          let first : z.first ≡ inside.x.first = ap (λ (v : Taking). v.first) is ∙ inside.first in
          record {
            no_later = none;
            no_line = inside.none;
            basic = basic;
            tick = ap (λ (l : Line). l.key.tick) first ∙ inside.is_last.tick;
            resource = ap (λ (l : Line). l.key.resource) first ∙ inside.is_last.resource;
          }
      last_one inside none same is (inr other) =
          let first : z.first ≡ inside.x.first = ap (λ (v : Taking). v.first) is ∙ inside.first in
          let plain : IsBasic sys inside.x.first → ⊥ = subst (λ (l : Line). IsBasic sys l → ⊥) first other in
          let kept =
          free_keeps sys limit within (last_look (opening_look sys) ends.limited_so.before) inside.x inside.z inside.is_last.keeps_so inside.is_last.near inside.free inside.first plain ends.limited_so.kept
          in
          absurd (over (subst (λ (v : Taking). KeepSteps sys limit v.after) (sym is) kept))

      inside_by : (inside : Inside) → ((later ≡ []) × (ys ≡ ends.limited_so.before) × (z ≡ inside.z)) ⊎ ((mid : List Taking) × (ends.limited_so.before ≡ ys ++ z ∷ mid)) → UsesLast
      inside_by inside (inl h) = last_one inside h.0 h.1 h.2 (basic_or_not sys z.first)
      inside_by inside (inr h) = absurd (over (kept_later h.0 h.1))

      by : GoesPast sys limit within (opening_look sys) whole are ends.limited_so.before ends.limited_so.last ends.limited_so.chain t r ends.limited_so.one ends.limited_so.within ends.limited_so.judged untaken ⊎ Inside → UsesLast
      by (inl past) = absurd (over (kept_later (later ++ past.more) (past.parts ∙ append_assoc ys (z ∷ later) past.more)))
      by (inr inside) = inside_by inside (unpush ys z later ends.limited_so.before inside.z inside.parts)
