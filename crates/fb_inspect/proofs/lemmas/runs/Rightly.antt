-- What comes after the first lines of a row of takings that ends as a run.
use Rattle.fb_inspect.proofs.lemmas.Common.{◌≡◌, ◌⊎◌, ℕ, suc, ◌+◌, ◌-◌, ◌≤◌, true, false, List, [], ◌∷◌, ◌++◌, length, map, Option, Some, None, refl, sym, ◌∙◌, ap, subst, inl, inr, append-nil, append_assoc, arith, append_cancel_left, length-append, length-map, map-append, Basic, Emission, Kind, Each, AtStop, Ending, System, BasicType, Reason, Steps, AreTakings, EndsBySteps, KeepSteps, NoneStops, NothingAfter, RunsOut, all_lines, last_look, limited, stop_of, IsTaking, IsTakingAt, Look, Taking, emission_line, left_at, most, opening_look, taking_lines, MayEnd}
use Rattle.fb_types.specs.States.{Line}
use Rattle.fb_inspect.proofs.lemmas.runs.RunContinues.{all_both, last_none, limited_at, tails, taking_after}
use Rattle.fb_inspect.proofs.lemmas.reactions.OneTaking.{first_line, nothing, taking_one}
use Rattle.fb_inspect.proofs.lemmas.runs.Splits.{EndsIn, GoesPast, IsBasic, IsLast, Keeps, Near, basic_or_not, begins, free_after, free_keeps, free_there, last_there, near_after, no_length, no_lines, no_part, plain_emits, plain_stops, split, takings_at}

-- ---- Rows

pub none_stops : (s : Option Reason) (r : Reason) → s ≡ None → s ≡ Some r → ⊥
none_stops s r a b = cc

pub none_at : (ys zs : List Taking) (z : Taking) → NoneStops (ys ++ z ∷ zs) → z.stop ≡ None
none_at [] zs z h = h.0
none_at (y ∷ ys) zs z h = none_at ys zs z h.1

pub stop_none : (ys : List Taking) (e : Ending) → NoneStops ys → stop_of ys ≡ Some e → ⊥
stop_none [] e h is = let clash : None ≡ Some e = is in cc
stop_none (y ∷ []) e h is =
    let none : stop_of (y ∷ []) ≡ None = ap (λ (s : Option Reason). elim s [ None ↦ None | Some r ↦ Some (AtStop y.first.key.tick y.first.key.resource r) ]) h.0 in
    let clash : None ≡ Some e = sym none ∙ is in
    cc
stop_none (y ∷ x ∷ ys) e h is = stop_none (x ∷ ys) e h.1 is

pub stop_push : (ys : List Taking) (z : Taking) → stop_of (ys ++ z ∷ []) ≡ stop_of (z ∷ [])
stop_push [] z = refl
stop_push (y ∷ []) z = refl
stop_push (y ∷ x ∷ ys) z = stop_push (x ∷ ys) z

pub look_push : (look : Look) (ys zs : List Taking) (z : Taking) → last_look look (ys ++ z ∷ zs) ≡ last_look z.after zs
look_push look [] zs z = refl
look_push look (y ∷ ys) zs z = look_push y.after ys zs z

pub chain_after : (sys : System) (look : Look) (ys zs : List Taking) (z : Taking) → AreTakings sys most look (ys ++ z ∷ zs) → NothingAfter z.stop zs × AreTakings sys most z.after zs
chain_after sys look [] zs z h = (h.1, h.2)
chain_after sys look (y ∷ ys) zs z h = chain_after sys y.after ys zs z h.2

heads : (x y : Taking) (xs ys : List Taking) → x ∷ xs ≡ y ∷ ys → (x ≡ y) × (xs ≡ ys)
heads x y xs ys e = (cc, cc)

some_taking : (x : Taking) (xs : List Taking) → [] ≡ x ∷ xs → ⊥
some_taking x xs e = cc

none_pushed : (front : List Taking) (z : Taking) (more : List Taking) → [] ≡ front ++ z ∷ more → ⊥
none_pushed [] z more e = some_taking z more e
none_pushed (y ∷ front) z more e = some_taking y (front ++ z ∷ more) e

-- what stands before the last taking of a row
pub unpush : (xs : List Taking) (b : Taking) (bs cs : List Taking) (w : Taking) → xs ++ b ∷ bs ≡ cs ++ w ∷ [] → ((bs ≡ []) × (xs ≡ cs) × (b ≡ w)) ⊎ ((mid : List Taking) × (cs ≡ xs ++ b ∷ mid))
unpush [] b bs [] w e = let h = heads b w bs [] e in inl (h.1, refl, h.0)
unpush [] b bs (c ∷ cs) w e = inr (cs, ap (λ (z : Taking). z ∷ cs) (sym (heads b c bs (cs ++ w ∷ []) e).0))
unpush (a ∷ xs) b bs [] w e = absurd (none_pushed xs b bs (sym (heads a w (xs ++ b ∷ bs) [] e).1))
unpush (a ∷ xs) b bs (c ∷ cs) w e = by (unpush xs b bs cs w (heads a c (xs ++ b ∷ bs) (cs ++ w ∷ []) e).1)
  where
    by : ((bs ≡ []) × (xs ≡ cs) × (b ≡ w)) ⊎ ((mid : List Taking) × (cs ≡ xs ++ b ∷ mid)) → ((bs ≡ []) × (a ∷ xs ≡ c ∷ cs) × (b ≡ w)) ⊎ ((mid : List Taking) × (c ∷ cs ≡ (a ∷ xs) ++ b ∷ mid))
    by (inl h) = inl (h.0, ap (λ (z : Taking). z ∷ xs) (heads a c (xs ++ b ∷ bs) (cs ++ w ∷ []) e).0 ∙ ap (λ (zs : List Taking). c ∷ zs) h.1, h.2)
    by (inr h) = inr (h.0, ap (λ (z : Taking). z ∷ cs) (sym (heads a c (xs ++ b ∷ bs) (cs ++ w ∷ []) e).0) ∙ ap (λ (zs : List Taking). a ∷ zs) h.1)

pub each_at : {A : Type 0} (P : A → Type 0) (xs : List A) (y : A) (zs : List A) → Each P (xs ++ y ∷ zs) → P y
each_at P [] y zs h = h.0
each_at P (x ∷ xs) y zs h = each_at P xs y zs h.1

-- a line of an emission of the instance of another line
abbrev pub IsRowOf : Line → Line → Type 0
IsRowOf first l = (l.taken ≡ false) × (l.at ≡ first.at)

-- the lines of a taking, and of one that goes further
lines_begin : (x z : Taking) → z.first ≡ x.first → (rest : List Emission) → z.emits ≡ x.emits ++ rest → taking_lines z ≡ taking_lines x ++ map (emission_line x.first) rest
lines_begin x z first rest e =
    ap (λ (l : Line). l ∷ map (emission_line l) z.emits) first
    ∙ ap (λ (es : List Emission). x.first ∷ map (emission_line x.first) es) e
    ∙ ap (λ (ls : List Line). x.first ∷ ls) (map-append (emission_line x.first) x.emits rest)

lines_length : (x : Taking) → length (taking_lines x) ≡ suc (length x.emits)
lines_length x = ap suc (length-map x.emits (emission_line x.first))

-- what comes after some lines of a taking, where all of them are there
pub after_part :
    (z : Taking) (passed : List Line) (next : Line) (more back rest : List Line) → taking_lines z ≡ (z.first ∷ passed) ++ next ∷ more → taking_lines z ++ rest ≡ (z.first ∷ passed) ++ back → next ∷ (more ++ rest) ≡ back
after_part z passed next more back rest parts all =
    append_cancel_left (z.first ∷ passed) (next ∷ (more ++ rest)) back (sym (append_assoc (z.first ∷ passed) (next ∷ more) rest) ∙ ap (λ (ls : List Line). ls ++ rest) (sym parts) ∙ all)

module _ (sys : System) (limit : ℕ) (within : limit ≤ most) (ys : List Taking) (are : AreTakings sys most (opening_look sys) ys) where
  abbrev look : Look
  look = opening_look sys

  abbrev pub here : Look
  here = last_look look ys

  -- ---- Rows without a last taking of its own

  -- the taking after these, of a row that goes on
  first_is : (xs : List Taking) → AreTakings sys most look xs → (zs : List Taking) (z w : Taking) → xs ≡ ys ++ w ∷ zs → IsTaking sys most here z → w.first ≡ z.first → w ≡ z
  first_is xs chain zs z w parts is_taking first = taking_one sys most here w z (taking_after sys look ys zs w (subst (λ (ts : List Taking). AreTakings sys most look ts) parts chain)) is_taking first

  -- ---- What may come

  -- the taking of a basic block that a row ends with, and that stops it for its steps, which were kept before
  abbrev pub StopsLast : Ending → Type 0
  StopsLast end = (front : List Taking) × (z : Taking) × (ys ≡ front ++ z ∷ []) × IsBasic sys z.first × (end ≡ AtStop z.first.key.tick z.first.key.resource Steps)
      × KeepSteps sys limit (last_look look front)

  -- what comes after some lines of a taking is its next line, or the taking is of a basic block and the run stops there for its steps
  abbrev pub GoesRight : Taking → Line → (back : List Line) → Ending → Type 0
  GoesRight z next back end = ((rest : List Line) × (back ≡ next ∷ rest)) ⊎ ((back ≡ []) × IsBasic sys z.first × (end ≡ AtStop z.first.key.tick z.first.key.resource Steps))

  -- after a taking that stops its resource comes the end
  abbrev pub StopsRight : Taking → Reason → (back : List Line) → Ending → Type 0
  StopsRight z reason back end =
      (back ≡ []) × ((end ≡ AtStop z.first.key.tick z.first.key.resource reason) ⊎ (IsBasic sys z.first × (end ≡ AtStop z.first.key.tick z.first.key.resource Steps)))

  -- ---- The rows of a run that stops for its steps

  module _ (t r : ℕ) (xs : List Taking) (ends : EndsBySteps sys limit t r xs) where
    abbrev before : List Taking
    before = ends.limited_so.before

    abbrev last : List Taking
    last = ends.limited_so.last

    abbrev at : Look
    at = last_look look before

    abbrev Last : Taking → Type 0
    Last x = IsLast sys limit within look ys are before last ends.limited_so.chain t r ends.limited_so.one ends.limited_so.within ends.limited_so.judged x

    abbrev Past : List Line → Type 0
    Past rest = GoesPast sys limit within look ys are before last ends.limited_so.chain t r ends.limited_so.one ends.limited_so.within ends.limited_so.judged rest

    abbrev Inside : List Line → Type 0
    Inside rest = EndsIn sys limit within look ys are before last ends.limited_so.chain t r ends.limited_so.one ends.limited_so.within ends.limited_so.judged rest

    pub parted : (rest : List Line) → all_lines xs ≡ all_lines ys ++ rest → Past rest ⊎ Inside rest
    parted rest e =
        split sys limit within look ys are before last ends.limited_so.chain t r ends.limited_so.one ends.limited_so.within ends.limited_so.judged rest
        (sym (all_both sys before last) ∙ ap all_lines (sym ends.limited_so.parts) ∙ e)

    is_last : (x : Taking) (xs : List Taking) → last ≡ x ∷ xs → Last x
    is_last x xs e = last_there sys limit within look ys are before last ends.limited_so.chain t r ends.limited_so.one ends.limited_so.within ends.limited_so.judged x xs e

    at_here : before ≡ ys ++ [] → at ≡ here
    at_here e = ap (last_look look) e ∙ last_none sys look ys

    stops_at : (x : Taking) → Last x → AtStop t r Steps ≡ AtStop x.first.key.tick x.first.key.resource Steps
    stops_at x is = ap (λ (n : ℕ). AtStop n r Steps) (sym is.tick) ∙ ap (λ (n : ℕ). AtStop x.first.key.tick n Steps) (sym is.resource)

    runs_out : (x : Taking) → Last x → (x.stop ≡ Some Steps) ⊎ ((x.stop ≡ None) × (left_at limit x.first.key.tick (x.after.steps x.first.key.resource) ≡ 0))
    runs_out x is =
        let out : RunsOut limit t r (limited limit t r at) (x ∷ []) = subst (RunsOut limit t r (limited limit t r at)) is.last_is ends.runs_out in
        by out
      where
        by : RunsOut limit t r (limited limit t r at) (x ∷ []) → (x.stop ≡ Some Steps) ⊎ ((x.stop ≡ None) × (left_at limit x.first.key.tick (x.after.steps x.first.key.resource) ≡ 0))
        by (inl stop) = inl stop
        by (inr h) =
            inr (
              h.0,
              subst (λ (n : ℕ). left_at limit x.first.key.tick (x.after.steps n) ≡ 0) (sym is.resource) (subst (λ (n : ℕ). left_at limit n (x.after.steps r) ≡ 0) (sym is.tick) h.1),
            )

    -- a taking after the others
    next_past : (l : Line) (more : List Line) → Past (l ∷ more) → (x : Taking) × (x.first ≡ l) × IsTaking sys most here x
    next_past l more past = by past.more past.parts past.lines
      where
        from_last : (ls : List Taking) → last ≡ ls → before ≡ ys ++ [] → all_lines last ≡ l ∷ more → (x : Taking) × (x.first ≡ l) × IsTaking sys most here x
        from_last [] e parts lines = absurd (nothing l more (ap all_lines (sym e) ∙ lines))
        from_last (x ∷ ls) e parts lines =
            let is = is_last x ls e in
            let first : x.first ≡ l = first_line x.first l _ more (ap all_lines (sym is.last_is) ∙ lines) in
            let free = free_there sys limit within at x is.keeps_so is.near in
            (free.0, free.1 ∙ first, subst (λ (g : Look). IsTaking sys most g free.0) (at_here parts) free.2)

        by : (zs : List Taking) → before ≡ ys ++ zs → all_lines zs ++ all_lines last ≡ l ∷ more → (x : Taking) × (x.first ≡ l) × IsTaking sys most here x
        by [] parts lines = from_last last refl parts lines
        by (z ∷ zs) parts lines = (z, first_line z.first l _ more lines, taking_after sys look ys zs z (subst (λ (ts : List Taking). AreTakings sys most look ts) parts ends.limited_so.chain))

    pub steps_begin : (l : Line) (more : List Line) → all_lines xs ≡ all_lines ys ++ l ∷ more → (x : Taking) × (x.first ≡ l) × IsTaking sys most here x
    steps_begin l more e = by (parted (l ∷ more) e)
      where
        by : Past (l ∷ more) ⊎ Inside (l ∷ more) → (x : Taking) × (x.first ≡ l) × IsTaking sys most here x
        by (inl past) = next_past l more past
        by (inr inside) = absurd (nothing l more (sym inside.none))

    -- ---- No more lines

    pub steps_end : all_lines xs ≡ all_lines ys → MayEnd sys limit here (AtStop t r Steps) ⊎ StopsLast (AtStop t r Steps)
    steps_end e = by (parted [] (e ∙ sym (append-nil (all_lines ys))))
      where
        free_end : Past [] → MayEnd sys limit here (AtStop t r Steps)
        free_end past =
            let none = no_part (all_lines past.more) (all_lines last) past.lines in
            let parts : before ≡ ys ++ [] = past.parts ∙ ap (λ (ts : List Taking). ys ++ ts) (no_lines past.more none.0) in
            let out : RunsOut limit t r (limited limit t r at) [] = subst (RunsOut limit t r (limited limit t r at)) (no_lines last none.1) ends.runs_out in
            let left = limited_at sys limit within at t r in
            let keeps = ends.limited_so.within in
            let exact : left_at most t (at.steps r) + limit ≡ most = omega (arith, out, left, keeps) in
            (subst (λ (g : Look). left_at most t (g.steps r) + limit ≡ most) (at_here parts) exact, subst (KeepSteps sys limit) (at_here parts) ends.limited_so.kept)

        plain_end : (inside : Inside []) → (IsBasic sys inside.z.first → ⊥) → MayEnd sys limit here (AtStop t r Steps)
        plain_end inside other =
            let x = inside.x in
            let z = inside.z in
            let is = inside.is_last in
            let plain : IsBasic sys x.first → ⊥ = subst (λ (l : Line). IsBasic sys l → ⊥) inside.first other in
            let stops = plain_stops sys limit within at x z is.keeps_so is.near inside.free inside.first plain in
            let near = near_after sys limit within at x z is.keeps_so is.near inside.free inside.first plain in
            let free = free_after sys limit within at x z is.keeps_so is.near inside.free inside.first plain in
            let last_here : here ≡ z.after = ap (last_look look) inside.parts ∙ look_push look before [] z in
            let out = used x (runs_out x is) stops.0 in
            let exact : left_at most x.first.key.tick (z.after.steps x.first.key.resource) + limit ≡ most = omega (arith, near, free, out, within) in
            let there : left_at most t (z.after.steps r) + limit ≡ most =
            subst (λ (n : ℕ). left_at most t (z.after.steps n) + limit ≡ most) is.resource (subst (λ (n : ℕ). left_at most n (z.after.steps x.first.key.resource) + limit ≡ most) is.tick exact)
            in (
              subst (λ (g : Look). left_at most t (g.steps r) + limit ≡ most) (sym last_here) there,
              subst (KeepSteps sys limit) (sym last_here) (free_keeps sys limit within at x z is.keeps_so is.near inside.free inside.first plain ends.limited_so.kept),
            )
          where
            used : (x : Taking) → (x.stop ≡ Some Steps) ⊎ ((x.stop ≡ None) × (left_at limit x.first.key.tick (x.after.steps x.first.key.resource) ≡ 0)) → x.stop ≡ None
                → left_at limit x.first.key.tick (x.after.steps x.first.key.resource) ≡ 0
            used x (inl stop) none = absurd (none_stops x.stop Steps none stop)
            used x (inr h) none = h.1

        inside_end : (inside : Inside []) → IsBasic sys inside.z.first ⊎ (IsBasic sys inside.z.first → ⊥) → MayEnd sys limit here (AtStop t r Steps) ⊎ StopsLast (AtStop t r Steps)
        inside_end inside (inl basic) =
            inr (
              before,
              inside.z,
              inside.parts,
              basic,
              stops_at inside.x inside.is_last ∙ ap (λ (l : Line). AtStop l.key.tick l.key.resource Steps) (sym inside.first),
              ends.limited_so.kept,
            )
        inside_end inside (inr other) = inl (plain_end inside other)

        by : Past [] ⊎ Inside [] → MayEnd sys limit here (AtStop t r Steps) ⊎ StopsLast (AtStop t r Steps)
        by (inl past) = inl (free_end past)
        by (inr inside) = inside_end inside (basic_or_not sys inside.z.first)

    -- ---- After the first lines of a taking

    pub steps_go : (z : Taking) (passed : List Line) (next : Line) (more back : List Line) → IsTaking sys most here z → taking_lines z ≡ (z.first ∷ passed) ++ next ∷ more
        → all_lines xs ≡ all_lines ys ++ ((z.first ∷ passed) ++ back) → GoesRight z next back (AtStop t r Steps)
    steps_go z passed next more back is_taking parts e = by (parted ((z.first ∷ passed) ++ back) e)
      where
        from_last : (ls : List Taking) → last ≡ ls → before ≡ ys ++ [] → all_lines last ≡ (z.first ∷ passed) ++ back → GoesRight z next back (AtStop t r Steps)
        from_last [] none whole lines = absurd (nothing z.first (passed ++ back) (ap all_lines (sym none) ∙ lines))
        from_last (x ∷ ls) is whole lines = stopped x (is_last x ls is)
          where
            stopped : (x : Taking) → Last x → GoesRight z next back (AtStop t r Steps)
            stopped x is_x =
                let all : taking_lines x ++ [] ≡ (z.first ∷ passed) ++ back = ap all_lines (sym is_x.last_is) ∙ lines in
                let first : z.first ≡ x.first = sym (first_line x.first z.first _ _ all) in
                let free : IsTaking sys most at z = subst (λ (g : Look). IsTaking sys most g z) (sym (at_here whole)) is_taking in
                let b = begins sys limit within at x z is_x.keeps_so is_x.near free first in
                let tail = map (emission_line x.first) b.0 in
                let rest : next ∷ more ≡ back ++ tail =
                append_cancel_left (z.first ∷ passed) (next ∷ more) (back ++ tail)
                (sym parts ∙ lines_begin x z first b.0 b.1 ∙ ap (λ (ls : List Line). ls ++ tail) (sym (append-nil (taking_lines x)) ∙ all) ∙ append_assoc (z.first ∷ passed) back tail)
                in
                at_back back tail rest all
              where
                at_back : (back tail : List Line) → next ∷ more ≡ back ++ tail → taking_lines x ++ [] ≡ (z.first ∷ passed) ++ back → GoesRight z next back (AtStop t r Steps)
                at_back (l ∷ ls) tail rest all = inl (ls, ap (λ (m : Line). m ∷ ls) (sym (first_line next l more (ls ++ tail) rest)))
                at_back [] tail rest all = basic (basic_or_not sys z.first)
                  where
                    basic : IsBasic sys z.first ⊎ (IsBasic sys z.first → ⊥) → GoesRight z next [] (AtStop t r Steps)
                    basic (inl is) =
                        let first : x.first ≡ z.first = first_line x.first z.first _ _ all in
                        inr (refl, is, stops_at x is_x ∙ ap (λ (l : Line). AtStop l.key.tick l.key.resource Steps) first)
                    basic (inr other) =
                        let first : z.first ≡ x.first = sym (first_line x.first z.first _ _ all) in
                        let free : IsTaking sys most at z = subst (λ (g : Look). IsTaking sys most g z) (sym (at_here whole)) is_taking in
                        let same = plain_emits sys limit within at x z is_x.keeps_so is_x.near free first (subst (λ (l : Line). IsBasic sys l → ⊥) first other) in
                        let one = ap length all in
                        let two = ap length parts in
                        let three = length-append (taking_lines x) [] in
                        let four = length-append (z.first ∷ passed) [] in
                        let five = length-append (z.first ∷ passed) (next ∷ more) in
                        let six = lines_length x in
                        let seven = lines_length z in
                        let eight = ap length same in
                        absurd (omega (arith, one, two, three, four, five, six, seven, eight))

        by_row : (zs : List Taking) → before ≡ ys ++ zs → all_lines zs ++ all_lines last ≡ (z.first ∷ passed) ++ back → GoesRight z next back (AtStop t r Steps)
        by_row [] whole lines = from_last last refl whole lines
        by_row (w ∷ zs) whole lines =
            let same : w ≡ z = first_is before ends.limited_so.chain zs z w whole is_taking (first_line w.first z.first _ _ lines) in
            let all : taking_lines z ++ (all_lines zs ++ all_lines last) ≡ (z.first ∷ passed) ++ back =
            ap (λ (v : Taking). taking_lines v ++ (all_lines zs ++ all_lines last)) (sym same) ∙ sym (append_assoc (taking_lines w) (all_lines zs) (all_lines last)) ∙ lines
            in
            inl (more ++ (all_lines zs ++ all_lines last), sym (after_part z passed next more back (all_lines zs ++ all_lines last) parts all))

        by : Past ((z.first ∷ passed) ++ back) ⊎ Inside ((z.first ∷ passed) ++ back) → GoesRight z next back (AtStop t r Steps)
        by (inl past) = by_row past.more past.parts past.lines
        by (inr inside) = absurd (nothing z.first (passed ++ back) (sym inside.none))

    -- ---- After a taking that stops its resource

    pub steps_stop_at : (z : Taking) (reason : Reason) (back : List Line) → IsTaking sys most here z → z.stop ≡ Some reason → all_lines xs ≡ all_lines ys ++ (taking_lines z ++ back) → StopsRight z reason back (AtStop t r Steps)
    steps_stop_at z reason back is_taking stop e = by (parted (taking_lines z ++ back) e)
      where
        stopped : (x : Taking) → Last x → before ≡ ys ++ [] → all_lines last ≡ taking_lines z ++ back → StopsRight z reason back (AtStop t r Steps)
        stopped x is_x whole lines =
            let all : taking_lines x ++ [] ≡ taking_lines z ++ back = ap all_lines (sym is_x.last_is) ∙ lines in
            let first : z.first ≡ x.first = sym (first_line x.first z.first _ _ all) in
            let free : IsTaking sys most at z = subst (λ (g : Look). IsTaking sys most g z) (sym (at_here whole)) is_taking in
            let b = begins sys limit within at x z is_x.keeps_so is_x.near free first in
            let one = ap length all in
            let two = length-append (taking_lines x) [] in
            let three = length-append (taking_lines z) back in
            let four = lines_length x in
            let five = lines_length z in
            let six = ap length b.1 in
            let seven = length-append x.emits b.0 in
            let none : length back ≡ 0 = omega (arith, one, two, three, four, five, six, seven) in
            (no_length back none, basic first free (basic_or_not sys z.first))
          where
            basic : z.first ≡ x.first → IsTaking sys most at z → IsBasic sys z.first ⊎ (IsBasic sys z.first → ⊥)
                → (AtStop t r Steps ≡ AtStop z.first.key.tick z.first.key.resource reason) ⊎ (IsBasic sys z.first × (AtStop t r Steps ≡ AtStop z.first.key.tick z.first.key.resource Steps))
            basic first free (inl is) = inr (is, stops_at x is_x ∙ ap (λ (l : Line). AtStop l.key.tick l.key.resource Steps) (sym first))
            basic first free (inr other) =
                absurd
                (none_stops z.stop reason (plain_stops sys limit within at x z is_x.keeps_so is_x.near free first (subst (λ (l : Line). IsBasic sys l → ⊥) first other)).1 stop)

        from_last : (ls : List Taking) → last ≡ ls → before ≡ ys ++ [] → all_lines last ≡ taking_lines z ++ back → StopsRight z reason back (AtStop t r Steps)
        from_last [] none whole lines = absurd (nothing z.first _ (ap all_lines (sym none) ∙ lines))
        from_last (x ∷ ls) is whole lines = stopped x (is_last x ls is) whole lines

        by_row : (zs : List Taking) → before ≡ ys ++ zs → all_lines zs ++ all_lines last ≡ taking_lines z ++ back → StopsRight z reason back (AtStop t r Steps)
        by_row [] whole lines = from_last last refl whole lines
        by_row (w ∷ zs) whole lines =
            let same : w ≡ z = first_is before ends.limited_so.chain zs z w whole is_taking (first_line w.first z.first _ _ lines) in
            let on : w.stop ≡ None = none_at ys zs w (subst NoneStops whole ends.limited_so.goes_on) in
            absurd (none_stops z.stop reason (ap (λ (v : Taking). v.stop) (sym same) ∙ on) stop)

        by : Past (taking_lines z ++ back) ⊎ Inside (taking_lines z ++ back) → StopsRight z reason back (AtStop t r Steps)
        by (inl past) = by_row past.more past.parts past.lines
        by (inr inside) = absurd (nothing z.first _ (sym inside.none))

    -- ---- The taking of a basic block that the run stops in

    pub record IsNearest (first : Line) (rows : List Line) : Type 0 where
      pub x : Taking
      pub first_is : x.first ≡ first
      pub keeps : Keeps sys limit within here x
      pub near : Near sys limit within here x
      pub lines : taking_lines x ≡ first ∷ rows
      pub out : (x.stop ≡ Some Steps) ⊎ ((x.stop ≡ None) × (left_at limit x.first.key.tick (x.after.steps x.first.key.resource) ≡ 0))

    module _ (first : Line) (rows : List Line) (basic : IsBasic sys first) (own : Each (IsRowOf first) rows) where
      basic_taken : (left : ℕ) (g : Look) (b : BasicType) (k : Option Kind) (x : Taking) → k ≡ Some (Basic b) → IsTakingAt left g k x → x.first.taken ≡ true
      basic_taken left g b k x e h = taken (subst (λ (o : Option Kind). IsTakingAt left g o x) e h)
        where
          taken : IsTakingAt left g (Some (Basic b)) x → x.first.taken ≡ true
          taken h = h.taken

      -- none of the rows begins a taking
      not_own : (l : Line) → IsRowOf first l → (limit : ℕ) (g : Look) (x : Taking) → x.first ≡ l → IsTaking sys limit g x → ⊥
      not_own l row limit g x e is_taking =
          let at = takings_at sys limit g x is_taking in
          let kind : sys.kind x.first.at ≡ Some (Basic basic.0) = ap (λ (m : Line). sys.kind m.at) e ∙ ap sys.kind row.1 ∙ basic.1 in
          let taken : x.first.taken ≡ true = basic_taken at.0 g basic.0 (sys.kind x.first.at) x kind at.1 in
          let clash : true ≡ false = sym taken ∙ ap (λ (m : Line). m.taken) e ∙ row.0 in
          cc

      pub steps_nearest :
          (last ≡ [] → (front : List Taking) (z : Taking) → before ≡ front ++ z ∷ [] → IsBasic sys z.first → z.first.key.tick ≡ t → z.first.key.resource ≡ r → ⊥) → first.key.tick ≡ t → first.key.resource ≡ r
          → all_lines xs ≡ all_lines ys ++ first ∷ rows → IsNearest first rows
      steps_nearest apart tick resource e = by (parted (first ∷ rows) e)
        where
          found : (x : Taking) → Last x → before ≡ ys ++ [] → all_lines last ≡ first ∷ rows → IsNearest first rows
          found x is whole lines =
              let all : taking_lines x ++ [] ≡ first ∷ rows = ap all_lines (sym is.last_is) ∙ lines in
              record {
                x = x;
                first_is = first_line x.first first _ rows all;
                keeps = subst (λ (g : Look). Keeps sys limit within g x) (at_here whole) is.keeps_so;
                near = subst (λ (g : Look). Near sys limit within g x) (at_here whole) is.near;
                lines = sym (append-nil (taking_lines x)) ∙ all;
                out = runs_out x is;
              }

          from_last : (ls : List Taking) → last ≡ ls → before ≡ ys ++ [] → all_lines last ≡ first ∷ rows → IsNearest first rows
          from_last [] none whole lines = absurd (nothing first rows (ap all_lines (sym none) ∙ lines))
          from_last (x ∷ ls) is whole lines = found x (is_last x ls is) whole lines

          -- the taking with the greatest limit is the last one of the row, which it can't be
          ended : (z : Taking) → before ≡ ys ++ z ∷ [] → z.first ≡ first → (ls : List Taking) → last ≡ ls → map (emission_line z.first) z.emits ++ all_lines last ≡ rows → ⊥
          ended z whole is [] none lines = apart none ys z whole (subst (IsBasic sys) (sym is) basic) (ap (λ (l : Line). l.key.tick) is ∙ tick) (ap (λ (l : Line). l.key.resource) is ∙ resource)
          ended z whole is (x ∷ ls) e lines =
              let is_x = is_last x ls e in
              let rest : map (emission_line z.first) z.emits ++ x.first ∷ (map (emission_line x.first) x.emits ++ []) ≡ rows =
              ap (λ (ts : List Taking). map (emission_line z.first) z.emits ++ all_lines ts) (sym is_x.last_is) ∙ lines
              in
              not_own x.first (each_at (IsRowOf first) (map (emission_line z.first) z.emits) x.first (map (emission_line x.first) x.emits ++ []) (subst (Each (IsRowOf first)) (sym rest) own)) limit
              (limited limit x.first.key.tick x.first.key.resource at) x refl is_x.near

          by_row : (zs : List Taking) → before ≡ ys ++ zs → all_lines zs ++ all_lines last ≡ first ∷ rows → IsNearest first rows
          by_row [] whole lines = from_last last refl whole lines
          by_row (z ∷ []) whole lines =
              let is : z.first ≡ first = first_line z.first first _ rows lines in
              absurd (ended z whole is last refl (ap (λ (ls : List Line). ls ++ all_lines last) (sym (append-nil (map (emission_line z.first) z.emits))) ∙ tails z.first first _ rows lines))
          by_row (z ∷ w ∷ zs) whole lines =
              let f = map (emission_line z.first) z.emits in
              let rest : f ++ w.first ∷ ((map (emission_line w.first) w.emits ++ all_lines zs) ++ all_lines last) ≡ rows =
              sym (append_assoc f (all_lines (w ∷ zs)) (all_lines last)) ∙ tails z.first first _ rows lines
              in
              let row = each_at (IsRowOf first) f w.first ((map (emission_line w.first) w.emits ++ all_lines zs) ++ all_lines last) (subst (Each (IsRowOf first)) (sym rest) own) in
              let whole_so : before ≡ (ys ++ z ∷ []) ++ w ∷ zs = whole ∙ sym (append_assoc ys (z ∷ []) (w ∷ zs)) in
              absurd (not_own w.first row most (last_look look (ys ++ z ∷ [])) w refl (taking_after sys look (ys ++ z ∷ []) zs w (subst (λ (ts : List Taking). AreTakings sys most look ts) whole_so ends.limited_so.chain)))

          by : Past (first ∷ rows) ⊎ Inside (first ∷ rows) → IsNearest first rows
          by (inl past) = by_row past.more past.parts past.lines
          by (inr inside) = absurd (nothing first rows (sym inside.none))
