-- Rules along the events of a trace.
use Rattle.fb_expect.proofs.lemmas.Common.{◌≡◌, ℕ, suc, zero, ◌+◌, ◌<◌, ◌≤◌, Bool, cond, List, [], ◌∷◌, ◌++◌, length, get_or, take, Result, Ok, Err, refl, sym, ap, subst, ◌∙◌, arith, inl, inr, OnOk, Option, Some, None, length-map, map-append, Event, AllFollow, AreJudged, rules_of, AreBelow, tick_of, IsBelow, Steps, Concludes as WatchConcludes, End, Hit, Judged, Watcher, Need, Pairing, Rule, Watch}
use Rattle.fb_types.proofs.Common.{set, cases_eq, get_or-set_other, get_or-set_same, take_more, All-push}
use Rattle.std.proofs.Math.ListN.{length-set}
use Rattle.std.proofs.lemmas.List.Sums.{sum_by-cons}
use Rattle.fb_expect.specs.Deciding.{Applies as AloneApplies, Decides, FirstOn, IsDecided, KnowsFirst, Tallies, count_first}
use Rattle.fb_expect.specs.Hits.{hit_of, hits_of}
use Rattle.fb_expect.specs.Passing.{Covers}
use Rattle.fb_expect.specs.Judging.{Applies, Concludes, Follows, IsAppliedBy, IsJudged, IsVerdictBy, KnowsState, KnowsStateBy, Moves, StateOn}
use Rattle.fb_expect.specs.Paired.{CountsFirst, KnowsPairs, PairHit, PairsApply, PairsEnd, PairsOn, count_first as count_pairs, pair_hit_of, pair_hits_of, within_of, AreBelow as ArePairsBelow}
use Rattle.fb_expect.specs.Sights.{sights_of}
use Rattle.fb_expect.specs.Traces.{RiseFrom, last_tick}
use Rattle.fb_expect.specs.Watching.{Knows}
use Rattle.fb_expect.specs.declared.judging.State.{State}
use Rattle.fb_expect.specs.declared.judging.State.TheVariants.{Alone, Paired}
use Rattle.fb_expect.specs.declared.rule.Need.TheVariants as need
use Rattle.fb_expect.specs.declared.pairs.Pairs.{Pairs}
use Rattle.fb_expect.specs.declared.port_set.PortSet.{PortSet}
use Rattle.fb_expect.specs.declared.verdict.Verdict.{Verdict}

-- no hit is of a later tick where no event is
pub below-hits : (r : Rule) (es : List Event) (t : ℕ) → AreBelow es t → IsBelow (hits_of r es) t
below-hits r [] t are i = omega arith
below-hits r (e ∷ es) t are zero = are 0 e (omega arith)
below-hits r (e ∷ es) t are (suc i) = below-hits r es t (λ k d lt. are (suc k) d (omega arith)) i

hits-more : (r : Rule) (es : List Event) (e : Event) → hits_of r (es ++ e ∷ []) ≡ hits_of r es ++ hit_of r e ∷ []
hits-more r [] e = refl
hits-more r (x ∷ es) e = ap (λ (hs : List Hit). hit_of r x ∷ hs) (hits-more r es e)

pair-below : (r : Rule) (es : List Event) (t : ℕ) → AreBelow es t → ArePairsBelow (pair_hits_of r es) t
pair-below r [] t are i = omega arith
pair-below r (e ∷ es) t are zero = are 0 e (omega arith)
pair-below r (e ∷ es) t are (suc i) = pair-below r es t (λ k d lt. are (suc k) d (omega arith)) i

pair-hits-more : (r : Rule) (es : List Event) (e : Event) → pair_hits_of r (es ++ e ∷ []) ≡ pair_hits_of r es ++ pair_hit_of r e ∷ []
pair-hits-more r [] e = refl
pair-hits-more r (x ∷ es) e = ap (λ (hs : List PairHit). pair_hit_of r x ∷ hs) (pair-hits-more r es e)

-- ---- The state of a rule

pub begin-alone : (r : Rule) (w : Watch) → r.pairing ≡ None → Knows r.need [] w → KnowsState r [] (Alone w)
begin-alone r w none knows = subst (λ (o : Option Pairing). KnowsStateBy o r [] (Alone w)) (sym none) knows

pub begin-paired : (r : Rule) (p : Pairing) (s : Pairs) → r.pairing ≡ Some p → KnowsPairs (within_of r.need) p [] s → KnowsState r [] (Paired s)
begin-paired r p s some knows = subst (λ (o : Option Pairing). KnowsStateBy o r [] (Paired s)) (sym some) knows

pub alone-on :
    (r : Rule) (number : ℕ) (e : Event) (hit : Hit) (old new : Watch) → hit ≡ hit_of r e → Steps r.need old number hit new → StateOn r number e (Alone old) (Alone new)
alone-on r number e hit old new is steps es counted below knows = by r.pairing knows
  where
    by : (o : Option Pairing) → KnowsStateBy o r es (Alone old) → KnowsStateBy o r (es ++ e ∷ []) (Alone new)
    by (Some p) known = absurd known
    by None known =
        let long : number ≡ length (hits_of r es) + 1 = omega (arith, counted, length-map es (hit_of r)) in
        let low : IsBelow (hits_of r es) hit.tick = subst (λ (h : Hit). IsBelow (hits_of r es) h.tick) (sym is) (below-hits r es e.tick below) in
        let hits : hits_of r es ++ hit ∷ [] ≡ hits_of r (es ++ e ∷ []) = ap (λ (h : Hit). hits_of r es ++ h ∷ []) is ∙ sym (hits-more r es e) in
        subst (λ (hs : List Hit). Knows r.need hs new) hits (steps (hits_of r es) long low known)

pub paired-on :
    (r : Rule) (number : ℕ) (e : Event) (old new : Pairs) → ((p : Pairing) → r.pairing ≡ Some p → PairsOn (within_of r.need) p old number (pair_hit_of r e) new)
    → StateOn r number e (Paired old) (Paired new)
paired-on r number e old new on es counted below knows = by r.pairing refl knows
  where
    by : (o : Option Pairing) → r.pairing ≡ o → KnowsStateBy o r es (Paired old) → KnowsStateBy o r (es ++ e ∷ []) (Paired new)
    by None is known = absurd known
    by (Some p) is known =
        let long : number ≡ length (pair_hits_of r es) + 1 = omega (arith, counted, length-map es (pair_hit_of r)) in
        subst (λ (hs : List PairHit). KnowsPairs (within_of r.need) p hs new) (sym (pair-hits-more r es e))
        (on p is (pair_hits_of r es) long (pair-below r es e.tick below) known)

pub paired-on-ok :
    {T E : Type 0} (r : Rule) (number : ℕ) (e : Event) (old new : Pairs) (q : Result T E)
    → OnOk q ((p : Pairing) → r.pairing ≡ Some p → PairsOn (within_of r.need) p old number (pair_hit_of r e) new) → OnOk q (StateOn r number e (Paired old) (Paired new))
paired-on-ok r number e old new (Ok x) on = paired-on r number e old new on
paired-on-ok r number e old new (Err x) on = tt

pub concludes-alone : (r : Rule) (number : ℕ) (end : End) (w : Watch) (v : Verdict) → WatchConcludes r.need w number end v → Concludes r (Alone w) number end v
concludes-alone r number end w v ends es counted below knows = by r.pairing knows
  where
    by : (o : Option Pairing) → KnowsStateBy o r es (Alone w) → IsVerdictBy o r es end v
    by (Some p) known = absurd known
    by None known = ends (hits_of r es) (omega (arith, counted, length-map es (hit_of r))) (below-hits r es (tick_of end) below) known

pub concludes-paired :
    (r : Rule) (number : ℕ) (end : End) (s : Pairs) (v : Verdict) → ((p : Pairing) → PairsEnd (within_of r.need) p s end v) → Concludes r (Paired s) number end v
concludes-paired r number end s v ends es counted below knows = by r.pairing knows
  where
    by : (o : Option Pairing) → KnowsStateBy o r es (Paired s) → IsVerdictBy o r es end v
    by None known = absurd known
    by (Some p) known = ends p (pair_hits_of r es) (pair-below r es (tick_of end) below) known

-- ---- One more event

pub moves :
    (number : ℕ) (e : Event) (old new : Watcher) (hit : Hit) → new.rule ≡ old.rule → new.ports ≡ old.ports → hit ≡ hit_of old.rule.now e
    → StateOn old.rule.now number e old.state new.state
    → ((hs : List Hit) → number ≡ length hs + 1 → Tallies old.rule.now.need hs old.tally → Tallies old.rule.now.need (hs ++ hit ∷ []) new.tally)
    → FirstOn old.first number hit new.first
    → ((es : List Event) → old.sights ≡ sights_of old.rule.now es → new.sights ≡ sights_of old.rule.now (es ++ e ∷ []))
    → Moves number e old new
moves number e old new hit same ports is state counts firsts sees =
    record {
      rule = same;
      follows = λ es counted below f.
          (let r = old.rule.now in
          let long : number ≡ length (hits_of r es) + 1 = omega (arith, counted, length-map es (hit_of r)) in
          let hits : hits_of r es ++ hit ∷ [] ≡ hits_of r (es ++ e ∷ []) =
          ap (λ (h : Hit). hits_of r es ++ h ∷ []) is ∙ sym (hits-more r es e)
          in
          turned es (record {
            knows = state es counted below f.knows;
            counts = subst (λ (hs : List Hit). Tallies r.need hs new.tally) hits (counts (hits_of r es) long f.counts);
            first =
                (let low : IsBelow (hits_of r es) hit.tick = subst (λ (h : Hit). IsBelow (hits_of r es) h.tick) (sym is) (below-hits r es e.tick below) in
                subst (λ (hs : List Hit). KnowsFirst hs new.first) hits (firsts (hits_of r es) long low f.first));
            saw = sees es f.saw;
            covers = subst (λ (s : PortSet). Covers s.marks r) (sym ports) f.covers;
          }));
    }
  where
    turned : (es : List Event) → Follows (es ++ e ∷ []) (record new { rule = old.rule }) → Follows (es ++ e ∷ []) new
    turned es f = subst (λ w. Follows (es ++ e ∷ []) (record new { rule = w })) (sym same) f

-- ---- Whether the rule was decided

-- the P's are as many where lines are paired
pairs-first : (r : Rule) (es : List Event) → count_first (hits_of r es) ≡ count_pairs (pair_hits_of r es)
pairs-first r [] = refl
pairs-first r (e ∷ es) =
    sum_by-cons (λ (h : Hit). cond h.first 1 0) (hit_of r e) (hits_of r es) ∙ ap (λ (n : ℕ). cond (hit_of r e).first 1 0 + n) (pairs-first r es)
    ∙ sym (sum_by-cons (λ (h : PairHit). cond h.first 1 0) (pair_hit_of r e) (pair_hits_of r es))

counts-first : (n : Need) (r : Rule) (es : List Event) (end : End) (often : ℕ) → IsDecided n (hits_of r es) end often → CountsFirst n (pair_hits_of r es) often
counts-first (need.See within) r es end often is = is ∙ pairs-first r es
counts-first (need.Not within) r es end often is = tt
counts-first (need.Before within) r es end often is = tt
counts-first (need.Never from_start) r es end often is = tt
counts-first (need.Count least most every) r es end often is = tt

pub applies-alone :
    (w : Watcher) (s : Watch) (often : ℕ) (end : End) (applied : Bool) → w.state ≡ Alone s → AloneApplies w.rule.now.need s w.first end often applied → Applies w often end applied
applies-alone w s often end applied is applies es below f decided = by w.rule.now.pairing (subst (λ (x : State). KnowsState w.rule.now es x) is f.knows)
  where
    by : (o : Option Pairing) → KnowsStateBy o w.rule.now es (Alone s) → IsAppliedBy o w.rule.now es end often applied
    by (Some p) known = absurd known
    by None known = applies (hits_of w.rule.now es) (below-hits w.rule.now es (tick_of end) below) f.first known

pub applies-paired :
    (w : Watcher) (s : Pairs) (often : ℕ) (end : End) (applied : Bool) → w.state ≡ Paired s → ((p : Pairing) → PairsApply w.rule.now.need p s end often applied)
    → Applies w often end applied
applies-paired w s often end applied is applies es below f decided = by w.rule.now.pairing (subst (λ (x : State). KnowsState w.rule.now es x) is f.knows)
  where
    by : (o : Option Pairing) → KnowsStateBy o w.rule.now es (Paired s) → IsAppliedBy o w.rule.now es end often applied
    by None known = absurd known
    by (Some p) known =
        applies p (pair_hits_of w.rule.now es) (pair-below w.rule.now es (tick_of end) below) (counts-first w.rule.now.need w.rule.now es end often decided) known

-- ---- The end

pub concluded :
    (number : ℕ) (end : End) (w : Watcher) (v : Verdict) (count : ℕ) (applied : Bool) → Concludes w.rule.now w.state number end v
    → Decides w.rule.now.need w.tally number end count → Applies w count end applied → (es : List Event) → number ≡ length es + 1 → AreBelow es (tick_of end) → Follows es w
    → IsJudged es end w.rule.now (record { verdict = v; decided = count; is_applied = applied; sights = w.sights; end = end })
concluded number end w v count applied ends decides applies es counted below f =
    let r = w.rule.now in
    let often : IsDecided r.need (hits_of r es) end count = decides (hits_of r es) (omega (arith, counted, length-map es (hit_of r))) f.counts in
    record {
      verdict = ends es counted below f.knows;
      decided = often;
      applied = applies es below f often;
      sights = f.saw;
      ended = refl;
    }

-- ---- Ticks

pub all-below : (t : ℕ) (es : List Event) → RiseFrom t es → AreBelow es (last_tick t es)
all-below t [] rise k d lt = absurd (omega arith)
all-below t (e ∷ es) rise zero d lt = first-below e.tick es rise.1
  where
    first-below : (u : ℕ) (xs : List Event) → RiseFrom u xs → u ≤ last_tick u xs
    first-below u [] r = omega arith
    first-below u (x ∷ xs) r = let le = r.0 in let more = first-below x.tick xs r.1 in omega arith
all-below t (e ∷ es) rise (suc k) d lt = all-below e.tick es rise.1 k d (omega arith)

pub below-later : (es : List Event) (s t : ℕ) → s ≤ t → AreBelow es s → AreBelow es t
below-later es s t le are k d lt = let low = are k d lt in omega arith

pub rise-one : (t : ℕ) (es : List Event) (e : Event) → RiseFrom t es → last_tick t es ≤ e.tick → RiseFrom t (es ++ e ∷ [])
rise-one t [] e rise more = (more, tt)
rise-one t (x ∷ es) e rise more = (rise.0, rise-one x.tick es e rise.1 more)

pub last-one : (t : ℕ) (es : List Event) (e : Event) → last_tick t (es ++ e ∷ []) ≡ e.tick
last-one t [] e = refl
last-one t (x ∷ es) e = last-one x.tick es e

-- ---- Rules one after another

pub judged-one : (es : List Event) (end : End) (rs : List Rule) (js : List Judged) (r : Rule) (j : Judged) → AreJudged es end rs js → IsJudged es end r j → AreJudged es end (rs ++ r ∷ []) (js ++ j ∷ [])
judged-one es end [] [] r j are is = (is, tt)
judged-one es end [] (k ∷ js) r j are is = absurd are
judged-one es end (s ∷ rs) [] r j are is = absurd are
judged-one es end (s ∷ rs) (k ∷ js) r j (one, more) is = (one, judged-one es end rs js r j more is)

-- rules before a index follow the events with one more, and the others those before it
abbrev pub AreAt : (es fs : List Event) → ℕ → List Watcher → Type 0
AreAt es fs i ws = (k : ℕ) (d : Watcher) → k < length ws → (k < i → Follows fs (get_or ws k d)) × (i ≤ k → Follows es (get_or ws k d))

pub at-none : (es fs : List Event) (ws : List Watcher) → AllFollow es ws → AreAt es fs 0 ws
at-none es fs ws all k d lt = (λ less. absurd (omega arith), λ _. all k d lt)

pub at-all : (es fs : List Event) (i : ℕ) (ws : List Watcher) → length ws ≤ i → AreAt es fs i ws → AllFollow fs ws
at-all es fs i ws le at k d lt = (at k d lt).0 (omega arith)

pub at-one :
    (number : ℕ) (e : Event) (es : List Event) (ws : List Watcher) (i : ℕ) (d new : Watcher) → i < length ws → Moves number e (get_or ws i d) new
    → number ≡ length es + 1 → AreBelow es e.tick → AreAt es (es ++ e ∷ []) i ws → AreAt es (es ++ e ∷ []) (i + 1) (set ws i new)
at-one number e es ws i d new within moves counted below at k d' lt =
    let long : length (set ws i new) ≡ length ws = length-set ws i new in
    elim (cases_eq k i) as (λ _. (k < i + 1 → Follows (es ++ e ∷ []) (get_or (set ws i new) k d')) × (i + 1 ≤ k → Follows es (get_or (set ws i new) k d'))) [
      | inl same ↦
          (let here : get_or (set ws i new) k d' ≡ new = ap (λ (n : ℕ). get_or (set ws i new) n d') same ∙ get_or-set_same ws i new d' within in
          let was : Follows es (get_or ws i d) = (at i d within).1 (omega arith) in
          (λ _. subst (λ (w : Watcher). Follows (es ++ e ∷ []) w) (sym here) (moves.follows es counted below was), λ more. absurd (omega arith)))
      | inr other ↦
          (let there : get_or (set ws i new) k d' ≡ get_or ws k d' = get_or-set_other ws i k new d' other in
          let both = at k d' (omega (arith, long, lt)) in (
            λ less. subst (λ (w : Watcher). Follows (es ++ e ∷ []) w) (sym there) (both.0 (omega arith)),
            λ more. subst (λ (w : Watcher). Follows es w) (sym there) (both.1 (omega arith)),
          ))
    ]

-- ---- Before the first line

pub begun-one :
    (ws vs : List Watcher) (rules : List Rule) (i : ℕ) (d : Rule) (w : Watcher) → i < length rules → w.rule.now ≡ get_or rules i d → rules_of ws ≡ take i rules
    → vs ≡ ws ++ w ∷ [] → rules_of vs ≡ take (i + 1) rules
begun-one ws vs rules i d w lt is are more =
    ap rules_of more ∙ map-append (λ (x : Watcher). x.rule.now) ws (w ∷ []) ∙ ap (λ (rs : List Rule). rs ++ w.rule.now ∷ []) are
    ∙ ap (λ (r : Rule). take i rules ++ r ∷ []) is ∙ sym (take_more rules i d lt)

pub all-one : (es : List Event) (ws vs : List Watcher) (w : Watcher) → vs ≡ ws ++ w ∷ [] → AllFollow es ws → Follows es w → AllFollow es vs
all-one es ws vs w more all one = subst (λ (xs : List Watcher). AllFollow es xs) (sym more) (All-push (Follows es) ws w all one)

-- ---- Written back

pub front : (new more : List Watcher) (n : ℕ) → length new ≡ n → take n (new ++ more) ≡ new
front new more n long = subst (λ (k : ℕ). take k (new ++ more) ≡ new) long (seam new)
  where
    seam : (ws : List Watcher) → take (length ws) (ws ++ more) ≡ ws
    seam [] = refl
    seam (w ∷ ws) = ap (λ (vs : List Watcher). w ∷ vs) (seam ws)

-- the rules are as many as before
pub as-many : (new old : List Watcher) (n : ℕ) → rules_of new ≡ rules_of old → length old ≡ n → length new ≡ n
as-many new old n same long =
    sym (length-map new (λ (w : Watcher). w.rule.now)) ∙ ap length same ∙ length-map old (λ (w : Watcher). w.rule.now) ∙ long

-- ---- At the end

pub concluded-one :
    (es : List Event) (end : End) (ws : List Watcher) (js new : List Judged) (i : ℕ) (d : Watcher) (j : Judged) → i < length ws → new ≡ js ++ j ∷ []
    → AreJudged es end (rules_of (take i ws)) js → IsJudged es end (get_or ws i d).rule.now j → AreJudged es end (rules_of (take (i + 1) ws)) new
concluded-one es end ws js new i d j lt more are is =
    let rules : rules_of (take (i + 1) ws) ≡ rules_of (take i ws) ++ (get_or ws i d).rule.now ∷ [] =
    ap rules_of (take_more ws i d lt) ∙ map-append (λ (x : Watcher). x.rule.now) (take i ws) (get_or ws i d ∷ [])
    in
    subst (λ (rs : List Rule). AreJudged es end rs new) (sym rules)
    (subst (λ (xs : List Judged). AreJudged es end (rules_of (take i ws) ++ (get_or ws i d).rule.now ∷ []) xs) (sym more)
    (judged-one es end (rules_of (take i ws)) js (get_or ws i d).rule.now j are is))
