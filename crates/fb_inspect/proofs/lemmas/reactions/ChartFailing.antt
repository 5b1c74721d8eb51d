-- The reaction of a basic block, up to an emission that is not in the next line.
use Rattle.fb_inspect.proofs.lemmas.Common.{◌≡◌, ℕ, List, [], ◌∷◌, ◌++◌, ◌+◌, drop, map, Option, Some, None, refl, sym, ap, subst, append-nil, arith, All, slice_get, Basic, Emission, Position, Acts, Clears, trial_at, leaving, actions_of, Name, emission_of, path_at, ports_at, Action, BasicType, Ports, Transition, Reason, first_true, IsEmission as IsEmissionOf, Clears_by, Showing, Acting, ShowsActs, ShowsChain, ShowsReaction, stop_pieces, StepGoes, sys_of, ChartFails, EmitsFail, Refusal, ChartTaking, Reading, Trail}
use Rattle.fb_types.proofs.Common.{All-weaker}
use Rattle.fb_types.specs.declared.run.Emission as run
use Rattle.fb_ecc.specs.Indexes.{IsWellFormed}
use Rattle.fb_inspect.proofs.lemmas.reactions.Charted.{ports_by, rest_at}
use Rattle.fb_inspect.proofs.lemmas.results.Refused.{emits_after, emits_more, reads_of}
use Rattle.fb_inspect.proofs.lemmas.reactions.Showing.{act_shown, acts_before, acts_next, acts_stop, before, chain_before, chain_goes_on, chain_stops, emits_pieces, ran_pieces}
use Rattle.fb_inspect.proofs.lemmas.reactions.Totals.{acts_come, chain_comes}

-- a position whose emissions are taken apart
again : (p : Position) → before p.emitted (record p { emitted = [] }) ≡ p
again p = ap (λ (es : List Emission). record p { emitted = es }) (append-nil p.emitted)

module _ (x : ChartTaking) where
  abbrev Fails : List Emission → (old new : Reading) → (left after : Option (List ℕ)) → Refusal → Type 0
  Fails es old new left after n = EmitsFail (sys_of x) x.fixed.form x.line.now es old new left after n

  -- a part of a movement was gone through, and the rest fails
  pub fails_after :
      (S R : Showing) (p m : Position) (a b : Trail) (c : Reading) (l k j : Option (List ℕ)) (n : Refusal) → StepGoes x S p R m a b l k → ChartFails x R m b.reading c k j n
      → ChartFails x S p a.reading c l j n
  fails_after S R p m a b c l k j n first fails = record {
    stop = fails.stop;
    end = record (fails.end) { emitted = first.emits ++ fails.end.emitted };
    pieces = first.pieces ++ fails.pieces;
    shows = first.shows fails.stop fails.end fails.end.emitted fails.pieces fails.shows;
    fails = emits_after (sys_of x) x.fixed.form x.line.now first.emits fails.end.emitted first.lines a.reading b.reading c l k j n first.are
        (reads_of (sys_of x) x.fixed.form x.line.now.key.tick first.lines _ a b l k first.goes first.alone) fails.fails;
  }

  -- an action fails, whatever comes after it
  pub act_fails :
      (t : BasicType) (a : Action) (others : List Action) (p q : Position) (stop : Option Reason) (old new : Reading) (l k : Option (List ℕ)) (n : Refusal) → p.emitted ≡ []
      → Acts t (a ∷ []) p.left p stop q → Fails q.emitted old new l k n → ChartFails x (Acting t (a ∷ others)) p old new l k n
  act_fails t a others p q (Some r) old new l k n none acts fails =
      let shown = act_shown t a p.left p q (Some r) none acts in
      record { stop = Some r; end = q; pieces = _; shows = acts_stop t a others p.left p q r _ shown; fails = fails }
  act_fails t a others p q None old new l k n none acts fails =
      let shown = act_shown t a p.left p q None none acts in
      let rest = acts_come t others q.left q.left (record q { emitted = [] }) (omega arith) (omega arith) in
      let later : ShowsActs t others q.left q rest.0 (before q.emitted rest.1) rest.2 =
      subst (λ (m : Position). ShowsActs t others q.left m rest.0 (before q.emitted rest.1) rest.2) (again q)
      (acts_before t others q.left q.emitted (record q { emitted = [] }) rest.0 rest.1 rest.2 rest.3)
      in
      record {
        stop = rest.0;
        end = before q.emitted rest.1;
        pieces = (ran_pieces a.algorithm p.left p.vars q.vars ++ emits_pieces q.emitted) ++ rest.2;
        shows = acts_next t a others p.left p q (before q.emitted rest.1) rest.0 _ rest.2 shown later;
        fails = emits_more (sys_of x) x.fixed.form x.line.now q.emitted rest.1.emitted old new l k n fails;
      }

  -- a transition cleared, and the actions of its target fail
  pub link_fails :
      (present : Option Name) (y : Transition) (target : Name) (left : ℕ) (p m : Position) (old new : Reading) (l k : Option (List ℕ)) (n : Refusal)
      → trial_at x.block.now present p ≡ Clears target left → first_true (leaving x.block.now p.state) present p.vars ≡ Some y → m ≡ record p { state = target; left = left }
      → ChartFails x (Acting x.block.now (actions_of x.block.now target)) m old new l k n → ChartFails x (ShowsChain x.block.now present) p old new l k n
  link_fails present y target left p m old new l k n tried first at fails =
      ends fails.stop (subst (λ (o : Position). ShowsActs x.block.now (actions_of x.block.now target) o.left o fails.stop fails.end fails.pieces) at fails.shows)
    where
      ends :
          (s : Option Reason) → ShowsActs x.block.now (actions_of x.block.now target) left (record p { state = target; left = left }) s fails.end fails.pieces
          → ChartFails x (ShowsChain x.block.now present) p old new l k n
      ends None acts =
          let t = x.block.now in
          let q : Position = fails.end in
          let rest = chain_comes t None (record q { emitted = [] }) in
          let later : ShowsChain t None q rest.0 (before q.emitted rest.1) rest.2 =
          subst (λ (o : Position). ShowsChain t None o rest.0 (before q.emitted rest.1) rest.2) (again q)
          (chain_before t None q.emitted (record q { emitted = [] }) rest.0 rest.1 rest.2 rest.3)
          in
          record {
            stop = rest.0;
            end = before q.emitted rest.1;
            pieces = Clears_by y ∷ (fails.pieces ++ rest.2);
            shows = chain_goes_on t present p q (before q.emitted rest.1) y target left rest.0 fails.pieces rest.2 tried first acts later;
            fails = emits_more (sys_of x) x.fixed.form x.line.now q.emitted rest.1.emitted old new l k n fails.fails;
          }
      ends (Some r) acts = record {
        stop = Some r;
        end = fails.end;
        pieces = Clears_by y ∷ fails.pieces;
        shows = chain_stops x.block.now present p fails.end y target left r fails.pieces tried first acts;
        fails = fails.fails;
      }

  -- the chain fails
  pub reaction_fails :
      (e : Name) (p : Position) (old new : Reading) (l k : Option (List ℕ)) (n : Refusal) → ChartFails x (ShowsChain x.block.now (Some e)) p old new l k n
      → ChartFails x (ShowsReaction x.block.now e) p old new l k n
  reaction_fails e p old new l k n fails =
      record { stop = fails.stop; end = fails.end; pieces = fails.pieces ++ stop_pieces fails.stop; shows = (fails.pieces, fails.shows, refl); fails = fails.fails }

  -- all actions, of which the first were performed
  pub acts_fail :
      (t : BasicType) (all : List Action) (i : ℕ) (a : Action) (p m : Position) (b c : Trail) (d : Reading) (l k j : Option (List ℕ)) (n : Refusal) → slice_get all i ≡ Some a
      → StepGoes x (Acting t all) p (Acting t (drop i all)) m b c l k → ChartFails x (Acting t (a ∷ drop (i + 1) all)) m c.reading d k j n
      → ChartFails x (Acting t all) p b.reading d l j n
  acts_fail t all i a p m b c d l k j n at came fails =
      fails_after (Acting t all) (Acting t (drop i all)) p m b c d l k j n came
      (subst (λ (as' : List Action). ChartFails x (Acting t as') m c.reading d k j n) (sym (rest_at all i a at)) fails)

  -- the emissions of the block, by the ports of its type
  pub emitted_fails :
      (t : BasicType) (es : List run.Emission) (old new : Reading) (l k : Option (List ℕ)) (n : Refusal) → (sys_of x).kind (path_at (sys_of x) x.line.now.instance) ≡ Some (Basic t)
      → Fails (map (emission_of (ports_at (sys_of x) (path_at (sys_of x) x.line.now.instance))) es) old new l k n → Fails (map (emission_of t.ports) es) old new l k n
  emitted_fails t es old new l k n kind fails = subst (λ (its : Ports). Fails (map (emission_of its) es) old new l k n) (ap ports_by kind) fails

  pub fit_chart :
      (t : BasicType) (es : List run.Emission) → (sys_of x).kind (path_at (sys_of x) x.line.now.instance) ≡ Some (Basic t) → All (IsWellFormed t) es
      → All (IsEmissionOf (ports_at (sys_of x) (path_at (sys_of x) x.line.now.instance))) es
  fit_chart t es kind all =
      subst (λ (its : Ports). All (IsEmissionOf its) es) (sym (ap ports_by kind))
      (All-weaker (IsWellFormed t) (IsEmissionOf t.ports) (λ e fit. record { event = fit.0; values = fit.1 }) es all)
