-- A run of one resource, taking by taking.
use Rattle.fb_types.proofs.Common.{◌≡◌, ℕ, ◌<◌, Some, None, List, [], ◌∷◌, ◌++◌, sym, ap, ◌∙◌, subst, append-nil, clock_after, Machine, Item, Local, Each, TakesAlone, end, sent_by}
use Rattle.fb_types.specs.declared.key.Key.{Key}
use Rattle.fb_types.specs.Cores.{stop_or}
use Rattle.fb_types.specs.Machines.{after, Chain, Rests, lines_of}
use Rattle.fb_types.proofs.lemmas.lists.EachLaws.{each_append}
use Rattle.fb_types.proofs.lemmas.lists.Lookups.{none_some}
use Rattle.fb_resource.specs.Runs.{HasCome, HasEnded}
use Rattle.fb_laws.proofs.lemmas.resources.Chains.{chain_append, end_append, sent_append, lines_append, clock_append}

module _ (M : Machine) where
  module _ (r t : ℕ) (from to : Local M) (lines : List M.Line) (sent : List (Key × M.Event)) (come : HasCome M r t from to lines sent) (i : Item M) (takes : TakesAlone M r to i) (below : i.key.tick < t) where
    is : List (Item M)
    is = come.items ++ i ∷ []

    is_chain : Chain M r from is
    unfolding is
    is_chain = chain_append M r come.items (i ∷ []) from come.chain (subst (λ l. TakesAlone M r l i) (sym come.ends) takes, tt)

    is_below : Each (λ (j : Item M). j.key.tick < t) is
    unfolding is
    is_below = each_append (λ (j : Item M). j.key.tick < t) come.items (i ∷ []) come.below (below, tt)

    is_end : end M from is ≡ after M to i
    unfolding is
    is_end = end_append M come.items (i ∷ []) from ∙ ap (λ l. after M l i) come.ends

    is_clock : (bound : ℕ) → clock_after M bound is ≡ stop_or i.out.stop i.key.tick bound
    unfolding is
    is_clock bound = clock_append M bound come.items (i ∷ []) ∙ come.clock (stop_or i.out.stop i.key.tick bound)

    is_lines : lines ++ i.out.lines ≡ lines_of M is
    unfolding is
    is_lines =
        ap (λ x. x ++ i.out.lines) come.lines
        ∙ ap (λ x. lines_of M come.items ++ x) (sym (append-nil i.out.lines))
        ∙ sym (lines_append M come.items (i ∷ []))

    is_sent : sent ++ i.out.sent ≡ sent_by M is
    unfolding is
    is_sent =
        ap (λ x. x ++ i.out.sent) come.sent
        ∙ ap (λ x. sent_by M come.items ++ x) (sym (append-nil i.out.sent))
        ∙ sym (sent_append M come.items (i ∷ []))

    -- one event more was taken
    pub come_more : i.out.stop ≡ None → HasCome M r t from (after M to i) (lines ++ i.out.lines) (sent ++ i.out.sent)
    come_more going = record {
      items = is;
      chain = is_chain;
      below = is_below;
      ends = is_end;
      clock = λ b. is_clock b ∙ ap (λ o. stop_or o i.key.tick b) going;
      lines = is_lines;
      sent = is_sent;
    }

    -- one event more was taken, and stops the resource
    pub come_stop : (reason : M.Reason) → i.out.stop ≡ Some reason → HasEnded M r t from (after M to i) i.key.tick (lines ++ i.out.lines) (sent ++ i.out.sent)
    come_stop reason stops = record {
      items = is;
      run = record { chain = is_chain; below = is_below; rests = λ live. absurd (none_some i.out.stop reason (ap (λ l. l.stop) (sym is_end) ∙ live) stops) };
      ends = is_end;
      clock = sym (is_clock t ∙ ap (λ o. stop_or o i.key.tick t) stops);
      lines = is_lines;
      sent = is_sent;
    }

  -- nothing is left to take
  pub come_rest : (r t : ℕ) (from to : Local M) (lines : List M.Line) (sent : List (Key × M.Event)) → HasCome M r t from to lines sent → Rests M r t to
      → HasEnded M r t from to t lines sent
  come_rest r t from to lines sent come rests = record {
    items = come.items;
    run = record { chain = come.chain; below = come.below; rests = subst (λ l. Rests M r t l) (sym come.ends) rests };
    ends = come.ends;
    clock = sym (come.clock t);
    lines = come.lines;
    sent = come.sent;
  }
