-- The opening core.
use Rattle.fb_window.proofs.lemmas.Common.{◌≡◌, ℕ, ◌^◌, ◌≤◌, zero, suc, Bool, true, false, Option, None, List, [], ◌∷◌, map, length, refl, sym, ap, ◌∙◌, subst, ⊎_elim, arith, All, Vec, slice_index_or, ◌==◌, All-head, All-nil, All-tail, Inputs, system_of, stimuli_of, line_of, count_of, opening, Line, BelongsTo, AreGood, Resource, Edge, until, core_of, lists_of, IsReached, IsAt}
use Rattle.fb_types.proofs.Common.{if◌then◌else◌, All-weaker, or_else, Each}
use Rattle.fb_laws.proofs.lemmas.soundness.Accepting.{sound_of}
use Rattle.fb_laws.proofs.lemmas.machine.Opening.{is_counted}
use Rattle.fb_resource.specs.Resources.{AreOpened}
use Rattle.fb_laws.specs.Finality.{HasHanded, lines_in}
use Rattle.fb_window.specs.Reached.{IsBrought}
use Rattle.fb_laws.proofs.lemmas.schedules.Edges.{until_cases}

nothing_waits : {A : Type 0} (b : Bool) (a : Option A) → a ≡ None → or_else (if b then None else a) (if b then a else None) ≡ None
nothing_waits true a e = e
nothing_waits false a e = rw e refl

-- The resources as they are opened are where the opening core is.
pub opened_at : (i : Inputs) (limit : ℕ) (xs : List Resource) → AreGood i → AreOpened i xs → IsAt i limit (core_of i limit []) xs
opened_at i limit xs good o = record {
  counted = o.counted;
  each = λ r x e. record {
    number = o.numbered r x e;
    of = o.of r x e;
    state = o.state limit r x e;
    clock = sym (o.clock r x e);
    home = refl;
    posted = refl;
  };
  others = λ r b. record {
    live = refl;
    home = refl;
    posted = refl;
    waits = λ k e. nothing_waits (k.class == 2) ((opening (system_of i) (stimuli_of i)).agenda k) ((is_counted (system_of i) (sound_of i good) limit (stimuli_of i)).agenda k (omega arith));
  };
}

-- the edge before all lines
abbrev first : Edge
first = record { tick = 0; resource = 0; within = false }

first_until : (r : ℕ) → until first r ≡ 0
first_until r =
    ⊎_elim
    (λ x. absurd (⊎_elim (λ l. omega arith) (λ q. let e : false ≡ true = q.1 in cc) x.1))
    (λ x. x.0)
    (until_cases first r)

no_lines_at : (ps : List (Vec Line)) (r : ℕ) → All (λ (p : Vec Line). p.items ≡ []) ps → slice_index_or (lists_of ps) r [] ≡ []
no_lines_at [] r h = refl
no_lines_at (p ∷ ps) zero h = All-head (λ (q : Vec Line). q.items ≡ []) p ps h
no_lines_at (p ∷ ps) (suc r) h = no_lines_at ps r (All-tail (λ (q : Vec Line). q.items ≡ []) p ps h)

length_lists : (ps : List (Vec Line)) → length (lists_of ps) ≡ length ps
length_lists [] = refl
length_lists (p ∷ ps) = ap suc (length_lists ps)

-- Of it nothing was handed out, and nothing is kept.
pub opened_left : (i : Inputs) (limit horizon : ℕ) (pending : List (Vec Line)) → length pending ≡ count_of (system_of i) → All (λ (p : Vec Line). p.items ≡ []) pending
    → HasHanded i limit horizon (core_of i limit []) (lists_of pending) []
opened_left i limit horizon pending counted none = record {
  handed = record {
    counted = length_lists pending ∙ counted;
    left = record {
      edge = first;
      final = λ r t b u l. let e = first_until r in absurd (omega arith);
      merged = record { order = tt; parts = λ r b. refl; counted = tt };
      rest = λ r b. nothing r;
    };
  };
  waits = λ r b. subst (Each _) (sym (nothing r)) tt;
}
  where
    nothing : (r : ℕ) → lines_in i limit (lists_of pending) r ≡ []
    nothing r = ap (λ z. map (line_of (system_of i)) z) (no_lines_at pending r none)

-- No step at all has led to the resources as they are opened.
pub opened_brought : (i : Inputs) (limit : ℕ) (xs : List Resource) → AreGood i → AreOpened i xs → IsBrought i limit xs
opened_brought i limit xs good o = record { range = 0; steps = []; schedule = tt; at = opened_at i limit xs good o; idle = λ r b. refl }

-- where nothing is kept, all of it belongs to the system
pub opened_belong : (i : Inputs) (pending : List (Vec Line)) → All (λ (p : Vec Line). p.items ≡ []) pending → All (λ (p : Vec Line). All (BelongsTo (system_of i)) p.items) pending
opened_belong i pending none =
    All-weaker (λ (p : Vec Line). p.items ≡ []) (λ (p : Vec Line). All (BelongsTo (system_of i)) p.items)
    (λ p e. subst (All (BelongsTo (system_of i))) (sym e) (All-nil (BelongsTo (system_of i)))) pending none

-- What is said of the inputs of a core is said of the core.
pub reached_as : (i j : Inputs) (limit : ℕ) (resources : Vec Resource) (pending : Vec (Vec Line)) → j ≡ i → IsBrought i limit resources.items → 1 ≤ limit → limit ≤ 10 ^ 7
    → length pending.items ≡ length resources.items → All (λ (p : Vec Line). All (BelongsTo (system_of i)) p.items) pending.items
    → IsReached (record { system = j; steps = limit; resources = resources; pending = pending })
reached_as i j limit resources pending same way some few counted belong = record {
  way = subst (λ (z : Inputs). IsBrought z limit resources.items) (sym same) way;
  some_steps = some;
  few_steps = few;
  counted = counted;
  belong = subst (λ (z : Inputs). All (λ (p : Vec Line). All (BelongsTo (system_of z)) p.items) pending.items) (sym same) belong;
}
