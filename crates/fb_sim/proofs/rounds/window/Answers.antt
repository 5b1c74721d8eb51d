use Rattle.fb_sim.proofs.lemmas.Common.{◌≡◌, ℕ, List, Option, All, length, ap, subst, sym, ◌∙◌, IfSome, Vec, Inputs, system_of, Each, Line, BelongsTo, flat, JobModel, jobs_of, AreLegal, KeepHorizon, OfEachCore, IsMerged}
use Rattle.fb_sim.specs.Texts.{AreTextsFrom, AreTextsOf}
use Rattle.fb_sim.specs.declared.rounds.job_texts.FinalTexts.{FinalTexts}
use Rattle.fb_sim.proofs.lemmas.text.TextsAre.{jobs_are_of, texts_if_used}
use Rattle.fb_sim.proofs.lemmas.rounds.WindowIs.{are_done, is_home, keep}
use Rattle.fb_sim.proofs.rounds.window.Goals as goal

-- the lists belong to the system
abbrev Belong : Inputs → List (Vec Line) → Type 0
Belong i ps = All (λ (p : Vec Line). All (BelongsTo (system_of i)) p.items) ps

pub bounds-bounds-requires-clause-clocks : goal.bounds-bounds-requires-clause-clocks
bounds-bounds-requires-clause-clocks g c = keep c.args.system.now c.args.plan.options.steps c.args.plan.options.horizon c.args.core c.requires.come.0 c.requires.come.1 (record { accepted = c.facts.ensures.accepted; limits = c.facts.ensures.limits })

pub jobs-requires-clause-system : goal.jobs-requires-clause-system
jobs-requires-clause-system g c = sym c.requires.come.1.of.inputs

pub jobs-requires-clause-clocks : goal.jobs-requires-clause-clocks
jobs-requires-clause-clocks g c =
    subst (λ (n : ℕ). KeepHorizon n c.args.core.resources.items) (sym c.bounds-bounds.ensures.horizon)
    (keep c.args.system.now c.args.plan.options.steps c.args.plan.options.horizon c.args.core c.requires.come.0 c.requires.come.1 (record { accepted = c.facts.ensures.accepted; limits = c.facts.ensures.limits }))

pub jobs-requires-clause-legal : goal.jobs-requires-clause-legal
jobs-requires-clause-legal g c =
    subst (λ (n : ℕ). OfEachCore c.args.core.system c.args.core.steps c.args.core.resources.items (λ d. AreLegal c.args.core.system c.args.core.steps n d c.bounds-bounds.result.all)) (sym c.bounds-bounds.ensures.horizon)
    c.bounds-bounds.ensures.legal

pub settle_apart-requires-clause-system : goal.settle_apart-requires-clause-system
settle_apart-requires-clause-system g c =
    let kept = c.in_ok-away.ensures.kept in
    sym (kept.0 ∙ c.requires.come.1.of.inputs)

pub settle_apart-requires-clause-done : goal.settle_apart-requires-clause-done
settle_apart-requires-clause-done g c =
    let kept = c.in_ok-away.ensures.kept in
    are_done c.args.system.now c.args.plan.options.steps c.args.plan.options.horizon c.args.core c.requires.come.0 c.requires.come.1 c.bounds-bounds.result.all _ kept.0 kept.1 kept.3 c.in_ok-away.ensures.away _ _ c.in_ok-away.ensures.jobs c.in_ok-texts.ensures.done.done

pub final_texts-requires-clause-belong : goal.final_texts-requires-clause-belong
final_texts-requires-clause-belong g c =
    let inputs : c.args.system.now ≡ c.in_ok-away.away.system = sym (c.in_ok-away.ensures.kept.0 ∙ c.requires.come.1.of.inputs) in
    subst (Belong c.args.system.now) (sym c.deref.ensures.value)
    (subst (λ (i : Inputs). Belong i c.in_ok-reach.finals.items) (sym inputs) c.in_ok-reach.ensures.belong)

pub final_texts-requires-clause-texts : goal.final_texts-requires-clause-texts
final_texts-requires-clause-texts g c =
    let i = c.args.system.now in
    let core = c.args.core in
    let jobs = jobs_of core.system core.steps c.bounds-bounds.result.all 0 core.resources.items in
    let of : Each (λ (j : JobModel). j.inputs ≡ i) jobs =
    subst (λ (i : Inputs). Each (λ (j : JobModel). j.inputs ≡ i) jobs) c.requires.come.1.of.inputs (jobs_are_of core.system core.steps c.bounds-bounds.result.all 0 core.resources.items) in
    let done = c.in_ok-texts.ensures.done.texts i (subst (λ (js : List JobModel). Each (λ (j : JobModel). j.inputs ≡ i) js) (sym c.in_ok-away.ensures.jobs) of) in
    let finals = c.in_ok-reach.finals.items in
    subst (λ (ps : List (Vec Line)). IfSome c.only_if-made.result (λ ts. AreTextsFrom i ps ts.items)) (sym c.deref.ensures.value)
    (texts_if_used i finals c.in_ok-texts.done.dones.items c.in_ok-texts.done.texts c.only_if-made.result c.keeps_nothing-2.result (λ e. c.in_ok-reach.ensures.fronts (c.keeps_nothing-2.ensures e)) done c.only_if-made.ensures)

pub returns-clause-home : goal.returns-clause-home
returns-clause-home g c ls h =
    let kept = c.in_ok-away.ensures.kept in
    λ all m.
    is_home c.args.system.now c.args.plan.options.steps c.args.plan.options.horizon c.args.core ls h c.bounds-bounds.result.all _ kept.0 kept.1 kept.3 c.in_ok-away.ensures.away _
    (record { accepted = c.facts.ensures.accepted; limits = c.facts.ensures.limits }) (kept.2 ∙ c.bounds-bounds.ensures.horizon) c.bounds-bounds.ensures.legal _ c.bounds-bounds.ensures.bounds
    (c.in_ok-reach.ensures.settles all (subst (λ (v : Vec (Vec Line)). IsMerged v.items all.items) c.in_ok-finals.ensures.lists m))

pub returns-clause-unwritten : goal.returns-clause-unwritten
returns-clause-unwritten g c =
    let i = c.args.system.now in
    let inputs : c.args.system.now ≡ c.in_ok-away.away.system = sym (c.in_ok-away.ensures.kept.0 ∙ c.requires.come.1.of.inputs) in
    let same = c.in_ok-finals.ensures.lists in
    record {
      belong = subst (λ (v : Vec (Vec Line)). Belong i v.items) (sym same) (subst (λ (j : Inputs). Belong j c.in_ok-reach.finals.items) (sym inputs) c.in_ok-reach.ensures.belong);
      counted = c.in_ok-finals.ensures.count ∙ ap (λ (v : Vec (Vec Line)). length (flat v.items)) (sym same);
      few = c.in_ok-finals.ensures.few;
      texts = subst (λ (t : Option FinalTexts). IfSome t (AreTextsOf i c.in_ok-finals.finals.lists.items)) (sym c.in_ok-finals.ensures.texts)
          (subst (λ (v : Vec (Vec Line)). IfSome c.in_ok-made.made (AreTextsOf i v.items)) (sym same)
          (subst (λ (ps : List (Vec Line)). IfSome c.in_ok-made.made (AreTextsOf i ps)) c.deref.ensures.value c.in_ok-made.ensures));
    }
