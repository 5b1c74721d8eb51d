use Rattle.fb_sim.proofs.lemmas.Common.{◌≡◌, length, subst, sym, ◌∙◌, arith, early, late}
use Rattle.fb_trace.specs.Marks.{AreMarked, text_of_lines}
use Rattle.fb_sim.proofs.lemmas.text.Cutting.{early_short, early_text, late_text}
use Rattle.fb_sim.proofs.rounds.join_texts.cut.Goals as goal

pub returns : goal.returns
returns c = λ i form lines r.
    let t = c.args.tick in
    let rest = c.args.rest.now in
    let end = c.passed-count.result.1 in
    let taken = c.min-taken.result in
    let p = c.passed-count.ensures.passed i form lines r.marked in
    let ends = p.end in
    let short = early_short i form t rest.before lines rest.text.now end taken r.text ends in
    let long = c.saturating_sub.ensures in
    let least = c.min-taken.ensures in
    let all : taken ≡ length (text_of_lines i form (early t lines)) = grind (arith, ends, short, long, least) in
    let marked : AreMarked i form end c.split_at.result.1.now (late t lines) = subst (λ z. AreMarked i form end z (late t lines)) (sym c.split_at.ensures.back) p.left in
    record {
      text = c.split_at-2.ensures.front ∙ early_text i form t rest.before lines rest.text.now end taken r.text ends all;
      left = record {
        tick = c.first_tick.ensures i form end (late t lines) marked;
        marked = marked;
        text = c.split_at-2.ensures.back ∙ late_text i form t rest.before lines rest.text.now end taken r.text ends all;
      };
    }
