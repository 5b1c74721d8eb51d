-- Lines of lists of which text is made while they are taken, tick by tick.
use Rattle.fb_sim.proofs.lemmas.Common.{◌≡◌, ℕ, List, [], ◌++◌, map, refl, sym, ap, ◌∙◌, subst, All, Bor, append-nil, append_assoc, Inputs, system_of, Each, line_of, lines_text, Form, Line, all_early, all_late, joint, IsMergedText}
use Rattle.fb_trace.specs.Fronts.{BeginsFrom, IsEmpty}
use Rattle.fb_trace.proofs.lemmas.order.EarlyLines.{IsTaken, further}
use Rattle.fb_sim.proofs.lemmas.text.Texts.{parts_text}
use Rattle.fb_sim.proofs.lemmas.text.MergedText.{all_woven, begin_all, taken_each}

-- Of the lines that were taken off the lists, the first ones are the text, and the others stand in parts.
abbrev pub IsPut : Inputs → Form → (lists : List (List Line)) (parts : List Line) (left : List (List Line)) (text : List ℕ) → Type 0
IsPut i form lists parts left text = (put : List Line) × IsTaken lists (put ++ parts) left × (text ≡ lines_text form (system_of i) (map (line_of (system_of i)) put))

module _ (i : Inputs) (form : Form) (lists : List (List Line)) where
  -- none was taken
  pub none_put : IsPut i form lists [] lists []
  none_put = ([], begin_all lists, refl)

  module _ (parts : List Line) (left : List (List Line)) (text : List ℕ) (it : IsPut i form lists parts left text) where
    -- those of one tick more stand in parts
    pub more_taken : (tick : ℕ) → Each (BeginsFrom tick) left → IsPut i form lists (parts ++ all_early tick left) (all_late tick left) text
    more_taken tick from =
        (it.0, subst (λ z. IsTaken lists z (all_late tick left)) (append_assoc it.0 parts (all_early tick left)) (further tick lists (it.0 ++ parts) left it.1 from), it.2)

    -- the text of those that stood in parts is made too
    pub parts_put : IsPut i form lists [] left (text ++ lines_text form (system_of i) (map (line_of (system_of i)) parts))
    parts_put =
        let sys = system_of i in (
          it.0 ++ parts,
          subst (λ z. IsTaken lists z left) (sym (append-nil (it.0 ++ parts))) it.1,
          ap (λ z. z ++ lines_text form sys (map (line_of sys) parts)) it.2 ∙ parts_text form sys it.0 parts (it.0 ++ parts) refl,
        )

  -- it is the text of all lines, if none is left
  pub all_put : (left : List (List Line)) (text : List ℕ) → IsPut i form lists [] left text → Each IsEmpty left → IsMergedText i form lists text
  all_put left text it none = record {
    all = it.0;
    woven = all_woven lists it.0 left (subst (λ z. IsTaken lists z left) (append-nil it.0) it.1) none;
    is = it.2;
  }

-- what holds of all lines of lists holds of those that stand in parts
pub put_each : (P : Line → Type 0) (i : Inputs) (form : Form) (qs ps : List (Bor (List Line))) (left : List (List Line)) (text : List ℕ)
    → IsPut i form (map (λ q. q.now) qs) (joint (map (λ q. q.now) ps)) left text → All (λ q. All P q.now) qs → All (λ q. All P q.now) ps
put_each P i form qs ps left text it h = taken_each P qs ps it.0 left it.1 h
