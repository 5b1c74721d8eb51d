use Rattle.fb_wave.proofs.lemmas.Common.{◌≡◌, ◌≤◌, ℕ, List, [], ◌++◌, length, sym, ap, ◌∙◌, append_assoc, arith, system_of, Name, ending_of, Outcome}
use Rattle.fb_types.proofs.Common.{get_or_past}
use Rattle.fb_wave.specs.Changes.{time_text}
use Rattle.fb_wave.specs.Dumps.{end_text, stop_comment}
use Rattle.fb_wave.proofs.lemmas.Handing.{on_ok}
use Rattle.fb_wave.proofs.dump.put_end.Goals as goal

pub returns-then-resource-resources : goal.returns-then-resource-resources
returns-then-resource-resources c =
    let sys = system_of c.args.system.now in
    let m = c.in-Stop.mark in
    let old = c.args.text.now.items in
    let mid = c.put_time-in-Stop.new.text.items in
    let new = c.put_stop.new.text.items in
    let time : List ℕ = time_text c.args.shown m.tick in
    let stop : List ℕ = stop_comment c.resource_name.result.now m.reason in
    on_ok c.put_stop.result (new ≡ mid ++ stop) (new ≡ old ++ end_text sys c.args.shown (ending_of c.args.end)) c.put_stop.ensures
    (λ e.
    e ∙ ap (λ (t : List ℕ). t ++ stop) c.in_ok-put_time-in-Stop.ensures ∙ append_assoc old time stop
    ∙ ap (λ (n : Name). old ++ (time ++ stop_comment n m.reason)) c.resource_name.ensures
    ∙ ap (λ (x : Outcome). old ++ end_text sys c.args.shown (ending_of x)) (sym c.in-Stop.is))

-- there is no such resource
pub returns-else-resource-resources : goal.returns-else-resource-resources
returns-else-resource-resources c =
    let sys = system_of c.args.system.now in
    let m = c.in-Stop.mark in
    let old = c.args.text.now.items in
    let mid = c.put_time-in-Stop.new.text.items in
    let new = c.put_stop-else-resource-resources.new.text.items in
    let time : List ℕ = time_text c.args.shown m.tick in
    let stop : List ℕ = stop_comment [] m.reason in
    let past : length sys.resource_names ≤ m.resource = omega arith in
    on_ok c.put_stop-else-resource-resources.result (new ≡ mid ++ stop) (new ≡ old ++ end_text sys c.args.shown (ending_of c.args.end)) c.put_stop-else-resource-resources.ensures
    (λ e.
    e ∙ ap (λ (t : List ℕ). t ++ stop) c.in_ok-put_time-in-Stop.ensures ∙ append_assoc old time stop
    ∙ ap (λ (n : Name). old ++ (time ++ stop_comment n m.reason)) (sym (get_or_past sys.resource_names m.resource [] past))
    ∙ ap (λ (x : Outcome). old ++ end_text sys c.args.shown (ending_of x)) (sym c.in-Stop.is))
