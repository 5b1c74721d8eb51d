use Rattle.fb_types.proofs.Common.{◌≡◌, ℕ, List, ◌++◌, codes, ap, ◌∙◌, append_assoc, system_of}
use Rattle.fb_wave.specs.Changes.{line}
use Rattle.fb_wave.specs.Scopes.{instances_begun, resources_declared}
use Rattle.fb_wave.proofs.lemmas.Handing.{on_put}
use Rattle.fb_wave.proofs.head.put_head.Goals as goal

regroup : (t s r d z v g e : List ℕ) → ((((t ++ s) ++ r) ++ (d ++ (z ++ v))) ++ g) ++ e ≡ t ++ ((((((s ++ r) ++ d) ++ z) ++ v) ++ g) ++ e)
regroup t s r d z v g e = simp append_assoc

pub returns : goal.returns
returns c =
    let sys = system_of c.args.system.now in
    let text = c.args.text.now.items in
    let scopes : List ℕ = resources_declared sys 0 sys.resource_names in
    let begun : List ℕ = instances_begun sys 0 sys.paths in
    on_put c.extend_from_slice-3.result _ _ _ _ c.extend_from_slice-3.ensures.items
    (λ e.
    e
    ∙ ap (λ (t : List ℕ). t ++ line (codes "$end"))
    (c.in_ok-put_begun.ensures
    ∙ ap (λ (t : List ℕ). t ++ begun)
    (c.in_ok-extend_from_slice-2.ensures.items
    ∙ ap (λ (t : List ℕ). t ++ codes "$enddefinitions $end\n#0\n$dumpvars\n")
    (c.in_ok-put_resources.ensures ∙ ap (λ (t : List ℕ). t ++ scopes) c.in_ok-extend_from_slice.ensures.items)))
    ∙ regroup text (line (codes "$timescale 1 ms $end")) scopes (line (codes "$enddefinitions $end")) (line (codes "#0")) (line (codes "$dumpvars")) begun (line (codes "$end")))
