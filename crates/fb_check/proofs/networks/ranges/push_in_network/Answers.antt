use Rattle.fb_check.proofs.lemmas.Common.{◌≡◌, ℕ, ◌+◌, ◌<◌, Bool, List, ◌++◌, drop, get_or, length, not, ◌∙◌, ap, option_copied, each_at, each_from, unless, OutOfRangeAt}
use Rattle.fb_check_names.proofs.lemmas.Listing.{each_done, each_more}
use Rattle.fb_check_names.proofs.lemmas.twice.Repeating.{same_within}
use Rattle.fb_check.specs.networks.OutOfRange.{out_at}
use Rattle.fb_check.proofs.networks.ranges.push_in_network.Goals as goal

-- one element more that the loop reads itself
each_read :
    {A B : Type 0} (f : ℕ → A → List B) (xs : List A) (i : ℕ) (z : A) (old new all : List B) → i < length xs → new ≡ old ++ f i (get_or xs i z)
    → old ++ each_from f i (drop i xs) ≡ all → new ++ each_from f (i + 1) (drop (i + 1) xs) ≡ all
each_read f xs i z old new all within added before =
    each_more f xs i (get_or xs i z) old new all within (same_within xs i z (get_or xs i z) within) added before

pub loop-connection-preserved : goal.loop-connection-preserved
loop-connection-preserved c =
    let i = c.loop-connection.connection in
    let at : OutOfRangeAt = record { site = c.args.site; connection = i } in
    each_read (out_at c.args.library.now c.args.site (option_copied c.args.boundary) c.as_slice-types.result.now) c.as_slice-wires.result.now i _ c.loop-connection.found.items
    c.push_unless.new.found.items _ c.loop-connection-test.true
    (c.in_ok-push_unless.ensures ∙ ap (λ (b : Bool). c.loop-connection.found.items ++ unless (not b) at) c.leads_out-leads_out.ensures) c.loop-connection.invariant

pub returns : goal.returns
returns c =
    let lib = c.args.library.now in
    let around = option_copied c.args.boundary in
    each_done (out_at lib c.args.site around c.as_slice-types.result.now) c.as_slice-wires.result.now c.loop-connection.connection c.loop-connection.found.items _ c.loop-connection-test.false
    c.loop-connection.invariant
    ∙ (λ k. c.args.found.now.items ++ each_at (out_at lib c.args.site around (c.as_slice-types.ensures k)) (c.as_slice-wires.ensures k))
