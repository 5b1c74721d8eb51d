use Rattle.std.proofs.Common.{◌≡◌, length, ap, arith}
use Rattle.toml.specs.View.{view}
use Rattle.fb_inputs.proofs.lemmas.deployments.DocumentValues.{no_pair}
use Rattle.fb_inputs.proofs.document.LatencyDraftPiece.read.Goals as goal

pub returns-in_default-as_slice : goal.returns-in_default-as_slice
returns-in_default-as_slice c =
    let same = ap length c.as_slice.ensures.value in
    no_pair (view c.args.value.now) c.in-Some.values.now.items c.in-Some.ensures (λ (e : length c.in-Some.values.now.items ≡ 2). omega (arith, same, c.in_default-as_slice.len_below))

pub returns-in_default-as_slice-2 : goal.returns-in_default-as_slice-2
returns-in_default-as_slice-2 c =
    let same = ap length c.as_slice.ensures.value in
    no_pair (view c.args.value.now) c.in-Some.values.now.items c.in-Some.ensures (λ (e : length c.in-Some.values.now.items ≡ 2). omega (arith, same, c.in_default-as_slice.len_at_least))
