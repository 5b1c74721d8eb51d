use Rattle.fb_wave.proofs.lemmas.Finding.{no_second, no_third, second_whole, third_whole}
use Rattle.fb_inspect.proofs.lemmas.words.ThreeWords.{are_three}
use Rattle.fb_inspect.proofs.refused.fault_words.three_words.Goals as goal

pub returns-in_err-sign : goal.returns-in_err-sign
returns-in_err-sign c =
    let text = c.args.text.now in
    let one = c.in_ok-resource.ensures in
    rw c.from_residual-in_err-sign.ensures
    (λ u v w rest are. no_second text _ _ one (λ t blank. second_whole text _ _ one t blank (c.in_err-sign.ensures t blank) u v w rest are) u v w rest are)

pub returns-in_err-port : goal.returns-in_err-port
returns-in_err-port c =
    let text = c.args.text.now in
    let one = c.in_ok-resource.ensures in
    let two = c.in_ok-sign.ensures in
    rw c.from_residual-in_err-port.ensures
    (λ u v w rest are.
    no_third text _ _ one two.0 two.1 _ _ two.2 (λ s blank. third_whole text _ _ one two.0 two.1 _ _ two.2 s blank (c.in_err-port.ensures s blank) u v w rest are) u v w rest are)

pub returns : goal.returns
returns c =
    let two = c.in_ok-sign.ensures in
    let three = c.in_ok-port.ensures in
    are_three c.args.text.now _ _ _ _ _ _ _ _ c.in_ok-resource.ensures two.1 two.2 three.1 three.2
