use Rattle.fb_inputs.proofs.lemmas.Common.{◌≡◌, ◌&&◌, ◌||◌, ◌-◌, false, not, sym, ◌==◌, ne_eqb, at}
use Rattle.fb_inputs.proofs.csv_records.begins_word.Goals as goal

pub returns-else-at-eq0 : goal.returns-else-at-eq0
returns-else-at-eq0 c =
    let z = c.args.said.now in
    let n = c.args.at in
    let letter : false ≡ (at z n == 32) = sym (ne_eqb (at z n) 32 c.if-said-at-ne32.true) in
    let later : false ≡ (n == 0) = sym (ne_eqb n 0 c.if-at-eq0.false) in
    λ i. not (letter i) && (later i || at z (n - 1) == 32)
