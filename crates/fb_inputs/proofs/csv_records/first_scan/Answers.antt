use Rattle.fb_inputs.proofs.lemmas.Common.{refl, arith, count_below}
use Rattle.fb_inputs.proofs.csv_records.first_scan.Goals as goal

pub returns-clause-scanned : goal.returns-clause-scanned
unfolding count_below
returns-clause-scanned c = λ text. record { within = omega arith; quotes = refl; records = refl; few_quotes = omega arith; few_records = omega arith }
