use Rattle.std.proofs.Common.{rules, ◌≡◌, sym, ◌∙◌, codes, Some, None}
use Rattle.clap.specs.Words.{found_of, first_value, rows_of}
use Rattle.clap.proofs.WalkLemmas.{first_value-rows}
use Rattle.fbsim_line.proofs.lemmas.LineLaws.{if_none, no_first, no_second}
use Rattle.fbsim_line.proofs.bench_line.diff_of.Goals as goal

pub returns-clause-rows : goal.returns-clause-rows
returns-clause-rows c =
    let m = found_of c.args.found.now in
    let first : first_value m (codes "A") ≡ Some c.in_ok-first.first.now = search rules in
    let second : first_value m (codes "B") ≡ Some c.in_ok-second.second.now = search rules in
    record {
      first = sym (first_value-rows m (codes "A")) ∙ first;
      second = sym (first_value-rows m (codes "B")) ∙ second;
      no_ticks = c.has_flag.ensures;
      why = c.asks_why.ensures;
    }

pub returns-in_err-first-clause-none : goal.returns-in_err-first-clause-none
returns-in_err-first-clause-none c =
    let m = found_of c.args.found.now in
    let none : first_value m (codes "A") ≡ None = search rules in
    if_none _ _ (no_first (rows_of m) (sym (first_value-rows m (codes "A")) ∙ none))

pub returns-in_err-second-clause-none : goal.returns-in_err-second-clause-none
returns-in_err-second-clause-none c =
    let m = found_of c.args.found.now in
    let none : first_value m (codes "B") ≡ None = search rules in
    if_none _ _ (no_second (rows_of m) (sym (first_value-rows m (codes "B")) ∙ none))
