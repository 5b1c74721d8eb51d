use Rattle.fb_types.proofs.Common.{IfOk, List, MatchOption, Name, Twice, map, subst}
use Rattle.fb_types.specs.declared.deploy.Setting.{Setting}
use Rattle.fb_check_names.specs.Repeats.{IsFirstRepeat}
use Rattle.fb_check.proofs.stimuli.repeated_setting.Goals as goal

pub returns : goal.returns
returns c =
    let named : List Setting → List Name = map (λ (x : Setting). x.variable) in
    subst (λ (xs : List Setting). IfOk c.first_repeat.result (λ o. MatchOption o (¬ (Twice (named xs))) (IsFirstRepeat (named xs)))) c.as_slice.ensures
    c.first_repeat.ensures
