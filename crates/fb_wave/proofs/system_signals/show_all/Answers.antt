use Rattle.std.proofs.Common.{[], ◌∷◌, ◌++◌, arith}
use Rattle.fb_wave.proofs.system_signals.show_all.Goals as goal

pub show_values-requires : goal.show_values-requires
show_values-requires c = λ k d h. let w = c.requires.indexes k d h in omega (arith, w, c.in_ok-fire.ensures.counted)

pub returns-clause-levels : goal.returns-clause-levels
returns-clause-levels c n fires sets touches are =
    c.show_values.ensures.levels n (fires ++ c.args.event ∷ []) sets (touches ++ c.args.event ∷ []) (c.in_ok-fire.ensures.levels n fires sets touches are)
