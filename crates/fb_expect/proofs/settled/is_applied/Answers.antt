use Rattle.fb_expect.proofs.lemmas.Common.{◌≡◌, ℕ, Bool, Option, sym, subst, End, Mark, Need, Watch}
use Rattle.fb_expect.specs.Deciding.{Applies}
use Rattle.fb_expect.specs.declared.rule.Need.TheVariants as need
use Rattle.fb_expect.specs.declared.watch.Watch.TheVariants as watch
use Rattle.fb_expect.proofs.settled.is_applied.Goals as goal

-- what is known of a rule and a state is known of those that are the same
same : (n m : Need) (w v : Watch) (first : Option Mark) (end : End) (often : ℕ) (b : Bool) → n ≡ m → w ≡ v → Applies m v first end often b → Applies n w first end often b
same n m w v first end often b rule state here =
    subst (λ (x : Need). Applies x w first end often b) (sym rule) (subst (λ (y : Watch). Applies m y first end often b) (sym state) here)

pub returns-in-See-watch : goal.returns-in-See-watch
returns-in-See-watch c =
    let a = c.args in
    same a.need (need.See c.in-See.within) a.watch (watch.See c.in-See-watch.waiting) a.first a.end a.often c.see_settles.result c.in-See.is c.in-See-watch.is
    (λ hs below first knows. c.see_settles.ensures hs first knows)
