use Rattle.std.proofs.Common.{List, ℕ, ◌≡◌, option_map, subst}
use Rattle.toml.specs.Data.{get_member}
use Rattle.toml.specs.View.{table_view, view}
use Rattle.toml.proofs.Views.{table_get}
use Rattle.fb_expect.proofs.location.value_at.Goals as goal

pub returns : goal.returns
returns c =
    subst (λ (key : List ℕ). option_map (λ v. view v.now) c.get.result ≡ get_member key (table_view c.args.keys.now)) c.key_text.ensures
    (table_get c.get.result c.key_text.result.now c.args.keys.now.entries c.get.ensures.value)
