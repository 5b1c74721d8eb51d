use Rattle.std.proofs.Common.{◌≡◌, List, [], ◌∷◌, length, String, Global, refl, sym, ◌∙◌, arith}
use Rattle.toml.specs.View.{members_view}
use Rattle.toml.specs.declared.value.Value.{Value}
use Rattle.fb_expect.specs.Drafts.{count_of}
use Rattle.fb_expect.proofs.document.count_of_keys.Goals as goal

count-view : (es : List (String Global × Value)) → count_of (members_view es) ≡ length es
count-view [] = refl
count-view (e ∷ es) = omega (arith, count-view es)

pub returns : goal.returns
returns c = c.len.ensures.len ∙ sym (count-view c.args.keys.now.entries)
