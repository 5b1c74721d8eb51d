use Rattle.std.proofs.Common.{sym, ap, codes}
use Rattle.fb_text.specs.Expressions as spec
use Rattle.fb_text.proofs.lemmas.Adding.{put_piece}
use Rattle.fb_text.proofs.expression.put_separator.Goals as goal

pub returns-else-is_first : goal.returns-else-is_first
returns-else-is_first c =
    put_piece c.extend_from_slice.result c.args.text.now.items (codes ", ") (spec.separator c.args.is_first) _ (sym (ap spec.separator c.if-is_first.false))
    c.extend_from_slice.ensures.items
