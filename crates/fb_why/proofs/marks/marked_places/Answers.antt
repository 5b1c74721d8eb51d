use Rattle.std.proofs.Common.{◌≡◌, IfNone, None, Option, subst}
use Rattle.fb_read_positions.specs.Spans.{DeclaresNothing}
use Rattle.fb_why.proofs.marks.marked_places.Goals as goal

none_of : {A : Type 0} (P : Type 0) (o : Option A) → o ≡ None → IfNone o P → P
none_of {A} P o is h = subst (λ (x : Option A). IfNone x P) is h

-- a text that declares a library has tokens
pub unreachable-requires : goal.unreachable-requires
unreachable-requires c =
    none_of (DeclaresNothing c.args.text.now) c.in_ok-tokens.field-0 c.in_default.is c.in_ok-tokens.ensures.none c.args.library.now c.requires.read
