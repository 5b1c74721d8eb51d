use Rattle.fb_types.proofs.Common.{◌≡◌, ◌∷◌, [], ◌++◌, Bool, true, List, refl, sym, ap, ◌∙◌}
use Rattle.fb_types.specs.declared.run.Line.{Line}
use Rattle.fb_types.specs.declared.value.Value.{Value}
use Rattle.fb_inspect.specs.walk.Moves.{lines_kept}
use Rattle.fb_inspect.proofs.walk.trail.PassedLines.pass.Goals as goal

-- a copy of a line was kept
one_kept :
    (are_kept : Bool) (old new : List Line) (line : Line) (values : List Value) → new ≡ old ++ (record line { values = values }) ∷ [] → values ≡ line.values → are_kept ≡ true
    → new ≡ lines_kept are_kept old (line ∷ [])
one_kept are_kept old new line values put same kept =
    put ∙ ap (λ (v : List Value). old ++ (record line { values = v }) ∷ []) same ∙ ap (λ (b : Bool). lines_kept b old (line ∷ [])) (sym kept)

pub returns-in_ok-push : goal.returns-in_ok-push
returns-in_ok-push c =
    record {
      same = refl;
      lines =
          one_kept c.args.self.now.are_kept c.args.self.now.lines.items c.push.new.self.items c.args.line.now c.in_ok-from_slice.field-0 c.in_ok-push.ensures.items
          (c.in_ok-from_slice.ensures ∙ c.as_slice.ensures) c.if-self.true;
    }
