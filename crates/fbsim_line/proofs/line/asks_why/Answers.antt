use Rattle.std.proofs.Common.{◌∙◌, ◌&&◌, Bool, ap, not, sym}
use Rattle.fbsim_line.proofs.line.asks_why.Goals as goal

pub returns-then-is_given : goal.returns-then-is_given
returns-then-is_given c =
    let withdrawn = c.has_flag-is_withdrawn.result in
    record {
      given = c.has_flag-is_given.result;
      withdrawn = withdrawn;
      is_given = c.has_flag-is_given.ensures;
      is_withdrawn = c.has_flag-is_withdrawn.ensures;
      is = ap (λ (b : Bool). b && not withdrawn) (sym c.if-is_given.true);
    }

pub returns-else-is_given : goal.returns-else-is_given
returns-else-is_given c =
    let withdrawn = c.has_flag-is_withdrawn.result in
    record {
      given = c.has_flag-is_given.result;
      withdrawn = withdrawn;
      is_given = c.has_flag-is_given.ensures;
      is_withdrawn = c.has_flag-is_withdrawn.ensures;
      is = c.if-is_given.false ∙ ap (λ (b : Bool). b && not withdrawn) (sym c.if-is_given.false);
    }
