-- Expressions and statements as the rules that contain them need them.
use Rattle.fb_read.proofs.lemmas.Common.{◌≡◌, Bool, true, false, refl, ap, ◌∙◌, ◌&&◌, leb-true, le-leb, Expr, nesting, most_nesting, IsExpression, IsBody, expression, body}
use Rattle.fb_types.specs.declared.text.Body.{Body}
use Rattle.fb_read.specs.Nesting.{ExpressionFits, BodyFits, fits_expression, fits_body}
use Rattle.fb_read.specs.ReadsExactly.{ReadsExpressions, ReadsBodies}
use Rattle.fb_read.proofs.lemmas.rules.Lists.{IsSound, picked}
use Rattle.fb_read.proofs.lemmas.expressions.ExpressionSound.{expression-right}
use Rattle.fb_read.proofs.lemmas.expressions.ExpressionComplete.{expression-complete}
use Rattle.fb_read.proofs.lemmas.statements.StatementSound.{body-right}
use Rattle.fb_read.proofs.lemmas.statements.StatementComplete.{body-complete}

pub expression-sound : IsSound expression IsExpression
expression-sound ts x rest h = (expression-right ts x rest h).derived

pub body-sound : IsSound body IsBody
body-sound ts x rest h = (body-right ts x rest h).derived

-- ---- the limits, as a test and as a fact

pub expression-fits : (x : Expr) → fits_expression x ≡ true → ExpressionFits x
expression-fits x e = leb-true (nesting x) most_nesting e

pub fits-expression : (x : Expr) → ExpressionFits x → fits_expression x ≡ true
fits-expression x h = le-leb (nesting x) most_nesting h

both-true : (a b : Bool) → a && b ≡ true → (a ≡ true) × (b ≡ true)
both-true true b e = (refl, e)
both-true false b e = absurd cc

pub body-fits : (x : Body) → fits_body x ≡ true → BodyFits x
body-fits x e =
    let w = both-true _ _ e in
    record { statements = leb-true _ most_nesting w.0; expressions = leb-true _ most_nesting w.1 }

pub fits-body : (x : Body) → BodyFits x → fits_body x ≡ true
fits-body x h = rw (le-leb _ most_nesting h.statements, le-leb _ most_nesting h.expressions) refl

-- ---- the laws

not-true : (b : Bool) → (b ≡ true → ⊥) → b ≡ false
not-true true h = absurd (h refl)
not-true false h = refl

pub reads-expressions : ReadsExpressions
reads-expressions = record {
  derived = λ x ts rest h. expression-sound ts x rest h;
  kept = λ x ts rest h. (expression-right ts x rest h).fits;
  read = λ x ts rest l stops h. expression-complete x ts rest l stops ∙ ap (λ (b : Bool). picked b x rest) (fits-expression x h);
  refused = λ x ts rest l stops h. expression-complete x ts rest l stops ∙ ap (λ (b : Bool). picked b x rest) (not-true (fits_expression x) (λ e. h (expression-fits x e)));
}

pub reads-bodies : ReadsBodies
reads-bodies = record {
  derived = λ x ts rest h. body-sound ts x rest h;
  kept = λ x ts rest h. (body-right ts x rest h).fits;
  read = λ x ts rest l following h. body-complete x ts rest l tt ∙ ap (λ (b : Bool). picked b x rest) (fits-body x h);
  refused = λ x ts rest l following h. body-complete x ts rest l tt ∙ ap (λ (b : Bool). picked b x rest) (not-true (fits_body x) (λ e. h (body-fits x e)));
}
