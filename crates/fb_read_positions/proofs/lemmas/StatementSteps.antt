-- Statements, token by token.
use Rattle.fb_types.proofs.Common.{◌≡◌, ◌<◌, ◌+◌, ◌-◌, ℕ, suc, Bool, true, false, [], ◌∷◌, List, drop, take, get_or, length, sym, ◌∙◌, ap, arith, ◌&&◌, length-drop, take_all}
use Rattle.fb_read.specs.Parser.{rest_of}
use Rattle.fb_read.specs.Statements.{begins_statement}
use Rattle.fb_read.specs.Tokens.{Tokens, tokens_of}
use Rattle.fb_read.specs.declared.token.Located.{Located}
use Rattle.fb_read_positions.specs.Walks.{opens, to_statement}
use Rattle.fb_read_positions.proofs.lemmas.ClauseSteps.{next_is}
use Rattle.fb_read_positions.proofs.lemmas.ReadingLoops.{moved, past_statement, past_token}

-- what begins with the tokens from an index on
pub begins_there : (ps : List Located) (i : ℕ) (b v : Bool) → b ≡ begins_statement (tokens_of (take (length ps - i) (drop i ps))) → b ≡ v → begins_statement (tokens_of (drop i ps)) ≡ v
begins_there ps i b v e is =
    let whole : take (length ps - i) (drop i ps) ≡ drop i ps = take_all (length ps - i) (drop i ps) (omega (arith, length-drop i ps)) in
    ap (λ (us : List Located). begins_statement (tokens_of us)) (sym whole) ∙ sym e ∙ is

module _ (ps : List Located) (i : ℕ) (x : Located) (within : i < length ps) (is : x ≡ get_or ps i x) where
  rest_there : tokens_of (drop (i + 1) ps) ≡ rest_of (tokens_of (drop i ps))
  rest_there = sym (ap (λ (us : Tokens). rest_of us) (next_is ps i x within is))

  opens_there : (b : Bool) → b ≡ opens (x.token ∷ []) → b ≡ opens (tokens_of (drop i ps))
  opens_there b o = o ∙ sym (ap (λ (us : Tokens). opens us) (next_is ps i x within is))

  pub statement_passed :
      (ready b : Bool) (m n : ℕ) → ready ≡ true → begins_statement (tokens_of (drop i ps)) ≡ true → b ≡ opens (x.token ∷ []) → n ≡ m
      → to_statement (tokens_of (drop i ps)) ready (suc m) ≡ to_statement (tokens_of (drop (i + 1) ps)) b n
  statement_passed ready b m n o begins after k =
      past_statement (tokens_of (drop i ps)) ready m o begins ∙ moved (rest_of (tokens_of (drop i ps))) (tokens_of (drop (i + 1) ps)) (opens (tokens_of (drop i ps))) b m n rest_there (opens_there b after) k

  pub token_passed :
      (ready b : Bool) (m n : ℕ) → (ready && begins_statement (tokens_of (drop i ps))) ≡ false → b ≡ opens (x.token ∷ []) → n ≡ m
      → to_statement (tokens_of (drop i ps)) ready m ≡ to_statement (tokens_of (drop (i + 1) ps)) b n
  token_passed ready b m n none after k =
      past_token (tokens_of (drop i ps)) ready m none ∙ moved (rest_of (tokens_of (drop i ps))) (tokens_of (drop (i + 1) ps)) (opens (tokens_of (drop i ps))) b m n rest_there (opens_there b after) k
