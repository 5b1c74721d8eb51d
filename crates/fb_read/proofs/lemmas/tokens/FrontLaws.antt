-- The token at the front of a text.
use Rattle.fb_types.proofs.Common.{◌≡◌, ℕ, ◌<◌, ◌≤◌, Result, Ok, Err, arith, IfOk}
use Rattle.fb_read.specs.declared.token.Token.{Token}
use Rattle.fb_read.specs.declared.front.LexFault.{LexFault}

-- the length of a token that is known
pub len-within : (r : Result (Token × ℕ) LexFault) (n m : ℕ) → IfOk r (λ t. t.1 ≡ n) → 0 < n → n ≤ m → IfOk r (λ t. (0 < t.1) × (t.1 ≤ m))
len-within (Ok t) n m e some le = (omega arith, omega arith)
len-within (Err f) n m e some le = tt
