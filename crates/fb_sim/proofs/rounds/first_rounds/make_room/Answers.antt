use Rattle.fb_types.proofs.Common.{◌≡◌, ◌≤◌, ◌++◌, ℕ, Bool, true, false, cond, List, length, take, ap, ◌∙◌, arith, take_all, take-append-le}
use Rattle.std.specs.Result.{is_ok}
use Rattle.fb_sim.proofs.rounds.first_rounds.make_room.Goals as goal

-- a list that was filled up, or stayed, begins as it was
kept : (b : Bool) (xs new ys : List ℕ) (n : ℕ) → length xs ≤ n → new ≡ cond b (take n xs ++ ys) xs → take (length xs) new ≡ xs
kept true xs new ys n le is =
    let whole : take n xs ++ ys ≡ xs ++ ys = ap (λ (l : List ℕ). l ++ ys) (take_all n xs le) in
    ap (take (length xs)) (is ∙ whole) ∙ take-append-le (length xs) xs ys (omega arith) ∙ take_all (length xs) xs (omega arith)
kept false xs new ys n le is = ap (take (length xs)) is ∙ take_all (length xs) xs (omega arith)

pub returns : goal.returns
returns c =
    let text = c.args.text.now in
    let counted : c.len-count.result ≡ length text.items = c.len-count.ensures ∙ text.ok.0 in
    let le : length text.items ≤ c.saturating_add.result = omega (arith, counted, c.saturating_add.ensures, c.len-count.type_inv) in
    c.truncate.ensures.items ∙ ap (λ n. take n c.resize.new.self.items) counted
    ∙ kept (is_ok c.resize.result) text.items c.resize.new.self.items _ c.saturating_add.result le c.resize.ensures.items
