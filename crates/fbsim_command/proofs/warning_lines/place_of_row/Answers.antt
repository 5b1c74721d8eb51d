use Rattle.fbsim_command.proofs.lemmas.Common.{Bor, List, ℕ, ap, inl, inr, option_map, string_bytes, naming_of}
use Rattle.fbsim_command.proofs.lemmas.files.PlacedLines.{given-none, given-some, row_placed, row_unplaced}
use Rattle.fbsim_command.proofs.warning_lines.place_of_row.Goals as goal

pub returns-in_default : goal.returns-in_default
returns-in_default c = inr (inl (ap (option_map (λ (b : Bor (List ℕ)). b.now)) c.in_default.is), c.new.ensures.bytes)

pub returns-then-is_none : goal.returns-then-is_none
returns-then-is_none c = inr (inr (inl (given-none c.args.stimuli c.is_none.result c.is_none.ensures c.if-is_none.true)), c.new-then-is_none.ensures.bytes)

pub returns-in-Some-at : goal.returns-in-Some-at
returns-in-Some-at c =
    let now = λ (b : Bor (List ℕ)). b.now in
    let given = given-some c.args.stimuli c.is_none.result c.is_none.ensures c.if-is_none.false in
    row_placed (naming_of c.args.naming.now) (option_map now c.args.stimuli) c.args.row (λ s. string_bytes s) c.place_text.result c.in-Some.name.now given.0 c.args.at c.in-Some-at.at
    (ap (option_map now) c.in-Some.is) given.1 c.in-Some-at.is c.requires c.place_text.ensures

pub returns-in-None : goal.returns-in-None
returns-in-None c =
    let now = λ (b : Bor (List ℕ)). b.now in
    let given = given-some c.args.stimuli c.is_none.result c.is_none.ensures c.if-is_none.false in
    inr (row_unplaced (naming_of c.args.naming.now) (option_map now c.args.stimuli) c.args.row given.0 c.args.at given.1 c.in-None.is c.requires, c.new-in-None.ensures.bytes)
