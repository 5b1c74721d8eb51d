use Rattle.std.proofs.Common.{rules, ◌≡◌, sym, ◌∙◌, ap, map, option_map, Bor, List, Option, []}
use Rattle.clap.specs.Words.{Text, found_of, rows_of}
use Rattle.clap.proofs.WalkLemmas.{raw_values-rows}
use Rattle.fbsim_line.proofs.lemmas.LineLaws.{texts-none, texts-some}
use Rattle.fbsim_line.proofs.line.texts_of.Goals as goal

abbrev texts : Option (Bor (List (Bor Text))) → Option (List Text)
texts o = option_map (λ (s : Bor (List (Bor Text))). map (λ (v : Bor Text). v.now) s.now) o

pub returns-in-Some : goal.returns-in-Some
returns-in-Some c =
    let m = found_of c.args.found.now in
    texts-some (rows_of m) c.args.id.now c.in-Some.texts.now c.from_slice.result (sym (raw_values-rows m c.args.id.now) ∙ sym c.get_strs.ensures ∙ ap texts c.in-Some.is) c.from_slice.ensures.items

pub returns-in-None : goal.returns-in-None
returns-in-None c =
    let m = found_of c.args.found.now in
    let empty : c.new.result.items ≡ [] = search rules in
    texts-none (rows_of m) c.args.id.now c.new.result.items (sym (raw_values-rows m c.args.id.now) ∙ sym c.get_strs.ensures ∙ ap texts c.in-None.is) empty
