use Rattle.fb_types.proofs.Common.{◌∙◌, ◌||◌, Bool, List, ap, codes, map, sym, list_any, bytes_eq}
use Rattle.std.specs.Borrow.{Bor}
use Rattle.clap.specs.Words.{Text}
use Rattle.clap.proofs.WalkLemmas.{list_any-map}
use Rattle.fbsim_line.proofs.terminal.has_answer.Goals as goal

-- one of the words is this one
abbrev has : Text → List Text → Bool
has word words = list_any (λ w. bytes_eq w word) words

pub returns-then-is_asked : goal.returns-then-is_asked
returns-then-is_asked c =
    let words = c.args.words.now in
    let same = list_any-map (λ (w : Text). bytes_eq w (codes "--why")) (λ (w : Bor Text). w.now) words in
    c.if-is_asked.true ∙ ap (λ (b : Bool). b || has (codes "--no-why") (map (λ (w : Bor Text). w.now) words)) (sym c.if-is_asked.true ∙ c.contains-is_asked.ensures.value ∙ same)

pub returns-else-is_asked : goal.returns-else-is_asked
returns-else-is_asked c =
    let words = c.args.words.now in
    let asked = list_any-map (λ (w : Text). bytes_eq w (codes "--why")) (λ (w : Bor Text). w.now) words in
    let refused = list_any-map (λ (w : Text). bytes_eq w (codes "--no-why")) (λ (w : Bor Text). w.now) words in
    c.contains-is_refused.ensures.value ∙ refused
    ∙ ap (λ (b : Bool). b || has (codes "--no-why") (map (λ (w : Bor Text). w.now) words)) (sym c.if-is_asked.false ∙ c.contains-is_asked.ensures.value ∙ asked)
