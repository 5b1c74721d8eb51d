-- The keywords of names are those of declarations.
use Rattle.fb_types.proofs.Common.{◌≡◌, Bool, true, false, ◌||◌, cond, List, [], ◌∷◌, map, Option, Some, None, is_some, refl, ◌∙◌, bytes_eq}
use Rattle.fb_read.specs.Words.{Table, look_up, or_else, keyword}
use Rattle.fb_read.specs.Words as declarations
use Rattle.fb_read.specs.declared.token.Mark.{Mark}
use Rattle.fb_inputs.specs.Words.{Text, is_among, is_keyword}

abbrev words_of : Table → List Text
words_of = map (λ k. k.0)

abbrev among : Table → Text → Bool
among t word = is_among (words_of t) word

either_one : (b : Bool) (k : Mark) (o : Option Mark) (rest : Bool) → is_some o ≡ rest → is_some (cond b (Some k) o) ≡ (b || rest)
either_one true k o rest e = refl
either_one false k o rest e = e

found : (t : Table) (word : Text) → is_some (look_up t word) ≡ among t word
found [] word = refl
found (k ∷ t) word = either_one (bytes_eq word k.0) k.1 (look_up t word) (among t word) (found t word)

either_found : (a b : Option Mark) → is_some (or_else a b) ≡ (is_some a || is_some b)
either_found (Some k) b = refl
either_found None b = refl

both : {a b c d : Bool} → a ≡ b → c ≡ d → (a || c) ≡ (b || d)
both e f = rw (e, f) refl

in_a_row : (a b c d e f : Bool) → (a || (b || (c || (d || (e || f))))) ≡ (a || b || c || d || e || f)
in_a_row true b c d e f = refl
in_a_row false true c d e f = refl
in_a_row false false true d e f = refl
in_a_row false false false true e f = refl
in_a_row false false false false e f = refl

pub same_keywords : (word : Text) → is_some (keyword word) ≡ is_keyword word
unfolding keyword is_keyword
same_keywords word =
    either_found (look_up declarations.block_words word) _
    ∙ both (found declarations.block_words word) (either_found (look_up declarations.section_words word) _
    ∙ both (found declarations.section_words word) (either_found (look_up declarations.type_words word) _
    ∙ both (found declarations.type_words word) (either_found (look_up declarations.statement_words word) _
    ∙ both (found declarations.statement_words word) (either_found (look_up declarations.loop_words word) (look_up declarations.operator_words word)
    ∙ both (found declarations.loop_words word) (found declarations.operator_words word)))))
    ∙ in_a_row (among declarations.block_words word) (among declarations.section_words word) (among declarations.type_words word) (among declarations.statement_words word) (among declarations.loop_words word) (among declarations.operator_words word)
