-- Where the words of the forms are in memory changes no answer of the parser.
use Rattle.std.proofs.Common.{◌≡◌, ◌∙◌, Bool, List, [], ◌∷◌, map, drop, refl, sym, ap}
use Rattle.std.specs.Borrow.{Bor}
use Rattle.clap.specs.Values.{reading_of, refused_kind, same_text}
use Rattle.clap.specs.ValueTests.{accepts}
use Rattle.clap.specs.Simple.{built, names_of}
use Rattle.clap.specs.Walk.{Text, nothing_held, stop_after}
use Rattle.clap.specs.Words.{fault_of, subcommand_of, takes}
use Rattle.clap.specs.declared.builder.value_parser.ValueParser.{ValueParser}
use Rattle.clap.specs.declared.builder.value_parser.ValueParser.TheVariants.{Names}
use Rattle.clap.proofs.WalkLemmas.{list_any-map}
use Rattle.fbsim_line.specs.Line.{AreForms, forms, placed, simulator, simulator_with}
use Rattle.fbsim_line.proofs.lemmas.AlikeWalk.{IsAlike}
use Rattle.fbsim_line.proofs.lemmas.AlikeTakes.{built_takes_is, entered_is}
use Rattle.fbsim_line.proofs.lemmas.AlikeFaults.{built_fault_is}

-- a parser with its words elsewhere
abbrev moved : ValueParser → ValueParser
moved (Names words) = Names (placed (map (λ x. placed x.now) words.now))
moved p = p

is_alike : IsAlike moved
is_alike = record { takes = takes_is; reads = reads_is; refuses = refuses_is }
  where
    takes_is : (ignore_case : Bool) (p : ValueParser) → accepts ignore_case (moved p) ≡ accepts ignore_case p
    takes_is ignore_case (Names words) = λ i text. sym (list_any-map (λ name. same_text ignore_case name.now text) (λ x. placed x.now) words.now) i
    takes_is ignore_case _ = refl

    reads_is : (p : ValueParser) → reading_of (moved p) ≡ reading_of p
    reads_is (Names words) = refl
    reads_is _ = refl

    refuses_is : (p : ValueParser) → refused_kind (moved p) ≡ refused_kind p
    refuses_is (Names words) = refl
    refuses_is _ = refl

texts_placed : (words : List (Bor Text)) → map (λ x. placed x.now) words ≡ map placed (map (λ (x : Bor Text). x.now) words)
texts_placed [] = refl
texts_placed (w ∷ words) = ap (λ rest. placed w.now ∷ rest) (texts_placed words)

are_moved : (p : ValueParser) → AreForms p → moved p ≡ forms
are_moved (Names words) are = ap (λ l. Names (placed l)) (texts_placed words.now ∙ ap (map placed) are)
are_moved _ are = absurd are

module _ (values : ValueParser) (are : AreForms values) (words : List Text) where
  pub same_takes : takes (simulator_with values) words ≡ takes simulator words
  same_takes = sym (built_takes_is moved is_alike (built (simulator_with values)) nothing_held (drop 1 words)) ∙ ap (λ p. takes (simulator_with p) words) (are_moved values are)

  pub same_fault : fault_of (simulator_with values) words ≡ fault_of simulator words
  same_fault = sym (built_fault_is moved is_alike (built (simulator_with values)) nothing_held (drop 1 words)) ∙ ap (λ p. fault_of (simulator_with p) words) (are_moved values are)

  pub same_subcommand : subcommand_of (simulator_with values) words ≡ subcommand_of simulator words
  same_subcommand =
      sym (entered_is moved is_alike (built (simulator_with values)) (stop_after (built (simulator_with values)).top.rules (names_of (built (simulator_with values))) (drop 1 words)))
      ∙ ap (λ p. subcommand_of (simulator_with p) words) (are_moved values are)
