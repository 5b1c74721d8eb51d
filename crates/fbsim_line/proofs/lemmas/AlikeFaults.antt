-- How a parse may fail, where the parsers of values are others that answer alike.
use Rattle.fb_types.proofs.Common.{◌≡◌, ◌∙◌, ◌+◌, ◌&&◌, ◌||◌, ℕ, Bool, false, zero, suc, not, refl, ap, ap₂, List, [], ◌∷◌, map, length, min, drop, is_some, Option, Some, None, option_map, if◌then◌else◌, slice_get, find, list_any, bytes_eq}
use Rattle.std.specs.Prelude.{encode_utf8}
use Rattle.std.specs.Option.{option_map_or}
use Rattle.std.specs.Str.{chars}
use Rattle.clap.specs.Lexer.{long_of, short_of}
use Rattle.clap.specs.Matches.{count_text}
use Rattle.clap.specs.Facts.{explicit_source, parser_of_value, unwrap_or_range}
use Rattle.clap.specs.Walk.{Held, Names, Row, Rule, Step, Text, Waiting, Walk, action_of, answers_to, arg_by_id, arg_by_index, arg_by_long, arg_by_short, attached_value, count_of, finished, has_row, is_empty, is_pending, most_values, nothing_held, reacted, settled, subcommand_met, takes_several, takes_values, values_or_missing, walk, walk_from, walked, with_default, word_met}
use Rattle.clap.specs.Walk as w
use Rattle.clap.specs.Simple.{App, Shape, entered, label_of, names_of}
use Rattle.clap.specs.Takes.{is_given}
use Rattle.clap.specs.Kinds.{Kinds, check_kinds, or_else, range_kinds, request_kinds, value_kinds}
use Rattle.clap.specs.Faults.{action_fault, built_fault, bundle_fault, bundle_step_fault, check_fault, count_fault, default_fault, defaults_fault, entered_fault, flag_word_fault, flags_fault, level_fault, long_fault, option_fault, other_fault, positional_fault, react_fault, repeat_fault, set_fault, settle_fault, short_fault, step_fault, stray_fault, turn_fault, use_fault, values_fault, walk_fault, word_fault}
use Rattle.clap.specs.declared.builder.action.ArgAction.{ArgAction}
use Rattle.clap.specs.declared.builder.action.ArgAction.TheVariants.{Set, Append, SetTrue, SetFalse, Count}
use Rattle.clap.specs.declared.builder.value_parser.ValueParser.{ValueParser}
use Rattle.clap.specs.declared.error.kind.ErrorKind.TheVariants as kind
use Rattle.fbsim_line.proofs.lemmas.AlikeWalk.{IsAlike, changed, by_id, by_index, by_long, by_short, finished_is, missing_is, reacted_is, refuses_is, settled_is, takes_is, walk_is, walked_is, with_default_is, word_met_is}
use Rattle.fbsim_line.proofs.lemmas.AlikeTakes.{changed_app, changed_shape, entered_is, names_is, sub_is, top_walk_is}

module _ (g : ValueParser → ValueParser) (alike : IsAlike g) where
  abbrev of : Rule → Rule
  of = changed g

  abbrev all : List Rule → List Rule
  all = map of

  abbrev shape : Shape → Shape
  shape = changed_shape g

  -- ---- one use

  value_kinds_is : (a : Rule) (v : Text) → value_kinds a.ignore_case (parser_of_value (of a).parser) v ≡ value_kinds a.ignore_case (parser_of_value a.parser) v
  value_kinds_is a v = ap₂ (λ (takes : Text → Bool) k. if takes v then [] else k ∷ []) (takes_is g alike a) (refuses_is g alike a)

  values_fault_is : (a : Rule) (vs : List Text) → values_fault (of a) vs ≡ values_fault a vs
  values_fault_is a [] = refl
  values_fault_is a (v ∷ vs) = ap₂ or_else (value_kinds_is a v) (values_fault_is a vs)

  count_fault_is : (a : Rule) (vs : List Text) (rows : List Row) → count_fault (of a) vs rows ≡ count_fault a vs rows
  count_fault_is a [] rows = value_kinds_is a (count_text (min (count_of a.id rows + 1) 255))
  count_fault_is a (v ∷ vs) rows = values_fault_is a (v ∷ vs)

  set_fault_is : (again : Bool) (a : Rule) (vs : List Text) (rows : List Row) → set_fault again (of a) vs rows ≡ set_fault again a vs rows
  set_fault_is again a vs rows = ap (or_else (repeat_fault again a.id rows)) (values_fault_is a vs)

  action_fault_is : (x : ArgAction) (again : Bool) (a : Rule) (vs : List Text) (rows : List Row) → action_fault x again (of a) vs rows ≡ action_fault x again a vs rows
  action_fault_is Set again a vs rows = set_fault_is again a vs rows
  action_fault_is SetTrue again a vs rows = set_fault_is again a vs rows
  action_fault_is SetFalse again a vs rows = set_fault_is again a vs rows
  action_fault_is Append again a vs rows = values_fault_is a vs
  action_fault_is Count again a vs rows = count_fault_is a vs rows
  action_fault_is _ again a vs rows = refl

  use_fault_is : (again : Bool) (a : Rule) (vs : List Text) (rows : List Row) → use_fault again (of a) vs rows ≡ use_fault again a vs rows
  use_fault_is again a vs rows = ap (or_else (range_kinds (unwrap_or_range a.range).start_inclusive (most_values a) (length vs)))
      (ap (λ values. action_fault (action_of a) again (of a) values rows) (missing_is g alike a vs)
      ∙ action_fault_is (action_of a) again a (values_or_missing a vs) rows)

  -- ---- the walk

  settle_fault_is : (c : List Rule) (again : Bool) (h : Held) → settle_fault (all c) again h ≡ settle_fault c again h
  settle_fault_is c again h = go h.pending
    where
      use_is : (o : Option Rule) (vs : List Text) → option_map_or (λ a. use_fault again a vs h.rows) (option_map of o) [] ≡ option_map_or (λ a. use_fault again a vs h.rows) o []
      use_is None vs = refl
      use_is (Some a) vs = use_fault_is again a vs h.rows

      go : (o : Option (Text × List Text)) → option_map_or (λ p. option_map_or (λ a. use_fault again a p.1 h.rows) (arg_by_id (all c) p.0) []) o []
          ≡ option_map_or (λ p. option_map_or (λ a. use_fault again a p.1 h.rows) (arg_by_id c p.0) []) o []
      go None = refl
      go (Some p) = ap (λ o. option_map_or (λ a. use_fault again a p.1 h.rows) o []) (by_id g alike c p.0) ∙ use_is (arg_by_id c p.0) p.1

  react_fault_is : (c : List Rule) (again : Bool) (a : Rule) (vs : List Text) (h : Held) → react_fault (all c) again (of a) vs h ≡ react_fault c again a vs h
  react_fault_is c again a vs h = ap₂ or_else (settle_fault_is c again h)
      (use_fault_is again a vs (settled (all c) h).rows ∙ ap (λ (k : Held). use_fault again a vs k.rows) (settled_is g alike c h))

  option_fault_is : (c : List Rule) (again : Bool) (a : Rule) (v : Option Text) (h : Held) → option_fault (all c) again (of a) v h ≡ option_fault c again a v h
  option_fault_is c again a (Some v) h = react_fault_is c again a (v ∷ []) h
  option_fault_is c again a None h = settle_fault_is c again h

  long_fault_is : (c : List Rule) (again : Bool) (o : Option Rule) (v : Option Text) (h : Held) → long_fault (all c) again (option_map of o) v h ≡ long_fault c again o v h
  long_fault_is c again None v h = refl
  long_fault_is c again (Some a) v h = ap₂ (λ x y. if takes_values a then x else (if is_some v then kind.TooManyValues ∷ [] else y))
      (option_fault_is c again a v h) (react_fault_is c again a [] h)

  short_fault_is : (c : List Rule) (again : Bool) (o : Option Rule) (rest : Text) (h : Held) (n m : Held → Kinds) → ((k : Held) → n k ≡ m k)
      → short_fault (all c) again (option_map of o) rest h n ≡ short_fault c again o rest h m
  short_fault_is c again None rest h n m same = refl
  short_fault_is c again (Some a) rest h n m same = ap₂ (λ x y. if takes_values a then x else y) (option_fault_is c again a (attached_value rest) h)
      (ap₂ or_else (react_fault_is c again a [] h) (same (reacted (all c) (of a) [] h) ∙ ap m (reacted_is g alike c a [] h)))

  bundle_step_fault_is : (c : List Rule) (again : Bool) (o : Option ℕ) (flags : Text) (skip : ℕ) (h : Held) (n m : Text → ℕ → Held → Kinds)
      → ((t : Text) (s : ℕ) (k : Held) → n t s k ≡ m t s k) → bundle_step_fault (all c) again o flags skip h n ≡ bundle_step_fault c again o flags skip h m
  bundle_step_fault_is c again None flags skip h n m same = refl
  bundle_step_fault_is c again (Some x) flags zero h n m same =
      let rest = drop (length (encode_utf8 x)) flags in
      ap (λ o. short_fault (all c) again o rest h (n rest 0)) (by_short g alike c x) ∙ short_fault_is c again (arg_by_short c x) rest h (n rest 0) (m rest 0) (same rest 0)
  bundle_step_fault_is c again (Some x) flags (suc skip) h n m same = same (drop (length (encode_utf8 x)) flags) skip h

  flags_fault_is : (c : List Rule) (again : Bool) (k : ℕ) (flags : Text) (skip : ℕ) (h : Held) → flags_fault (all c) again k flags skip h ≡ flags_fault c again k flags skip h
  unfolding flags_fault
  flags_fault_is c again zero flags skip h = refl
  flags_fault_is c again (suc k) flags skip h =
      bundle_step_fault_is c again (slice_get (chars flags) 0) flags skip h (flags_fault (all c) again k) (flags_fault c again k) (flags_fault_is c again k)

  flag_word_fault_is : (c : List Rule) (again : Bool) (o : Option (Text × Option Text)) (word : Text) (h : Held) → flag_word_fault (all c) again o word h ≡ flag_word_fault c again o word h
  flag_word_fault_is c again (Some p) word h =
      ap (λ o. long_fault (all c) again o p.1 h) (by_long g alike c p.0) ∙ long_fault_is c again (arg_by_long c p.0) p.1 h
  flag_word_fault_is c again None word h = go (short_of word)
    where
      go : (o : Option Text) → option_map_or (λ flags. bundle_fault (all c) again flags h) o [] ≡ option_map_or (λ flags. bundle_fault c again flags h) o []
      go None = refl
      go (Some flags) = flags_fault_is c again (length flags) flags h.skip (record h { skip = 0 })

  other_fault_is : (s : Shape) (o : Option Text) (word : Text) (h : Held) → other_fault (shape s) o word h ≡ other_fault s o word h
  other_fault_is s (Some name) word h = refl
  other_fault_is s None word h = ap (λ x. if bytes_eq word (45 ∷ 45 ∷ []) then [] else x) (flag_word_fault_is s.rules s.args_override_self (long_of word) word h)

  word_fault_is : (s : Shape) (names : Names) (is_trailing : Bool) (waiting : Waiting) (word : Text) (h : Held)
      → word_fault (shape s) names is_trailing waiting word h ≡ word_fault s names is_trailing waiting word h
  word_fault_is s names is_trailing waiting word h = ap (λ x. if is_trailing then [] else x) (other_fault_is s (subcommand_met names waiting word) word h)

  step_fault_is : (s : Shape) (position : ℕ) (h : Held) (x : Step) → step_fault (shape s) position h x ≡ step_fault s position h x
  step_fault_is s position h w.value =
      ap (λ o. option_map_or (λ a. positional_fault (all s.rules) s.args_override_self a h) o (stray_fault s)) (by_index g alike s.rules position) ∙ go (arg_by_index s.rules position)
    where
      go : (o : Option Rule) → option_map_or (λ a. positional_fault (all s.rules) s.args_override_self a h) (option_map of o) (stray_fault s)
          ≡ option_map_or (λ a. positional_fault s.rules s.args_override_self a h) o (stray_fault s)
      go None = refl
      go (Some a) = ap (λ x. if is_pending a h.pending && takes_several a then [] else x) (settle_fault_is s.rules s.args_override_self h)
  step_fault_is s position h (w.next waiting) = refl
  step_fault_is s position h (w.trailing p) = refl
  step_fault_is s position h (w.subcommand name) = refl

  turn_fault_is : (s : Shape) (names : Names) (k : Walk) (word : Text) → turn_fault (shape s) names k word ≡ turn_fault s names k word
  turn_fault_is s names k word =
      let met = word_met s.rules names k.is_trailing k.waiting k.position word k.held in
      ap₂ (λ x y. if is_some k.stopped then [] else or_else x y) (word_fault_is s names k.is_trailing k.waiting word k.held)
      (ap (λ (r : Held × Step). step_fault (shape s) k.position r.0 r.1) (word_met_is g alike s.rules names k.is_trailing k.waiting k.position word k.held)
      ∙ step_fault_is s k.position met.0 met.1)

  walk_fault_is : (s : Shape) (names : Names) (k : Walk) (words : List Text) → walk_fault (shape s) names k words ≡ walk_fault s names k words
  unfolding walk_fault
  walk_fault_is s names k [] = refl
  walk_fault_is s names k (word ∷ rest) = ap₂ or_else (turn_fault_is s names k word)
      (ap (λ j. walk_fault (shape s) names j rest) (walked_is g alike s.rules names k word) ∙ walk_fault_is s names (walked s.rules names k word) rest)

  -- ---- after the walk

  default_fault_is : (rows : List Row) (a : Rule) → default_fault rows (of a) ≡ default_fault rows a
  default_fault_is rows a =
      ap (λ x. if has_row a.id rows || is_empty a.defaults then [] else or_else (request_kinds (action_of a)) x) (values_fault_is a a.defaults)

  defaults_fault_is : (rows : List Row) (c : List Rule) → defaults_fault rows (all c) ≡ defaults_fault rows c
  unfolding defaults_fault
  defaults_fault_is rows [] = refl
  defaults_fault_is rows (a ∷ c) = ap₂ or_else (default_fault_is rows a)
      (ap (λ rs. defaults_fault rs (all c)) (with_default_is g alike rows a) ∙ defaults_fault_is (with_default rows a) c)

  required_is : (rows : List Row) (c : List Rule) → list_any (λ a. a.required && not (is_given a.id rows)) (all c) ≡ list_any (λ a. a.required && not (is_given a.id rows)) c
  required_is rows [] = refl
  required_is rows (a ∷ c) = ap (λ b. (a.required && not (is_given a.id rows)) || b) (required_is rows c)

  check_fault_is : (s : Shape) (rows : List Row) (b : Bool) → check_fault (shape s) rows b ≡ check_fault s rows b
  check_fault_is s rows b = ap (λ x. check_kinds (not b && (s.arg_required_else_help && not (list_any (λ r. explicit_source r.source) rows)))
      (not b && s.subcommand_required) (not (s.subcommand_negates_reqs && b) && x)) (required_is rows s.rules)

  level_fault_is : (s : Shape) (names : Names) (h : Held) (words : List Text) (b : Bool) (below : Kinds) → level_fault (shape s) names h words b below ≡ level_fault s names h words b below
  level_fault_is s names h words b below =
      let end : walk (all s.rules) names h words ≡ walk s.rules names h words = walk_is g alike s.rules names h words in
      let ending = (walk s.rules names h words).held in
      ap₂ or_else (walk_fault_is s names (walk_from h) words) (ap (or_else below) (ap₂ or_else
      (ap (λ (k : Walk). settle_fault (all s.rules) s.args_override_self k.held) end ∙ settle_fault_is s.rules s.args_override_self ending)
      (ap₂ or_else
      (ap (λ (k : Walk). defaults_fault (settled (all s.rules) k.held).rows (all s.rules)) end
      ∙ ap (λ (k : Held). defaults_fault k.rows (all s.rules)) (settled_is g alike s.rules ending) ∙ defaults_fault_is (settled s.rules ending).rows s.rules)
      (ap (λ (k : Walk). check_fault (shape s) (finished (all s.rules) k.held) b) end
      ∙ ap (λ rows. check_fault (shape s) rows b) (finished_is g alike s.rules ending) ∙ check_fault_is s (finished s.rules ending) b))))

  -- ---- the command

  entered_fault_is : (a : App) (stop : Option (Text × List Text)) → entered_fault (changed_app g a) stop ≡ entered_fault a stop
  entered_fault_is a None = refl
  entered_fault_is a (Some p) =
      ap (λ o. option_map_or (λ s. level_fault s [] nothing_held p.1 false []) o []) (sub_is g alike p.0 a.subs) ∙ go (find (λ s. answers_to p.0 (label_of s)) a.subs)
    where
      go : (o : Option Shape) → option_map_or (λ s. level_fault s [] nothing_held p.1 false []) (option_map shape o) [] ≡ option_map_or (λ s. level_fault s [] nothing_held p.1 false []) o []
      go None = refl
      go (Some s) = level_fault_is s [] nothing_held p.1 false []

  pub built_fault_is : (a : App) (h : Held) (words : List Text) → built_fault (changed_app g a) h words ≡ built_fault a h words
  built_fault_is a h words =
      let stop = (walk a.top.rules (names_of a) h words).stopped in
      ap (λ (k : Walk). level_fault (shape a.top) (names_of (changed_app g a)) h words (is_some (entered (changed_app g a) k.stopped)) (entered_fault (changed_app g a) k.stopped)) (top_walk_is g alike a h words)
      ∙ ap (λ names. level_fault (shape a.top) names h words (is_some (entered (changed_app g a) stop)) (entered_fault (changed_app g a) stop)) (names_is g alike a.subs)
      ∙ ap₂ (λ e below. level_fault (shape a.top) (names_of a) h words (is_some e) below) (entered_is g alike a stop) (entered_fault_is a stop)
      ∙ level_fault_is a.top (names_of a) h words (is_some (entered a stop)) (entered_fault a stop)
