-- Whether a parse succeeds, where the parsers of values are others that answer alike.
use Rattle.fb_types.proofs.Common.{◌≡◌, ◌∙◌, ◌+◌, ◌&&◌, ◌||◌, ℕ, Bool, true, false, zero, suc, not, refl, sym, ap, ap₂, List, [], ◌∷◌, map, length, min, drop, is_some, nat_le, Option, Some, None, option_map, if◌then◌else◌, slice_get, find, list_all, list_any, bytes_eq}
use Rattle.std.specs.Prelude.{encode_utf8}
use Rattle.std.specs.Option.{option_map_or}
use Rattle.std.specs.Str.{chars}
use Rattle.clap.specs.Lexer.{long_of, short_of}
use Rattle.clap.specs.Values.{is_request}
use Rattle.clap.specs.Matches.{count_text}
use Rattle.clap.specs.Facts.{explicit_source, unwrap_or_range}
use Rattle.clap.specs.Walk.{Held, Names, Row, Rule, Step, Text, Waiting, Walk, action_of, answers_to, arg_by_id, arg_by_index, arg_by_long, arg_by_short, attached_value, count_of, finished, has_row, is_empty, is_pending, most_values, nothing_held, reacted, settled, subcommand_met, takes_several, takes_values, values_or_missing, walk, walk_from, walked, word_met}
use Rattle.clap.specs.Walk as w
use Rattle.clap.specs.Simple.{App, Shape, entered, label_of, names_of, rows_at}
use Rattle.clap.specs.Takes.{action_passes, built_takes, bundle_passes, bundle_step_passes, count_passes, default_passes, entered_passes, flag_word_passes, flags_pass, is_given, is_valid, level_passes, long_passes, option_passes, other_passes, positional_passes, react_passes, set_passes, settle_passes, short_passes, step_passes, turn_passes, use_passes, values_pass, walk_passes, word_passes}
use Rattle.clap.specs.declared.builder.action.ArgAction.{ArgAction}
use Rattle.clap.specs.declared.builder.action.ArgAction.TheVariants.{Set, Append, SetTrue, SetFalse, Count}
use Rattle.clap.specs.declared.builder.value_parser.ValueParser.{ValueParser}
use Rattle.clap.proofs.WalkLemmas.{find-map}
use Rattle.fbsim_line.proofs.lemmas.AlikeWalk.{IsAlike, changed, by_id, by_index, by_long, by_short, finished_is, missing_is, reacted_is, rows_after_is, settled_is, takes_is, walk_is, walked_is, word_met_is}

-- a command whose parsers are changed
abbrev pub changed_shape : (ValueParser → ValueParser) → Shape → Shape
changed_shape g s = record s { rules = map (changed g) s.rules }

abbrev pub changed_app : (ValueParser → ValueParser) → App → App
changed_app g a = record { top = changed_shape g a.top; subs = map (changed_shape g) a.subs }

module _ (g : ValueParser → ValueParser) (alike : IsAlike g) where
  abbrev of : Rule → Rule
  of = changed g

  abbrev all : List Rule → List Rule
  all = map of

  abbrev shape : Shape → Shape
  shape = changed_shape g

  -- ---- one use

  values_pass_is : (a : Rule) (vs : List Text) → values_pass (of a) vs ≡ values_pass a vs
  values_pass_is a vs = ap (λ f. list_all f vs) (takes_is g alike a)

  count_passes_is : (a : Rule) (vs : List Text) (rows : List Row) → count_passes (of a) vs rows ≡ count_passes a vs rows
  count_passes_is a [] rows = ap (λ (f : Text → Bool). f (count_text (min (count_of a.id rows + 1) 255))) (takes_is g alike a)
  count_passes_is a (v ∷ vs) rows = values_pass_is a (v ∷ vs)

  set_passes_is : (again : Bool) (a : Rule) (vs : List Text) (rows : List Row) → set_passes again (of a) vs rows ≡ set_passes again a vs rows
  set_passes_is again a vs rows = ap (λ b. (not (has_row a.id rows) || again) && b) (values_pass_is a vs)

  action_passes_is : (x : ArgAction) (again : Bool) (a : Rule) (vs : List Text) (rows : List Row) → action_passes x again (of a) vs rows ≡ action_passes x again a vs rows
  action_passes_is Set again a vs rows = set_passes_is again a vs rows
  action_passes_is SetTrue again a vs rows = set_passes_is again a vs rows
  action_passes_is SetFalse again a vs rows = set_passes_is again a vs rows
  action_passes_is Append again a vs rows = values_pass_is a vs
  action_passes_is Count again a vs rows = count_passes_is a vs rows
  action_passes_is _ again a vs rows = refl

  use_passes_is : (again : Bool) (a : Rule) (vs : List Text) (rows : List Row) → use_passes again (of a) vs rows ≡ use_passes again a vs rows
  use_passes_is again a vs rows = ap (λ b. nat_le (unwrap_or_range a.range).start_inclusive (length vs) && (nat_le (length vs) (most_values a) && b))
      (ap (λ values. action_passes (action_of a) again (of a) values rows) (missing_is g alike a vs)
      ∙ action_passes_is (action_of a) again a (values_or_missing a vs) rows)

  -- ---- the walk

  settle_passes_is : (c : List Rule) (again : Bool) (h : Held) → settle_passes (all c) again h ≡ settle_passes c again h
  settle_passes_is c again h = go h.pending
    where
      use_is : (o : Option Rule) (vs : List Text) → option_map_or (λ a. use_passes again a vs h.rows) (option_map of o) true ≡ option_map_or (λ a. use_passes again a vs h.rows) o true
      use_is None vs = refl
      use_is (Some a) vs = use_passes_is again a vs h.rows

      go : (o : Option (Text × List Text)) → option_map_or (λ p. option_map_or (λ a. use_passes again a p.1 h.rows) (arg_by_id (all c) p.0) true) o true
          ≡ option_map_or (λ p. option_map_or (λ a. use_passes again a p.1 h.rows) (arg_by_id c p.0) true) o true
      go None = refl
      go (Some p) = ap (λ o. option_map_or (λ a. use_passes again a p.1 h.rows) o true) (by_id g alike c p.0) ∙ use_is (arg_by_id c p.0) p.1

  react_passes_is : (c : List Rule) (again : Bool) (a : Rule) (vs : List Text) (h : Held) → react_passes (all c) again (of a) vs h ≡ react_passes c again a vs h
  react_passes_is c again a vs h = ap₂ (λ x y. x && y) (settle_passes_is c again h)
      (use_passes_is again a vs (settled (all c) h).rows ∙ ap (λ (k : Held). use_passes again a vs k.rows) (settled_is g alike c h))

  option_passes_is : (c : List Rule) (again : Bool) (a : Rule) (v : Option Text) (h : Held) → option_passes (all c) again (of a) v h ≡ option_passes c again a v h
  option_passes_is c again a (Some v) h = react_passes_is c again a (v ∷ []) h
  option_passes_is c again a None h = settle_passes_is c again h

  long_passes_is : (c : List Rule) (again : Bool) (o : Option Rule) (v : Option Text) (h : Held) → long_passes (all c) again (option_map of o) v h ≡ long_passes c again o v h
  long_passes_is c again None v h = refl
  long_passes_is c again (Some a) v h =
      ap₂ (λ x y. if takes_values a then x else (not (is_some v) && y)) (option_passes_is c again a v h) (react_passes_is c again a [] h)

  short_passes_is : (c : List Rule) (again : Bool) (o : Option Rule) (rest : Text) (h : Held) (n m : Held → Bool) → ((k : Held) → n k ≡ m k)
      → short_passes (all c) again (option_map of o) rest h n ≡ short_passes c again o rest h m
  short_passes_is c again None rest h n m same = refl
  short_passes_is c again (Some a) rest h n m same = ap₂ (λ x y. if takes_values a then x else y) (option_passes_is c again a (attached_value rest) h)
      (ap₂ (λ x y. x && y) (react_passes_is c again a [] h) (same (reacted (all c) (of a) [] h) ∙ ap m (reacted_is g alike c a [] h)))

  bundle_step_passes_is : (c : List Rule) (again : Bool) (o : Option ℕ) (flags : Text) (skip : ℕ) (h : Held) (n m : Text → ℕ → Held → Bool)
      → ((t : Text) (s : ℕ) (k : Held) → n t s k ≡ m t s k) → bundle_step_passes (all c) again o flags skip h n ≡ bundle_step_passes c again o flags skip h m
  bundle_step_passes_is c again None flags skip h n m same = refl
  bundle_step_passes_is c again (Some x) flags zero h n m same =
      let rest = drop (length (encode_utf8 x)) flags in
      ap (λ o. short_passes (all c) again o rest h (n rest 0)) (by_short g alike c x) ∙ short_passes_is c again (arg_by_short c x) rest h (n rest 0) (m rest 0) (same rest 0)
  bundle_step_passes_is c again (Some x) flags (suc skip) h n m same = same (drop (length (encode_utf8 x)) flags) skip h

  flags_pass_is : (c : List Rule) (again : Bool) (k : ℕ) (flags : Text) (skip : ℕ) (h : Held) → flags_pass (all c) again k flags skip h ≡ flags_pass c again k flags skip h
  unfolding flags_pass
  flags_pass_is c again zero flags skip h = refl
  flags_pass_is c again (suc k) flags skip h =
      bundle_step_passes_is c again (slice_get (chars flags) 0) flags skip h (flags_pass (all c) again k) (flags_pass c again k) (flags_pass_is c again k)

  flag_word_passes_is : (c : List Rule) (again : Bool) (o : Option (Text × Option Text)) (word : Text) (h : Held) → flag_word_passes (all c) again o word h ≡ flag_word_passes c again o word h
  flag_word_passes_is c again (Some p) word h =
      ap (λ o. long_passes (all c) again o p.1 h) (by_long g alike c p.0) ∙ long_passes_is c again (arg_by_long c p.0) p.1 h
  flag_word_passes_is c again None word h = go (short_of word)
    where
      go : (o : Option Text) → option_map_or (λ flags. bundle_passes (all c) again flags h) o true ≡ option_map_or (λ flags. bundle_passes c again flags h) o true
      go None = refl
      go (Some flags) = flags_pass_is c again (length flags) flags h.skip (record h { skip = 0 })

  other_passes_is : (s : Shape) (o : Option Text) (word : Text) (h : Held) → other_passes (shape s) o word h ≡ other_passes s o word h
  other_passes_is s (Some name) word h = refl
  other_passes_is s None word h = ap (λ b. bytes_eq word (45 ∷ 45 ∷ []) || b) (flag_word_passes_is s.rules s.args_override_self (long_of word) word h)

  word_passes_is : (s : Shape) (names : Names) (is_trailing : Bool) (waiting : Waiting) (word : Text) (h : Held)
      → word_passes (shape s) names is_trailing waiting word h ≡ word_passes s names is_trailing waiting word h
  word_passes_is s names is_trailing waiting word h = ap (λ b. is_trailing || b) (other_passes_is s (subcommand_met names waiting word) word h)

  step_passes_is : (s : Shape) (position : ℕ) (h : Held) (x : Step) → step_passes (shape s) position h x ≡ step_passes s position h x
  step_passes_is s position h w.value = ap (λ o. option_map_or (λ a. positional_passes (all s.rules) s.args_override_self a h) o false) (by_index g alike s.rules position) ∙ go (arg_by_index s.rules position)
    where
      go : (o : Option Rule) → option_map_or (λ a. positional_passes (all s.rules) s.args_override_self a h) (option_map of o) false
          ≡ option_map_or (λ a. positional_passes s.rules s.args_override_self a h) o false
      go None = refl
      go (Some a) = ap (λ b. (is_pending a h.pending && takes_several a) || b) (settle_passes_is s.rules s.args_override_self h)
  step_passes_is s position h (w.next waiting) = refl
  step_passes_is s position h (w.trailing p) = refl
  step_passes_is s position h (w.subcommand name) = refl

  turn_passes_is : (s : Shape) (names : Names) (k : Walk) (word : Text) → turn_passes (shape s) names k word ≡ turn_passes s names k word
  turn_passes_is s names k word =
      let met = word_met s.rules names k.is_trailing k.waiting k.position word k.held in
      ap₂ (λ x y. is_some k.stopped || (x && y)) (word_passes_is s names k.is_trailing k.waiting word k.held)
      (ap (λ (r : Held × Step). step_passes (shape s) k.position r.0 r.1) (word_met_is g alike s.rules names k.is_trailing k.waiting k.position word k.held)
      ∙ step_passes_is s k.position met.0 met.1)

  walk_passes_is : (s : Shape) (names : Names) (k : Walk) (words : List Text) → walk_passes (shape s) names k words ≡ walk_passes s names k words
  unfolding walk_passes
  walk_passes_is s names k [] = refl
  walk_passes_is s names k (word ∷ rest) = ap₂ (λ x y. x && y) (turn_passes_is s names k word)
      (ap (λ j. walk_passes (shape s) names j rest) (walked_is g alike s.rules names k word) ∙ walk_passes_is s names (walked s.rules names k word) rest)

  -- ---- after the walk

  default_passes_is : (a : Rule) → default_passes (of a) ≡ default_passes a
  default_passes_is a = ap (λ b. is_empty a.defaults || (not (is_request (action_of a)) && b)) (values_pass_is a a.defaults)

  list_all_is : (p : Rule → Bool) → ((a : Rule) → p (of a) ≡ p a) → (c : List Rule) → list_all p (all c) ≡ list_all p c
  list_all_is p same [] = refl
  list_all_is p same (a ∷ c) = ap₂ (λ x y. x && y) (same a) (list_all_is p same c)

  is_valid_is : (s : Shape) (rows : List Row) (b : Bool) → is_valid (shape s) rows b ≡ is_valid s rows b
  is_valid_is s rows b = ap₂ (λ x y. (not s.arg_required_else_help || (b || list_any (λ r. explicit_source r.source) rows))
      && ((not s.subcommand_required || b) && (x && ((s.subcommand_negates_reqs && b) || y))))
      (list_all_is (λ a. a.is_free) (λ a. refl) s.rules) (list_all_is (λ a. not a.required || is_given a.id rows) (λ a. refl) s.rules)

  level_passes_is : (s : Shape) (names : Names) (h : Held) (words : List Text) (b : Bool) → level_passes (shape s) names h words b ≡ level_passes s names h words b
  level_passes_is s names h words b =
      let end : walk (all s.rules) names h words ≡ walk s.rules names h words = walk_is g alike s.rules names h words in
      let ending = (walk s.rules names h words).held in
      ap₂ (λ x y. x && y) (walk_passes_is s names (walk_from h) words)
      (ap₂ (λ x y. x && y)
      (ap (λ (k : Walk). settle_passes (all s.rules) s.args_override_self k.held) end ∙ settle_passes_is s.rules s.args_override_self ending)
      (ap₂ (λ x y. x && y) (list_all_is default_passes default_passes_is s.rules)
      (ap (λ (k : Walk). is_valid (shape s) (finished (all s.rules) k.held) b) end
      ∙ ap (λ rows. is_valid (shape s) rows b) (finished_is g alike s.rules ending) ∙ is_valid_is s (finished s.rules ending) b)))

  -- ---- the command

  abbrev app : App → App
  app = changed_app g

  pub names_is : (subs : List Shape) → map label_of (map shape subs) ≡ map label_of subs
  names_is [] = refl
  names_is (s ∷ subs) = ap (λ rest. label_of s ∷ rest) (names_is subs)

  pub sub_is : (name : Text) (subs : List Shape) → find (λ s. answers_to name (label_of s)) (map shape subs) ≡ option_map shape (find (λ s. answers_to name (label_of s)) subs)
  sub_is name subs = sym (find-map (λ s. answers_to name (label_of s)) shape subs)

  pub entered_is : (a : App) (stop : Option (Text × List Text)) → entered (app a) stop ≡ entered a stop
  entered_is a None = refl
  entered_is a (Some p) = ap (option_map (λ s. rows_at s p.1)) (sub_is p.0 a.subs) ∙ go (find (λ s. answers_to p.0 (label_of s)) a.subs)
    where
      go : (o : Option Shape) → option_map (λ s. rows_at s p.1) (option_map shape o) ≡ option_map (λ s. rows_at s p.1) o
      go None = refl
      go (Some s) = ap (λ rows. Some (s.name, rows)) (rows_after_is g alike s.rules [] p.1)

  entered_passes_is : (a : App) (stop : Option (Text × List Text)) → entered_passes (app a) stop ≡ entered_passes a stop
  entered_passes_is a None = refl
  entered_passes_is a (Some p) =
      ap (λ o. option_map_or (λ s. level_passes s [] nothing_held p.1 false) o true) (sub_is p.0 a.subs) ∙ go (find (λ s. answers_to p.0 (label_of s)) a.subs)
    where
      go : (o : Option Shape) → option_map_or (λ s. level_passes s [] nothing_held p.1 false) (option_map shape o) true ≡ option_map_or (λ s. level_passes s [] nothing_held p.1 false) o true
      go None = refl
      go (Some s) = level_passes_is s [] nothing_held p.1 false

  pub top_walk_is : (a : App) (h : Held) (words : List Text) → walk (all a.top.rules) (names_of (app a)) h words ≡ walk a.top.rules (names_of a) h words
  top_walk_is a h words = ap (λ names. walk (all a.top.rules) names h words) (names_is a.subs) ∙ walk_is g alike a.top.rules (names_of a) h words

  pub built_takes_is : (a : App) (h : Held) (words : List Text) → built_takes (app a) h words ≡ built_takes a h words
  built_takes_is a h words =
      let stop = (walk a.top.rules (names_of a) h words).stopped in
      ap (λ (k : Walk). entered_passes (app a) k.stopped && level_passes (shape a.top) (names_of (app a)) h words (is_some (entered (app a) k.stopped))) (top_walk_is a h words)
      ∙ ap₂ (λ x y. x && y) (entered_passes_is a stop)
      (ap₂ (λ names e. level_passes (shape a.top) names h words (is_some e)) (names_is a.subs) (entered_is a stop)
      ∙ level_passes_is a.top (names_of a) h words (is_some (entered a stop)))
