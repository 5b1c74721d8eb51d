-- What a parse makes of the words, where the parsers of values are others that answer alike.
use Rattle.fb_types.proofs.Common.{◌≡◌, ◌∙◌, ◌==◌, ◌&&◌, ◌||◌, ℕ, Bool, false, zero, suc, not, refl, sym, ap, ap₂, List, [], ◌∷◌, map, length, drop, is_some, Option, Some, None, option_map, if◌then◌else◌, slice_get, fold, bytes_eq}
use Rattle.std.specs.Prelude.{encode_utf8}
use Rattle.std.specs.Option.{option_map_or}
use Rattle.std.specs.Str.{chars}
use Rattle.clap.specs.Lexer.{long_of, short_of}
use Rattle.clap.specs.Values.{reading_of, refused_kind}
use Rattle.clap.specs.ValueTests.{accepts}
use Rattle.clap.specs.Facts.{parser_of_value}
use Rattle.clap.specs.Walk.{Held, Names, Outcome, Row, Rule, Step, Text, Waiting, Walk, action_of, after_flag, after_step, arg_by_id, arg_by_index, arg_by_long, arg_by_short, attached_value, bundle_met, bundle_step, default_rows, done, finished, flag_met, has_long, has_row, has_short, idle, is_multiple, is_pending, long_met, long_or_other, long_word, next_position, option_met, option_word, plain, plain_word, positional_held, pushed, reacted, reading_by, rows_after, settled, settled_rows, short_met, short_or_plain, short_word, subcommand_met, subcommand_or_other, takes_several, takes_values, to_positional, used, used_as, used_by_id, values_or_missing, walk, walk_from, walked, walked_from, with_default, word_met}
use Rattle.clap.specs.Walk as w
use Rattle.clap.specs.declared.builder.value_parser.ValueParser.{ValueParser}
use Rattle.clap.proofs.WalkLemmas.{find-map}

-- g changes no answer of a parser
pub record IsAlike (g : ValueParser → ValueParser) : Type 0 where
  pub takes : (ignore_case : Bool) (p : ValueParser) → accepts ignore_case (g p) ≡ accepts ignore_case p
  pub reads : (p : ValueParser) → reading_of (g p) ≡ reading_of p
  pub refuses : (p : ValueParser) → refused_kind (g p) ≡ refused_kind p

-- a rule whose parser is changed
abbrev pub changed : (ValueParser → ValueParser) → Rule → Rule
changed g a = record a { parser = option_map g a.parser }

module _ (g : ValueParser → ValueParser) (alike : IsAlike g) where
  abbrev of : Rule → Rule
  of = changed g

  abbrev all : List Rule → List Rule
  all = map of

  pub takes_is : (a : Rule) → accepts a.ignore_case (parser_of_value (of a).parser) ≡ accepts a.ignore_case (parser_of_value a.parser)
  takes_is a = go a.parser
    where
      go : (o : Option ValueParser) → accepts a.ignore_case (parser_of_value (option_map g o)) ≡ accepts a.ignore_case (parser_of_value o)
      go None = refl
      go (Some p) = alike.takes a.ignore_case p

  pub refuses_is : (a : Rule) → refused_kind (parser_of_value (of a).parser) ≡ refused_kind (parser_of_value a.parser)
  refuses_is a = go a.parser
    where
      go : (o : Option ValueParser) → refused_kind (parser_of_value (option_map g o)) ≡ refused_kind (parser_of_value o)
      go None = refl
      go (Some p) = alike.refuses p

  reads_is : (a : Rule) → reading_by (of a) ≡ reading_by a
  reads_is a = go a.parser
    where
      go : (o : Option ValueParser) → reading_of (parser_of_value (option_map g o)) ≡ reading_of (parser_of_value o)
      go None = refl
      go (Some p) = alike.reads p

  -- ---- the walk

  pub missing_is : (a : Rule) (vs : List Text) → values_or_missing (of a) vs ≡ values_or_missing a vs
  missing_is a [] = refl
  missing_is a (v ∷ vs) = refl

  pub used_is : (a : Rule) (vs : List Text) (rows : List Row) → used (of a) vs rows ≡ used a vs rows
  used_is a vs rows = ap₂ (λ how values. used_as (action_of a) a.id how values rows) (reads_is a) (missing_is a vs)

  used_by_id_is : (o : Option Rule) (vs : List Text) (rows : List Row) → used_by_id (option_map of o) vs rows ≡ used_by_id o vs rows
  used_by_id_is None vs rows = refl
  used_by_id_is (Some a) vs rows = used_is a vs rows

  pub by_id : (c : List Rule) (id : Text) → arg_by_id (all c) id ≡ option_map of (arg_by_id c id)
  by_id c id = sym (find-map (λ a. bytes_eq a.id id) of c)

  pub by_long : (c : List Rule) (name : Text) → arg_by_long (all c) name ≡ option_map of (arg_by_long c name)
  by_long c name = sym (find-map (λ a. not (is_some a.index) && has_long a name) of c)

  pub by_short : (c : List Rule) (x : ℕ) → arg_by_short (all c) x ≡ option_map of (arg_by_short c x)
  by_short c x = sym (find-map (λ a. not (is_some a.index) && has_short a x) of c)

  pub by_index : (c : List Rule) (i : ℕ) → arg_by_index (all c) i ≡ option_map of (arg_by_index c i)
  by_index c i = sym (find-map (λ a. option_map_or (λ k. k == i) a.index false) of c)

  settled_rows_is : (c : List Rule) (p : Option (Text × List Text)) (rows : List Row) → settled_rows (all c) p rows ≡ settled_rows c p rows
  settled_rows_is c None rows = refl
  settled_rows_is c (Some p) rows = ap (λ o. used_by_id o p.1 rows) (by_id c p.0) ∙ used_by_id_is (arg_by_id c p.0) p.1 rows

  pub settled_is : (c : List Rule) (h : Held) → settled (all c) h ≡ settled c h
  settled_is c h = ap (λ (rs : List Row). record h { rows = rs; pending = None }) (settled_rows_is c h.pending h.rows)

  pub reacted_is : (c : List Rule) (a : Rule) (vs : List Text) (h : Held) → reacted (all c) (of a) vs h ≡ reacted c a vs h
  reacted_is c a vs h = ap (λ (rs : List Row). record h { rows = rs; pending = None })
      (used_is a vs (settled (all c) h).rows ∙ ap (λ (k : Held). used a vs k.rows) (settled_is c h))

  option_met_is : (c : List Rule) (a : Rule) (v : Option Text) (h : Held) → option_met (all c) (of a) v h ≡ option_met c a v h
  option_met_is c a (Some v) h = ap (λ k. (k, done)) (reacted_is c a (v ∷ []) h)
  option_met_is c a None h = ap (λ (k : Held). (record k { pending = Some (a.id, []) }, w.waits a.id)) (settled_is c h)

  flag_met_is : (c : List Rule) (a : Rule) (v : Option Text) (h : Held) → flag_met (all c) (of a) v h ≡ flag_met c a v h
  flag_met_is c a (Some v) h = refl
  flag_met_is c a None h = ap (λ k. (k, done)) (reacted_is c a [] h)

  long_met_is : (c : List Rule) (o : Option Rule) (v : Option Text) (h : Held) → long_met (all c) (option_map of o) v h ≡ long_met c o v h
  long_met_is c None v h = refl
  long_met_is c (Some a) v h = ap₂ (λ x y. if takes_values a then x else y) (option_met_is c a v h) (flag_met_is c a v h)

  short_met_is : (c : List Rule) (o : Option Rule) (rest : Text) (h : Held) (next : Held → Held × Outcome) → short_met (all c) (option_map of o) rest h next ≡ short_met c o rest h next
  short_met_is c None rest h next = refl
  short_met_is c (Some a) rest h next =
      ap₂ (λ x y. if takes_values a then x else y) (option_met_is c a (attached_value rest) h) (ap next (reacted_is c a [] h))

  bundle_step_is : (c : List Rule) (o : Option ℕ) (flags : Text) (skip : ℕ) (so_far : Outcome) (h : Held) (n m : Text → ℕ → Outcome → Held → Held × Outcome)
      → ((t : Text) (s : ℕ) (x : Outcome) (j : Held) → n t s x j ≡ m t s x j) → bundle_step (all c) o flags skip so_far h n ≡ bundle_step c o flags skip so_far h m
  bundle_step_is c None flags skip so_far h n m same = refl
  bundle_step_is c (Some x) flags zero so_far h n m same =
      let rest = drop (length (encode_utf8 x)) flags in
      ap (λ o. short_met (all c) o rest h (n rest 0 done)) (by_short c x) ∙ short_met_is c (arg_by_short c x) rest h (n rest 0 done)
      ∙ ap (short_met c (arg_by_short c x) rest h) (λ i j. same rest 0 done j i)
  bundle_step_is c (Some x) flags (suc skip) so_far h n m same = same (drop (length (encode_utf8 x)) flags) skip so_far h

  bundle_met_is : (c : List Rule) (k : ℕ) (flags : Text) (skip : ℕ) (so_far : Outcome) (h : Held) → bundle_met (all c) k flags skip so_far h ≡ bundle_met c k flags skip so_far h
  unfolding bundle_met
  bundle_met_is c zero flags skip so_far h = refl
  bundle_met_is c (suc k) flags skip so_far h =
      bundle_step_is c (slice_get (chars flags) 0) flags skip so_far h (bundle_met (all c) k) (bundle_met c k) (bundle_met_is c k)

  option_word_is : (o : Option Rule) (id word : Text) (h : Held) → option_word (option_map of o) id word h ≡ option_word o id word h
  option_word_is None id word h = refl
  option_word_is (Some a) id word h = refl

  plain_word_is : (c : List Rule) (waiting : Waiting) (word : Text) (h : Held) → plain_word (all c) waiting word h ≡ plain_word c waiting word h
  plain_word_is c (w.option id) word h =
      ap (λ (r : Held × Waiting). (r.0, w.next r.1)) (ap (λ o. option_word o id word h) (by_id c id) ∙ option_word_is (arg_by_id c id) id word h)
  plain_word_is c idle word h = refl
  plain_word_is c w.positional word h = refl

  after_flag_is : (c : List Rule) (waiting : Waiting) (word : Text) (h : Held) (x : Outcome) → after_flag (all c) waiting word h x ≡ after_flag c waiting word h x
  after_flag_is c waiting word h done = refl
  after_flag_is c waiting word h (w.waits id) = refl
  after_flag_is c waiting word h plain = plain_word_is c waiting word h
  after_flag_is c waiting word h w.refused = plain_word_is c waiting word h

  met_is : (c : List Rule) (waiting : Waiting) (word : Text) (r s : Held × Outcome) → r ≡ s → after_flag (all c) waiting word r.0 r.1 ≡ after_flag c waiting word s.0 s.1
  met_is c waiting word r s same = ap (λ (x : Held × Outcome). after_flag (all c) waiting word x.0 x.1) same ∙ after_flag_is c waiting word s.0 s.1

  long_word_is : (c : List Rule) (waiting : Waiting) (word name : Text) (v : Option Text) (h : Held) → long_word (all c) waiting word name v h ≡ long_word c waiting word name v h
  long_word_is c waiting word name v h = met_is c waiting word _ _ (ap (λ o. long_met (all c) o v h) (by_long c name) ∙ long_met_is c (arg_by_long c name) v h)

  short_word_is : (c : List Rule) (waiting : Waiting) (word flags : Text) (h : Held) → short_word (all c) waiting word flags h ≡ short_word c waiting word flags h
  short_word_is c waiting word flags h = met_is c waiting word _ _ (bundle_met_is c (length flags) flags h.skip plain (record h { skip = 0 }))

  short_or_plain_is : (c : List Rule) (waiting : Waiting) (word : Text) (o : Option Text) (h : Held) → short_or_plain (all c) waiting word o h ≡ short_or_plain c waiting word o h
  short_or_plain_is c waiting word (Some flags) h = short_word_is c waiting word flags h
  short_or_plain_is c waiting word None h = plain_word_is c waiting word h

  long_or_other_is : (c : List Rule) (waiting : Waiting) (word : Text) (o : Option (Text × Option Text)) (h : Held) → long_or_other (all c) waiting word o h ≡ long_or_other c waiting word o h
  long_or_other_is c waiting word (Some p) h = long_word_is c waiting word p.0 p.1 h
  long_or_other_is c waiting word None h = short_or_plain_is c waiting word (short_of word) h

  subcommand_or_other_is : (c : List Rule) (o : Option Text) (waiting : Waiting) (position : ℕ) (word : Text) (h : Held)
      → subcommand_or_other (all c) o waiting position word h ≡ subcommand_or_other c o waiting position word h
  subcommand_or_other_is c (Some name) waiting position word h = refl
  subcommand_or_other_is c None waiting position word h =
      ap (λ x. if bytes_eq word (45 ∷ 45 ∷ []) then (h, w.trailing position) else x) (long_or_other_is c waiting word (long_of word) h)

  pub word_met_is : (c : List Rule) (names : Names) (is_trailing : Bool) (waiting : Waiting) (position : ℕ) (word : Text) (h : Held)
      → word_met (all c) names is_trailing waiting position word h ≡ word_met c names is_trailing waiting position word h
  word_met_is c names is_trailing waiting position word h =
      ap (λ x. if is_trailing then (h, w.value) else x) (subcommand_or_other_is c (subcommand_met names waiting word) waiting position word h)

  positional_held_is : (c : List Rule) (a : Rule) (word : Text) (h : Held) → positional_held (all c) (of a) word h ≡ positional_held c a word h
  positional_held_is c a word h = ap (λ k. pushed a.id word (if is_pending a h.pending && takes_several a then h else k)) (settled_is c h)

  to_positional_is : (c : List Rule) (o : Option Rule) (word : Text) (k : Walk) (h : Held) → to_positional (all c) (option_map of o) word k h ≡ to_positional c o word k h
  to_positional_is c None word k h = refl
  to_positional_is c (Some a) word k h = ap (λ (x : Held). record {
    held = x;
    waiting = if is_multiple a then w.positional else idle;
    position = next_position a k.position;
    is_trailing = k.is_trailing || a.trailing_var_arg;
    stopped = None;
  }) (positional_held_is c a word h)

  after_step_is : (c : List Rule) (word : Text) (k : Walk) (h : Held) (s : Step) → after_step (all c) word k h s ≡ after_step c word k h s
  after_step_is c word k h (w.next waiting) = refl
  after_step_is c word k h (w.trailing position) = refl
  after_step_is c word k h (w.subcommand name) = refl
  after_step_is c word k h w.value = ap (λ o. to_positional (all c) o word k h) (by_index c k.position) ∙ to_positional_is c (arg_by_index c k.position) word k h

  walked_from_is : (c : List Rule) (names : Names) (o : Option (Text × List Text)) (k : Walk) (word : Text) → walked_from (all c) names o k word ≡ walked_from c names o k word
  walked_from_is c names (Some p) k word = refl
  walked_from_is c names None k word =
      let met = word_met c names k.is_trailing k.waiting k.position word k.held in
      ap (λ (r : Held × Step). after_step (all c) word k r.0 r.1) (word_met_is c names k.is_trailing k.waiting k.position word k.held) ∙ after_step_is c word k met.0 met.1

  pub walked_is : (c : List Rule) (names : Names) (k : Walk) (word : Text) → walked (all c) names k word ≡ walked c names k word
  unfolding walked
  walked_is c names k word = walked_from_is c names k.stopped k word

  pub walk_is : (c : List Rule) (names : Names) (h : Held) (words : List Text) → walk (all c) names h words ≡ walk c names h words
  walk_is c names h words = ap (λ (f : Walk → Text → Walk). fold f (walk_from h) words) (λ i k word. walked_is c names k word i)

  pub with_default_is : (rows : List Row) (a : Rule) → with_default rows (of a) ≡ with_default rows a
  with_default_is rows a = ap (λ how. if has_row a.id rows then rows else default_rows a.id how a.defaults rows) (reads_is a)

  defaults_is : (c : List Rule) (rows : List Row) → fold with_default rows (all c) ≡ fold with_default rows c
  defaults_is [] rows = refl
  defaults_is (a ∷ c) rows = ap (λ rs. fold with_default rs (all c)) (with_default_is rows a) ∙ defaults_is c (with_default rows a)

  pub finished_is : (c : List Rule) (h : Held) → finished (all c) h ≡ finished c h
  finished_is c h = defaults_is c (settled (all c) h).rows ∙ ap (λ (k : Held). fold with_default k.rows c) (settled_is c h)

  pub rows_after_is : (c : List Rule) (names : Names) (words : List Text) → rows_after (all c) names words ≡ rows_after c names words
  rows_after_is c names words =
      finished_is c (walk (all c) names w.nothing_held words).held ∙ ap (λ (k : Walk). finished c k.held) (walk_is c names w.nothing_held words)
