-- What follows a value, and the parts of arrays and inline tables, a turn of their loops at a time.
use Rattle.std.proofs.Common.{◌≡◌, ℕ, zero, suc, ◌-◌, ◌<◌, true, false, not, cond, ◌||◌, ◌==◌, List, [], ◌∷◌, length, drop, Option, Some, None, option_map, refl, arith}
use Rattle.std.proofs.lemmas.Bool.Decides.{nat_tests}
use Rattle.toml_parser.specs.Lexical.{first, skip_blank}
use Rattle.toml_parser.specs.Strings.{Key}
use Rattle.toml.specs.Parse.{atom, val, after_element, key_equals}
use Rattle.toml.proofs.Turns.{val_deep}
use Rattle.fb_deploy_positions.specs.Entries.{begins_with, named_member}
use Rattle.fb_deploy_positions.specs.Values.{Text, ◌>>=◌, all_of, after_atom, after_items, after_members, after_value, items_from, items_of, members_from, members_of}

-- ---- What follows a value

pub value_atom : (depth : ℕ) (text : Text) → (first text == 91) ≡ false → (first text == 123) ≡ false → after_value depth text ≡ after_atom text
unfolding after_value
value_atom zero text a b = refl
value_atom (suc depth) text a b = rw (a, b)

-- no atom begins with a bracket or a brace
atom_none : (text : Text) → ((first text == 91) || (first text == 123)) ≡ true → atom text ≡ None
unfolding val
atom_none text h = val_deep text h

pub value_deep : (text : Text) → ((first text == 91) || (first text == 123)) ≡ true → after_value 0 text ≡ None
unfolding after_value
value_deep text h = rw (atom_none text h)

pub value_array : (depth : ℕ) (text : Text) → 0 < depth → (first text == 91) ≡ true
    → after_value depth text ≡ after_items (after_value (depth - 1)) (length text) (drop 1 text)
unfolding after_value
value_array zero text some a = absurd (omega arith)
value_array (suc depth) text some a =
    let less : suc depth - 1 ≡ depth = omega arith in
    rw (less, a)

pub value_table : (depth : ℕ) (text : Text) → 0 < depth → (first text == 91) ≡ false → (first text == 123) ≡ true
    → after_value depth text ≡ after_members (after_value (depth - 1)) (length text) (drop 1 text)
unfolding after_value
value_table zero text some a b = absurd (omega arith)
value_table (suc depth) text some a b =
    let less : suc depth - 1 ≡ depth = omega arith in
    rw (less, a, b)

pub items_turn : (after : Text → Option Text) (m : ℕ) (text : Text) → 0 < m
    → after_items after m text
    ≡ cond (first (skip_blank text) == 93) (Some (drop 1 (skip_blank text)))
    (after (skip_blank text) >>= (λ rest. after_element 93 rest >>= after_items after (m - 1)))
unfolding after_items
items_turn after zero text some = absurd (omega arith)
items_turn after (suc m) text some = let less : suc m - 1 ≡ m = omega arith in rw less

pub members_turn : (after : Text → Option Text) (m : ℕ) (text : Text) → 0 < m
    → after_members after m text
    ≡ cond (first (skip_blank text) == 125) (Some (drop 1 (skip_blank text)))
    (key_equals (skip_blank text) >>= (λ k. after k.1 >>= (λ rest. after_element 125 rest >>= after_members after (m - 1))))
unfolding after_members
members_turn after zero text some = absurd (omega arith)
members_turn after (suc m) text some = let less : suc m - 1 ≡ m = omega arith in rw less

-- ---- The elements of an array

pub items_of_none : (depth : ℕ) (text : Text) → ((depth == 0) || not (first text == 91)) ≡ true → items_of depth text ≡ []
unfolding items_of
items_of_none zero text none = refl
items_of_none (suc depth) text none = let other : (first text == 91) ≡ false = grind (arith, nat_tests) in rw other

pub items_of_array : (depth : ℕ) (text : Text) → 0 < depth → (first text == 91) ≡ true
    → items_of depth text ≡ items_from (after_value (depth - 1)) (length text) (drop 1 text)
unfolding items_of
items_of_array zero text some opens = absurd (omega arith)
items_of_array (suc depth) text some opens =
    let less : suc depth - 1 ≡ depth = omega arith in
    rw (less, opens)

pub items_from_turn : (after : Text → Option Text) (m : ℕ) (text : Text) → 0 < m
    → items_from after m text
    ≡ cond (first (skip_blank text) == 93) []
    (all_of (option_map (λ rest. skip_blank text ∷ all_of (option_map (items_from after (m - 1)) (after_element 93 rest))) (after (skip_blank text))))
unfolding items_from
items_from_turn after zero text some = absurd (omega arith)
items_from_turn after (suc m) text some = let less : suc m - 1 ≡ m = omega arith in rw less

-- ---- The keys of an inline table

pub members_of_none : (depth : ℕ) (text : Text) → ((depth == 0) || not (first text == 123)) ≡ true → members_of depth text ≡ []
unfolding members_of
members_of_none zero text none = refl
members_of_none (suc depth) text none = let other : (first text == 123) ≡ false = grind (arith, nat_tests) in rw other

pub members_of_table : (depth : ℕ) (text : Text) → 0 < depth → (first text == 123) ≡ true
    → members_of depth text ≡ members_from (after_value (depth - 1)) (length text) (drop 1 text)
unfolding members_of
members_of_table zero text some opens = absurd (omega arith)
members_of_table (suc depth) text some opens =
    let less : suc depth - 1 ≡ depth = omega arith in
    rw (less, opens)

pub members_from_turn : (after : Text → Option Text) (m : ℕ) (text : Text) → 0 < m
    → members_from after m text
    ≡ cond (first (skip_blank text) == 125) []
    (all_of (key_equals (skip_blank text) >>= (λ k. option_map (λ rest. skip_blank text ∷ all_of (option_map (members_from after (m - 1)) (after_element 125 rest))) (after k.1))))
unfolding members_from
members_from_turn after zero text some = absurd (omega arith)
members_from_turn after (suc m) text some = let less : suc m - 1 ≡ m = omega arith in rw less

pub named_none : (depth : ℕ) (name : Text) → named_member depth name [] ≡ None
unfolding named_member
named_none depth name = refl

pub named_turn : (depth : ℕ) (name : Text) (m : Text) (more : List Text) (key : Key) (value : Text) → key_equals m ≡ Some (key, value)
    → named_member depth name (m ∷ more)
    ≡ cond (begins_with name key) (Some (record { begin = m; name = m; key = key; value = value; depth = depth })) (named_member depth name more)
unfolding named_member
named_turn depth name m more key value read = rw read
