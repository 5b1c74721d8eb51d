-- What follows a value is what the TOML reader leaves after it.
use Rattle.std.proofs.Common.{◌≡◌, ℕ, zero, suc, Bool, true, false, cond, ◌==◌, length, drop, Option, Some, None, option_map, option_and_then, refl, sym, subst}
use Rattle.std.specs.Prelude.{⊤}
use Rattle.toml_parser.specs.Lexical.{Read, first, skip_blank}
use Rattle.toml.specs.Data.{Data, Items, array, no_items, push_item, table}
use Rattle.toml.specs.Parse.{after_element, atom, items, key_equals, members, read_map, val}
use Rattle.toml.specs.Tables.{Nodes, close, no_nodes, put}
use Rattle.fb_deploy_positions.specs.Values.{Text, after_items, after_members, after_value}

-- what is found is the text that the reader leaves, if it reads anything
abbrev pub Follows : {A : Type 0} → Read A → Option Text → Type 0
Follows None after = ⊤
Follows (Some p) after = after ≡ Some p.1

atom_follows : {A : Type 0} (r : Read A) → Follows r (option_map (λ p. p.1) r)
atom_follows None = tt
atom_follows (Some p) = refl

map_follows : {A B : Type 0} (f : A → B) (r : Read A) (after : Option Text) → Follows r after → Follows (read_map f r) after
map_follows f None after h = tt
map_follows f (Some p) after h = h

cond_follows : {A : Type 0} (b : Bool) (r s : Read A) (after_r after_s : Option Text) → Follows r after_r → Follows s after_s → Follows (cond b r s) (cond b after_r after_s)
cond_follows true r s after_r after_s h k = h
cond_follows false r s after_r after_s h k = k

-- a value, and then what goes on after it
then_follows : {A B : Type 0} (r : Read A) (after : Option Text) (f : A × Text → Read B) (g : Text → Option Text)
    → Follows r after → ((p : A × Text) → Follows (f p) (g p.1)) → Follows (option_and_then f r) (option_and_then g after)
then_follows None after f g h more = tt
then_follows (Some p) after f g h more = subst (λ o. Follows (f p) (option_and_then g o)) (sym h) (more p)

-- what both take the same way
same_follows : {A C : Type 0} (t : Option C) (f : C → Read A) (g : C → Option Text) → ((c : C) → Follows (f c) (g c)) → Follows (option_and_then f t) (option_and_then g t)
same_follows None f g more = tt
same_follows (Some c) f g more = more c

-- what the reader alone takes
alone_follows : {A C : Type 0} (t : Option C) (f : C → Read A) (after : Option Text) → ((c : C) → Follows (f c) after) → Follows (option_and_then f t) after
alone_follows None f after more = tt
alone_follows (Some c) f after more = more c

-- a key, its value, and then what goes on after it
key_follows : {A B C : Type 0} (t : Option C) (f : C → Read A) (g : A × Text → Read B) (after : C → Option Text)
    → ((c : C) → Follows (option_and_then g (f c)) (after c)) → Follows (option_and_then g (option_and_then f t)) (option_and_then after t)
key_follows None f g after more = tt
key_follows (Some c) f g after more = more c

module _ (val : Text → Read Data) (after : Text → Option Text) (follow : (text : Text) → Follows (val text) (after text)) where
  items_follow : (n : ℕ) (found : Items) (text : Text) → Follows (items val n found text) (after_items after n text)
  unfolding items after_items
  items_follow zero found text = tt
  items_follow (suc n) found text =
      let start = skip_blank text in
      cond_follows (first start == 93) (Some (found, drop 1 start)) _ (Some (drop 1 start)) _ refl
      (then_follows (val start) (after start) _ _ (follow start)
      (λ v. same_follows (after_element 93 v.1) _ _ (λ next. items_follow n (push_item found v.0) next)))

  members_follow : (n : ℕ) (found : Nodes) (text : Text) → Follows (members val n found text) (after_members after n text)
  unfolding members after_members
  members_follow zero found text = tt
  members_follow (suc n) found text =
      let start = skip_blank text in
      cond_follows (first start == 125) (Some (close found, drop 1 start)) _ (Some (drop 1 start)) _ refl
      (key_follows (key_equals start) _ _ _
      (λ k. then_follows (read_map (λ d. (k.0, d)) (val k.1)) (after k.1) _ _ (map_follows (λ d. (k.0, d)) (val k.1) (after k.1) (follow k.1))
      (λ e. alone_follows (put e.0.0 e.0.1 found) _ _
      (λ more. same_follows (after_element 125 e.1) _ _ (λ next. members_follow n more next)))))

pub value_follows : (depth : ℕ) (text : Text) → Follows (val depth text) (after_value depth text)
unfolding val after_value
value_follows zero text = atom_follows (atom text)
value_follows (suc depth) text =
    cond_follows (first text == 91) _ _ _ _
    (map_follows array (items (val depth) (length text) no_items (drop 1 text)) _ (items_follow (val depth) (after_value depth) (value_follows depth) (length text) no_items (drop 1 text)))
    (cond_follows (first text == 123) _ _ _ _
    (map_follows table (members (val depth) (length text) no_nodes (drop 1 text)) _ (members_follow (val depth) (after_value depth) (value_follows depth) (length text) no_nodes (drop 1 text)))
    (atom_follows (atom text)))

pub follows_reader : (depth : ℕ) (text rest : Text) (d : Data) → val depth text ≡ Some (d, rest) → after_value depth text ≡ Some rest
follows_reader depth text rest d read = subst (λ r. Follows r (after_value depth text)) read (value_follows depth text)
