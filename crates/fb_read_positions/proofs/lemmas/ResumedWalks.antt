-- Walks that go on where an earlier one has been.
use Rattle.fb_types.proofs.Common.{◌≡◌, ◌-◌, ◌+◌, ℕ, zero, suc, Bool, true, false, cond, List, [], ◌∷◌, ◌++◌, map, length, drop, Option, Ok, refl, sym, ◌∙◌, ap, subst, arith, ◌&&◌, length-append, length-map}
use Rattle.fb_read.specs.Parser.{◌>>◌, pure}
use Rattle.fb_read.specs.Statements.{begins_statement}
use Rattle.fb_read.specs.Tokens.{Tokens, tokens_of}
use Rattle.fb_read.specs.declared.token.Located.{Located}
use Rattle.fb_read.specs.declared.token.Token.{Token}
use Rattle.fb_read.specs.declared.token.Token.TheVariants as token
use Rattle.fb_read.proofs.lemmas.rules.Steps.{both_ok}
use Rattle.fb_read_positions.specs.Lists.{item_of, owner_of}
use Rattle.fb_read_positions.specs.Resumed.{IsAhead, IsListed, IsReached, IsStop, Leads, Leaves, Refuses}
use Rattle.fb_read_positions.specs.Walks.{Walk, begins_clause, depth_after, depth_at, opens, pass, pass_inner, pass_items, past_outer, take_all, to_clause, to_first, to_inner, to_item, to_item_if, to_name, to_outer, to_owner, to_part, to_position, to_statement}
use Rattle.fb_read_positions.specs.declared.lists.InnerList.{InnerList}
use Rattle.fb_read_positions.specs.declared.lists.InnerList.TheVariants as inner_list
use Rattle.fb_read_positions.specs.declared.lists.Item.{Item}
use Rattle.fb_read_positions.specs.declared.lists.ItemList.{ItemList}
use Rattle.fb_read_positions.specs.declared.lists.ItemList.TheVariants as item_list
use Rattle.fb_read_positions.specs.declared.lists.OuterList.TheVariants as outer_list
use Rattle.fb_read_positions.specs.declared.position.Position.{Position}
use Rattle.fb_read_positions.specs.declared.resume.Listed.{Listed}
use Rattle.fb_read_positions.specs.declared.resume.Stop.{Stop}
use Rattle.fb_read_positions.specs.declared.step.Step.{Step}
use Rattle.fb_read_positions.proofs.lemmas.ClauseSteps.{depth_there}
use Rattle.fb_read_positions.proofs.lemmas.EndsOfWalks.{Ends, ends-first, ends-item, ends-item_if, ends-owner, nothing_read}
use Rattle.fb_read_positions.proofs.lemmas.ReadingLoops.{at_clause, at_statement, pass_more, past_no_clause, past_token, then_on}
use Rattle.fb_read_positions.proofs.lemmas.TokensLeft.{leads_as}

-- ---- The tokens that are left

drop_front : {A : Type 0} (xs ys : List A) → drop (length xs) (xs ++ ys) ≡ ys
drop_front [] ys = refl
drop_front (x ∷ xs) ys = drop_front xs ys

drop-map : {A B : Type 0} (f : A → B) (n : ℕ) (xs : List A) → map f (drop n xs) ≡ drop n (map f xs)
drop-map f zero xs = refl
drop-map f (suc n) [] = refl
drop-map f (suc n) (x ∷ xs) = drop-map f n xs

-- the last tokens, as many as are left
last_tokens : (w : Walk) (ps : List Located) (mid : Tokens) → Ends w → w (tokens_of ps) ≡ Ok (tt, mid) → tokens_of (drop (length ps - length mid) ps) ≡ mid
last_tokens w ps mid ends e =
    let left = ends (tokens_of ps) mid tt e in
    let f : Located → Token = λ p. p.token in
    let long : length left.before + length mid ≡ length ps = sym (length-append left.before mid) ∙ ap (λ (ts : Tokens). length ts) left.joined ∙ length-map ps f in
    drop-map f (length ps - length mid) ps
    ∙ ap (λ n. drop n (tokens_of ps)) (let n : length ps - length mid ≡ length left.before = omega (arith, long) in n)
    ∙ ap (λ (ts : Tokens). drop (length left.before) ts) (sym left.joined)
    ∙ drop_front left.before mid

-- from the tokens that a walk left
from_left : (w : Walk) (ps : List Located) (n : ℕ) (ts : Tokens) → Ends w → (there : Leaves w ps n) → ts ≡ tokens_of (drop (length ps - n) ps) → ts ≡ there.0
from_left w ps n ts ends there is =
    is ∙ ap (λ m. tokens_of (drop (length ps - m) ps)) (sym there.2) ∙ last_tokens w ps there.0 ends there.1

-- ---- Some items, and then others

from_zero : (w : ℕ → Walk) (m : ℕ) (ts mid : Tokens) → ts ≡ mid → w (0 + m) ts ≡ w m mid
from_zero w m ts mid same = ap (λ n. w n ts) (let n : 0 + m ≡ m = omega arith in n) ∙ ap (w m) same

from_more : (w : ℕ → Walk) (j m : ℕ) (ts : Tokens) → w (suc j + m) ts ≡ w (suc (j + m)) ts
from_more w j m ts = ap (λ n. w n ts) (let n : suc j + m ≡ suc (j + m) = omega arith in n)

pass_further : (steps : List Step) (j m : ℕ) (ts mid : Tokens) → pass steps j ts ≡ Ok (tt, mid) → pass steps (j + m) ts ≡ pass steps m mid
unfolding pass
pass_further steps zero m ts mid e = from_zero (pass steps) m ts mid (nothing_read ts mid tt e)
pass_further steps (suc j) m ts mid e =
    let w = both_ok (take_all steps ts) (λ x. pass steps j) (tt, mid) e in
    from_more (pass steps) j m ts ∙ pass_more steps (j + m) ts w.1 w.2 ∙ pass_further steps j m w.1 mid w.3

names_further : (ts mid : Tokens) (j m : ℕ) → to_name ts j ≡ Ok (tt, mid) → to_name ts (j + m) ≡ to_name mid m
unfolding to_name
names_further [] mid j m e = absurd cc
names_further (token.Name text ∷ ts) mid zero m e = from_zero (λ n us. to_name us n) m (token.Name text ∷ ts) mid (nothing_read (token.Name text ∷ ts) mid tt e)
names_further (token.Name text ∷ ts) mid (suc j) m e = from_more (λ n us. to_name us n) j m (token.Name text ∷ ts) ∙ names_further ts mid j m e
names_further (token.Mark k ∷ ts) mid j m e = names_further ts mid j m e
names_further (token.Whole n ∷ ts) mid j m e = names_further ts mid j m e
names_further (token.Time n ∷ ts) mid j m e = names_further ts mid j m e

first_true : (a b : Bool) → (a && b) ≡ true → a ≡ true
first_true true b e = refl
first_true false b e = e

both_true : (a b : Bool) → (a && b) ≡ true → b ≡ true
both_true true b e = e
both_true false b e = absurd (let no : false ≡ true = e in cc)

one_fewer : (b : Bool) (j m : ℕ) → cond b (j + m) (suc (j + m)) ≡ cond b j (suc j) + m
one_fewer true j m = refl
one_fewer false j m = omega arith

statements_further : (ts mid : Tokens) (ready : Bool) (j m : ℕ) → to_statement ts ready j ≡ Ok (tt, mid) → to_statement ts ready (j + m) ≡ to_statement mid true m
unfolding to_statement
statements_further [] mid ready j m e = absurd cc
statements_further (t ∷ ts) mid ready zero m e =
    go (ready && begins_statement (t ∷ ts)) refl (λ h. statements_further ts mid (opens (t ∷ ts)) zero m h)
  where
    go : (b : Bool) → (ready && begins_statement (t ∷ ts)) ≡ b → (to_statement ts (opens (t ∷ ts)) zero ≡ Ok (tt, mid) → to_statement ts (opens (t ∷ ts)) (0 + m) ≡ to_statement mid true m)
        → to_statement (t ∷ ts) ready (0 + m) ≡ to_statement mid true m
    go true begins more =
        let ready_is = first_true ready (begins_statement (t ∷ ts)) begins in
        let here = at_statement (t ∷ ts) ready ready_is (both_true ready (begins_statement (t ∷ ts)) begins) in
        from_zero (λ n us. to_statement us ready n) m (t ∷ ts) mid (nothing_read (t ∷ ts) mid tt (sym here ∙ e))
        ∙ ap (λ a. to_statement mid a m) ready_is
    go false none more = past_token (t ∷ ts) ready (0 + m) none ∙ more (sym (past_token (t ∷ ts) ready zero none) ∙ e)
statements_further (t ∷ ts) mid ready (suc j) m e =
    let b = ready && begins_statement (t ∷ ts) in
    from_more (λ n us. to_statement us ready n) j m (t ∷ ts)
    ∙ ap (λ n. to_statement ts (opens (t ∷ ts)) n) (one_fewer b j m)
    ∙ statements_further ts mid (opens (t ∷ ts)) (cond b j (suc j)) m e

clauses_further : (ts mid : Tokens) (depth j m : ℕ) → to_clause ts depth j ≡ Ok (tt, mid) → to_clause ts depth (j + m) ≡ to_clause mid (depth_at mid) m
unfolding to_clause
clauses_further [] mid depth j m e = absurd cc
clauses_further (t ∷ ts) mid depth zero m e =
    go (begins_clause (t ∷ ts) depth) refl (λ h. clauses_further ts mid (depth_after (t ∷ ts) depth) zero m h)
  where
    go : (b : Bool) → begins_clause (t ∷ ts) depth ≡ b
        → (to_clause ts (depth_after (t ∷ ts) depth) zero ≡ Ok (tt, mid) → to_clause ts (depth_after (t ∷ ts) depth) (0 + m) ≡ to_clause mid (depth_at mid) m)
        → to_clause (t ∷ ts) depth (0 + m) ≡ to_clause mid (depth_at mid) m
    go true begins more =
        let same : t ∷ ts ≡ mid = nothing_read (t ∷ ts) mid tt (sym (at_clause (t ∷ ts) depth begins) ∙ e) in
        from_zero (λ n us. to_clause us depth n) m (t ∷ ts) mid same
        ∙ ap (λ d. to_clause mid d m) (sym (depth_there (t ∷ ts) depth begins) ∙ ap (λ (us : Tokens). depth_at us) same)
    go false none more = past_no_clause (t ∷ ts) depth (0 + m) none ∙ more (sym (past_no_clause (t ∷ ts) depth zero none) ∙ e)
clauses_further (t ∷ ts) mid depth (suc j) m e =
    let b = begins_clause (t ∷ ts) depth in
    from_more (λ n us. to_clause us depth n) j m (t ∷ ts)
    ∙ ap (λ n. to_clause ts (depth_after (t ∷ ts) depth) n) (one_fewer b j m)
    ∙ clauses_further ts mid (depth_after (t ∷ ts) depth) (cond b j (suc j)) m e

inner_further : (l : InnerList) (j m : ℕ) (ts mid : Tokens) → pass_inner l j ts ≡ Ok (tt, mid) → pass_inner l (j + m) ts ≡ pass_inner l m mid
inner_further inner_list.With j m ts mid e = pass_further _ j m ts mid e
inner_further inner_list.Parameters j m ts mid e = pass_further _ j m ts mid e
inner_further inner_list.Actions j m ts mid e = pass_further _ j m ts mid e
inner_further inner_list.Statements j m ts mid e = statements_further ts mid true j m e
inner_further inner_list.Mentions j m ts mid e = names_further ts mid j m e
inner_further inner_list.GuardMentions j m ts mid e = names_further ts mid j m e

items_further : (l : ItemList) (j m : ℕ) (ts mid : Tokens) → pass_items l j ts ≡ Ok (tt, mid) → pass_items l (j + m) ts ≡ pass_items l m mid
items_further (item_list.Outer l) j m ts mid e = pass_further (past_outer l) j m ts mid e
items_further (item_list.Inner l n inside) j m ts mid e = inner_further inside j m ts mid e
items_further (item_list.Clauses l n k) j m ts mid e = clauses_further ts mid (depth_at ts) j m e

-- ---- Up to an item

abbrev item_at : ItemList → ℕ → Item
item_at l n = record { list = l; index = n }

item_further : (l : ItemList) (j m : ℕ) (ts mid : Tokens) → to_item (item_at l j) ts ≡ Ok (tt, mid) → to_item (item_at l (j + m)) ts ≡ pass_items l m mid
unfolding to_item
item_further l j m ts mid e =
    let w = both_ok (to_owner l ts) (λ x. to_first l >> pass_items l j) (tt, mid) e in
    let v = both_ok (to_first l w.1) (λ x. pass_items l j) (tt, mid) w.3 in
    then_on (to_owner l ts) (λ x. to_first l >> pass_items l (j + m)) w.0 w.1 w.2
    ∙ then_on (to_first l w.1) (λ x. pass_items l (j + m)) v.0 v.1 v.2 ∙ items_further l j m v.1 mid v.3

-- from an earlier item of its list
pub item_after :
    (ps rest : List Located) (i : Item) (from : Listed) (o : Option ℕ) → IsListed ps from → IsAhead i from → rest ≡ drop (length ps - from.left) ps
    → Leads (pass_items i.list (i.index - from.item.index)) rest o → Leads (to_item i) ps o
item_after ps rest i from o listed ahead given passed =
    let j = from.item.index in
    let there : Leaves (to_item (item_at i.list j)) ps from.left = subst (λ (l : ItemList). Leaves (to_item (item_at l j)) ps from.left) ahead.list_is listed in
    let same : tokens_of rest ≡ there.0 = from_left (to_item (item_at i.list j)) ps from.left (tokens_of rest) (ends-item (item_at i.list j)) there (ap tokens_of given) in
    let e : to_item i (tokens_of ps) ≡ pass_items i.list (i.index - j) (tokens_of rest) =
    ap (λ k. to_item (item_at i.list k) (tokens_of ps)) (let k : i.index ≡ j + (i.index - j) = omega (arith, ahead.below) in k)
    ∙ item_further i.list j (i.index - j) (tokens_of ps) there.0 there.1
    ∙ ap (pass_items i.list (i.index - j)) (sym same) in
    leads_as (pass_items i.list (i.index - j)) (to_item i) rest ps o (sym e) passed

-- from where what has its list begins: `here` from there on
module _ (ps here : List Located) (i : Item) (owner : ℕ) (there : Leaves (to_owner i.list) ps owner) (given : here ≡ drop (length ps - owner) ps) where
  past_owner : to_item i (tokens_of ps) ≡ (to_first i.list >> pass_items i.list i.index) (tokens_of here)
  unfolding to_item
  past_owner =
      then_on (to_owner i.list (tokens_of ps)) (λ x. to_first i.list >> pass_items i.list i.index) tt there.0 there.1
      ∙ ap (λ (ts : Tokens). (to_first i.list >> pass_items i.list i.index) ts) (sym (from_left (to_owner i.list) ps owner (tokens_of here) (ends-owner i.list) there (ap tokens_of given)))

  -- `rest` from its first item on
  pub item_within :
      (rest : List Located) (mid : Tokens) (o : Option ℕ) → to_first i.list (tokens_of here) ≡ Ok (tt, mid) → rest ≡ drop (length here - length mid) here → Leads (pass_items i.list i.index) rest o
      → Leads (to_item i) ps o
  item_within rest mid o first left passed =
      let begins : tokens_of rest ≡ mid = ap tokens_of left ∙ last_tokens (to_first i.list) here mid (ends-first i.list) first in
      let e : to_item i (tokens_of ps) ≡ pass_items i.list i.index (tokens_of rest) =
      past_owner ∙ then_on (to_first i.list (tokens_of here)) (λ x. pass_items i.list i.index) tt mid first ∙ ap (pass_items i.list i.index) (sym begins) in
      leads_as (pass_items i.list i.index) (to_item i) rest ps o (sym e) passed

  -- the list has no first item
  pub no_first_item : Refuses (to_first i.list) here → Refuses (to_item i) ps
  no_first_item none = λ rest e.
      let w = both_ok (to_first i.list (tokens_of here)) (λ x. pass_items i.list i.index) (tt, rest) (sym past_owner ∙ e) in
      none w.1 w.2

-- what has its list is not reached
pub no_owner : (ps : List Located) (i : Item) (w : Walk) → to_owner i.list ≡ w → Refuses w ps → Refuses (to_item i) ps
unfolding to_item
no_owner ps i w same none = λ rest e.
    let x = both_ok (to_owner i.list (tokens_of ps)) (λ x. to_first i.list >> pass_items i.list i.index) (tt, rest) e in
    none x.1 (ap (λ (v : Walk). v (tokens_of ps)) (sym same) ∙ x.2)

-- what has a list, in place of the walk up to it
pub stop_as : (ps : List Located) (v w : Walk) (s : Stop) → v ≡ w → IsStop ps w s → IsStop ps v s
stop_as ps v w s same is = subst (λ (x : Walk). IsStop ps x s) (sym same) is

-- all tokens are left where nothing was read
pub stop_at_start : (ps : List Located) (w : Walk) (s : Stop) → w ≡ pure tt → s.left ≡ length ps → IsReached ps s.reached → IsStop ps w s
stop_at_start ps w s none all reached =
    let f : Located → Token = λ p. p.token in
    record { at = subst (λ (v : Walk). Leaves v ps s.left) (sym none) (tokens_of ps, refl, length-map ps f ∙ sym all); reached = reached }

-- the item that has a list
pub owner_is : (l : ItemList) → to_owner l ≡ to_item_if (owner_of l)
unfolding to_item to_outer to_inner take_all
owner_is (item_list.Outer outer_list.Blocks) = refl
owner_is (item_list.Outer (outer_list.InApplication l)) = refl
owner_is (item_list.Outer (outer_list.InPorts k l)) = refl
owner_is (item_list.Outer (outer_list.InBasic k l)) = refl
owner_is (item_list.Outer (outer_list.InComposite k l)) = refl
owner_is (item_list.Inner l n inside) = refl
owner_is (item_list.Clauses l n k) = refl

-- ---- Up to a position

-- steps that were taken once
pub taken_once : (steps : List Step) (ts here : Tokens) → pass steps 1 ts ≡ Ok (tt, here) → take_all steps ts ≡ Ok (tt, here)
unfolding pass
taken_once steps ts here e =
    let w = both_ok (take_all steps ts) (λ x. pass steps zero) (tt, here) e in
    w.2 ∙ ap (λ (us : Tokens). Ok (w.0, us)) (nothing_read w.1 here tt w.3)

once_taken : (steps : List Step) (ts here : Tokens) → take_all steps ts ≡ Ok (tt, here) → pass steps 1 ts ≡ Ok (tt, here)
unfolding pass
once_taken steps ts here e = pass_more steps zero ts here e

-- the item to which it belongs is not reached
pub no_item : (ps : List Located) (p : Position) (w : Walk) → to_item_if (item_of p) ≡ w → Refuses w ps → Refuses (to_position p) ps
unfolding to_position
no_item ps p w same none = λ here e.
    let x = both_ok (to_item_if (item_of p) (tokens_of ps)) (λ x. take_all (to_part p)) (tt, here) e in
    none x.1 (ap (λ (v : Walk). v (tokens_of ps)) (sym same) ∙ x.2)

module _ (ps : List Located) (p : Position) (n : ℕ) (ts : Tokens) (there : Leaves (to_item_if (item_of p)) ps n) (given : ts ≡ tokens_of (drop (length ps - n) ps)) where
  past_item : to_position p (tokens_of ps) ≡ take_all (to_part p) ts
  unfolding to_position
  past_item =
      then_on (to_item_if (item_of p) (tokens_of ps)) (λ x. take_all (to_part p)) tt there.0 there.1
      ∙ ap (take_all (to_part p)) (sym (from_left (to_item_if (item_of p)) ps n ts (ends-item_if (item_of p)) there given))

  pub at_position : (here : Tokens) → take_all (to_part p) ts ≡ Ok (tt, here) → to_position p (tokens_of ps) ≡ Ok (tt, here)
  at_position here e = past_item ∙ e

  -- the part is not reached
  pub no_part : (steps : List Step) → steps ≡ to_part p → ((here : Tokens) → pass steps 1 ts ≡ Ok (tt, here) → ⊥) → Refuses (to_position p) ps
  no_part steps are none = λ here e.
      none here (once_taken steps ts here (ap (λ (taken : List Step). take_all taken ts) are ∙ (sym past_item ∙ e)))
