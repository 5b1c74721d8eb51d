-- How far a text was read (this project's own).
use Rattle.std.specs.Prelude.{◌≡◌, ◌≤◌, ℕ, List, Option, Ok, IfSome, MatchOption, length}
use Rattle.fb_read.specs.Tokens.{Tokens, tokens_of}
use Rattle.fb_read.specs.declared.token.Located.{Located}
use Rattle.fb_read_positions.specs.Walks.{Walk, to_item}
use Rattle.fb_read_positions.specs.declared.lists.Item.{Item}
use Rattle.fb_read_positions.specs.declared.resume.Listed.{Listed}
use Rattle.fb_read_positions.specs.declared.resume.Reached.{Reached}
use Rattle.fb_read_positions.specs.declared.resume.Stop.{Stop}

-- the walk leaves this number of tokens
abbrev pub Leaves : Walk → List Located → ℕ → Type 0
Leaves walk tokens left = (here : Tokens) × (walk (tokens_of tokens) ≡ Ok (tt, here)) × (length here ≡ left)

-- the walk is refused
abbrev pub Refuses : Walk → List Located → Type 0
Refuses walk tokens = (here : Tokens) → walk (tokens_of tokens) ≡ Ok (tt, here) → ⊥

-- the number of tokens that the walk leaves, if it is not refused
abbrev pub Leads : Walk → List Located → Option ℕ → Type 0
Leads walk tokens left = MatchOption left (Refuses walk tokens) (Leaves walk tokens)

-- A list was read up to an item.
abbrev pub IsListed : List Located → Listed → Type 0
IsListed tokens l = Leaves (to_item l.item) tokens l.left

-- Each of these lists was read so far.
pub record IsReached (tokens : List Located) (r : Reached) : Type 0 where
  pub in_text : IfSome r.in_text (IsListed tokens)
  pub in_block : IfSome r.in_block (IsListed tokens)
  pub in_item : IfSome r.in_item (IsListed tokens)
  pub in_statement : IfSome r.in_statement (IsListed tokens)

-- The list of the item was read, and not past it.
pub record IsAhead (item : Item) (l : Listed) : Type 0 where
  pub list_is : l.item.list ≡ item.list
  pub below : l.item.index ≤ item.index

-- The walk ends there, and the text was read so far on the way.
pub record IsStop (tokens : List Located) (walk : Walk) (s : Stop) : Type 0 where
  pub at : Leaves walk tokens s.left
  pub reached : IsReached tokens s.reached

-- where the walk ends, if it is not refused
abbrev pub StopsAt : List Located → Walk → Option Stop → Type 0
StopsAt tokens walk stop = MatchOption stop (Refuses walk tokens) (IsStop tokens walk)
