-- Which tokens a wrong kind of an expression is marked at, and their place (this project's own).
use Rattle.std.specs.Prelude.{◌≡◌, ℕ, ◌+◌, ◌-◌, ◌<◌, Bool, true, false, List, drop, length, slice_get, Option, Some, None}
use Rattle.fb_types.specs.Blocks.{types_of}
use Rattle.fb_types.specs.Names.{Name}
use Rattle.fb_types.specs.Syntax.{Stmt, body_of, stmt_of}
use Rattle.fb_types.specs.declared.library.Algorithm.{Algorithm}
use Rattle.fb_types.specs.declared.library.BasicType.{BasicType}
use Rattle.fb_types.specs.declared.library.Library.{Library}
use Rattle.fb_types.specs.declared.library.Transition.{Transition}
use Rattle.fb_types.specs.declared.text.Branch.{Branch}
use Rattle.fb_types.specs.declared.text.Choice.{Choice, out-Choice}
use Rattle.fb_types.specs.declared.text.Expr.{Expr}
use Rattle.fb_types.specs.declared.text.Stmt as read
use Rattle.fb_check.specs.declared.location.Location.{Location}
use Rattle.fb_check.specs.declared.location.Location.TheVariants as at
use Rattle.fb_check.specs.types.Statements.{each_in_body}
use Rattle.fb_check_names.specs.Sites.{basic_at}
use Rattle.fb_check_names.specs.declared.location.KindWrongAt.{KindWrongAt}
use Rattle.fb_check_names.specs.declared.location.KindWrongAt.TheVariants as kind_wrong
use Rattle.fb_check_names.specs.declared.location.StatementPart.{StatementPart}
use Rattle.fb_check_names.specs.declared.location.StatementPart.TheVariants as part
use Rattle.fb_read.specs.Blank.{Text}
use Rattle.fb_read.specs.Located.{AreLocated}
use Rattle.fb_read.specs.Refusals.{IsNext}
use Rattle.fb_read.specs.Tokens.{after_mark}
use Rattle.fb_read.specs.Whole.{IsLibraryText}
use Rattle.fb_read.specs.declared.token.Located.{Located}
use Rattle.fb_read.specs.declared.token.Span.{Span}
use Rattle.fb_read_positions.specs.Places.{IsPlace}
use Rattle.fb_read_positions.specs.Spans.{IsAt}
use Rattle.fb_read_positions.specs.declared.places.Place.{Place}
use Rattle.fb_read_positions.specs.declared.position.Position.{Position}
use Rattle.fb_why.specs.Mismatches.{IsMarked}
use Rattle.fb_why.specs.Positions.{IsNowhereIf, position_of}
use Rattle.fb_why.specs.Tokens.{next, past}
use Rattle.fb_why.specs.declared.marks.TokenRange.{TokenRange}

-- ---- Expressions of a statement

-- The expression is this part of the statement. It begins at the token, counted from where the part is shown: after the
-- variable and `:=`, after the keyword, and in FOR after the variable and `:=`, TO and BY.
pub data IsPartAt : read.Stmt → StatementPart → Expr → ℕ → Type 0 where
  assigned : (v : Name) (e : Expr) → IsPartAt (read.Assign v e) part.Value e 2
  condition : (cs : List Choice) (others : List read.Stmt) (k : ℕ) (c : Choice) → slice_get cs k ≡ Some c → IsPartAt (read.If cs others) (part.Choice k) (out-Choice c).condition 1
  selector : (e : Expr) (bs : List Branch) (others : List read.Stmt) → IsPartAt (read.Case e bs others) part.Selector e 1
  start : (v : Name) (a b : Expr) (c : Option Expr) (body : List read.Stmt) → IsPartAt (read.For v a b c body) part.Start a 3
  end : (v : Name) (a b : Expr) (c : Option Expr) (body : List read.Stmt) → IsPartAt (read.For v a b c body) part.End b (next (past a 3))
  step : (v : Name) (a b c : Expr) (body : List read.Stmt) → IsPartAt (read.For v a b (Some c) body) part.Step c (next (past b (next (past a 3))))
  while : (c : Expr) (body : List read.Stmt) → IsPartAt (read.While c body) part.Condition c 1
  until : (body : List read.Stmt) (c : Expr) → IsPartAt (read.Repeat body c) part.Until c 1

-- the start, the end or the step of a FOR
abbrev pub IsBoundAt : Expr → Expr → Option Expr → StatementPart → Expr → ℕ → Type 0
IsBoundAt a b c which e n = (v : Name) (body : List read.Stmt) → IsPartAt (read.For v a b c body) which e n

-- no expression is this part of the statement
abbrev pub IsNoPartOf : read.Stmt → StatementPart → Type 0
IsNoPartOf statement which = (e : Expr) (n : ℕ) → IsPartAt statement which e n → ⊥

-- a FOR has no such bound
abbrev pub IsNoBound : Expr → Expr → Option Expr → StatementPart → Type 0
IsNoBound a b c which = (v : Name) (body : List read.Stmt) → IsNoPartOf (read.For v a b c body) which

-- ---- The expression that a location is about

-- a part of a statement that is an expression
abbrev pub is_expression : StatementPart → Bool
is_expression part.Exit = false
is_expression part.Assigned = false
is_expression part.Control = false
is_expression _ = true

abbrev pub is_of_kind_wrong : KindWrongAt → Bool
is_of_kind_wrong (kind_wrong.Initial b list k) = false
is_of_kind_wrong (kind_wrong.Parameter s i p) = false
is_of_kind_wrong (kind_wrong.Guard b k) = true
is_of_kind_wrong (kind_wrong.Statement b a k which) = is_expression which

-- the location is about an expression
abbrev pub is_of_expression : Location → Bool
is_of_expression (at.KindWrong p) = is_of_kind_wrong p
is_of_expression _ = false

-- The expression is the guard of the transition, and begins where it is shown.
pub record IsGuard (lib : Library) (b k : ℕ) (t : BasicType) (e : Expr) (n : ℕ) : Type 0 where
  pub transition : Transition
  pub at : basic_at lib b ≡ Some t
  pub found : slice_get t.transitions k ≡ Some transition
  pub guard_is : transition.condition.guard ≡ Some e
  pub begins : n ≡ 0

-- The expression is a part of the statement. That the statement has its parentheses where the text has them is only
-- tested.
pub record IsPart (lib : Library) (b a k : ℕ) (which : StatementPart) (t : BasicType) (e : Expr) (n : ℕ) : Type 0 where
  pub algorithm : Algorithm
  pub in_loop : Bool
  pub statement : read.Stmt
  pub at : basic_at lib b ≡ Some t
  pub algorithm_is : slice_get t.algorithms a ≡ Some algorithm
  pub found : slice_get (each_in_body false (body_of algorithm.body)) k ≡ Some (in_loop, stmt_of statement)
  pub part_is : IsPartAt statement which e n

abbrev pub IsExpressionOf : Library → KindWrongAt → BasicType → Expr → ℕ → Type 0
IsExpressionOf lib (kind_wrong.Initial b list k) t e n = ⊥
IsExpressionOf lib (kind_wrong.Parameter s i p) t e n = ⊥
IsExpressionOf lib (kind_wrong.Guard b k) t e n = IsGuard lib b k t e n
IsExpressionOf lib (kind_wrong.Statement b a k which) t e n = IsPart lib b a k which t e n

-- The library has no such transition, or it has no guard.
abbrev pub HasNoGuard : Library → (b k : ℕ) → Type 0
HasNoGuard lib b k = (t : BasicType) (transition : Transition) → basic_at lib b ≡ Some t → slice_get t.transitions k ≡ Some transition → transition.condition.guard ≡ None

-- The algorithm has no such statement, or it is read from one that has no such part.
abbrev pub HasNoPart : Algorithm → (k : ℕ) → StatementPart → Type 0
HasNoPart algorithm k which =
    (in_loop : Bool) (meaning : Stmt) → slice_get (each_in_body false (body_of algorithm.body)) k ≡ Some (in_loop, meaning)
    → (statement : read.Stmt) × (stmt_of statement ≡ meaning) × IsNoPartOf statement which

-- The library has no expression for the location to be about.
abbrev pub HasNoExpression : Library → KindWrongAt → Type 0
HasNoExpression lib (kind_wrong.Initial b list k) = Unit {0}
HasNoExpression lib (kind_wrong.Parameter s i p) = Unit {0}
HasNoExpression lib (kind_wrong.Guard b k) = HasNoGuard lib b k
HasNoExpression lib (kind_wrong.Statement b a k which) =
    (t : BasicType) (algorithm : Algorithm) → basic_at lib b ≡ Some t → slice_get t.algorithms a ≡ Some algorithm → HasNoPart algorithm k which

-- ---- The tokens that are marked

-- The tokens are those of what is marked in an expression.
pub record IsRangeIn (t : BasicType) (e : Expr) (n : ℕ) (r : TokenRange) : Type 0 where
  pub marked : Expr
  pub marked_is : IsMarked (types_of t) e n marked r.first
  pub end_is : r.end ≡ past marked r.first

-- .. in the guard of a transition
pub record IsGuardRange (lib : Library) (b k : ℕ) (r : TokenRange) : Type 0 where
  pub basic : BasicType
  pub expression : Expr
  pub guard_is : IsGuard lib b k basic expression 0
  pub range_is : IsRangeIn basic expression 0 r

-- .. in a part of a statement of the algorithm
pub record IsPartRange (t : BasicType) (algorithm : Algorithm) (k : ℕ) (which : StatementPart) (r : TokenRange) : Type 0 where
  pub in_loop : Bool
  pub statement : read.Stmt
  pub found : slice_get (each_in_body false (body_of algorithm.body)) k ≡ Some (in_loop, stmt_of statement)
  pub expression : Expr
  pub first : ℕ
  pub part_is : IsPartAt statement which expression first
  pub range_is : IsRangeIn t expression first r

-- The tokens are those of what is marked at the location.
pub record IsRangeOf (lib : Library) (location : KindWrongAt) (r : TokenRange) : Type 0 where
  pub basic : BasicType
  pub expression : Expr
  pub first : ℕ
  pub expression_is : IsExpressionOf lib location basic expression first
  pub range_is : IsRangeIn basic expression first r

abbrev pub IsRange : Library → Location → TokenRange → Type 0
IsRange lib (at.KindWrong p) r = IsRangeOf lib p r
IsRange lib _ r = ⊥

-- no expression is marked at the location
abbrev pub HasNoRange : Library → Location → Type 0
HasNoRange lib (at.KindWrong p) = HasNoExpression lib p
HasNoRange lib _ = Unit {0}

-- ---- Their place

-- the token at this index begins at the offset
abbrev pub IsTokenAt : List Located → (offset index : ℕ) → Type 0
IsTokenAt tokens offset index = (t : Located) × (slice_get tokens index ≡ Some t) × (t.index ≡ offset)

-- no token begins at the offset
abbrev pub IsNoToken : List Located → (offset : ℕ) → Type 0
IsNoToken tokens offset = (index : ℕ) → IsTokenAt tokens offset index → ⊥

-- The bytes are those of the token at an index.
pub record IsTokenOf (text : Text) (tokens : List Located) (index start end : ℕ) : Type 0 where
  pub within : index < length tokens
  pub next : IsNext (drop index tokens) text start end

-- The place is that of these tokens, counted from the token at an index, with the line and the column of the first.
pub record IsAmong (text : Text) (tokens : List Located) (begin : ℕ) (r : TokenRange) (place : Place) : Type 0 where
  pub first_end : ℕ
  pub first : IsTokenOf text tokens (begin + r.first) place.start first_end
  pub last_start : ℕ
  pub last : IsTokenOf text tokens (begin + (r.end - 1)) last_start place.end
  pub placed : IsPlace text place

-- no place is that of these tokens
abbrev pub IsNoneAmong : Text → List Located → (begin : ℕ) → TokenRange → Type 0
IsNoneAmong text tokens begin r = (place : Place) → IsAmong text tokens begin r place → ⊥

-- The place is that of these tokens, counted from the token at the position.
pub record IsRangePlace (text : Text) (library : Library) (position : Position) (r : TokenRange) (place : Place) : Type 0 where
  pub span : Span
  pub at : IsAt text library position span
  pub tokens : List Located
  pub located : AreLocated text tokens (after_mark text)
  pub begin : ℕ
  pub there : IsTokenAt tokens span.start begin
  pub among : IsAmong text tokens begin r place

-- The text declares a library, and the place is that of what is marked at the location.
pub record IsMarkedPlace (text : Text) (location : Location) (place : Place) : Type 0 where
  pub library : Library
  pub read : IsLibraryText text library
  pub position : Position
  pub position_is : position_of library location ≡ Some position
  pub range : TokenRange
  pub range_is : IsRange library location range
  pub placed : IsRangePlace text library position range place

-- Nothing of the text is marked at the location of a library: nothing is at its position, or it is about no expression of
-- the library, or the text has not all tokens of what is marked, counted from the token at the position.
pub data IsUnmarkedIn (text : Text) (library : Library) (location : Location) : Type 0 where
  nothing_there : IsNowhereIf text library (position_of library location) → IsUnmarkedIn text library location
  no_expression : HasNoRange library location → IsUnmarkedIn text library location
  no_tokens : (range : TokenRange) → IsRange library location range
      → ((position : Position) (place : Place) → position_of library location ≡ Some position → IsRangePlace text library position range place → ⊥)
      → IsUnmarkedIn text library location

-- The text declares a library, and nothing of it is marked at the location.
pub record IsUnmarked (text : Text) (location : Location) : Type 0 where
  pub library : Library
  pub read : IsLibraryText text library
  pub unmarked : IsUnmarkedIn text library location
